-- What a memory means: a size, and at every place (bank, index, byte) a kept and a shown byte.
use Rattle.std.specs.Prelude.{◌≡◌, ℕ, ◌+◌, ◌-◌, ◌<◌, ◌≤◌, Bool, false, cond, ◌&&◌, ◌||◌, List, map, length, ◌==◌, nat_le, nat_lt, slice_index}
use Rattle.std.specs.List.{range_with_len}

-- a byte for each bank, index and byte number
abbrev pub Contents : Type 0
Contents = ℕ → ℕ → ℕ → ℕ

-- the places of a memory of that size
pub record Place (size bank index byte : ℕ) : Type 0 where
  pub bank_real : bank < 72
  pub index_real : index < size
  pub byte_real : byte < 64

-- a size, and at every place a kept and a shown byte
pub record Meaning : Type 0 where
  pub size : ℕ
  pub kept : Contents
  pub shown : Contents

-- what holds of every memory
pub record Sound (m : Meaning) : Type 0 where
  pub small : m.size ≤ 1024
  pub kept_byte : (b i k : ℕ) → Place m.size b i k → m.kept b i k < 256
  pub shown_byte : (b i k : ℕ) → Place m.size b i k → m.shown b i k < 256

-- bytes for neighbouring places of one index
pub record Piece : Type 0 where
  pub bank : ℕ
  pub index : ℕ
  pub from : ℕ
  pub bytes : List ℕ

-- the piece of those bytes
abbrev pub piece : ℕ → ℕ → ℕ → List ℕ → Piece
piece b i k xs = record { bank = b; index = i; from = k; bytes = xs }

-- `count` bytes from a byte number on lie in a memory of that size
pub record Fits (size bank index from count : ℕ) : Type 0 where
  pub bank_real : bank < 72
  pub index_real : index < size
  pub some : 0 < count
  pub room : from + count ≤ 64

-- they do not: such a piece is refused
unfoldable pub outside : ℕ → ℕ → ℕ → ℕ → ℕ → Bool
outside size bank index from count = nat_lt 71 bank || (nat_le size index || (count == 0 || nat_lt 64 (from + count)))

-- the place (b, i, k) is one of `count` neighbouring bytes
unfoldable pub spans : ℕ → ℕ → ℕ → ℕ → ℕ → ℕ → ℕ → Bool
spans bank index from count b i k = (bank == b && index == i) && (nat_le from k && nat_lt k (from + count))

-- the piece lies on that place
abbrev pub covers : Piece → ℕ → ℕ → ℕ → Bool
covers p b i k = spans p.bank p.index p.from (length p.bytes) b i k

-- the contents with the piece written into them
unfoldable pub over : Contents → Piece → Contents
over m p b i k = cond (covers p b i k) (slice_index p.bytes (k - p.from)) (m b i k)

-- `count` neighbouring bytes of one index
unfoldable pub cells : Contents → ℕ → ℕ → ℕ → ℕ → List ℕ
cells m bank index from count = map (λ k. m bank index (from + k)) (range_with_len 0 count)

-- an accepted put: the piece is kept; all other places keep and show what they did; what the piece shows is free
pub record Put (x : Meaning) (p : Piece) (y : Meaning) : Type 0 where
  pub size : y.size ≡ x.size
  pub kept : (b i k : ℕ) → Place x.size b i k → y.kept b i k ≡ over x.kept p b i k
  pub shown : (b i k : ℕ) → Place x.size b i k → covers p b i k ≡ false → y.shown b i k ≡ x.shown b i k

-- a settle or a pass: every byte is kept; what is shown may change anywhere
pub record Rest (x y : Meaning) : Type 0 where
  pub size : y.size ≡ x.size
  pub kept : (b i k : ℕ) → Place x.size b i k → y.kept b i k ≡ x.kept b i k
