-- Memory laid out flat, in order of bank, index, byte.
use Rattle.std.specs.Prelude.{◌≡◌, ℕ, ◌+◌, ◌*◌, ◌/◌, ◌%◌, ◌<◌, ◌≤◌, cond, ◌&&◌, List, ◌++◌, length, take, drop, Some, None, Option, Ok, Err, Result, ◌==◌, nat_le, slice_index}
use Rattle.std.specs.Borrow.{MutBor}
use Rattle.std.proofs.Common.{arith}
use Rattle.std.proofs.lemmas.Bool.{cond_both, and_parts, leb-true}
use Rattle.stack.specs.Memory.{Contents, Meaning, Piece, Sound, Fits}
use Rattle.stack.specs.declared.refusal.Refusal.{Refusal}
use Rattle.stack.specs.declared.refusal.Refusal.TheVariants.{LengthFitsNoSize}

-- the size that n entries fit, where each unit of size takes so many; 0 where they fit none from 1 to 1,024
abbrev pub fitting : ℕ → ℕ → ℕ
fitting unit n = cond (n % unit == 0 && nat_le (n / unit) 1024) (n / unit) 0

-- the size of a memory in n bytes: 72 banks with 64 bytes at each index
abbrev pub size_of : ℕ → ℕ
size_of n = fitting 4608 n

-- the answer to a length: its size, or a refusal where there is none
abbrev pub sized : ℕ → Result ℕ Refusal
sized size = cond (size == 0) (Err LengthFitsNoSize) (Ok size)

-- a size, where it is one
abbrev pub at_least_one : ℕ → Option ℕ
at_least_one size = cond (size == 0) None (Some size)

-- where a place lies
abbrev pub place : ℕ → ℕ → ℕ → ℕ → ℕ
place size b i k = (b * size + i) * 64 + k

-- where a piece that is not refused begins
pub record Start (size bank index from count at : ℕ) : Type 0 where
  pub lies : Fits size bank index from count
  pub at_is : at ≡ place size bank index from
  pub ends : at + count ≤ size * 4608

-- the bytes by their places; each is a byte, so the remainder changes nothing
unfoldable pub flat : List ℕ → Contents
flat xs b i k = slice_index xs (place (size_of (length xs)) b i k) % 256

-- what is kept is shown
abbrev pub flat_means : List ℕ → Meaning
flat_means xs = record { size = size_of (length xs); kept = flat xs; shown = flat xs }

-- the bytes with `new` in place of as many of them
abbrev pub replaced : List ℕ → ℕ → List ℕ → List ℕ
replaced xs at new = take at xs ++ (new ++ drop (at + length new) xs)

-- lent bytes become those, in the same loan
pub record Lent (s : MutBor (List ℕ)) (xs : List ℕ) (t : MutBor (List ℕ)) : Type 0 where
  pub loan : t.ghost_name ≡ s.ghost_name
  pub bytes : t.now ≡ xs

-- the bytes with a piece written
abbrev pub written : List ℕ → Piece → List ℕ
written xs p = replaced xs (place (size_of (length xs)) p.bank p.index p.from) p.bytes

size_bound : (n : ℕ) → size_of n ≤ 1024
size_bound n =
    cond_both (n % 4608 == 0 && nat_le (n / 4608) 1024) (n / 4608) 0 (λ x. x ≤ 1024)
    (λ e. leb-true (n / 4608) 1024 (and_parts (n % 4608 == 0) (nat_le (n / 4608) 1024) e).1)
    (λ e. omega arith)

flat_byte : (xs : List ℕ) (b i k : ℕ) → flat xs b i k < 256
unfolding flat
flat_byte xs b i k = omega arith

pub flat_sound : (xs : List ℕ) → Sound (flat_means xs)
flat_sound xs = record { small = size_bound (length xs); kept_byte = λ b i k _. flat_byte xs b i k; shown_byte = λ b i k _. flat_byte xs b i k }
