-- Lines that are buffered above a memory.
use Rattle.std.specs.Prelude.{ℕ, ◌%◌, ◌<◌, Bool, true, false, cond, not, ◌&&◌, List, [], ◌∷◌, ◌++◌, map, length, Some, None, filter, Option, ◌==◌, nat_le, nat_lt, slice_index}
use Rattle.std.proofs.Common.{arith}
use Rattle.std.proofs.Math.Seq.{paste}
use Rattle.std.proofs.lemmas.Bool.{cond_both}
use Rattle.stack.specs.Memory.{Contents, Meaning, Piece, Sound, cells, outside}
use Rattle.layers.specs.declared.line.BufferedLine.{BufferedLine}

-- the line is the one of that bank and index
abbrev pub is_of : BufferedLine → ℕ → ℕ → Bool
is_of l b i = l.bank == b && l.index == i

-- a line of that bank and index is buffered
unfoldable pub is_buffered : List BufferedLine → ℕ → ℕ → Bool
is_buffered [] b i = false
is_buffered (l ∷ ls) b i = cond (is_of l b i) true (is_buffered ls b i)

-- every line has 64 bytes, and no two are of one bank and index
unfoldable pub orderly : List BufferedLine → Bool
orderly [] = true
orderly (l ∷ ls) = length l.bytes == 64 && (not (is_buffered ls l.bank l.index) && orderly ls)

-- contents with the lines over them; the bytes of a line are bytes, so the remainder changes nothing
unfoldable pub overlaid : List BufferedLine → Contents → Contents
overlaid [] m b i k = m b i k
overlaid (l ∷ ls) m b i k = cond (is_of l b i) (slice_index l.bytes k % 256) (overlaid ls m b i k)

-- a buffer of bytes once a line was looked up: as many bytes of the line, or as it was where none is buffered
abbrev pub looked_up : Bool → List BufferedLine → ℕ → ℕ → ℕ → List ℕ → List ℕ
looked_up found ls bank index from old = cond found (cells (overlaid ls (λ _ _ _. 0)) bank index from (length old)) old

-- a buffered line is kept and shown as buffered
abbrev pub buffering : List BufferedLine → Meaning → Meaning
buffering ls m = record { size = m.size; kept = overlaid ls m.kept; shown = overlaid ls m.shown }

-- a line with a piece written into it, and the lines with it written into the one that it belongs to
abbrev pub with_piece : BufferedLine → Piece → BufferedLine
with_piece l p = record { bank = l.bank; index = l.index; bytes = paste l.bytes p.from p.bytes (length p.bytes) }

unfoldable pub rewritten : List BufferedLine → Piece → List BufferedLine
rewritten [] p = []
rewritten (l ∷ ls) p = cond (is_of l p.bank p.index) (with_piece l p ∷ ls) (l ∷ rewritten ls p)

-- the line that a whole piece makes, and the piece that a line is put down as
abbrev pub line_of : Piece → BufferedLine
line_of p = record { bank = p.bank; index = p.index; bytes = p.bytes }

abbrev pub piece_of : BufferedLine → Piece
piece_of l = record { bank = l.bank; index = l.index; from = 0; bytes = l.bytes }

-- a whole line of the banks from 64 on, and fewer than 16 are buffered
abbrev pub has_room : List BufferedLine → ℕ → ℕ → Bool
has_room ls bank count = nat_le 64 bank && (count == 64 && nat_lt (length ls) 16)

-- the lines that a put leaves buffered, or none where it goes down: it is buffered where its line is already, and where there is room
unfoldable pub absorbed : List BufferedLine → Piece → Option (List BufferedLine)
absorbed ls p =
    cond (is_buffered ls p.bank p.index) (Some (rewritten ls p)) (cond (has_room ls p.bank (length p.bytes)) (Some (ls ++ line_of p ∷ [])) None)

-- the line lies outside a memory of that size
abbrev pub strays : ℕ → BufferedLine → Bool
strays size l = outside size l.bank l.index 0 (length l.bytes)

-- the pieces that a settle puts down, in order: the lines that lie in the memory
unfoldable pub drained : ℕ → List BufferedLine → List Piece
drained size ls = map piece_of (filter (λ l. not (strays size l)) ls)

overlaid_byte : (ls : List BufferedLine) (m : Contents) (b i k : ℕ) → m b i k < 256 → overlaid ls m b i k < 256
unfolding overlaid
overlaid_byte [] m b i k h = h
overlaid_byte (l ∷ ls) m b i k h =
    cond_both (is_of l b i) (slice_index l.bytes k % 256) (overlaid ls m b i k) (λ v. v < 256) (λ e. omega arith) (λ e. overlaid_byte ls m b i k h)

pub buffering_sound : (ls : List BufferedLine) {m : Meaning} → Sound m → Sound (buffering ls m)
buffering_sound ls {m} s = record {
  small = s.small;
  kept_byte = λ b i k at. overlaid_byte ls m.kept b i k (s.kept_byte b i k at);
  shown_byte = λ b i k at. overlaid_byte ls m.shown b i k (s.shown_byte b i k at);
}
