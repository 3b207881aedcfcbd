-- What faults make of the bytes that a memory shows.
use Rattle.std.specs.Prelude.{◌≡◌, ℕ, ◌-◌, ◌%◌, ◌<◌, Bool, true, false, cond, not, ◌&&◌, List, [], ◌∷◌, length, Ok, Err, filter, Result, ◌==◌, bit_and, bit_or, bit_xor, nat_le, slice_index, slice_index_or, slice_set}
use Rattle.std.proofs.Common.{arith}
use Rattle.std.proofs.lemmas.Bool.{cond_both}
use Rattle.stack.specs.Memory.{Contents, Meaning, Piece, Sound, outside, spans}
use Rattle.stack.specs.declared.refusal.Refusal.{Refusal}
use Rattle.stack.specs.declared.refusal.Refusal.TheVariants.{PlaceOutOfRange, EmptyMask, FaultTableFull}
use Rattle.layers.specs.declared.fault.Fault.{Fault}
use Rattle.layers.specs.declared.fault.FaultKind.{FaultKind}
use Rattle.layers.specs.declared.fault.FaultKind.TheVariants.{Flip, StuckAtOne, StuckAtZero}

-- a byte under a mask; the value and the mask are bytes, so the remainder changes nothing
unfoldable pub masked : FaultKind → ℕ → ℕ → ℕ
masked Flip mask v = bit_xor v mask % 256
masked StuckAtOne mask v = bit_or v mask % 256
masked StuckAtZero mask v = bit_and v (255 - mask) % 256

-- a byte under a fault that acts on it
abbrev pub altered : Fault → ℕ → ℕ
altered f v = masked f.kind f.mask v

-- the fault acts, and does so on one of those bytes
unfoldable pub acts : Fault → ℕ → ℕ → ℕ → ℕ → Bool
acts f bank index from count = f.delay == 0 && spans bank index from count f.bank f.index f.byte

-- contents under one fault, and under several in their order
unfoldable pub faulted : Fault → Contents → Contents
faulted f m b i k = cond (acts f b i k 1) (altered f (m b i k)) (m b i k)

unfoldable pub faulted_all : List Fault → Contents → Contents
faulted_all [] m = m
faulted_all (f ∷ fs) m = faulted_all fs (faulted f m)

-- a memory keeps what it did, and shows it under the faults
abbrev pub faulty : List Fault → Meaning → Meaning
faulty fs m = record { size = m.size; kept = m.kept; shown = faulted_all fs m.shown }

-- neighbouring bytes under one fault, and under several in their order
unfoldable pub corrupted : Fault → ℕ → ℕ → ℕ → List ℕ → List ℕ
corrupted f bank index from xs = cond (acts f bank index from (length xs)) (slice_set xs (f.byte - from) (altered f (slice_index xs (f.byte - from)))) xs

unfoldable pub corrupted_all : List Fault → ℕ → ℕ → ℕ → List ℕ → List ℕ
corrupted_all [] bank index from xs = xs
corrupted_all (f ∷ fs) bank index from xs = corrupted_all fs bank index from (corrupted f bank index from xs)

-- a fault once an interval has gone by
unfoldable pub aged : Fault → Fault
aged f = record { bank = f.bank; index = f.index; byte = f.byte; kind = f.kind; mask = f.mask; delay = f.delay - 1 }

-- the fault at a place of a list has aged, and no other
abbrev pub AgedAt : List Fault → ℕ → List Fault → Type 0
AgedAt old j new = (d : Fault) → new ≡ slice_set old j (aged (slice_index_or old j d))

-- the kind that a put repairs
abbrev pub is_flip : FaultKind → Bool
is_flip Flip = true
is_flip StuckAtOne = false
is_flip StuckAtZero = false

-- a put on those bytes leaves the fault: it is no flip, or does not act there
unfoldable pub outlasts : ℕ → ℕ → ℕ → ℕ → Fault → Bool
outlasts bank index from count f = not (is_flip f.kind && acts f bank index from count)

-- the faults that a put of the piece leaves
abbrev pub outlasting : Piece → List Fault → List Fault
outlasting p fs = filter (outlasts p.bank p.index p.from (length p.bytes)) fs

-- the answer to a new fault, where `count` stand in a memory of `size` indexes: the first refusal that holds
abbrev pub struck : ℕ → ℕ → Fault → Result (Unit {0}) Refusal
struck size count f =
    cond (outside size f.bank f.index f.byte 1) (Err PlaceOutOfRange) (cond (f.mask == 0) (Err EmptyMask) (cond (nat_le 64 count) (Err FaultTableFull) (Ok tt)))

masked_byte : (kind : FaultKind) (mask v : ℕ) → masked kind mask v < 256
unfolding masked
masked_byte Flip mask v = omega arith
masked_byte StuckAtOne mask v = omega arith
masked_byte StuckAtZero mask v = omega arith

faulted_byte : (f : Fault) (m : Contents) (b i k : ℕ) → m b i k < 256 → faulted f m b i k < 256
unfolding faulted
faulted_byte f m b i k h =
    cond_both (acts f b i k 1) (altered f (m b i k)) (m b i k) (λ v. v < 256) (λ e. masked_byte f.kind f.mask (m b i k)) (λ e. h)

faulted_all_byte : (fs : List Fault) (m : Contents) (b i k : ℕ) → m b i k < 256 → faulted_all fs m b i k < 256
unfolding faulted_all
faulted_all_byte [] m b i k h = h
faulted_all_byte (f ∷ fs) m b i k h = faulted_all_byte fs (faulted f m) b i k (faulted_byte f m b i k h)

pub faulty_sound : (fs : List Fault) {m : Meaning} → Sound m → Sound (faulty fs m)
faulty_sound fs {m} s = record {
  small = s.small;
  kept_byte = s.kept_byte;
  shown_byte = λ b i k at. faulted_all_byte fs m.shown b i k (s.shown_byte b i k at);
}
