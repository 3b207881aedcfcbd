-- Refusals by their numbers, and what a call on a memory answers.
use Rattle.std.specs.Prelude.{◌≡◌, ℕ, Bool, true, false, List, ◌++◌, length, Ok, Err, Result, MatchResult, codes, decimal}
use Rattle.stack.specs.Memory.{Contents, Meaning, Piece, cells}
use Rattle.stack.specs.Pieces.{Accepted}
use Rattle.stack.specs.declared.refusal.Refusal.{Refusal}
use Rattle.stack.specs.declared.refusal.Refusal.TheVariants.{AddressOutOfRange, LineLength, BankOutOfRange, BankAlreadyMarked, NoSpareLeft, WorkBufferShort, PartnerUncorrectable, RebuildFailed, PlaceOutOfRange, LengthFitsNoSize, EmptyMask, FaultTableFull, LogFull, LineUnreadable}

-- the number that stands for a refusal wherever it is told to a host
abbrev pub numbered : Refusal → ℕ
numbered AddressOutOfRange = 1
numbered LineLength = 2
numbered BankOutOfRange = 3
numbered BankAlreadyMarked = 4
numbered NoSpareLeft = 5
numbered WorkBufferShort = 6
numbered (PartnerUncorrectable a p) = 7
numbered (RebuildFailed a) = 8
numbered PlaceOutOfRange = 9
numbered LengthFitsNoSize = 10
numbered EmptyMask = 11
numbered FaultTableFull = 12
numbered LogFull = 13
numbered LineUnreadable = 14

-- how a refusal is printed
abbrev pub refusal_text : Refusal → List ℕ
refusal_text r = codes "refused with " ++ decimal (numbered r)

-- the answer to a piece: refused where it lies outside
abbrev pub judged : Bool → Result (Unit {0}) Refusal
judged true = Err PlaceOutOfRange
judged false = Ok tt

-- a fetch into a buffer: it holds the shown bytes, or is as it was
abbrev pub Fetched : Result (Unit {0}) Refusal → Contents → ℕ → ℕ → ℕ → List ℕ → List ℕ → Type 0
Fetched r shown bank index from old new = MatchResult r (λ _. new ≡ cells shown bank index from (length old)) (λ _. new ≡ old)

-- a put: it is accepted, or the memory is as it was
abbrev pub Stored : {X : Type 0} → Result (Unit {0}) Refusal → (X → Meaning) → (X → Piece → X → Type 0) → X → Piece → X → Type 0
Stored r means puts x p y = MatchResult r (λ _. Accepted means puts x p y) (λ _. y ≡ x)
