-- The error log: which note is due, what the list holds after it, and what the notes tell of banks.
use Rattle.std.specs.Prelude.{count_by, ◌≡◌, ℕ, zero, suc, ◌+◌, ◌*◌, ◌/◌, ◌%◌, ◌<◌, ◌≤◌, min, cond, List, [], ◌∷◌, length, take, Some, None, Ok, Err, Option, Result, ◌==◌, nat_lt, slice_set}
use Rattle.codec.specs.declared.word.Finding.{Finding}
use Rattle.codec.specs.declared.word.Finding.TheVariants.{Clean, Corrected, Rebuilt, RebuiltCorrected}
use Rattle.stack.specs.declared.refusal.Refusal.{Refusal}
use Rattle.stack.specs.declared.refusal.Refusal.TheVariants as refusal
use Rattle.error_log.specs.declared.note.Kind.{Kind}
use Rattle.error_log.specs.declared.note.Kind.TheVariants as kind
use Rattle.error_log.specs.declared.note.Note.{Note}

-- the number of each kind of note
abbrev pub kind_number : Kind → ℕ
kind_number kind.Corrected = 1
kind_number kind.Rebuilt = 2
kind_number kind.RebuiltCorrected = 3
kind_number kind.Refused = 4

abbrev pub bank_in : Note → ℕ
bank_in n = n.bank

abbrev pub index_in : Note → ℕ
index_in n = n.index

-- a note on an address
abbrev pub on : ℕ → Kind → ℕ → ℕ → Option Note
on a k s v = Some (record { bank = a % 64; index = a / 64; kind = k; symbol = s; value = v })

abbrev pub due_refused : ℕ → Refusal → Option Note
due_refused a refusal.AddressOutOfRange = None
due_refused a refusal.LineLength = None
due_refused a refusal.BankOutOfRange = None
due_refused a refusal.BankAlreadyMarked = None
due_refused a refusal.NoSpareLeft = None
due_refused a refusal.WorkBufferShort = None
due_refused a (refusal.PartnerUncorrectable x p) = on a kind.Refused 0 0
due_refused a (refusal.RebuildFailed x) = on a kind.Refused 0 0
due_refused a refusal.PlaceOutOfRange = None
due_refused a refusal.LengthFitsNoSize = None
due_refused a refusal.EmptyMask = None
due_refused a refusal.FaultTableFull = None
due_refused a refusal.LogFull = None
due_refused a refusal.LineUnreadable = None

-- the note that is due for an address and an answer
abbrev pub due : ℕ → Result Finding Refusal → Option Note
due a (Ok Clean) = None
due a (Ok (Corrected p)) = on a kind.Corrected p.0 p.1
due a (Ok Rebuilt) = on a kind.Rebuilt 0 0
due a (Ok (RebuiltCorrected p)) = on a kind.RebuiltCorrected p.0 p.1
due a (Err e) = due_refused a e

-- how many notes a log can have, and those that it has
abbrev pub room : List Note → ℕ
room notes = min 65536 (length notes)

abbrev pub entries_of : List Note → ℕ → List Note
entries_of notes used = take (min used (room notes)) notes

-- a log as it is left: the answer, the list and the count
pub record Left : Type 0 where
  pub answer : Result (Unit {0}) Refusal
  pub notes : List Note
  pub used : ℕ

-- one note more behind the used ones, or a refusal where there is no room
abbrev pub appended : Option Note → List Note → ℕ → Left
appended None notes used = record { answer = Ok tt; notes = notes; used = used }
appended (Some n) notes used =
    cond (nat_lt used (room notes)) (record { answer = Ok tt; notes = slice_set notes used n; used = used + 1 })
    (record { answer = Err refusal.LogFull; notes = notes; used = used })

abbrev pub Noted : ℕ → Result Finding Refusal → List Note → ℕ → Result (Unit {0}) Refusal → List Note → ℕ → Type 0
Noted a r notes used answer notes' used' = ◌≡◌ {A = Left} (record { answer = answer; notes = notes'; used = used' }) (appended (due a r) notes used)

-- how many notes a bank has
abbrev pub tally_of : ℕ → List Note → ℕ
tally_of b notes = count_by (λ n. n.bank == b) notes

-- the bank with the highest tally among 0 to k, the lowest number among equals
unfoldable pub highest : List Note → ℕ → ℕ
highest ns zero = 0
highest ns (suc k) = cond (nat_lt (tally_of (highest ns k) ns) (tally_of (suc k) ns)) (suc k) (highest ns k)

abbrev pub worst_of : List Note → Option ℕ
worst_of [] = None
worst_of (n ∷ ns) = Some (highest (n ∷ ns) 63)

-- none where there is no note; else a bank whose tally no bank exceeds, and no lower bank reaches
abbrev pub Worst : List Note → Option ℕ → Type 0
Worst ns None = ns ≡ []
Worst ns (Some b) = (b < 64) × ((c : ℕ) → c < 64 → tally_of c ns ≤ tally_of b ns) × ((c : ℕ) → c < b → tally_of c ns < tally_of b ns)

-- a bank's part of all notes in thousandths, to the nearest, a half upward
abbrev pub share_of : ℕ → List Note → ℕ
share_of b [] = 0
share_of b (n ∷ ns) = (2 * tally_of b (n ∷ ns) * 1000 + length (n ∷ ns)) / (2 * length (n ∷ ns))
