-- A board over memory that a host lends for one call.
use Rattle.std.specs.Prelude.{◌≡◌, ℕ, cond, List, [], ◌∷◌, length, Some, None, Option, ◌==◌, Ok, Err}
use Rattle.std.specs.List.{range_with_len}
use Rattle.stack.specs.Flat.{flat_means, size_of, written}
use Rattle.stack.specs.Memory.{Piece}
use Rattle.stack.specs.Memories.{LentMemory}
use Rattle.stack.specs.declared.refusal.Refusal.{Refusal}
use Rattle.stack.specs.declared.refusal.Refusal.TheVariants.{LengthFitsNoSize}
use Rattle.rules.specs.Boards.{board}
use Rattle.rules.specs.Rules.{HostCall, State, along, answer, or_refused, puts}
use Rattle.rules.specs.History.{Formatted, marks_after}
use Rattle.rules.specs.Work.{formatting}
use Rattle.rules.specs.Answers.{Answer}
use Rattle.rules.specs.declared.calls.Outcome.TheVariants.{HandedOut, Written, Renewed, Cleared, Scrubbed, Marked, Done}
use Rattle.rules.specs.declared.calls.Call.TheVariants.{Mark, Read}
use Rattle.board.specs.Marks.{listed}
use Rattle.board.specs.declared.marks.Marks.{Marks}
use Rattle.ffi.specs.Banks.{banks_of, misgiven, no_banks, one_more}
use Rattle.ffi.specs.declared.banks.MarkedBanks.{MarkedBanks}

-- the bytes of a memory as a board, with the banks marked so far
abbrev pub lent_state : List ℕ → List ℕ → State
lent_state bytes marks = board (flat_means bytes) marks

-- the bytes with the pieces written into them, in order
unfoldable pub all_written : List ℕ → List Piece → List ℕ
all_written bytes [] = bytes
all_written bytes (p ∷ ps) = all_written (written bytes p) ps

-- a call on lent memory: it answers as the rules say, the bytes it puts are written and no other, and the loan stays the same
pub record Performed (before : LentMemory) (marks : List ℕ) (c : HostCall) (r : Answer) (after : LentMemory) : Type 0 where
  pub answers : r ≡ answer (lent_state before.bytes.now marks) c
  pub bytes : after.bytes.now ≡ all_written before.bytes.now (puts (lent_state before.bytes.now marks) c)

-- why a memory cannot be a board's, if it cannot: its length
abbrev pub unfit : List ℕ → Option Refusal
unfit bytes = cond (size_of (length bytes) == 0) (Some LengthFitsNoSize) None

-- the same with the marks that are given for it
abbrev pub unusable_by : ℕ → MarkedBanks → Option Refusal
unusable_by n k = cond (size_of n == 0) (Some LengthFitsNoSize) (misgiven k)

abbrev pub unusable : List ℕ → MarkedBanks → Option Refusal
unusable bytes k = unusable_by (length bytes) k

pub record Usable (n : ℕ) (k : MarkedBanks) (m : Marks) : Type 0 where
  pub allowed : unusable_by n k ≡ None
  pub list : listed m ≡ banks_of k

-- what a call on lent memory answers
abbrev pub lent_answer : List ℕ → MarkedBanks → HostCall → Answer
lent_answer bytes k c = or_refused (unusable bytes k) (answer (lent_state bytes (banks_of k)) c)

-- what it leaves in the memory
abbrev pub unless_refused : Option Refusal → List ℕ → List ℕ → List ℕ
unless_refused (Some e) before after = before
unless_refused None before after = after

abbrev pub lent_after : List ℕ → MarkedBanks → HostCall → List ℕ
lent_after bytes k c = unless_refused (unusable bytes k) bytes (all_written bytes (puts (lent_state bytes (banks_of k)) c))

-- a line buffer after a read: the line handed out, or what it held
abbrev pub handed : Answer → List ℕ → List ℕ
handed (Err e) old = old
handed (Ok (HandedOut l f)) old = l
handed (Ok (Written f)) old = old
handed (Ok Renewed) old = old
handed (Ok Cleared) old = old
handed (Ok (Scrubbed n)) old = old
handed (Ok (Marked b)) old = old
handed (Ok Done) old = old

-- the same, for a read of an address
abbrev pub line_read : List ℕ → MarkedBanks → ℕ → List ℕ → List ℕ
line_read bytes k a old = handed (lent_answer bytes k (Read a (length old))) old

-- the host's list of marked banks after a call with that answer, where it is a mark of bank b
abbrev pub marked_by : Answer → MarkedBanks → ℕ → MarkedBanks
marked_by (Err e) k b = k
marked_by (Ok (HandedOut l f)) k b = k
marked_by (Ok (Written f)) k b = k
marked_by (Ok Renewed) k b = k
marked_by (Ok Cleared) k b = k
marked_by (Ok (Scrubbed n)) k b = k
marked_by (Ok (Marked spare)) k b = one_more k b
marked_by (Ok Done) k b = k

-- a memory with zeros put everywhere
abbrev pub zeroed : List ℕ → List ℕ
zeroed bytes = all_written bytes (along (λ _. formatting) (range_with_len 0 (size_of (length bytes))))

-- lent memory formatted
pub record FormattedLent (before after : LentMemory) : Type 0 where
  pub bytes : after.bytes.now ≡ zeroed before.bytes.now
  pub formatted : Formatted (lent_state after.bytes.now [])

-- what a format leaves in the memory
abbrev pub format_after : List ℕ → List ℕ
format_after bytes = unless_refused (unfit bytes) bytes (zeroed bytes)

-- a memory that can be a board's is formatted
abbrev pub Formats : List ℕ → List ℕ → Type 0
Formats before after = unfit before ≡ None → Formatted (lent_state after [])

-- the host's list of marked banks after a format
abbrev pub unmarked : Option Refusal → MarkedBanks → MarkedBanks
unmarked (Some e) k = k
unmarked None k = no_banks

-- that list after a mark of bank b
abbrev pub marks_left : List ℕ → MarkedBanks → ℕ → MarkedBanks
marks_left bytes k b = marked_by (lent_answer bytes k (Mark b 4096)) k b

-- that list is the one that the rules give
abbrev pub MarksListed : List ℕ → MarkedBanks → ℕ → MarkedBanks → Type 0
MarksListed bytes k b after = unusable bytes k ≡ None → banks_of after ≡ marks_after (lent_state bytes (banks_of k)) (Mark b 4096)
