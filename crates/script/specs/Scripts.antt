-- The output of a script.
use Rattle.std.specs.Prelude.{◌≡◌, ℕ, ◌+◌, ◌≤◌, true, cond, List, [], ◌∷◌, ◌++◌, length, is_some, Some, None, Option, nat_lt}
use Rattle.layers.specs.declared.fault.Fault.{Fault}
use Rattle.rules.specs.Rules.{answer}
use Rattle.rules.specs.Answers.{Answer}
use Rattle.rules.specs.declared.calls.Call.{Call}
use Rattle.language.specs.Parts.{lines}
use Rattle.language.specs.Commands.{command_in, letter_of_call}
use Rattle.language.specs.Rows.{call_reply, fault_reply, row, unreadable}
use Rattle.language.specs.declared.command.Command.{Command}
use Rattle.language.specs.declared.command.Command.TheVariants.{Inject, Do}
use Rattle.language.specs.declared.reply.Reply.{Reply}
use Rattle.script.specs.Piles.{Pile, blank, struck_by, with_fault}
use Rattle.script.specs.Machines.{Machine, after_call, filled, formatted, view}

-- what the board answers to a call, as its rules have it
unfoldable pub answered : Machine → Call ℕ → Answer
answered m c = answer (view m) (filled c)

-- a line after the leading ones: a call is answered, anything else is unreadable
abbrev pub line_reply : Machine → Option Command → Reply
line_reply m None = unreadable
line_reply m (Some (Inject f)) = unreadable
line_reply m (Some (Do c)) = call_reply (letter_of_call c) (answered m c)

abbrev pub line_after : Machine → Option Command → Machine
line_after m None = m
line_after m (Some (Inject f)) = m
line_after m (Some (Do c)) = after_call m (filled c)

-- a row for each line, numbered from n on
unfoldable pub rows : ℕ → Machine → List (List ℕ) → List ℕ
rows n m [] = []
rows n m (l ∷ ls) = row n (line_reply m (command_in l)) ++ rows (n + 1) (line_after m (command_in l)) ls

-- a leading line spells a fault
abbrev pub fault_spelled : Option Command → Option Fault
fault_spelled None = None
fault_spelled (Some (Inject f)) = Some f
fault_spelled (Some (Do c)) = None

abbrev pub either : Option Fault → List ℕ → (Fault → List ℕ) → List ℕ
either None r f = r
either (Some x) r f = f x

-- each leading line adds its fault; before the first other line the pile is formatted
unfoldable pub leading_rows : ℕ → Pile → List (List ℕ) → List ℕ
leading_rows n s [] = []
leading_rows n s (l ∷ ls) =
    either (fault_spelled (command_in l)) (rows n (formatted s) (l ∷ ls)) (λ f. row n (fault_reply (struck_by s f)) ++ leading_rows (n + 1) (with_fault s f) ls)

-- more than 16,384 bytes are too long
unfoldable pub output : List ℕ → List ℕ
output input = cond (nat_lt 16384 (length input)) (row 0 unreadable) (leading_rows 1 blank (lines input))

-- LAWS

-- replies written as rows, numbered from n on
unfoldable pub numbered : ℕ → List Reply → List ℕ
numbered n [] = []
numbered n (r ∷ rs) = row n r ++ numbered (n + 1) rs

-- an input that is not too long has one row for each of its lines, in order, numbered from 1 on
abbrev pub OneRowEach : List ℕ → List ℕ → Type 0
OneRowEach input out = length input ≤ 16384 → (replies : List Reply) × (length replies ≡ length (lines input)) × (out ≡ numbered 1 replies)

-- a refused line changes neither the pile nor the marks
abbrev pub RefusedChangesNothing : Type 0
RefusedChangesNothing = (m : Machine) (spelled : Option Command) → is_some (line_reply m spelled).refusal ≡ true → line_after m spelled ≡ m

-- what is written for the lines so far stays as it is, whatever lines follow
abbrev pub LaterLinesOnlyAdd : Type 0
LaterLinesOnlyAdd = (n : ℕ) (s : Pile) (ls ms : List (List ℕ)) → (more : List ℕ) × (leading_rows n s (ls ++ ms) ≡ leading_rows n s ls ++ more)

-- WHAT THE LOOPS PROMISE

-- the leading lines done: what was written, and what the other lines write once the pile is formatted, are the rows of the whole text
abbrev pub Led : Pile → List ℕ → List ℕ → Pile → ℕ → List ℕ → List ℕ → Type 0
Led s text out t n rest out' = out ++ leading_rows 1 s (lines text) ≡ out' ++ rows n (formatted t) (lines rest)

-- the rows of a text written behind what there was
abbrev pub RowsWritten : List ℕ → ℕ → Machine → List ℕ → List ℕ → Type 0
RowsWritten out n m text out' = out' ≡ out ++ rows n m (lines text)
