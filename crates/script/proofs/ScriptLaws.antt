-- Rows line by line.
use Rattle.std.proofs.Common.{◌≡◌, ℕ, suc, ◌+◌, ◌<◌, ◌≤◌, List, [], ◌∷◌, ◌++◌, length, Some, None, Option, sym, refl, ap, ◌∙◌, append_assoc, append-nil, le-ltb, lt-ltb}
use Rattle.layers.specs.declared.fault.Fault.{Fault}
use Rattle.language.specs.Parts.{lines}
use Rattle.language.specs.Commands.{command_in}
use Rattle.language.proofs.PartLaws.{no_lines}
use Rattle.language.specs.Rows.{fault_reply, row, unreadable}
use Rattle.language.specs.declared.reply.Reply.{Reply}
use Rattle.script.specs.Piles.{Pile, blank, struck_by, with_fault}
use Rattle.script.specs.Machines.{Machine, formatted}
use Rattle.script.specs.Scripts.{Led, OneRowEach, either, fault_spelled, leading_rows, line_after, line_reply, numbered, output, rows}

pub rows_none : (n : ℕ) (m : Machine) → rows n m [] ≡ []
unfolding rows
rows_none n m = refl

-- one line more
pub rows_step : (out out' : List ℕ) (n : ℕ) (m m' : Machine) (left : List (List ℕ)) (l : List ℕ) (ls : List (List ℕ)) (reply : Reply)
    → left ≡ l ∷ ls → reply ≡ line_reply m (command_in l) → m' ≡ line_after m (command_in l) → out' ≡ out ++ row n reply
    → out ++ rows n m left ≡ out' ++ rows (n + 1) m' ls
unfolding rows
rows_step out out' n m m' left l ls reply e replies moves writes =
    rw (e, writes, replies, moves) (sym (append_assoc out (row n (line_reply m (command_in l))) (rows (n + 1) (line_after m (command_in l)) ls)))

-- one leading line more
pub leading_step : (out out' : List ℕ) (n : ℕ) (s s' : Pile) (left : List (List ℕ)) (l : List ℕ) (ls : List (List ℕ)) (f : Fault) (reply : Reply)
    → left ≡ l ∷ ls → Some f ≡ fault_spelled (command_in l) → reply ≡ fault_reply (struck_by s f) → s' ≡ with_fault s f → out' ≡ out ++ row n reply
    → out ++ leading_rows n s left ≡ out' ++ leading_rows (n + 1) s' ls
unfolding leading_rows
leading_step out out' n s s' left l ls f reply e spells replies moves writes =
    rw (e, writes, replies, moves, ← spells) (sym (append_assoc out (row n (fault_reply (struck_by s f))) (leading_rows (n + 1) (with_fault s f) ls)))

-- no leading line more
pub leading_stops : (n : ℕ) (s : Pile) (left : List (List ℕ)) (l : List ℕ) (ls : List (List ℕ))
    → left ≡ l ∷ ls → None ≡ fault_spelled (command_in l) → leading_rows n s left ≡ rows n (formatted s) left
unfolding leading_rows
leading_stops n s left l ls e stops = rw (e, ← stops)

pub leading_ends : (n : ℕ) (s : Pile) (text : List ℕ) → text ≡ [] → leading_rows n s (lines text) ≡ rows n (formatted s) (lines text)
unfolding leading_rows rows
leading_ends n s text e = rw (e, no_lines)

pub rows_end : (n : ℕ) (m : Machine) (out all : List ℕ) (ls : List (List ℕ)) → ls ≡ [] → all ≡ out ++ rows n m ls → out ≡ all
unfolding rows
rows_end n m out all ls e total = sym (total ∙ ap (λ l. out ++ rows n m l) e ∙ append-nil out)

-- the whole output
pub too_long : (input out out' : List ℕ) (r : Reply) → 16384 < length input → out ≡ [] → r ≡ unreadable → out' ≡ out ++ row 0 r → out' ≡ output input
unfolding output
too_long input out out' r long none replies writes = rw (lt-ltb 16384 (length input) long) (writes ∙ rw (none, replies))

pub whole : (input out out' out'' rest : List ℕ) (s t : Pile) (m : Machine) (n : ℕ) → length input ≤ 16384 → out ≡ [] → s ≡ blank
    → Led s input out t n rest out' → m ≡ formatted t → out'' ≡ out' ++ rows n m (lines rest) → out'' ≡ output input
unfolding output
whole input out out' out'' rest s t m n short none start led made writes =
    rw (le-ltb 16384 (length input) short)
    (writes ∙ ap (λ q. out' ++ rows n q (lines rest)) made ∙ sym led ∙ ap (λ o. o ++ leading_rows 1 s (lines input)) none ∙ ap (λ q. leading_rows 1 q (lines input)) start)

-- one row for each line
Replies : ℕ → List (List ℕ) → List ℕ → Type 0
Replies n ls out = (rs : List Reply) × (length rs ≡ length ls) × (out ≡ numbered n rs)

one_more : (n : ℕ) (l : List ℕ) (ls : List (List ℕ)) (r : Reply) (out : List ℕ) → Replies (n + 1) ls out → Replies n (l ∷ ls) (row n r ++ out)
unfolding Replies numbered
one_more n l ls r out (rs, e, p) = (r ∷ rs, ap suc e, ap (λ o. row n r ++ o) p)

rows_replies : (n : ℕ) (m : Machine) (ls : List (List ℕ)) → Replies n ls (rows n m ls)
unfolding Replies rows numbered
rows_replies n m [] = ([], refl, refl)
rows_replies n m (l ∷ ls) = one_more n l ls (line_reply m (command_in l)) (rows (n + 1) (line_after m (command_in l)) ls) (rows_replies (n + 1) (line_after m (command_in l)) ls)

either_replies : (o : Option Fault) (n : ℕ) (ls : List (List ℕ)) (r : List ℕ) (f : Fault → List ℕ)
    → Replies n ls r → ((x : Fault) → Replies n ls (f x)) → Replies n ls (either o r f)
either_replies None n ls r f a b = a
either_replies (Some x) n ls r f a b = b x

leading_replies : (n : ℕ) (s : Pile) (ls : List (List ℕ)) → Replies n ls (leading_rows n s ls)
unfolding Replies leading_rows numbered
leading_replies n s [] = ([], refl, refl)
leading_replies n s (l ∷ ls) =
    either_replies (fault_spelled (command_in l)) n (l ∷ ls) (rows n (formatted s) (l ∷ ls)) (λ f. row n (fault_reply (struck_by s f)) ++ leading_rows (n + 1) (with_fault s f) ls)
    (rows_replies n (formatted s) (l ∷ ls))
    (λ f. one_more n l ls (fault_reply (struck_by s f)) (leading_rows (n + 1) (with_fault s f) ls) (leading_replies (n + 1) (with_fault s f) ls))

pub one_row_each : (input out : List ℕ) → out ≡ output input → OneRowEach input out
unfolding output Replies
one_row_each input out e short =
    let all = leading_replies 1 blank (lines input) in
    (all.0, all.1, e ∙ rw (le-ltb 16384 (length input) short) all.2)
