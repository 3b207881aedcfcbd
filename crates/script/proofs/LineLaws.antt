-- A refused line changes nothing, and later lines only add rows.
use Rattle.std.proofs.Common.{◌≡◌, ℕ, ◌+◌, true, false, cond, List, [], ◌∷◌, ◌++◌, is_some, Some, None, Option, sym, refl, ap, ◌∙◌, append_assoc, Ok, Err}
use Rattle.std.specs.List.{range_with_len}
use Rattle.layers.specs.declared.fault.Fault.{Fault}
use borrow.Author.Tests.{clash}
use Rattle.rules.specs.Rules.{HostCall, accepted, along, answer, plan}
use Rattle.rules.specs.Answers.{Answer}
use Rattle.rules.specs.declared.calls.Outcome.TheVariants.{Cleared, Done, HandedOut, Marked, Renewed, Scrubbed, Written}
use Rattle.rules.specs.declared.calls.Call.TheVariants.{Clear, Mark, Pass, Read, Renew, Scrub, Settle, Write}
use Rattle.language.specs.Commands.{command_in, letter_of_call}
use Rattle.language.specs.Rows.{call_reply, fault_reply, row}
use Rattle.language.specs.declared.command.Command.TheVariants.{Inject, Do}
use Rattle.script.specs.Piles.{in_turn, put, struck_by, with_fault}
use Rattle.script.specs.Machines.{Machine, after_call, filled, formatted, machine, view}
use Rattle.script.specs.Scripts.{LaterLinesOnlyAdd, RefusedChangesNothing, answered, either, fault_spelled, leading_rows, line_after, line_reply, rows}

-- a reply with a refusal is to a call that was not accepted
not_accepted : (letter : ℕ) (r : Answer) → is_some (call_reply letter r).refusal ≡ true → accepted r ≡ false
not_accepted letter (Err e) h = refl
not_accepted letter (Ok (HandedOut l f)) h = absurd (clash h)
not_accepted letter (Ok (Written f)) h = absurd (clash h)
not_accepted letter (Ok Renewed) h = absurd (clash h)
not_accepted letter (Ok Cleared) h = absurd (clash h)
not_accepted letter (Ok (Scrubbed n)) h = absurd (clash h)
not_accepted letter (Ok (Marked b)) h = absurd (clash h)
not_accepted letter (Ok Done) h = absurd (clash h)

-- such a call puts nothing
nothing_put : (m : Machine) (c : HostCall) → accepted (answer (view m) c) ≡ false
    → in_turn put m.pile (cond (accepted (answer (view m) c)) (along (plan (view m) c) (range_with_len 0 (view m).size)) []) ≡ m.pile
unfolding in_turn
nothing_put m c h = ap (λ b. in_turn put m.pile (cond b (along (plan (view m) c) (range_with_len 0 (view m).size)) [])) h

stays : (m : Machine) (c : HostCall) → accepted (answer (view m) c) ≡ false → after_call m c ≡ m
unfolding after_call
stays m (Read a n) h = ap (λ s. machine s m.marks) (nothing_put m (Read a n) h)
stays m (Write a l) h = ap (λ s. machine s m.marks) (nothing_put m (Write a l) h)
stays m (Renew a l) h = ap (λ s. machine s m.marks) (nothing_put m (Renew a l) h)
stays m (Clear a) h = ap (λ s. machine s m.marks) (nothing_put m (Clear a) h)
stays m (Scrub a w) h = ap (λ s. machine s m.marks) (nothing_put m (Scrub a w) h)
stays m (Mark b w) h =
    ap (λ s. machine s (cond (accepted (answer (view m) (Mark b w))) (m.marks ++ b ∷ []) m.marks)) (nothing_put m (Mark b w) h)
    ∙ ap (λ t. machine m.pile (cond t (m.marks ++ b ∷ []) m.marks)) h
stays m Settle h = absurd (clash (sym h))
stays m Pass h = absurd (clash (sym h))

pub refused_changes_nothing : RefusedChangesNothing
unfolding answered
refused_changes_nothing m None h = refl
refused_changes_nothing m (Some (Inject f)) h = refl
refused_changes_nothing m (Some (Do c)) h = stays m (filled c) (not_accepted (letter_of_call c) (answer (view m) (filled c)) h)

-- rows of more lines
rows_front : (n : ℕ) (m : Machine) (ls ms : List (List ℕ)) → (more : List ℕ) × (rows n m (ls ++ ms) ≡ rows n m ls ++ more)
unfolding rows
rows_front n m [] ms = (rows n m ms, refl)
rows_front n m (l ∷ ls) ms =
    let m' = line_after m (command_in l) in
    let r = row n (line_reply m (command_in l)) in
    let rest = rows_front (n + 1) m' ls ms in
    (rest.0, ap (λ o. r ++ o) rest.1 ∙ sym (append_assoc r (rows (n + 1) m' ls) rest.0))

either_front : (o : Option Fault) (r r' : List ℕ) (f f' : Fault → List ℕ)
    → (more : List ℕ) × (r' ≡ r ++ more) → ((x : Fault) → (more : List ℕ) × (f' x ≡ f x ++ more))
    → (more : List ℕ) × (either o r' f' ≡ either o r f ++ more)
either_front None r r' f f' a b = a
either_front (Some x) r r' f f' a b = b x

pub later_lines_only_add : LaterLinesOnlyAdd
unfolding leading_rows
later_lines_only_add n s [] ms = (leading_rows n s ms, refl)
later_lines_only_add n s (l ∷ ls) ms =
    either_front (fault_spelled (command_in l)) (rows n (formatted s) (l ∷ ls)) (rows n (formatted s) (l ∷ (ls ++ ms)))
    (λ f. row n (fault_reply (struck_by s f)) ++ leading_rows (n + 1) (with_fault s f) ls)
    (λ f. row n (fault_reply (struck_by s f)) ++ leading_rows (n + 1) (with_fault s f) (ls ++ ms))
    (rows_front n (formatted s) (l ∷ ls) ms)
    (λ f.
    let rest = later_lines_only_add (n + 1) (with_fault s f) ls ms in
    let r = row n (fault_reply (struck_by s f)) in
    (rest.0, ap (λ o. r ++ o) rest.1 ∙ sym (append_assoc r (leading_rows (n + 1) (with_fault s f) ls) rest.0)))
