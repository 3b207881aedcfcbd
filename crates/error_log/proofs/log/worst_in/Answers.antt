use Rattle.std.proofs.Common.{◌≡◌, ◌<◌, length, List, Some, sym, ◌∙◌, subst, refl, arith, rules}
use Rattle.std.proofs.lemmas.Bool.{eqb-true, eqb-false}
use Rattle.std.proofs.lemmas.Iterator.{YieldsList-from_range}
use borrow.Author.Tests.{tests}
use Rattle.error_log.specs.Notes.{highest, Worst}
use Rattle.error_log.proofs.Tallies.{no_notes, picked, worst_is, worst_some}
use Rattle.error_log.specs.declared.note.Note.{Note}
use Rattle.error_log.proofs.log.worst_in.Goals as goal

pub returns-then-is_empty : goal.returns-then-is_empty
returns-then-is_empty c =
    let n = no_notes c.args.notes.now (eqb-true (length c.args.notes.now) 0 (sym c.if-is_empty.ensures)) in
    record { is_the_worst_bank = n.0; has_the_highest_tally = n.1 }

pub returns : goal.returns
returns c =
    let ns : List Note = c.args.notes.now in
    let e : c.min_by_key.result ≡ Some (highest ns 63) =
    picked _ _ ns _ c.min_by_key.result c.min_by_key.ensures.ran (YieldsList-from_range 0 64 64 refl refl) (λ x k q called. search (rules, tests))
    (λ b x p k q r later few at_b at_x. (λ h. search (rules, tests, arith), λ h. search (rules, tests, arith))) in
    let some : 0 < length ns = (let z = eqb-false (length ns) 0 (sym c.if-is_empty.ensures) in omega arith) in
    record { is_the_worst_bank = e ∙ worst_some ns some; has_the_highest_tally = subst (Worst ns) (sym e) (worst_is ns) }
