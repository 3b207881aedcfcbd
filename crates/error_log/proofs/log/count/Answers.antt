use Rattle.std.proofs.Common.{ℕ, ◌≡◌, cond, eqb, arith, rules}
use Rattle.std.proofs.lemmas.Iterator.{YieldsList-from_slice, YieldsList-from_map}
use Rattle.std.proofs.lemmas.Iterator.Consumers.{YieldsList-at, sum_by_from_yields_List, fits_by_from_yields_list}
use Rattle.std.proofs.lemmas.List.Sums.{count_by-le-length}
use borrow.Author.Tests.{tests}
use Rattle.error_log.specs.Notes.{tally_of}
use Rattle.error_log.specs.declared.note.Note.{Note}
use Rattle.error_log.proofs.log.count.Goals as goal

pub sum-requires-clause-fits : goal.sum-requires-clause-fits
sum-requires-clause-fits c =
    fits_by_from_yields_list (λ (n : Note). cond {A = ℕ} (eqb n.bank c.args.bank) 1 0) c.args.notes.now c.map.result _
    (YieldsList-from_map _ (λ (n : Note). cond {A = ℕ} (eqb n.bank c.args.bank) 1 0) (YieldsList-at c.map.ensures.source (YieldsList-from_slice c.args.notes.now c.iter.ensures.rest)) c.map.ensures.closure (λ x r q k. search (rules, tests)))
    (omega (arith, count_by-le-length (λ (n : Note). eqb n.bank c.args.bank) c.args.notes.now))

pub returns : goal.returns
returns c =
    let e : c.sum.result ≡ tally_of c.args.bank c.args.notes.now =
    sum_by_from_yields_List (λ (n : Note). cond {A = ℕ} (eqb n.bank c.args.bank) 1 0) c.args.notes.now c.map.result _ c.sum.ensures.ran
    (YieldsList-from_map _ (λ (n : Note). cond {A = ℕ} (eqb n.bank c.args.bank) 1 0) (YieldsList-at c.map.ensures.source (YieldsList-from_slice c.args.notes.now c.iter.ensures.rest)) c.map.ensures.closure (λ x r q k. search (rules, tests))) in
    let few = count_by-le-length (λ (n : Note). eqb n.bank c.args.bank) c.args.notes.now in
    record { is_the_tally = omega (arith, e, few); no_more_than_there_are = omega (arith, e, few) }
