use Rattle.std.proofs.Common.{ℕ, ◌≡◌, cond, eqb, arith, rules}
use Rattle.std.specs.List.{count_by}
use Rattle.std.proofs.lemmas.Iterator.{YieldsList-from_slice, YieldsList-from_map}
use Rattle.std.proofs.lemmas.Iterator.Consumers.{YieldsList-at, sum_by_from_yields_List, fits_by_from_yields_list}
use Rattle.std.proofs.lemmas.List.Splits.{length-slice_split}
use Rattle.std.proofs.lemmas.List.Sums.{count_by-le-length}
use borrow.Author.Tests.{tests}
use Rattle.language.proofs.parts.count_fields.Goals as goal

pub sum-tabs-requires-clause-fits : goal.sum-tabs-requires-clause-fits
sum-tabs-requires-clause-fits c =
    fits_by_from_yields_list (λ (b : ℕ). cond {A = ℕ} (eqb b 9) 1 0) c.args.line.now c.map.result _
    (YieldsList-from_map _ (λ (b : ℕ). cond {A = ℕ} (eqb b 9) 1 0) (YieldsList-at c.map.ensures.source (YieldsList-from_slice c.args.line.now c.iter.ensures.rest)) c.map.ensures.closure (λ x r q k. search (rules, tests)))
    (omega (arith, count_by-le-length (λ (b : ℕ). eqb b 9) c.args.line.now))

pub returns : goal.returns
returns c =
    let tabs : c.sum-tabs.result ≡ count_by (λ (b : ℕ). eqb b 9) c.args.line.now =
    sum_by_from_yields_List (λ (b : ℕ). cond {A = ℕ} (eqb b 9) 1 0) c.args.line.now c.map.result _ c.sum-tabs.ensures.ran
    (YieldsList-from_map _ (λ (b : ℕ). cond {A = ℕ} (eqb b 9) 1 0) (YieldsList-at c.map.ensures.source (YieldsList-from_slice c.args.line.now c.iter.ensures.rest)) c.map.ensures.closure (λ x r q k. search (rules, tests))) in
    record { counts_them = omega (arith, tabs, length-slice_split (λ (b : ℕ). eqb b 9) c.args.line.now) }

pub overflow_add-result : goal.overflow_add-result
overflow_add-result c =
    let tabs : c.sum-tabs.result ≡ count_by (λ (b : ℕ). eqb b 9) c.args.line.now =
    sum_by_from_yields_List (λ (b : ℕ). cond {A = ℕ} (eqb b 9) 1 0) c.args.line.now c.map.result _ c.sum-tabs.ensures.ran
    (YieldsList-from_map _ (λ (b : ℕ). cond {A = ℕ} (eqb b 9) 1 0) (YieldsList-at c.map.ensures.source (YieldsList-from_slice c.args.line.now c.iter.ensures.rest)) c.map.ensures.closure (λ x r q k. search (rules, tests))) in
    omega (arith, tabs, count_by-le-length (λ (b : ℕ). eqb b 9) c.args.line.now)
