use Rattle.std.proofs.Common.{ℕ, ◌+◌, ◌≤◌, List, length, drop, sym, ap, ◌∙◌, arith}
use Rattle.std.proofs.lemmas.List.{at_drop_more, at_drop_all}
use Rattle.layers.specs.Faults.{corrupted_all}
use Rattle.layers.specs.declared.fault.Fault.{Fault}
use Rattle.layers.specs.declared.fault.FaultKind.TheVariants.{Flip}
use Rattle.layers.proofs.injector.calls.show_all.Goals as goal

pub loop-fault-preserved : goal.loop-fault-preserved
unfolding corrupted_all
loop-fault-preserved c =
    let none : Fault = record { bank = 0; index = 0; byte = 0; kind = Flip; mask = 0; delay = 0 } in
    let F : List Fault → List ℕ = λ fs. corrupted_all fs c.args.at.bank c.args.at.index c.args.at.byte c.loop-fault.into in
    ap (λ (ys : List ℕ). corrupted_all (drop (c.loop-fault.fault-index + 1) c.args.faults.now) c.args.at.bank c.args.at.index c.args.at.byte ys) c.show.ensures.shows
    ∙ sym (at_drop_more F c.args.faults.now c.loop-fault.fault-index none c.loop-fault-test.true)
    ∙ c.loop-fault.invariant

pub returns : goal.returns
unfolding corrupted_all
returns c =
    let F : List Fault → List ℕ = λ fs. corrupted_all fs c.args.at.bank c.args.at.index c.args.at.byte c.loop-fault.into in
    let h : length c.args.faults.now ≤ c.loop-fault.fault-index = omega arith in
    record { shows = sym (at_drop_all F c.args.faults.now c.loop-fault.fault-index h) ∙ c.loop-fault.invariant }
