use Rattle.std.proofs.Common.{◌<◌, length, get_or, set, ap, ◌∙◌, arith}
use Rattle.std.proofs.lemmas.List.Edits.{map_over_more}
use Rattle.std.proofs.lemmas.List.{get_or_default}
use Rattle.layers.specs.Faults.{aged}
use Rattle.layers.specs.declared.fault.Fault.{Fault}
use Rattle.layers.specs.declared.fault.FaultKind.TheVariants.{Flip}
use Rattle.layers.proofs.injector.FaultTable.age.Goals as goal

pub loop-fault-preserved : goal.loop-fault-preserved
loop-fault-preserved c =
    let none : Fault = record { bank = 0; index = 0; byte = 0; kind = Flip; mask = 0; delay = 0 } in
    let ys = c.loop-fault.fault-items in
    let i = c.loop-fault.fault-index in
    let x = get_or ys i none in
    let hy : i < length ys = omega arith in
    let hx : i < length c.as_mut_slice-fault-items.result.now = omega arith in
    ap (λ f. set ys i f) c.age.ensures.ages ∙ map_over_more aged c.as_mut_slice-fault-items.result.now ys i x hx c.loop-fault.invariant (get_or_default ys i none x hy)
