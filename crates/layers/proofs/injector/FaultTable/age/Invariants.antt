use Rattle.std.proofs.Common.{◌≡◌, ◌++◌, map, take, drop}
use Rattle.layers.specs.Faults.{aged}
use Rattle.layers.proofs.injector.FaultTable.age.Given as goal

abbrev pub invariant-loop-fault : goal.invariant-loop-fault
invariant-loop-fault l = l.fault-items ≡ map aged (take l.fault-index l.initial.fault-items) ++ drop l.fault-index l.initial.fault-items
