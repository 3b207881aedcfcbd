use Rattle.std.proofs.Common.{◌≡◌, drop}
use Rattle.layers.specs.Faults.{corrupted_all}
use Rattle.layers.proofs.injector.calls.show_all.Given as goal

abbrev pub invariant-loop-fault : goal.invariant-loop-fault
invariant-loop-fault l =
    corrupted_all (drop l.fault-index l.faults) l.at.bank l.at.index l.at.byte l.into
    ≡ corrupted_all l.faults l.at.bank l.at.index l.at.byte l.initial.into
