use Rattle.std.proofs.Common.{rules}
use Rattle.layers.specs.Faults.{aged}
use Rattle.layers.proofs.fault.Fault.age.Goals as goal

pub returns : goal.returns
unfolding aged
returns c = search rules
