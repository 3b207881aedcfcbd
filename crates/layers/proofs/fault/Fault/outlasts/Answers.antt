use Rattle.std.proofs.Common.{rules}
use Rattle.layers.specs.Faults.{outlasts}
use Rattle.layers.proofs.fault.Fault.outlasts.Goals as goal

pub returns-in-Flip : goal.returns-in-Flip
unfolding outlasts
returns-in-Flip c = search rules

pub returns-in-StuckAtOne : goal.returns-in-StuckAtOne
unfolding outlasts
returns-in-StuckAtOne c = search rules
