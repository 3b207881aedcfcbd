use Rattle.std.proofs.Common.{rules}
use Rattle.layers.specs.Faults.{acts}
use Rattle.layers.proofs.fault.Fault.acts_on.Goals as goal

pub returns-then-self-eq0 : goal.returns-then-self-eq0
unfolding acts
returns-then-self-eq0 c = search rules

pub returns-else-self-eq0 : goal.returns-else-self-eq0
unfolding acts
returns-else-self-eq0 c = search rules
