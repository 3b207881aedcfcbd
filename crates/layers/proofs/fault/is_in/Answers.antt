use Rattle.std.proofs.Common.{rules}
use Rattle.stack.specs.Memory.{spans}
use Rattle.layers.proofs.fault.is_in.Goals as goal

pub returns-then-place-at : goal.returns-then-place-at
unfolding spans
returns-then-place-at c = search rules

pub returns-else-place-at : goal.returns-else-place-at
unfolding spans
returns-else-place-at c = search rules
