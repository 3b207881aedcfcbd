use Rattle.std.proofs.Common.{rules}
use Rattle.stack.specs.Memory.{outside}
use Rattle.stack.proofs.place.Place.is_outside.Goals as goal

pub returns-then-count-gt64 : goal.returns-then-count-gt64
unfolding outside
returns-then-count-gt64 c = search rules

pub returns-else-count-gt64 : goal.returns-else-count-gt64
unfolding outside
returns-else-count-gt64 c = search rules
