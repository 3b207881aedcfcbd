use Rattle.std.proofs.Common.{rules}
use Rattle.layers.specs.Lines.{orderly}
use Rattle.layers.proofs.buffer.LineTable.clear.Goals as goal

pub invariant_of-self : goal.invariant_of-self
unfolding orderly
invariant_of-self c = search rules
