use Rattle.std.proofs.Common.{rules}
use Rattle.layers.specs.Lines.{orderly}
use Rattle.layers.proofs.buffer.LineTable.new.Goals as goal

pub invariant_of-result : goal.invariant_of-result
unfolding orderly
invariant_of-result c = search rules
