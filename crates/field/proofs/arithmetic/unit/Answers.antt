use Rattle.std.proofs.Common.{arith}
use Rattle.field.proofs.FieldLaws.{laws}
use Rattle.field.proofs.arithmetic.unit.Goals as goal

pub returns : goal.returns
returns c = record { the_bytes_are_a_field = laws _ (omega arith) }
