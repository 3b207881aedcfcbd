use Rattle.codec.proofs.PointsShown.{points}
use Rattle.codec.proofs.strength.generator.Goals as goal

pub returns : goal.returns
returns c = record { the_worked_examples_hold = points }
