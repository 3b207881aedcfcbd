-- The table is the list of the powers, each α times the one before: antt computes it.
use Rattle.field.specs.Field.{times_z}
use Rattle.field.proofs.FieldLaws.{run, run_pow}
use Rattle.field.proofs.arithmetic.power.Goals as goal

pub returns : goal.returns
unfolding run times_z
returns c = record { is_the_power = run_pow 1530 c.args.k c.requires.within_the_table }
