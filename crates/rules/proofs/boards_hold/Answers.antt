use Rattle.rules.proofs.Example.{repaired}
use Rattle.rules.proofs.Main.{main}
use Rattle.rules.proofs.Stepping.{always_a_step, unique_answers}
use Rattle.rules.proofs.boards_hold.Goals as goal

pub returns : goal.returns
returns c = record { the_main_theorem = main; answers_are_unique = unique_answers; every_call_has_a_step = always_a_step; a_history_with_damage_is_repaired = repaired }
