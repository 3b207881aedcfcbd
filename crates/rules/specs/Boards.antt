-- A board over a stack, as the rules see it.
use Rattle.std.specs.Prelude.{ℕ, List}
use Rattle.rules.specs.Rules.{State}
use Rattle.stack.specs.Memory.{Meaning}

abbrev pub board : Meaning → List ℕ → State
board m marks = record { size = m.size; kept = m.kept; shown = m.shown; marks = marks }
