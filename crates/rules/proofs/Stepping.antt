-- Steps: what a call answers is determined, and every call has one.
use Rattle.std.proofs.Common.{ℕ, ◌<◌, sym, refl, ◌∙◌}
use Rattle.rules.specs.History.{Given, Step, marks_after}
use Rattle.rules.specs.Rules.{HostCall, State, answer, puts}
use Rattle.rules.specs.Theorem.{AlwaysAStep, UniqueAnswers}
use Rattle.stack.specs.Memory.{Place}
use Rattle.stack.specs.Pieces.{after}

pub unique_answers : UniqueAnswers
unique_answers s t u c q r p x = p.says ∙ sym x.says

-- the board after a call on a stack whose put pieces go on showing what they did
abbrev pub after_call : State → HostCall → State
after_call s c = record { size = s.size; kept = after s.kept (puts s c); shown = s.shown; marks = marks_after s c }

pub step_after : (s : State) (c : HostCall) → Given c → ((b i k : ℕ) → Place s.size b i k → s.shown b i k < 256) → Step s c (answer s c) (after_call s c)
step_after s c given bytes =
    record { given = given; says = refl; size = refl; marks = refl; kept = λ b i k p. refl; shown = λ _ b i k p u. refl; bytes = bytes }

pub always_a_step : AlwaysAStep
always_a_step s c given bytes = (after_call s c, step_after s c given bytes)
