-- What a call answers: what came of it, or why it was refused.
use Rattle.std.specs.Prelude.{Result}
use Rattle.rules.specs.declared.calls.Outcome.{Outcome}
use Rattle.stack.specs.declared.refusal.Refusal.{Refusal}

abbrev pub Answer : Type 0
Answer = Result Outcome Refusal
