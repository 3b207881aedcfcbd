-- What the results of the calls tell the host, as answers.
use Rattle.std.specs.Prelude.{ℕ, List, Ok, Err, Result}
use Rattle.codec.specs.declared.word.Finding.{Finding}
use Rattle.stack.specs.declared.refusal.Refusal.{Refusal}
use Rattle.rules.specs.Answers.{Answer}
use Rattle.rules.specs.declared.calls.Outcome.{Outcome as CallOutcome}
use Rattle.rules.specs.declared.calls.Outcome.TheVariants.{HandedOut, Written, Renewed, Cleared, Scrubbed, Marked}
use Rattle.rules.specs.Rules.{Outcome, obtained, denied}

-- a line obtained or not, with the line that was left in the buffer
abbrev pub obtained_by : Result Finding Refusal → List ℕ → Outcome
obtained_by (Ok f) l = obtained l f
obtained_by (Err e) l = denied e

-- what came of a call that gave a value, or its refusal
abbrev pub told : {A : Type 0} → (A → CallOutcome) → Result A Refusal → Answer
told f (Ok x) = Ok (f x)
told f (Err e) = Err e

abbrev pub told_read : Result Finding Refusal → List ℕ → Answer
told_read r l = told (HandedOut l) r

abbrev pub told_write : Result Finding Refusal → Answer
told_write r = told Written r

abbrev pub told_renew : Result (Unit {0}) Refusal → Answer
told_renew r = told (λ u. Renewed) r

abbrev pub told_clear : Result (Unit {0}) Refusal → Answer
told_clear r = told (λ u. Cleared) r

abbrev pub told_scrub : Result ℕ Refusal → Answer
told_scrub r = told Scrubbed r

abbrev pub told_mark : Result ℕ Refusal → Answer
told_mark r = told Marked r
