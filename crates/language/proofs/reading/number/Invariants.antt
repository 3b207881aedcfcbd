use Rattle.std.proofs.Common.{◌≡◌, ◌^◌, ◌<◌, drop, Some}
use Rattle.language.specs.Spelling.{more_digits}
use Rattle.language.proofs.reading.number.Given as goal

abbrev pub invariant-loop-b : goal.invariant-loop-b
invariant-loop-b l = (l.n < 10 ^ l.b-index) × (more_digits (Some 0) l.field ≡ more_digits (Some l.n) (drop l.b-index l.field))
