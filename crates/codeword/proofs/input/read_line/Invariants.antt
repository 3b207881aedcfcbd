use Rattle.std.proofs.Common.{◌≡◌, ℕ, ◌<◌, length, get_or, Some}
use Rattle.codeword.specs.Input.{byte_at}
use Rattle.codeword.proofs.input.read_line.Given as goal

abbrev pub invariant-loop-k : goal.invariant-loop-k
invariant-loop-k l = record { long : length l.line ≡ 64; read : (j : ℕ) → j < l.k → byte_at l.text j ≡ Some (get_or l.line j 0) }
