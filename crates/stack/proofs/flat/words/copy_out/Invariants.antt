use Rattle.std.proofs.Common.{◌≡◌, ℕ, ◌+◌, ◌<◌, get_or}
use Rattle.stack.specs.Words.{bytes_of}
use Rattle.stack.proofs.flat.words.copy_out.Given as goal

abbrev pub invariant-loop-k : goal.invariant-loop-k
invariant-loop-k l = (j : ℕ) → j < l.k → get_or l.into j 0 ≡ get_or (bytes_of l.words) (l.at + j) 0
