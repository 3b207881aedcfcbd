use Rattle.std.proofs.Common.{◌≡◌, ℕ, ◌<◌, ◌≤◌, get_or}
use lib.Bits.{bit_xor}
use Rattle.board.proofs.lines.xor_into.Given as goal

abbrev pub invariant-loop-k : goal.invariant-loop-k
invariant-loop-k l =
    ((k : ℕ) → k < l.k → get_or l.sum k 0 ≡ bit_xor (get_or l.initial.sum k 0) (get_or l.line k 0))
    × ((k : ℕ) → l.k ≤ k → get_or l.sum k 0 ≡ get_or l.initial.sum k 0)
