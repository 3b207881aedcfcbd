use Rattle.std.proofs.Common.{◌≡◌, ℕ, ◌<◌, length, get_or, take}
use Rattle.codec.specs.Word.{syndrome}
use Rattle.codec.proofs.finder.syndromes.Given as goal

abbrev pub invariant-loop-s : goal.invariant-loop-s
invariant-loop-s l = record { six : length l.sums ≡ 6; so_far : (k : ℕ) → k < 6 → get_or l.sums k 0 ≡ syndrome k (take l.s l.symbols) }
