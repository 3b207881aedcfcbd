use Rattle.std.proofs.Common.{◌≡◌, ℕ, ◌+◌, ◌*◌, ◌/◌, ◌%◌, ◌<◌, length, get_or}
use Rattle.codec.specs.Check.{check}
use Rattle.board.specs.State.{line_at}
use Rattle.board.proofs.board.rows.check_row.Given as goal

abbrev pub invariant-loop-n : goal.invariant-loop-n
invariant-loop-n l =
    ((k : ℕ) → k < l.n * l.per → get_or l.row k 0 ≡ get_or (check (line_at l.lines (k / l.per))) (l.symbols.start + k % l.per) 0)
    × (length l.row ≡ 64)
