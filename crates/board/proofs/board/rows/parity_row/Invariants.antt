use Rattle.std.proofs.Common.{◌≡◌, ℕ, ◌<◌, length, get_or}
use Rattle.std.specs.List.{range_with_len}
use Rattle.rules.specs.Places.{xor_over}
use Rattle.board.specs.State.{line_at}
use Rattle.board.proofs.board.rows.parity_row.Given as goal

abbrev pub invariant-loop-line : goal.invariant-loop-line
invariant-loop-line l =
    ((k : ℕ) → k < 64 → get_or l.row k 0 ≡ xor_over (λ b. get_or (line_at l.lines b) k 0) (range_with_len 0 l.line-index)) × (length l.row ≡ 64)
