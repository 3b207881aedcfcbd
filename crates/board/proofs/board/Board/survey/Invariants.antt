use Rattle.std.proofs.Common.{◌≡◌, ◌*◌, None}
use Rattle.std.specs.List.{range_with_len}
use Rattle.rules.specs.Rules.{first_denied, for_mark}
use Rattle.board.specs.State.{state}
use Rattle.board.proofs.board.Board.survey.Given as goal

abbrev pub invariant-loop-index : goal.invariant-loop-index
invariant-loop-index g l = first_denied (for_mark (state g.S.Stack l.self) l.bank) (range_with_len 0 (64 * l.index)) ≡ None
