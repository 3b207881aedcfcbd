use Rattle.std.specs.List.{range_with_len}
use Rattle.rules.specs.Rules.{along}
use Rattle.board.specs.State.{Ran, retired_parts}
use Rattle.board.proofs.board.Board.retire_all.Given as goal

abbrev pub invariant-loop-index : goal.invariant-loop-index
invariant-loop-index g l = Ran g.S.Stack l.initial.self (along (retired_parts g.S.Stack l.initial.self l.bank) (range_with_len 0 l.index)) l.self
