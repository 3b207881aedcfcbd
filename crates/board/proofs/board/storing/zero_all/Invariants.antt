use Rattle.std.specs.List.{range_with_len}
use Rattle.stack.specs.Pieces.{InOrder}
use Rattle.rules.specs.Rules.{along}
use Rattle.rules.specs.Work.{formatting}
use Rattle.board.proofs.board.storing.zero_all.Given as goal

abbrev pub invariant-loop-index : goal.invariant-loop-index
invariant-loop-index g l = InOrder g.S.Stack.means g.S.Stack.puts l.initial.stack (along (λ _. formatting) (range_with_len 0 l.index)) l.stack
