use Rattle.std.specs.List.{range_with_len}
use Rattle.stack.specs.Pieces.{InOrder}
use Rattle.rules.specs.Rules.{along_banks}
use Rattle.rules.specs.Work.{formatting}
use Rattle.board.proofs.board.storing.zero_index.Given as goal

abbrev pub invariant-loop-bank : goal.invariant-loop-bank
invariant-loop-bank g l = InOrder g.S.Stack.means g.S.Stack.puts l.initial.stack (along_banks formatting l.index (range_with_len 0 l.bank)) l.stack
