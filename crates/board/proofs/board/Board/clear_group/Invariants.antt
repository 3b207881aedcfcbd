use Rattle.std.specs.List.{range_with_len}
use Rattle.rules.specs.Rules.{along_banks, clearing}
use Rattle.board.specs.Marks.{listed}
use Rattle.board.specs.State.{Ran}
use Rattle.board.proofs.board.Board.clear_group.Given as goal

abbrev pub invariant-loop-bank : goal.invariant-loop-bank
invariant-loop-bank g l =
    Ran g.S.Stack l.initial.self (along_banks (clearing (listed l.initial.self.marks) l.b) l.index (range_with_len 0 l.bank)) l.self
