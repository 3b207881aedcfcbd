use Rattle.std.proofs.Common.{◌-◌, ◌/◌, ◌%◌}
use Rattle.std.specs.List.{range_with_len}
use Rattle.rules.specs.Rules.{along_banks}
use Rattle.rules.specs.Work.{storing}
use Rattle.board.specs.Marks.{listed}
use Rattle.board.specs.State.{Ran}
use Rattle.board.proofs.board.Board.store.Given as goal

abbrev pub invariant-loop-bank : goal.invariant-loop-bank
invariant-loop-bank g l =
    Ran g.S.Stack l.initial.self
    (along_banks (storing (listed l.initial.self.marks) (l.address % 64) l.line l.parity) (l.address / 64) (range_with_len 68 (l.bank - 68))) l.self
