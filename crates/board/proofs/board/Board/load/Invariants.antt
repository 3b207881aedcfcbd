use Rattle.std.proofs.Common.{◌≡◌, ◌-◌, ◌≤◌}
use Rattle.std.specs.List.{concat}
use Rattle.rules.specs.Work.{taken, Loaded}
use Rattle.board.specs.State.{state}
use Rattle.board.proofs.Slots.{Long}
use Rattle.board.proofs.board.Board.load.Given as goal

abbrev pub invariant-loop-bank : goal.invariant-loop-bank
invariant-loop-bank g l =
    let lo = l.initial.bank-iterator.start in
    Loaded (taken (state g.S.Stack l.self) l.retired) l.index lo (l.bank-iterator.start - lo) (concat l.work)
    × Long l.work
    × (lo ≤ l.bank-iterator.start)
    × (l.bank-iterator.start - lo ≤ l.bank-iterator.end - lo)
    × (l.bank-iterator.end ≡ l.initial.bank-iterator.end)
