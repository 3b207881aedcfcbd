use Rattle.std.proofs.Common.{◌≡◌, ◌-◌, ◌/◌, ◌%◌, ◌≤◌}
use Rattle.board.specs.State.{state}
use Rattle.rules.proofs.Gathering.{Gathered}
use Rattle.board.proofs.board.Site.add_partners.Given as goal

abbrev pub invariant-loop-bank : goal.invariant-loop-bank
invariant-loop-bank g l =
    let lo = l.initial.bank-iterator.start in
    Gathered (state g.S.Stack l.self.board.now) (l.self.address / 64) (l.self.address % 64) lo (l.bank-iterator.start - lo) l.initial.sum l.sum
    × (lo ≤ l.bank-iterator.start)
    × (l.bank-iterator.start ≤ l.bank-iterator.end)
    × (l.bank-iterator.end ≡ l.initial.bank-iterator.end)
