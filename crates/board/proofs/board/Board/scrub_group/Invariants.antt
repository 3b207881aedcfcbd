use Rattle.std.proofs.Common.{◌≡◌, ◌*◌, ◌≤◌}
use Rattle.std.specs.List.{concat, range_with_len}
use Rattle.rules.specs.Rules.{along_banks, otherwise}
use Rattle.board.specs.State.{Ran, scrubbed_part}
use Rattle.board.proofs.board.Board.scrub_group.Given as goal

abbrev pub invariant-loop-bank : goal.invariant-loop-bank
invariant-loop-bank g l =
    Ran g.S.Stack l.initial.self (along_banks (scrubbed_part l.initial.self l.b l.index (concat l.work)) l.index (range_with_len 0 l.bank)) l.self
    × (l.count ≡ otherwise (g.S.Stack.means l.initial.self.stack).shown l.index (scrubbed_part l.initial.self l.b l.index (concat l.work)) (range_with_len 0 l.bank))
    × (l.count ≤ 64 * l.bank)
