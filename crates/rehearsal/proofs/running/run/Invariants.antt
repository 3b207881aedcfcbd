use Rattle.std.proofs.Common.{◌≡◌, drop}
use Rattle.rehearsal.specs.Events.{first_events}
use Rattle.rehearsal.specs.Traces.{RanOn}
use Rattle.rehearsal.proofs.running.run.Given as goal

abbrev pub invariant-loop-i : goal.invariant-loop-i
invariant-loop-i g l =
    RanOn g.S.Stack l.initial.board (first_events l.calls l.answers l.i) l.board
    × (drop l.i l.answers ≡ drop l.i l.initial.answers)
