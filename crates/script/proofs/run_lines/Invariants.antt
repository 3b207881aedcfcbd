use Rattle.std.proofs.Common.{◌≡◌, ◌+◌, ◌≤◌, ◌++◌, length, vec_items}
use Rattle.language.specs.Parts.{lines}
use Rattle.script.specs.Machines.{machine_of}
use Rattle.script.specs.Scripts.{rows}
use Rattle.script.proofs.run_lines.Given as goal

abbrev pub invariant-loop-line : goal.invariant-loop-line
invariant-loop-line l =
    (l.rows.number + length (lines l.line-iterator.0.now) ≤ 16385)
    × (vec_items l.initial.rows.bytes ++ rows l.initial.rows.number (machine_of l.initial.board) (lines l.text) ≡ vec_items l.rows.bytes ++ rows l.rows.number (machine_of l.board) (lines l.line-iterator.0.now))
