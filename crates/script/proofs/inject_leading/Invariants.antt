use Rattle.std.proofs.Common.{◌≡◌, ◌+◌, ◌≤◌, ◌++◌, length, vec_items}
use Rattle.language.specs.Parts.{lines}
use Rattle.script.specs.Piles.{bare_pile_of}
use Rattle.script.specs.Scripts.{leading_rows}
use Rattle.script.proofs.inject_leading.Given as goal

abbrev pub invariant-loop-line : goal.invariant-loop-line
invariant-loop-line l =
    (l.rows.number + length l.text ≤ 16385)
    × (vec_items l.initial.rows.bytes ++ leading_rows 1 (bare_pile_of l.initial.injector) (lines l.input) ≡ vec_items l.rows.bytes ++ leading_rows l.rows.number (bare_pile_of l.injector) (lines l.text))

abbrev pub decreases-loop-line : goal.decreases-loop-line
decreases-loop-line l = length l.text
