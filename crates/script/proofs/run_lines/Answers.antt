use Rattle.std.proofs.Common.{◌≡◌, ◌++◌, length, vec_items, sym, ap, ◌∙◌, arith}
use Rattle.language.proofs.PartLaws.{few_lines}
use Rattle.language.specs.Parts.{lines}
use Rattle.script.specs.Machines.{machine_of}
use Rattle.script.specs.Scripts.{rows}
use Rattle.script.proofs.ScriptLaws.{rows_end, rows_step}
use Rattle.script.proofs.run_lines.Goals as goal

pub loop-line-init : goal.loop-line-init
loop-line-init c =
    let text = c.args.text.now in
    let same : c.into_iter-line-iterator.result.0.now ≡ text = ap (λ s. s.0.now) c.into_iter-line-iterator.ensures.into_iter_gives in (
      rw same (omega (arith, few_lines text, c.requires.counts)),
      ap (λ t. vec_items c.args.rows.now.bytes ++ rows c.args.rows.now.number (machine_of c.args.board.now) (lines t)) (sym same),
    )

pub loop-line-preserved : goal.loop-line-preserved
loop-line-preserved c = (
  omega (arith, ap length c.in-Some.ensures.steps, c.in_ok-push.ensures.counts_on),
  c.loop-line.invariant.1
      ∙ rows_step (vec_items c.loop-line.rows.bytes) (vec_items c.push.new.self.bytes) c.loop-line.rows.number
      (machine_of c.loop-line.board) (machine_of c.run_line.new.board)
      (lines c.loop-line.line-iterator.0.now) c.in-Some.line.now (lines c.next.new.self.0.now) c.run_line.result
      c.in-Some.ensures.steps c.run_line.ensures.replies c.run_line.ensures.moves
      c.in_ok-push.ensures.writes_the_row
      ∙ ap (λ n. vec_items c.push.new.self.bytes ++ rows n (machine_of c.run_line.new.board) (lines c.next.new.self.0.now)) (sym c.in_ok-push.ensures.counts_on),
)

pub returns : goal.returns
returns c = record {
  writes_the_rows =
      rows_end c.loop-line.rows.number (machine_of c.loop-line.board) (vec_items c.loop-line.rows.bytes)
      (vec_items c.args.rows.now.bytes ++ rows c.args.rows.now.number (machine_of c.args.board.now) (lines c.args.text.now))
      (lines c.loop-line.line-iterator.0.now) c.in-None.ensures.steps.0 c.loop-line.invariant.1;
}
