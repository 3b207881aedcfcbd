use Rattle.std.proofs.Common.{◌++◌, vec_items, sym, ap, ◌∙◌, arith}
use Rattle.language.specs.Parts.{lines}
use Rattle.language.specs.Rows.{fault_reply}
use Rattle.script.specs.Piles.{bare_pile_of}
use Rattle.script.specs.Scripts.{leading_rows}
use Rattle.script.proofs.PileLaws.{one_fault}
use Rattle.script.proofs.ScriptLaws.{leading_ends, leading_step, leading_stops}
use Rattle.script.proofs.inject_leading.Goals as goal
use Rattle.script.proofs.inject_leading.Goals.{in-Some+in_default-read_fault, in_default}

pub loop-line-preserved : goal.loop-line-preserved
loop-line-preserved c = (
  omega (arith, c.in-Some.ensures.leaves_less, c.in_ok-push.ensures.counts_on),
  c.loop-line.invariant.1
      ∙ leading_step (vec_items c.loop-line.rows.bytes) (vec_items c.push.new.self.bytes) c.loop-line.rows.number
      (bare_pile_of c.loop-line.injector) (bare_pile_of c.strike.new.self)
      (lines c.loop-line.text.now) c.in-Some.line.now (lines c.in-Some.rest.now) c.in-Some-read_fault.fault c.to_fault.result
      c.in-Some.ensures.parts_the_first_line c.in-Some-read_fault.ensures.is_spelled
      (c.to_fault.ensures.is_the_reply ∙ ap fault_reply c.strike.ensures.refuses)
      (one_fault c.loop-line.injector c.strike.new.self c.in-Some-read_fault.fault c.strike.result
      c.strike.ensures.refuses c.strike.ensures.below c.strike.ensures.stands)
      c.in_ok-push.ensures.writes_the_row
      ∙ ap (λ n. vec_items c.push.new.self.bytes ++ leading_rows n (bare_pile_of c.strike.new.self) (lines c.in-Some.rest.now)) (sym c.in_ok-push.ensures.counts_on),
)

pub returns : goal.returns
returns c =
    let out = vec_items c.loop-line.rows.bytes in
    let s = bare_pile_of c.loop-line.injector in
    record {
      counts = c.loop-line.invariant.0;
      leads =
          elim c.match-next_line.branch [
            | in-Some+in_default-read_fault w ↦
                c.loop-line.invariant.1
                ∙ ap (λ z. out ++ z) (leading_stops c.loop-line.rows.number s (lines c.loop-line.text.now) w.in-Some.line.now (lines w.in-Some.rest.now)
                w.in-Some.ensures.parts_the_first_line w.in_default-read_fault.ensures.is_spelled)
            | in_default w ↦
                c.loop-line.invariant.1
                ∙ ap (λ z. out ++ z) (leading_ends c.loop-line.rows.number s c.loop-line.text.now w.in_default.ensures.parts_the_first_line)
          ];
    }
