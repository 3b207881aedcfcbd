use Rattle.std.proofs.Common.{◌≡◌, ◌≤◌, min, length, refl, subst, arith}
use Rattle.std.proofs.lemmas.List.{length-take, get_or-take}
use Rattle.rules.specs.declared.calls.Call.TheVariants.{Read}
use Rattle.rehearsal.specs.Events.{first_events, heard}
use Rattle.rehearsal.specs.Traces.{Called, RanOn}
use Rattle.rehearsal.proofs.Runs.{ran_none, ran_more, rest_more, rest_behind}
use Rattle.rehearsal.proofs.running.run.Goals as goal

pub loop-i-init : goal.loop-i-init
loop-i-init g c = (ran_none c.args.calls.now g.S.Stack c.args.board.now c.args.answers.now, refl)

pub loop-i-preserved : goal.loop-i-preserved
loop-i-preserved g c = (
  ran_more c.args.calls.now g.S.Stack c.args.board.now c.loop-i.board c.perform.new.board c.loop-i.answers c.loop-i.i c.perform.result
      (omega (arith, length-take c.min-count.result c.args.calls.now)) c.loop-i.invariant.0
      (subst (λ x. Called g.S.Stack c.loop-i.board (heard x) c.perform.result c.perform.new.board)
      (get_or-take c.min-count.result c.args.calls.now c.loop-i.i (Read 0 0) (omega (arith, length-take c.min-count.result c.args.calls.now)))
      c.perform.ensures.does_the_call),
  rest_more c.loop-i.answers c.args.answers.now c.loop-i.i c.perform.result c.loop-i.invariant.1,
)

pub returns : goal.returns
returns g c =
    let cs = c.args.calls.now in
    let rs = c.loop-i.answers in
    let i = c.loop-i.i in
    let e : i ≡ min (length cs) (length rs) = omega (arith, length-take c.min-count.result cs) in
    let low : i ≤ length cs = omega (arith, length-take c.min-count.result cs) in
    record {
      runs_in_order = subst (λ n. RanOn g.S.Stack c.args.board.now (first_events cs rs n) c.loop-i.board) e c.loop-i.invariant.0;
      leaves_the_other_answers = rest_behind rs c.args.answers.now i (length cs) low c.loop-i.invariant.1;
    }
