use Rattle.std.proofs.Common.{◌≡◌, arith}
use Rattle.std.proofs.lemmas.Result.{err_from_is_err_and}
use Rattle.rules.specs.Rules.{for_mark}
use Rattle.rules.proofs.Retiring.{survey_none, survey_more, survey_denied}
use Rattle.board.specs.State.{state}
use Rattle.board.proofs.board.Board.survey.Goals as goal

pub loop-index-init : goal.loop-index-init
loop-index-init g c = survey_none (for_mark (state g.S.Stack c.args.self.now) c.args.bank)

pub returns-in_err-load : goal.returns-in_err-load
returns-in_err-load g c =
    let s = state g.S.Stack c.args.self.now in
    let p = err_from_is_err_and c.from_residual.result c.from_residual.ensures.1 in
    rw (p.1, p.2)
    (record {
      surveys = survey_denied (for_mark s c.args.bank) c.loop-index.index (g.S.Stack.means c.args.self.now.stack).size c.in_err-load.field-0.0
          (omega (arith, c.size-index-end.ensures.is_size)) c.loop-index.invariant c.in_err-load.ensures.loads_or_refuses;
    })

pub loop-index-preserved : goal.loop-index-preserved
loop-index-preserved g c =
    let s = state g.S.Stack c.args.self.now in
    let l = c.in_ok-load.ensures.loads_or_refuses in
    survey_more (for_mark s c.args.bank) c.loop-index.index c.loop-index.invariant l.none

pub returns : goal.returns
returns g c =
    let all : c.loop-index.index ≡ (g.S.Stack.means c.args.self.now.stack).size = omega (arith, c.size-index-end.ensures.is_size) in
    record { surveys = rw all at c.loop-index.invariant }
