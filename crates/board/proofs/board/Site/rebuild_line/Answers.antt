use Rattle.std.proofs.Common.{◌∙◌, rules, tests}
use Rattle.std.proofs.lemmas.Result.{err_from_is_err_and}
use Rattle.board.specs.State.{state}
use Rattle.rules.proofs.Gathering.{rebuilding_refused, rebuilding_made}
use Rattle.board.proofs.Seeing.{judged_told}
use Rattle.board.proofs.board.Site.rebuild_line.Goals as goal

pub returns-in_err-sum_group : goal.returns-in_err-sum_group
returns-in_err-sum_group g c =
    let p = err_from_is_err_and c.from_residual.result c.from_residual.ensures.1 in
    rw (p.1, p.2)
    (record { rebuilds = rebuilding_refused (state g.S.Stack c.args.self.now.board.now) c.args.self.now.address _ c.in_err-sum_group.ensures.sums_or_refuses })

pub returns : goal.returns
returns g c =
    let sum = c.in_ok-sum_group.ensures.sums_or_refuses in
    record {
      rebuilds = rebuilding_made (state g.S.Stack c.args.self.now.board.now) c.args.self.now.address _ _ sum.0 sum.1 c.judge_word.ensures.judges
          ∙ judged_told c.judge_word.result c.map_err.result c.judge_word.new.line c.args.self.now.address c.map_err.ensures.cases (λ d e h. search (rules, tests));
    }
