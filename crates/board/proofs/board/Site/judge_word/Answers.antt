use Rattle.std.proofs.Common.{◌++◌, sym, ap, ◌∙◌}
use Rattle.codec.specs.Code.{judging}
use Rattle.board.proofs.board.Site.judge_word.Goals as goal

pub returns : goal.returns
returns g c =
    record {
      judges = ap (λ x. judging (c.args.line.now ++ x)) (sym c.fetch_check-check.ensures.is_shown) ∙ sym c.judge.ensures.is_the_judgement;
    }
