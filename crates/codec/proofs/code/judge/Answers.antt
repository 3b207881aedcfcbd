use Rattle.std.proofs.Common.{◌∙◌, rules}
use borrow.Author.Tests.{tests}
use Rattle.codec.specs.declared.word.Finding.TheVariants.{Rebuilt, RebuiltCorrected}
use Rattle.codec.specs.Code.{judging, codeword}
use Rattle.codec.specs.Shown.{symbols}
use Rattle.codec.proofs.TestLaws.{restored, not_restored, told_err, by_calls}
use Rattle.codec.proofs.code.judge.Goals as goal

pub returns-in_err-pair-clause-is_the_judgement : goal.returns-in_err-pair-clause-is_the_judgement
unfolding judging
returns-in_err-pair-clause-is_the_judgement c =
    told_err c.from_residual.result c.restore.new.line c.from_residual.ensures.0
    ∙ not_restored (symbols c.args.word.now) Rebuilt RebuiltCorrected (codeword (symbols c.args.word.now)) _ c.args.line.now c.restore.new.line (c.in_err-pair.ensures.by_all_corrects_all_but_codewords c.symbols.ensures.are_six_or_in_short_five)

pub returns-clause-is_the_judgement : goal.returns-clause-is_the_judgement
unfolding judging
returns-clause-is_the_judgement c =
    restored (symbols c.args.word.now) Rebuilt RebuiltCorrected (codeword (symbols c.args.word.now)) c.in_ok-pair.pair c.map_or_else.result c.args.line.now c.restore.new.line
    (c.in_ok-pair.ensures.by_all_corrects_all_but_codewords c.symbols.ensures.are_six_or_in_short_five)
    (by_calls _ _ _ _ c.in_ok-pair.pair c.map_or_else.ensures (λ called. search (rules, tests)) (λ p called. search (rules, tests)))
