use Rattle.std.proofs.Common.{refl, ◌∙◌, arith, rules}
use borrow.Author.Tests.{tests}
use Rattle.codec.specs.declared.word.Finding.TheVariants.{Clean, Corrected}
use Rattle.codec.specs.Code.{decoding, consistent}
use Rattle.codec.specs.Shown.{symbols, is_short}
use Rattle.codec.proofs.TestLaws.{five, restored, not_restored, told_err, by_calls}
use Rattle.codec.proofs.code.decode.Goals as goal

pub restore-requires : goal.restore-requires
restore-requires c = record { as_many_as_it_has = omega (arith, five (is_short c.args.word.now.check)) }

pub returns-in_err-pair-clause-is_the_decoding : goal.returns-in_err-pair-clause-is_the_decoding
unfolding decoding
returns-in_err-pair-clause-is_the_decoding c =
    told_err c.from_residual.result c.restore.new.line c.from_residual.ensures.0
    ∙ not_restored (symbols c.args.word.now) Clean Corrected (consistent (symbols c.args.word.now)) _ c.args.line.now c.restore.new.line (c.in_err-pair.ensures.by_four_corrects_inconsistent_words refl)

pub returns-clause-is_the_decoding : goal.returns-clause-is_the_decoding
unfolding decoding
returns-clause-is_the_decoding c =
    restored (symbols c.args.word.now) Clean Corrected (consistent (symbols c.args.word.now)) c.in_ok-pair.pair c.map_or_else.result c.args.line.now c.restore.new.line
    (c.in_ok-pair.ensures.by_four_corrects_inconsistent_words refl)
    (by_calls _ _ _ _ c.in_ok-pair.pair c.map_or_else.ensures (λ called. search (rules, tests)) (λ p called. search (rules, tests)))
