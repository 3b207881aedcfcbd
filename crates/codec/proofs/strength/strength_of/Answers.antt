use Rattle.std.proofs.Common.{sym, subst, arith}
use Rattle.codec.specs.Laws.{Apart}
use Rattle.codec.proofs.CodeLaws.{laws}
use Rattle.codec.proofs.StrengthLaws.{apart_full, apart_short, consistent_apart, decodes_clean, decodes_corrected, judges_rebuilt, judges_corrected, corrected_within, uncorrectable_within, right_within, rebuilt_within}
use Rattle.codec.proofs.strength.strength_of.Goals as goal

pub returns-then-short : goal.returns-then-short
returns-then-short c =
    record {
      codewords_lie_apart = subst (λ b. Apart b _) (sym c.if-short.true) (apart_short _ (omega arith));
      consistent_words_lie_apart = consistent_apart c.args.short _ (omega arith);
      few_wrong_symbols_are_corrected = corrected_within c.args.short _ (omega arith);
      more_wrong_symbols_are_detected = uncorrectable_within c.args.short _ (omega arith);
      no_other_line_is_handed_out = right_within c.args.short _ (omega arith);
      a_rebuilt_line_is_handed_out = rebuilt_within c.args.short _ (omega arith);
      a_right_line_and_first_check_are_clean = decodes_clean c.args.short;
      one_wrong_symbol_is_named = decodes_corrected c.args.short;
      a_rebuilt_codeword_is_rebuilt = judges_rebuilt c.args.short;
      one_wrong_symbol_of_a_rebuilt_word_is_named = judges_corrected c.args.short;
      the_laws_hold = laws;
    }

pub returns-else-short : goal.returns-else-short
returns-else-short c =
    record {
      codewords_lie_apart = subst (λ b. Apart b _) (sym c.if-short.false) (apart_full _ (omega arith));
      consistent_words_lie_apart = consistent_apart c.args.short _ (omega arith);
      few_wrong_symbols_are_corrected = corrected_within c.args.short _ (omega arith);
      more_wrong_symbols_are_detected = uncorrectable_within c.args.short _ (omega arith);
      no_other_line_is_handed_out = right_within c.args.short _ (omega arith);
      a_rebuilt_line_is_handed_out = rebuilt_within c.args.short _ (omega arith);
      a_right_line_and_first_check_are_clean = decodes_clean c.args.short;
      one_wrong_symbol_is_named = decodes_corrected c.args.short;
      a_rebuilt_codeword_is_rebuilt = judges_rebuilt c.args.short;
      one_wrong_symbol_of_a_rebuilt_word_is_named = judges_corrected c.args.short;
      the_laws_hold = laws;
    }
