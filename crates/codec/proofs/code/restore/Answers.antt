use Rattle.std.proofs.Common.{◌≡◌, ℕ, Bool, List, ◌++◌, length, get_or, set, sym, ap, ◌∙◌, arith, rules}
use lib.Bits.{bit_xor}
use Rattle.codec.specs.declared.word.Word.{Word}
use Rattle.codec.specs.Code.{consistent, codeword}
use Rattle.codec.specs.Shown.{symbols, check_of, is_short}
use Rattle.codec.proofs.CodeLaws.{line_before, take_corrected_inside, take_corrected_past}
use Rattle.codec.proofs.TestLaws.{five, six}
use Rattle.codec.proofs.code.restore.Goals as goal

-- what a test tells of the symbols shown it tells of the word
of_word : (test : List ℕ → Bool) (w : Word) (shown : List ℕ) (t : Bool) → shown ≡ check_of w.check → t ≡ test (w.line ++ shown) → test (symbols w) ≡ t
of_word test w shown t held e = sym (e ∙ ap (λ xs. test (w.line ++ xs)) held)

pub agrees-requires : goal.agrees-requires
agrees-requires c =
    let short : Bool = is_short c.args.word.now.check in
    let long = c.symbols.ensures.are_six_or_in_short_five in
    record { at_least_five = omega (arith, five short); at_most_six = omega (arith, six short); as_many_shown = omega arith }

pub returns-then-agrees : goal.returns-then-agrees
returns-then-agrees c =
    let w : Word = c.args.word.now in
    let held = c.symbols.ensures.are_those_held in
    let n : length w.line ≡ 64 = search rules in
    let l = sym (line_before w.line (check_of w.check) n) in
    record {
      by_four_corrects_inconsistent_words = λ e. (of_word consistent w _ _ held (c.if-agrees.ensures.four_tell_whether_the_word_is_consistent e), l);
      by_all_corrects_all_but_codewords = λ e. (of_word codeword w _ _ held (c.if-agrees.ensures.all_tell_whether_it_is_a_codeword (e ∙ sym c.symbols.ensures.are_six_or_in_short_five)), l);
    }

pub returns-then-s-lt64 : goal.returns-then-s-lt64
returns-then-s-lt64 c =
    let w : Word = c.args.word.now in
    let held = c.symbols.ensures.are_those_held in
    let line : List ℕ = w.line in
    let s : ℕ = c.in_ok-s.s in
    let e : ℕ = c.in_ok-s.e in
    let n : length line ≡ 64 = search rules in
    let found = sym c.single_error.ensures.is_the_single_error ∙ c.in_ok-s.ensures.ok_part in
    let l =
    sym
    (take_corrected_inside 64 (symbols w) s e c.if-s-lt64.true
    ∙ ap (λ x. set x s (bit_xor (get_or x s 0) e)) (line_before line (check_of w.check) n)) in
    record {
      by_four_corrects_inconsistent_words = λ e. (of_word consistent w _ _ held (c.if-agrees.ensures.four_tell_whether_the_word_is_consistent e), found, l);
      by_all_corrects_all_but_codewords = λ e. (of_word codeword w _ _ held (c.if-agrees.ensures.all_tell_whether_it_is_a_codeword (e ∙ sym c.symbols.ensures.are_six_or_in_short_five)), found, l);
    }

pub returns-else-s-lt64 : goal.returns-else-s-lt64
returns-else-s-lt64 c =
    let w : Word = c.args.word.now in
    let held = c.symbols.ensures.are_those_held in
    let line : List ℕ = w.line in
    let n : length line ≡ 64 = search rules in
    let found = sym c.single_error.ensures.is_the_single_error ∙ c.in_ok-s.ensures.ok_part in
    let l =
    sym
    (take_corrected_past 64 (symbols w) c.in_ok-s.s c.in_ok-s.e c.if-s-lt64.false
    ∙ line_before line (check_of w.check) n) in
    record {
      by_four_corrects_inconsistent_words = λ e. (of_word consistent w _ _ held (c.if-agrees.ensures.four_tell_whether_the_word_is_consistent e), found, l);
      by_all_corrects_all_but_codewords = λ e. (of_word codeword w _ _ held (c.if-agrees.ensures.all_tell_whether_it_is_a_codeword (e ∙ sym c.symbols.ensures.are_six_or_in_short_five)), found, l);
    }
