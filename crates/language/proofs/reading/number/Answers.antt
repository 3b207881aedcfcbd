use Rattle.std.proofs.Common.{◌≤◌, length, sym, ◌∙◌, arith, false-eqb}
use Rattle.language.proofs.NumberLaws.{digit_more, digit_none, digits_end, few_digits, power_more}
use Rattle.language.proofs.reading.number.Goals as goal

pub returns-in_err-n : goal.returns-in_err-n
returns-in_err-n c =
    let field = c.args.field.now in
    let most : length field ≤ 5 = omega (arith, c.if-field-gt-MOST_DIGITS.false) in
    let few = few_digits field (false-eqb (length field) 0 c.if-is_empty.ensures) most in
    let none = digit_none c.loop-b.n field c.loop-b.b-index c.loop-b-test.true c.in_err-n.ensures.is_its_value in
    record { is_what_it_spells = c.from_residual.ensures ∙ sym (few ∙ c.loop-b.invariant.1 ∙ none) }

pub loop-b-preserved : goal.loop-b-preserved
loop-b-preserved c =
    let field = c.args.field.now in
    let d = c.in_ok-n.field-0 in (
      power_more c.loop-b.b-index c.loop-b.n d c.loop-b.invariant.0 c.in_ok-n.ensures.is_below_ten,
      c.loop-b.invariant.1 ∙ digit_more c.loop-b.n d field c.loop-b.b-index c.loop-b-test.true c.in_ok-n.ensures.is_its_value,
    )

pub returns : goal.returns
returns c =
    let field = c.args.field.now in
    let most : length field ≤ 5 = omega (arith, c.if-field-gt-MOST_DIGITS.false) in
    let few = few_digits field (false-eqb (length field) 0 c.if-is_empty.ensures) most in
    record { is_what_it_spells = sym (few ∙ c.loop-b.invariant.1 ∙ digits_end c.loop-b.n field c.loop-b.b-index c.loop-b-test.false) }
