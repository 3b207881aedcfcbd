use Rattle.std.proofs.Common.{ℕ, sym, ap, ◌∙◌, ⊎_elim}
use Rattle.field.specs.Field.{mul, pow}
use Rattle.field.proofs.FieldLaws.{mul_zero_l, mul_zero_r, mul_pow}
use Rattle.field.proofs.arithmetic.product.Goals as goal

pub returns-then-a-eq0 : goal.returns-then-a-eq0
returns-then-a-eq0 c =
    record {
      is_the_product =
          ⊎_elim (λ e. sym (ap (λ x. mul x c.args.b) e ∙ mul_zero_l c.args.b)) (λ h. sym (ap (mul c.args.a) h.1 ∙ mul_zero_r c.args.a))
          c.then-a-eq0.either;
    }

pub returns : goal.returns
returns c =
    let i : ℕ = c.exponent.result in
    let j : ℕ = c.exponent-2.result in
    record {
      is_the_product =
          c.power.ensures.is_the_power ∙ sym (mul_pow i j)
          ∙ ap (λ x. mul x (pow j)) c.exponent.ensures.its_power_is_the_byte ∙ ap (mul c.args.a) c.exponent-2.ensures.its_power_is_the_byte;
    }
