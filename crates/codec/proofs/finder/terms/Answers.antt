use Rattle.std.proofs.Common.{ℕ, ◌<◌, ◌≤◌, get_or, sym, ap, ◌∙◌, arith}
use Rattle.field.specs.Field.{mul}
use Rattle.codec.specs.Word.{coeff}
use Rattle.codec.proofs.PlaceLaws.{term_68, term_69, term_past, term_low}
use Rattle.codec.proofs.finder.terms.Goals as goal

pub returns-in-68 : goal.returns-in-68
returns-in-68 c =
    let v : ℕ = c.args.symbol in
    let l : v < 256 = omega arith in
    record { are_its_products = λ k h. term_68 v k l h ∙ ap (λ n. mul v (coeff k n)) (sym c.in-68.is) }

pub returns-in-69 : goal.returns-in-69
returns-in-69 c =
    let v : ℕ = c.args.symbol in
    let l : v < 256 = omega arith in
    record { are_its_products = λ k h. term_69 v k l h ∙ ap (λ n. mul v (coeff k n)) (sym c.in-69.is) }

pub returns-in-0-to-67 : goal.returns-in-0-to-67
returns-in-0-to-67 c =
    let l : c.args.s < 68 = omega arith in
    record {
      are_its_products = λ k h. ap (λ xs. get_or xs k 0) c.progression.ensures.is_the_byte_times_the_powers ∙ term_low c.args.s c.args.symbol k l h;
    }

pub returns-in_default : goal.returns-in_default
returns-in_default c =
    let l : 70 ≤ c.args.s = omega arith in
    record { are_its_products = λ k h. term_past c.args.s c.args.symbol k l h }
