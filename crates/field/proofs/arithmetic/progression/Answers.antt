use Rattle.std.proofs.Common.{◌≡◌, ℕ, ◌+◌, ◌*◌, [], ◌∷◌, sym, ap, ◌∙◌, ap₂, arith}
use Rattle.field.specs.Field.{mul, pow, raise, terms}
use Rattle.field.proofs.FieldLaws.{mul_zero_l, mul_pow, raise_pow}
use Rattle.field.proofs.arithmetic.progression.Goals as goal

none : (a t : ℕ) → a ≡ 0 → (0 ∷ 0 ∷ 0 ∷ 0 ∷ 0 ∷ 0 ∷ []) ≡ terms a t
unfolding terms
none a t e = sym (ap (λ x. terms x t) e ∙ simp mul_zero_l)

-- α^i times the k-th power of α^t
term : (i t k n a : ℕ) → pow i ≡ a → n ≡ i + t * k → pow n ≡ mul a (raise (pow t) k)
term i t k n a e p = ap pow p ∙ sym (ap₂ mul (sym e) (raise_pow t k) ∙ mul_pow i (t * k))

some : (a t i b c d e f : ℕ) → pow i ≡ a
    → b ≡ pow (i + t) → c ≡ pow (i + 2 * t) → d ≡ pow (i + 3 * t) → e ≡ pow (i + 4 * t) → f ≡ pow (i + 5 * t)
    → (a ∷ b ∷ c ∷ d ∷ e ∷ f ∷ []) ≡ terms a t
unfolding terms
some a t i b c d e f p pb pc pd pe pf =
    let q0 = term i t 0 i a p (omega arith) in
    let q1 = term i t 1 (i + t) a p (omega arith) in
    let q2 = term i t 2 (i + 2 * t) a p (omega arith) in
    let q3 = term i t 3 (i + 3 * t) a p (omega arith) in
    let q4 = term i t 4 (i + 4 * t) a p (omega arith) in
    let q5 = term i t 5 (i + 5 * t) a p (omega arith) in
    cc

pub returns-then-a-eq0 : goal.returns-then-a-eq0
returns-then-a-eq0 c = record { is_the_byte_times_the_powers = none c.args.a c.args.t c.if-a-eq0.true }

pub returns : goal.returns
returns c =
    record {
      is_the_byte_times_the_powers =
          some c.args.a c.args.t c.exponent-i.result _ _ _ _ _ c.exponent-i.ensures.its_power_is_the_byte
          c.power.ensures.is_the_power c.power-2.ensures.is_the_power c.power-3.ensures.is_the_power c.power-4.ensures.is_the_power
          c.power-5.ensures.is_the_power;
    }
