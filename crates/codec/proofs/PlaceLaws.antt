-- What one symbol adds to the sums, and the place that S_0 and S_1 point at.
use Rattle.std.proofs.Common.{◌≡◌, ℕ, zero, suc, ◌+◌, ◌-◌, ◌*◌, ◌%◌, ◌<◌, ◌≤◌, ◌≢◌, ◌⊎◌, [], ◌∷◌, get_or, sym, refl, ap, ◌∙◌, ap₂, inl, inr, ⊎_elim, arith, lit<}
use Rattle.std.proofs.lemmas.Bool.{cases_lt}
use Rattle.std.proofs.lemmas.Bool.Decides.{nat_tests}
use Rattle.field.specs.Field.{mul, pow, raise, terms}
use Rattle.codec.specs.Word.{locator, coeff}
use Rattle.field.proofs.FieldLaws.{mul_zero_r, mul_one_r, mul_pow, pow_mod, pow_lt, pow_nonzero, pow_distinct, mul_cancel_zero}
use Rattle.codec.proofs.RowLaws.{coeff_pow}
use Rattle.codec.proofs.WordLaws.{coeff_low}

-- the products of a symbol that stands in no sum
none : (k : ℕ) → k < 6 → get_or {A = ℕ} (0 ∷ 0 ∷ 0 ∷ 0 ∷ 0 ∷ 0 ∷ []) k 0 ≡ 0
none zero h = refl
none (suc zero) h = refl
none (suc (suc zero)) h = refl
none (suc (suc (suc zero))) h = refl
none (suc (suc (suc (suc zero)))) h = refl
none (suc (suc (suc (suc (suc zero))))) h = refl
none (suc (suc (suc (suc (suc (suc k)))))) h = absurd (omega arith)

coeff_beyond : (k s : ℕ) → 70 ≤ s → coeff k s ≡ 0
unfolding coeff
coeff_beyond k s h = grind (arith, nat_tests)

coeff_power : (k s : ℕ) → s < 68 → coeff k s ≡ raise (pow (67 - s)) k
unfolding locator
coeff_power k s h = coeff_low k s h

pub term_68 : (v k : ℕ) → v < 256 → k < 6 → get_or (v ∷ 0 ∷ 0 ∷ 0 ∷ 0 ∷ 0 ∷ []) k 0 ≡ mul v (coeff k 68)
unfolding coeff
term_68 v zero h l = sym (mul_one_r v h)
term_68 v (suc zero) h l = sym (mul_zero_r v)
term_68 v (suc (suc zero)) h l = sym (mul_zero_r v)
term_68 v (suc (suc (suc zero))) h l = sym (mul_zero_r v)
term_68 v (suc (suc (suc (suc zero)))) h l = sym (mul_zero_r v)
term_68 v (suc (suc (suc (suc (suc zero))))) h l = sym (mul_zero_r v)
term_68 v (suc (suc (suc (suc (suc (suc k)))))) h l = absurd (omega arith)

pub term_69 : (v k : ℕ) → v < 256 → k < 6 → get_or (0 ∷ 0 ∷ 0 ∷ 0 ∷ 0 ∷ v ∷ []) k 0 ≡ mul v (coeff k 69)
unfolding coeff
term_69 v zero h l = sym (mul_zero_r v)
term_69 v (suc zero) h l = sym (mul_zero_r v)
term_69 v (suc (suc zero)) h l = sym (mul_zero_r v)
term_69 v (suc (suc (suc zero))) h l = sym (mul_zero_r v)
term_69 v (suc (suc (suc (suc zero)))) h l = sym (mul_zero_r v)
term_69 v (suc (suc (suc (suc (suc zero))))) h l = sym (mul_one_r v h)
term_69 v (suc (suc (suc (suc (suc (suc k)))))) h l = absurd (omega arith)

pub term_past : (s v k : ℕ) → 70 ≤ s → k < 6 → get_or (0 ∷ 0 ∷ 0 ∷ 0 ∷ 0 ∷ 0 ∷ []) k 0 ≡ mul v (coeff k s)
term_past s v k h l = none k l ∙ sym (ap (mul v) (coeff_beyond k s h) ∙ mul_zero_r v)

-- the byte times the powers of its locator
pub term_low : (s v k : ℕ) → s < 68 → k < 6 → get_or (terms v (67 - s)) k 0 ≡ mul v (coeff k s)
unfolding terms
term_low s v zero h l = ap (mul v) (sym (coeff_power 0 s h))
term_low s v (suc zero) h l = ap (mul v) (sym (coeff_power 1 s h))
term_low s v (suc (suc zero)) h l = ap (mul v) (sym (coeff_power 2 s h))
term_low s v (suc (suc (suc zero))) h l = ap (mul v) (sym (coeff_power 3 s h))
term_low s v (suc (suc (suc (suc zero)))) h l = ap (mul v) (sym (coeff_power 4 s h))
term_low s v (suc (suc (suc (suc (suc zero))))) h l = ap (mul v) (sym (coeff_power 5 s h))
term_low s v (suc (suc (suc (suc (suc (suc k)))))) h l = absurd (omega arith)

-- α^a at symbol s
term_pow : (a s k v : ℕ) → s < 68 → pow a ≡ v → mul v (coeff k s) ≡ pow (a + (67 - s) * k)
term_pow a s k v h e = ap₂ mul (sym e) (coeff_pow k s h) ∙ mul_pow a ((67 - s) * k)

-- ---- the place, from e at symbol s and the sums x = S_0 and y = S_1 that it makes

module _ (s e x y : ℕ) (hs : s < 70) (he : e < 256) (ne : e ≢ 0) (ex : x ≡ mul e (coeff 0 s)) (ey : y ≡ mul e (coeff 1 s)) where
  zero_low : s < 69 → x ≡ e
  zero_low h =
      let z : (67 - s) * 0 ≡ 0 = omega arith in
      let o : pow 0 ≡ 1 = unfold pow in refl in
      ⊎_elim (λ (l : s < 68). ex ∙ ap (mul e) (coeff_pow 0 s l ∙ ap pow z ∙ o) ∙ mul_one_r e he)
      (λ (l : 68 ≤ s). let q : s ≡ 68 = omega arith in ex ∙ ap (λ n. mul e (coeff 0 n)) q ∙ sym (term_68 e 0 he (lit< tt))) (cases_lt s 68)

  zero_69 : s ≡ 69 → x ≡ 0
  zero_69 q = ex ∙ ap (λ n. mul e (coeff 0 n)) q ∙ sym (term_69 e 0 he (lit< tt))

  one_68 : s ≡ 68 → y ≡ 0
  one_68 q = ey ∙ ap (λ n. mul e (coeff 1 n)) q ∙ sym (term_68 e 1 he (lit< tt))

  -- S_0 is zero: symbol 69
  pub place_69 : x ≡ 0 → s ≡ 69
  place_69 z = ⊎_elim (λ (l : s < 69). absurd (ne (sym (zero_low l) ∙ z))) (λ (l : 69 ≤ s). omega arith) (cases_lt s 69)

  -- otherwise s is below 69, and below 68 where S_1 is not zero
  below_69 : x ≢ 0 → s < 69
  below_69 n = ⊎_elim (λ (l : s < 69). l) (λ (l : 69 ≤ s). let q : s ≡ 69 = omega arith in absurd (n (zero_69 q))) (cases_lt s 69)

  below_68 : x ≢ 0 → y ≢ 0 → s < 68
  below_68 n m = ⊎_elim (λ (l : s < 68). l) (λ (l : 68 ≤ s). let b = below_69 n in let q : s ≡ 68 = omega arith in absurd (m (one_68 q))) (cases_lt s 68)

  -- the logarithms a and b of S_0 and S_1 differ by 67 - s, modulo 255
  pub turn : (a b : ℕ) → a < 255 → b < 255 → x ≢ 0 → y ≢ 0 → pow a ≡ x → pow b ≡ y → (s < 68) × (b ≡ (a + (67 - s)) % 255)
  turn a b ha hb n m pa pb =
      let l = below_68 n m in
      let i : pow a ≡ e = pa ∙ zero_low (omega arith) in
      let z : (67 - s) * 1 ≡ 67 - s = omega arith in
      let j : pow b ≡ pow (a + (67 - s)) = pb ∙ ey ∙ term_pow a s 1 e l i ∙ ap (λ t. pow (a + t)) z in
      (l, pow_distinct b ((a + (67 - s)) % 255) hb (omega arith) (j ∙ sym (pow_mod (a + (67 - s)))))

  -- S_1 is zero and S_0 is not: symbol 68
  pub place_68 : x ≢ 0 → y ≡ 0 → s ≡ 68
  place_68 n z =
      let b = below_69 n in
      ⊎_elim
      (λ (l : s < 68).
      absurd (pow_nonzero ((67 - s) * 1) (mul_cancel_zero e (pow ((67 - s) * 1)) he (pow_lt ((67 - s) * 1)) ne (ap (mul e) (sym (coeff_pow 1 s l)) ∙ sym ey ∙ z))))
      (λ (l : 68 ≤ s). omega arith) (cases_lt s 68)

-- the difference of two logarithms, as the code takes it, is that of the place
pub turned_by : (a b s d : ℕ) → a < 255 → b < 255 → s < 68 → b ≡ (a + (67 - s)) % 255
    → ((a ≤ b) × (d ≡ b - a)) ⊎ ((b < a) × (d ≡ b + 255 - a)) → 67 - s ≡ d
turned_by a b s d ha hb hs e (inl h) = let l = h.0 in let p = h.1 in omega arith
turned_by a b s d ha hb hs e (inr h) = let l = h.0 in let p = h.1 in omega arith
