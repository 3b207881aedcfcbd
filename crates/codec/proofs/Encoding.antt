-- The check symbols of a line bring its sums to zero.
use Rattle.std.proofs.Common.{◌≡◌, ℕ, ◌+◌, ◌<◌, ◌≤◌, List, [], ◌∷◌, ◌++◌, length, sym, refl, ap, ◌∙◌, subst, ap₂, ⊎_elim, le_refl, zero-add, arith, length-append}
use Rattle.std.proofs.lemmas.Bool.{cases_eq}
use Rattle.std.proofs.lemmas.Bool.Decides.{nat_tests}
use lib.Bits.{bit_xor, xor_assoc, xor_self, xor_zero_r}
use Rattle.codec.specs.Word.{coeff, weighted, syndrome, Codeword}
use Rattle.field.proofs.FieldLaws.{mul_zero_r, mul_one_r}
use Rattle.codec.proofs.Sums.{weighted_append, weighted_none}

-- ---- the whole word

second : (coeff 0 68 ≡ 1) × (coeff 0 69 ≡ 0) × (coeff 5 68 ≡ 0) × (coeff 5 69 ≡ 1)
unfolding coeff
second = (refl, refl, refl, refl)

last_0 : (e f : ℕ) → e < 256 → weighted (coeff 0) 68 (e ∷ f ∷ []) ≡ e
unfolding weighted
last_0 e f h = simp (second.0, second.1, mul_one_r, mul_zero_r, xor_zero_r, h)

short_0 : (e : ℕ) → e < 256 → weighted (coeff 0) 68 (e ∷ []) ≡ e
unfolding weighted
short_0 e h = simp (second.0, mul_one_r, xor_zero_r, h)

last_5 : (e f : ℕ) → f < 256 → weighted (coeff 5) 68 (e ∷ f ∷ []) ≡ f
unfolding weighted
last_5 e f h = simp (second.2, second.3, mul_one_r, mul_zero_r, xor_zero_r, h)

coeff_check : (k s : ℕ) → 1 ≤ k → k ≤ 4 → 68 ≤ s → coeff k s ≡ 0
unfolding coeff
coeff_check k s l h m = grind (arith, nat_tests)

-- a line with symbols 64 to 67 that undo S_1 to S_4, and symbols 68 and 69 that undo S_0 and S_5
module _ (line first : List ℕ) (e f : ℕ) (le : e < 256) (lf : f < 256) (ll : length line ≡ 64) (l4 : length first ≡ 4)
    (mid : (k : ℕ) → 1 ≤ k → k ≤ 4 → weighted (coeff k) 64 first ≡ syndrome k line)
    (he : e ≡ bit_xor (syndrome 0 line) (weighted (coeff 0) 64 first))
    (hf : f ≡ bit_xor (syndrome 5 line) (weighted (coeff 5) 64 first)) where
  whole : (k : ℕ) (rest : List ℕ) → syndrome k (line ++ (first ++ rest)) ≡ bit_xor (bit_xor (syndrome k line) (weighted (coeff k) 64 first)) (weighted (coeff k) 68 rest)
  unfolding syndrome
  whole k rest =
      weighted_append (coeff k) 0 line (first ++ rest)
      ∙ ap (λ n. bit_xor (weighted (coeff k) 0 line) (weighted (coeff k) n (first ++ rest))) (zero-add (length line) ∙ ll)
      ∙ ap (bit_xor (weighted (coeff k) 0 line)) (weighted_append (coeff k) 64 first rest ∙ ap (λ n. bit_xor (weighted (coeff k) 64 first) (weighted (coeff k) (64 + n) rest)) l4)
      ∙ sym (xor_assoc (weighted (coeff k) 0 line) (weighted (coeff k) 64 first) (weighted (coeff k) 68 rest))

  -- S_1 to S_4, whatever symbols 68 and 69 are
  mid_zero : (k : ℕ) → 1 ≤ k → k ≤ 4 → (rest : List ℕ) → syndrome k (line ++ (first ++ rest)) ≡ 0
  mid_zero k l h rest =
      whole k rest
      ∙ ap₂ bit_xor (ap (bit_xor (syndrome k line)) (mid k l h) ∙ xor_self (syndrome k line)) (weighted_none (coeff k) 68 68 rest (λ i m. coeff_check k i l h m) (le_refl 68))

  -- S_0 and S_5, where the second check adds what they are without it
  end_zero : (k : ℕ) (rest : List ℕ) → weighted (coeff k) 68 rest ≡ bit_xor (syndrome k line) (weighted (coeff k) 64 first) → syndrome k (line ++ (first ++ rest)) ≡ 0
  end_zero k rest h = whole k rest ∙ ap (bit_xor (bit_xor (syndrome k line) (weighted (coeff k) 64 first))) h ∙ xor_self (bit_xor (syndrome k line) (weighted (coeff k) 64 first))

  full_zero : (k : ℕ) → k < 6 → syndrome k (line ++ (first ++ e ∷ f ∷ [])) ≡ 0
  full_zero k h =
      ⊎_elim (λ z. subst (λ n. syndrome n (line ++ (first ++ e ∷ f ∷ [])) ≡ 0) (sym z) (end_zero 0 (e ∷ f ∷ []) (last_0 e f le ∙ he)))
      (λ n.
      ⊎_elim (λ z. subst (λ n. syndrome n (line ++ (first ++ e ∷ f ∷ [])) ≡ 0) (sym z) (end_zero 5 (e ∷ f ∷ []) (last_5 e f lf ∙ hf)))
      (λ m. mid_zero k (omega arith) (omega arith) (e ∷ f ∷ [])) (cases_eq k 5))
      (cases_eq k 0)

  short_zero : (k : ℕ) → k < 5 → syndrome k (line ++ (first ++ e ∷ [])) ≡ 0
  short_zero k h =
      ⊎_elim (λ z. subst (λ n. syndrome n (line ++ (first ++ e ∷ [])) ≡ 0) (sym z) (end_zero 0 (e ∷ []) (short_0 e le ∙ he)))
      (λ n. mid_zero k (omega arith) (omega arith) (e ∷ [])) (cases_eq k 0)

  pub full_codeword : Codeword (line ++ (first ++ e ∷ f ∷ []))
  unfolding Codeword
  full_codeword k h = full_zero k (omega (arith, length-append line (first ++ e ∷ f ∷ []), length-append first (e ∷ f ∷ [])))

  pub short_codeword : Codeword (line ++ (first ++ e ∷ []))
  unfolding Codeword
  short_codeword k h = short_zero k (omega (arith, length-append line (first ++ e ∷ []), length-append first (e ∷ [])))
