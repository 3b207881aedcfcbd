-- Two lists that differ in at most n symbols and have n power sums in common are equal.
use Rattle.std.proofs.Common.{◌≡◌, ℕ, suc, ◌+◌, ◌-◌, ◌<◌, ◌≤◌, eqb, ◌≢◌, List, [], ◌∷◌, length, sym, refl, ap, ◌∙◌, subst, ap₂, ⊎_elim, arith}
use lib.Bits.{bit_xor, xor_lt, xor_comm, xor_self, xor_zero_l}
use Rattle.std.proofs.lemmas.Bool.{cases_eq, eq-eqb, ne_eqb, cond-true, cond-false}
use Rattle.field.specs.Field.{mul, raise}
use Rattle.codec.specs.Word.{Bytes, weighted, distance}
use Rattle.field.proofs.Xor.{xor_swap, xor_cancel, xor_eq}
use Rattle.field.proofs.FieldLaws.{mul_lt, mul_comm, mul_assoc, mul_left_comm, mul_xor_l, mul_xor_r, mul_zero_l, mul_zero_r, mul_one_r, mul_cancel, mul_nonzero}

-- the weights g × locator^k, where g gives each place a factor
unfoldable pub factor : (loc g : ℕ → ℕ) → ℕ → ℕ → ℕ
factor loc g k i = mul (g i) (raise (loc i) k)

-- with each symbol's factor multiplied by its locator less r
scaled : (loc g : ℕ → ℕ) → ℕ → ℕ → ℕ
scaled loc g r i = mul (g i) (bit_xor (loc i) r)

scaled_lt : (loc g : ℕ → ℕ) (r i : ℕ) → scaled loc g r i < 256
unfolding scaled
scaled_lt loc g r i = mul_lt (g i) (bit_xor (loc i) r)

scaled_nonzero : (loc g : ℕ → ℕ) (r i : ℕ) → loc i < 256 → r < 256 → g i < 256 → g i ≢ 0 → loc i ≢ r → scaled loc g r i ≢ 0
unfolding scaled
scaled_nonzero loc g r i hl hr hg ng ne =
    mul_nonzero (g i) (bit_xor (loc i) r) hg (xor_lt 8 (loc i) r hl hr) ng (λ z. ne (xor_eq (loc i) r z))

term : (v g x p r : ℕ) → mul v (mul (mul g (bit_xor x r)) p) ≡ bit_xor (mul v (mul g (mul x p))) (mul r (mul v (mul g p)))
term v g x p r = simp (mul_assoc, mul_xor_l, mul_xor_r, mul_left_comm, mul_comm)

scaled_sum : (loc g : ℕ → ℕ) (r k s : ℕ) (vs : List ℕ) → weighted (factor loc (scaled loc g r) k) s vs ≡ bit_xor (weighted (factor loc g (suc k)) s vs) (mul r (weighted (factor loc g k) s vs))
unfolding weighted factor scaled raise
scaled_sum loc g r k s [] = sym (mul_zero_r r)
scaled_sum loc g r k s (v ∷ vs) =
    rw (scaled_sum loc g r k (suc s) vs, term v (g s) (loc s) (raise (loc s) k) r, mul_xor_r r (mul v (factor loc g k s)) (weighted (factor loc g k) (suc s) vs))
    (xor_swap (mul v (mul (g s) (mul (loc s) (raise (loc s) k)))) (mul r (mul v (factor loc g k s))) (weighted (factor loc g (suc k)) (suc s) vs) (mul r (weighted (factor loc g k) (suc s) vs)))

-- the place whose locator is r has no part in the scaled sum
without_head : (loc g : ℕ → ℕ) (k s v : ℕ) (vs : List ℕ) → weighted (factor loc (scaled loc g (loc s)) k) s (v ∷ vs) ≡ weighted (factor loc (scaled loc g (loc s)) k) (suc s) vs
unfolding weighted factor scaled
without_head loc g k s v vs = simp (xor_self, mul_zero_r, mul_zero_l, xor_zero_l)

rest_sum : (loc g : ℕ → ℕ) (k s v : ℕ) (vs : List ℕ) → weighted (factor loc (scaled loc g (loc s)) k) (suc s) vs ≡ bit_xor (weighted (factor loc g (suc k)) s (v ∷ vs)) (mul (loc s) (weighted (factor loc g k) s (v ∷ vs)))
rest_sum loc g k s v vs = sym (without_head loc g k s v vs) ∙ scaled_sum loc g (loc s) k s (v ∷ vs)

pub distance_same : (u w : ℕ) (us ws : List ℕ) → u ≡ w → distance (u ∷ us) (w ∷ ws) ≡ distance us ws
unfolding distance
distance_same u w us ws e = cond-true (eqb u w) (distance us ws) (suc (distance us ws)) (eq-eqb u w e)

pub distance_differ : (u w : ℕ) (us ws : List ℕ) → u ≢ w → distance (u ∷ us) (w ∷ ws) ≡ suc (distance us ws)
unfolding distance
distance_differ u w us ws e = cond-false (eqb u w) (distance us ws) (suc (distance us ws)) (ne_eqb u w e)

-- equal heads can go
tail_sum : (loc g : ℕ → ℕ) (k s u w : ℕ) (us ws : List ℕ) → u ≡ w → weighted (factor loc g k) s (u ∷ us) ≡ weighted (factor loc g k) s (w ∷ ws) → weighted (factor loc g k) (suc s) us ≡ weighted (factor loc g k) (suc s) ws
unfolding weighted
tail_sum loc g k s u w us ws e h =
    xor_cancel (mul u (factor loc g k s)) (weighted (factor loc g k) (suc s) us) (weighted (factor loc g k) (suc s) ws)
    (h ∙ ap (λ x. bit_xor (mul x (factor loc g k s)) (weighted (factor loc g k) (suc s) ws)) (sym e))

-- equal tails can go
head_sum : (loc g : ℕ → ℕ) (s u w : ℕ) (us ws : List ℕ) → g s < 256 → us ≡ ws → weighted (factor loc g 0) s (u ∷ us) ≡ weighted (factor loc g 0) s (w ∷ ws) → mul u (g s) ≡ mul w (g s)
unfolding weighted factor raise
head_sum loc g s u w us ws hg e h =
    let t : ℕ = weighted (factor loc g 0) (suc s) ws in
    let h' : bit_xor (mul u (mul (g s) 1)) t ≡ bit_xor (mul w (mul (g s) 1)) t = ap (λ x. bit_xor (mul u (mul (g s) 1)) (weighted (factor loc g 0) (suc s) x)) (sym e) ∙ h in
    let h'' : bit_xor (mul u (g s)) t ≡ bit_xor (mul w (g s)) t = subst (λ y. bit_xor (mul u y) t ≡ bit_xor (mul w y) t) (mul_one_r (g s) hg) h' in
    xor_cancel t (mul u (g s)) (mul w (g s)) (xor_comm t (mul u (g s)) ∙ h'' ∙ xor_comm (mul w (g s)) t)

module _ (loc : ℕ → ℕ) (N : ℕ) (loc_lt : (i : ℕ) → loc i < 256) (loc_apart : (i j : ℕ) → i < j → j < N → loc i ≢ loc j) where
  pub equal : (us ws : List ℕ) (g : ℕ → ℕ) (s n : ℕ) → Bytes us → Bytes ws → length us ≡ length ws → s + length us ≤ N
      → ((i : ℕ) → g i < 256) → ((i : ℕ) → s ≤ i → i < N → g i ≢ 0)
      → distance us ws ≤ n → ((k : ℕ) → k < n → weighted (factor loc g k) s us ≡ weighted (factor loc g k) s ws) → us ≡ ws
  equal [] [] g s n bu bw el fit gl gn d h = refl
  equal [] (w ∷ ws) g s n bu bw el fit gl gn d h = absurd (omega arith)
  equal (u ∷ us) [] g s n bu bw el fit gl gn d h = absurd (omega arith)
  equal (u ∷ us) (w ∷ ws) g s n bu bw el fit gl gn d h =
      ⊎_elim
      (λ e.
      ap₂ ◌∷◌ e
      (equal us ws g (suc s) n bu.1 bw.1 (omega arith) (omega arith) gl (λ i l. gn i (omega arith))
      (omega (arith, distance_same u w us ws e))
      (λ k l. tail_sum loc g k s u w us ws e (h k l))))
      (λ ne.
      let tails : us ≡ ws =
      equal us ws (scaled loc g (loc s)) (suc s) (n - 1) bu.1 bw.1 (omega arith) (omega arith)
      (scaled_lt loc g (loc s))
      (λ i l m. scaled_nonzero loc g (loc s) i (loc_lt i) (loc_lt s) (gl i) (gn i (omega arith) m) (λ e. loc_apart s i l m (sym e)))
      (omega (arith, distance_differ u w us ws ne))
      (λ k l. rest_sum loc g k s u us ∙ ap₂ (λ x y. bit_xor x (mul (loc s) y)) (h (suc k) (omega arith)) (h k (omega arith)) ∙ sym (rest_sum loc g k s w ws))
      in
      absurd (ne (mul_cancel u w (g s) bu.0 bw.0 (gl s) (gn s (omega arith) (omega arith))
      (head_sum loc g s u w us ws (gl s) tails (h 0 (omega (arith, distance_differ u w us ws ne)))))))
      (cases_eq u w)
