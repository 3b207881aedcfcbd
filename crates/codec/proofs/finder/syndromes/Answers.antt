use Rattle.std.proofs.Common.{◌≡◌, ℕ, zero, suc, ◌+◌, ◌<◌, ◌≤◌, List, [], ◌∷◌, length, get_or, take, sym, refl, ap, ◌∙◌, subst, ⊎_elim, zero-add, arith, rules}
use lib.Bits.{bit_xor}
use Rattle.std.proofs.lemmas.List.{take_all, ext_get_or}
use Rattle.std.proofs.lemmas.Bool.{cases_lt}
use Rattle.std.specs.Array.{IsFromFnResultFrom}
use denote.Param.Members.{Mut, Called}
use Rattle.field.specs.Field.{mul}
use Rattle.codec.specs.Word.{coeff, weighted, syndrome, sums}
use Rattle.codec.proofs.Sums.{weighted_more}
use Rattle.codec.proofs.WordLaws.{sums_at}
use Rattle.codec.proofs.finder.syndromes.Goals as goal

none : (k : ℕ) → k < 6 → get_or (0 ∷ 0 ∷ 0 ∷ 0 ∷ 0 ∷ 0 ∷ []) k 0 ≡ syndrome k []
unfolding syndrome weighted
none zero h = refl
none (suc zero) h = refl
none (suc (suc zero)) h = refl
none (suc (suc (suc zero))) h = refl
none (suc (suc (suc (suc zero)))) h = refl
none (suc (suc (suc (suc (suc zero))))) h = refl
none (suc (suc (suc (suc (suc (suc k)))))) h = absurd (omega arith)

-- six numbers that are the sums one by one are the sums
all_six : (xs w : List ℕ) → length xs ≡ 6 → ((k : ℕ) → k < 6 → get_or xs k 0 ≡ syndrome k w) → xs ≡ sums w
all_six xs w n h =
    let long : length (sums w) ≡ 6 = unfold sums in refl in
    ext_get_or 0 xs (sums w) (n ∙ sym long) (λ k l. h k (omega arith) ∙ sym (sums_at w (sums w) refl k (omega arith)))

-- an array made by a function of the index holds what the function gives
module _ {F : Type 0} (g : Mut F (ℕ × Unit {0}) ℕ) (f : F) (h : ℕ → ℕ) (gives : (k y : ℕ) (q : F) → Called g f (k, tt) y q → (q ≡ f) × (y ≡ h k)) (ys : List ℕ) where
  made_from : (n i : ℕ) → IsFromFnResultFrom g f ys i n → (k : ℕ) → i ≤ k → k < i + n → get_or ys k 0 ≡ h k
  made_from zero i r k a b = absurd (omega arith)
  made_from (suc n) i r k a b =
      let s = gives i r.1 r.0 r.3 in
      ⊎_elim (λ (l : i < k). made_from n (i + 1) (subst (λ q. IsFromFnResultFrom g q ys (i + 1) n) s.0 r.4) k (omega arith) (omega arith))
      (λ (l : k ≤ i). let e : i ≡ k = omega arith in subst (λ j. get_or ys j 0 ≡ h j) e (r.2.1 0 ∙ s.1))
      (cases_lt i k)

-- one more symbol of w, of which t holds the products
more : (k : ℕ) (w : List ℕ) (s x : ℕ) → s < length w → x ≡ mul (get_or w s 0) (coeff k s) → bit_xor (syndrome k (take s w)) x ≡ syndrome k (take (s + 1) w)
unfolding syndrome
more k w s x h e =
    ap (bit_xor (weighted (coeff k) 0 (take s w))) (e ∙ ap (λ n. mul (get_or w s 0) (coeff k n)) (sym (zero-add s)))
    ∙ sym (weighted_more (coeff k) 0 w s h)

pub loop-s-init : goal.loop-s-init
loop-s-init c = record { six = refl; so_far = none }

pub loop-s-preserved : goal.loop-s-preserved
loop-s-preserved c = record {
  six = c.from_fn-sums.ensures.items.long;
  so_far = λ k h.
      made_from _ _ (λ j. bit_xor (get_or c.loop-s.sums j 0) (get_or c.terms-t.result j 0)) (λ j y q m. search rules) c.from_fn-sums.result 6 0 c.from_fn-sums.ensures.items.each k (omega arith) (omega arith)
      ∙ ap (λ x. bit_xor x (get_or c.terms-t.result k 0)) (c.loop-s.invariant.so_far k h)
      ∙ more k c.args.symbols.now c.loop-s.s _ c.loop-s-test.true (c.terms-t.ensures.are_its_products k h);
}

pub returns : goal.returns
returns c = record {
  are_the_six_sums = all_six c.loop-s.sums c.args.symbols.now c.loop-s.invariant.six
      (λ k h. c.loop-s.invariant.so_far k h ∙ ap (syndrome k) (take_all c.loop-s.s c.args.symbols.now c.loop-s-test.false));
}
