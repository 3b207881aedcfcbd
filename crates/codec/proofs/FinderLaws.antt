-- The function that finds the pair finds one where there is one.
use Rattle.std.proofs.Common.{◌≡◌, ℕ, zero, suc, ◌+◌, ◌-◌, ◌<◌, ◌≤◌, true, false, not, eqb, ltb, ◌⊎◌, List, length, Some, Option, sym, refl, ap, ◌∙◌, subst, inl, inr, ⊎_elim, zero-add, arith}
use Rattle.std.proofs.lemmas.Bool.{cases_lt, cases_Bool, and_parts, and_from, eqb-true, eqb-false, eq-eqb, ne_eqb, cond-true, cond-false, cond_both, lt-ltb, le-ltb, not-true, not_from_false, both_ways}
use Rattle.field.specs.Field.{mul}
use Rattle.codec.specs.Word.{Bytes, coeff, syndrome, Corrects, Found}
use Rattle.codec.specs.Finder.{value, explained, corrects_at, first_from, single_error}
use Rattle.codec.proofs.WordLaws.{syndrome_lt, corrects_from, corrects_to, value_low, value_last}
use Rattle.codec.proofs.DecodingLaws.{found_unique}

explained_sound : (w : List ℕ) (s e n : ℕ) → explained w s e n ≡ true → (k : ℕ) → k < n → syndrome k w ≡ mul e (coeff k s)
unfolding explained
explained_sound w s e zero t k h = absurd (omega arith)
explained_sound w s e (suc n) t k h =
    let p = and_parts (eqb (syndrome n w) (mul e (coeff n s))) (explained w s e n) t in
    ⊎_elim (λ (l : k < n). explained_sound w s e n p.1 k l)
    (λ (l : n ≤ k). let kn : n ≡ k = omega arith in subst (λ k. syndrome k w ≡ mul e (coeff k s)) kn (eqb-true (syndrome n w) (mul e (coeff n s)) p.0))
    (cases_lt k n)

explained_whole : (w : List ℕ) (s e n : ℕ) → ((k : ℕ) → k < n → syndrome k w ≡ mul e (coeff k s)) → explained w s e n ≡ true
unfolding explained
explained_whole w s e zero h = refl
explained_whole w s e (suc n) h =
    and_from (eqb (syndrome n w) (mul e (coeff n s))) (explained w s e n) (eq-eqb (syndrome n w) (mul e (coeff n s)) (h n (omega arith)))
    (explained_whole w s e n (λ k l. h k (omega arith)))

value_lt : (w : List ℕ) (s : ℕ) → value w s < 256
unfolding value
value_lt w s = cond_both (ltb s 69) (syndrome 0 w) (syndrome 5 w) (λ x. x < 256) (λ t. syndrome_lt 0 w) (λ t. syndrome_lt 5 w)

value_only : (w : List ℕ) (s e : ℕ) → 69 ≤ length w → length w ≤ 70 → Corrects w s e → e ≡ value w s
unfolding value
value_only w s e l h m =
    ⊎_elim (λ (a : s < 69). value_low w s e l a m ∙ sym (cond-true (ltb s 69) (syndrome 0 w) (syndrome 5 w) (lt-ltb s 69 a)))
    (λ (a : 69 ≤ s). value_last w s e h a m ∙ sym (cond-false (ltb s 69) (syndrome 0 w) (syndrome 5 w) (le-ltb s 69 a)))
    (cases_lt s 69)

corrects_at_sound : (w : List ℕ) (s : ℕ) → s < length w → corrects_at w s ≡ true → Corrects w s (value w s)
unfolding corrects_at
corrects_at_sound w s h t =
    let p = and_parts (not (eqb (value w s) 0)) (explained w s (value w s) (length w - 64)) t in
    record {
      inside = h;
      byte = value_lt w s;
      changes = eqb-false (value w s) 0 (not-true (eqb (value w s) 0) p.0);
      codeword = corrects_from w s (value w s) h (explained_sound w s (value w s) (length w - 64) p.1);
    }

corrects_at_whole : (w : List ℕ) (s e : ℕ) → 69 ≤ length w → length w ≤ 70 → Corrects w s e → corrects_at w s ≡ true
unfolding corrects_at
corrects_at_whole w s e l h m =
    let v : e ≡ value w s = value_only w s e l h m in
    let ne : value w s ≡ 0 → ⊥ = λ z. m.changes (v ∙ z) in
    and_from (not (eqb (value w s) 0)) (explained w s (value w s) (length w - 64)) (not_from_false (eqb (value w s) 0) (ne_eqb (value w s) 0 ne))
    (explained_whole w s (value w s) (length w - 64) (λ k a. corrects_to w s e m.inside m.codeword k a ∙ ap (λ x. mul x (coeff k s)) v))

-- nothing before s, and the answer from s on
first_found : (w : List ℕ) (n s : ℕ) → 69 ≤ length w → length w ≤ 70 → s + n ≡ length w → ((t : ℕ) → t < s → (e : ℕ) → Corrects w t e → ⊥) → Found w (first_from w s n)
unfolding first_from
first_found w zero s l h e none = λ t f m. none t (let i = m.inside in omega arith) f m
first_found w (suc n) s l h e none =
    ⊎_elim
    (λ (t : corrects_at w s ≡ true).
    subst (Found w) (sym (cond-true (corrects_at w s) (Some (s, value w s)) (first_from w (suc s) n) t)) (corrects_at_sound w s (omega arith) t))
    (λ (t : corrects_at w s ≡ false).
    subst (Found w) (sym (cond-false (corrects_at w s) (Some (s, value w s)) (first_from w (suc s) n) t))
    (first_found w n (suc s) l h (omega arith)
    (λ i a f m.
    ⊎_elim (λ (b : i < s). none i b f m)
    (λ (b : s ≤ i). let is : i ≡ s = omega arith in both_ways (corrects_at w s) t (corrects_at_whole w s f l h (subst (λ x. Corrects w x f) is m)))
    (cases_lt i s))))
    (cases_Bool (corrects_at w s))

pub single_error_found : (w : List ℕ) → 69 ≤ length w → length w ≤ 70 → Found w (single_error w)
unfolding single_error
single_error_found w l h = first_found w (length w) 0 l h (zero-add (length w)) (λ t a. absurd (omega arith))

-- whatever answers the question is what the function gives
pub single_error_is : (w : List ℕ) (r : Option (ℕ × ℕ)) → Bytes w → 69 ≤ length w → length w ≤ 70 → Found w r → r ≡ single_error w
single_error_is w r b l h f =
    let ls : (length w ≡ 69) ⊎ (length w ≡ 70) = ⊎_elim (λ (a : length w < 70). inl (omega arith)) (λ (a : 70 ≤ length w). inr (omega arith)) (cases_lt (length w) 70) in
    found_unique w r (single_error w) b ls f (single_error_found w l h)
