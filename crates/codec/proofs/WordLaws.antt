-- The laws of words: what a changed symbol does to the syndromes, and how near two codewords can be.
use Rattle.std.proofs.Common.{◌≡◌, ℕ, zero, suc, ◌-◌, ◌<◌, ◌≤◌, cond, ltb, ◌≢◌, List, length, get_or, take, sym, refl, ap, ◌∙◌, subst, ⊎_elim, zero-add, arith, lit<, length-set, length-take}
use lib.Bits.{bit_xor, xor_self}
use Rattle.std.proofs.lemmas.Bool.{cases_lt, cond-true, cond_both, lt-ltb}
use Rattle.std.proofs.lemmas.Bool.Decides.{nat_tests}
use Rattle.field.specs.Field.{mul, raise}
use Rattle.codec.specs.Word.{Bytes, distance, locator, coeff, weighted, syndrome, sums, Codeword, corrected, Corrects}
use Rattle.field.proofs.Xor.{xor_eq}
use Rattle.field.proofs.FieldLaws.{mul_one_l, mul_one_r, mul_zero_l, mul_zero_r, pow_lt, pow_nonzero, pow_distinct, raise_lt}
use Rattle.codec.proofs.Sums.{weighted_lt, weighted_agree, weighted_front, weighted_corrected, bytes_take}
use Rattle.codec.proofs.Distance.{factor, equal}

-- ---- locators and weights

locator_lt : (s : ℕ) → locator s < 256
unfolding locator
locator_lt s = pow_lt (67 - s)

locator_nonzero : (s : ℕ) → locator s ≢ 0
unfolding locator
locator_nonzero s = pow_nonzero (67 - s)

locator_apart : (i j : ℕ) → i < j → j < 68 → locator i ≢ locator j
unfolding locator
locator_apart i j l h e = let p : 67 - i ≡ 67 - j = pow_distinct (67 - i) (67 - j) (omega arith) (omega arith) e in omega arith

-- symbol 68 as one more place, with the locator 0
place : ℕ → ℕ
place s = cond (ltb s 68) (locator s) 0

place_low : (s : ℕ) → s < 68 → place s ≡ locator s
unfolding place
place_low s h = cond-true (ltb s 68) (locator s) 0 (lt-ltb s 68 h)

place_68 : place 68 ≡ 0
unfolding place
place_68 = refl

place_lt : (s : ℕ) → place s < 256
unfolding place
place_lt s = cond_both (ltb s 68) (locator s) 0 (λ x. x < 256) (λ e. locator_lt s) (λ e. lit< tt)

place_apart : (i j : ℕ) → i < j → j < 69 → place i ≢ place j
place_apart i j l h e =
    ⊎_elim (λ (m : j < 68). locator_apart i j l m (sym (place_low i (omega arith)) ∙ e ∙ place_low j m))
    (λ (m : 68 ≤ j).
    let j68 : j ≡ 68 = omega arith in
    locator_nonzero i (sym (place_low i (omega arith)) ∙ e ∙ ap place j68 ∙ place_68))
    (cases_lt j 68)

pub coeff_low : (k s : ℕ) → s < 68 → coeff k s ≡ raise (locator s) k
unfolding coeff
coeff_low k s h = rw (lt-ltb s 68 h)

-- symbols 68 and 69 stand in no other sums than S_0 and S_5
coeff_mid : (k s : ℕ) → k < 4 → 68 ≤ s → coeff (suc k) s ≡ 0
unfolding coeff
coeff_mid k s hk hs = grind (arith, nat_tests)

-- a factor of 1 at each place
one : ℕ → ℕ
one i = 1

one_lt : (i : ℕ) → one i < 256
unfolding one
one_lt i = lit< tt

one_nonzero : (i : ℕ) → one i ≢ 0
unfolding one
one_nonzero i e = omega arith

factor_one : (loc : ℕ → ℕ) (k i : ℕ) → factor loc one k i ≡ raise (loc i) k
unfolding factor one
factor_one loc k i = mul_one_l (raise (loc i) k) (raise_lt (loc i) k)

coeff_68 : (k : ℕ) → coeff k 68 ≡ factor place one k 68
unfolding coeff factor place one raise
coeff_68 zero = sym (mul_one_l 1 (lit< tt))
coeff_68 (suc k) = grind (arith, nat_tests, mul_zero_l, mul_zero_r)

coeff_first : (k s : ℕ) → s < 69 → coeff k s ≡ factor place one k s
coeff_first k s hs =
    ⊎_elim (λ (l : s < 68). coeff_low k s l ∙ ap (λ x. raise x k) (sym (place_low s l)) ∙ sym (factor_one place k s))
    (λ (l : 68 ≤ s). let e : s ≡ 68 = omega arith in subst (λ n. coeff k n ≡ factor place one k n) (sym e) (coeff_68 k))
    (cases_lt s 68)

pub coeff_past : (k s : ℕ) → k < 5 → 69 ≤ s → coeff k s ≡ 0
unfolding coeff
coeff_past k s hk hs = grind (arith, nat_tests)

pub mid_sum : (k : ℕ) → k < 4 → (w : List ℕ) → 68 ≤ length w → syndrome (suc k) w ≡ weighted (factor locator locator k) 0 (take 68 w)
unfolding syndrome factor
mid_sum k h w l =
    weighted_front (coeff (suc k)) (factor locator locator k) 68 w l (λ i m. unfold raise in coeff_low (suc k) i m) (λ i m. coeff_mid k i h m)

five_sum : (k : ℕ) → k < 5 → (w : List ℕ) → 69 ≤ length w → syndrome k w ≡ weighted (factor place one k) 0 (take 69 w)
unfolding syndrome
five_sum k h w l = weighted_front (coeff k) (factor place one k) 69 w l (λ i m. coeff_first k i m) (λ i m. coeff_past k i h m)

-- Two words with the same S_1 to S_4 that differ in at most four of the first 68 symbols agree in these.
pub near_first : (u w : List ℕ) → Bytes u → Bytes w → 68 ≤ length u → 68 ≤ length w → distance (take 68 u) (take 68 w) ≤ 4
    → ((k : ℕ) → k < 4 → syndrome (suc k) u ≡ syndrome (suc k) w) → take 68 u ≡ take 68 w
near_first u w bu bw lu lw d h =
    let tu : length (take 68 u) ≡ 68 = simp length-take (omega arith) in
    let tw : length (take 68 w) ≡ 68 = simp length-take (omega arith) in
    equal locator 68 locator_lt locator_apart (take 68 u) (take 68 w) locator 0 4 (bytes_take 68 u bu) (bytes_take 68 w bw) (tu ∙ sym tw) (omega arith)
    locator_lt (λ i l m. locator_nonzero i) d
    (λ k l. sym (mid_sum k l u lu) ∙ h k l ∙ mid_sum k l w lw)

-- Two words with the same S_0 to S_4 that differ in at most five of the first 69 symbols agree in these.
pub near_all : (u w : List ℕ) → Bytes u → Bytes w → 69 ≤ length u → 69 ≤ length w → distance (take 69 u) (take 69 w) ≤ 5
    → ((k : ℕ) → k < 5 → syndrome k u ≡ syndrome k w) → take 69 u ≡ take 69 w
near_all u w bu bw lu lw d h =
    let tu : length (take 69 u) ≡ 69 = simp length-take (omega arith) in
    let tw : length (take 69 w) ≡ 69 = simp length-take (omega arith) in
    equal place 69 place_lt place_apart (take 69 u) (take 69 w) one 0 5 (bytes_take 69 u bu) (bytes_take 69 w bw) (tu ∙ sym tw) (omega arith)
    one_lt (λ i l m. one_nonzero i) d
    (λ k l. sym (five_sum k l u lu) ∙ h k l ∙ five_sum k l w lw)

-- Two lists of 69 symbols with the same six sums that differ in at most six of them agree.
pub near_six : (u w : List ℕ) → Bytes u → Bytes w → length u ≡ 69 → length w ≡ 69 → distance u w ≤ 6
    → ((k : ℕ) → k < 6 → weighted (coeff k) 0 u ≡ weighted (coeff k) 0 w) → u ≡ w
near_six u w bu bw lu lw d h =
    let at : (k : ℕ) (v : List ℕ) → length v ≡ 69 → weighted (coeff k) 0 v ≡ weighted (factor place one k) 0 v =
    λ k v l. weighted_agree (coeff k) (factor place one k) 69 0 v (λ i m. coeff_first k i m) (omega arith) in
    equal place 69 place_lt place_apart u w one 0 6 bu bw (lu ∙ sym lw) (omega arith)
    one_lt (λ i l m. one_nonzero i) d
    (λ k l. sym (at k u lu) ∙ h k l ∙ at k w lw)

-- ---- one changed symbol

pub syndrome_lt : (k : ℕ) (w : List ℕ) → syndrome k w < 256
unfolding syndrome
syndrome_lt k w = weighted_lt (coeff k) 0 w

-- the sums one by one
pub sums_at : (w xs : List ℕ) → xs ≡ sums w → (k : ℕ) → k < 6 → get_or xs k 0 ≡ syndrome k w
unfolding sums
sums_at w xs e zero h = ap (λ ys. get_or ys 0 0) e
sums_at w xs e (suc zero) h = ap (λ ys. get_or ys 1 0) e
sums_at w xs e (suc (suc zero)) h = ap (λ ys. get_or ys 2 0) e
sums_at w xs e (suc (suc (suc zero))) h = ap (λ ys. get_or ys 3 0) e
sums_at w xs e (suc (suc (suc (suc zero)))) h = ap (λ ys. get_or ys 4 0) e
sums_at w xs e (suc (suc (suc (suc (suc zero))))) h = ap (λ ys. get_or ys 5 0) e
sums_at w xs e (suc (suc (suc (suc (suc (suc k)))))) h = absurd (omega arith)

pub syndrome_corrected : (k : ℕ) (w : List ℕ) (s e : ℕ) → s < length w → syndrome k (corrected w s e) ≡ bit_xor (syndrome k w) (mul e (coeff k s))
unfolding syndrome corrected
syndrome_corrected k w s e h = weighted_corrected (coeff k) 0 w s e h ∙ ap (λ n. bit_xor (weighted (coeff k) 0 w) (mul e (coeff k n))) (zero-add s)

pub length_corrected : (w : List ℕ) (s e : ℕ) → length (corrected w s e) ≡ length w
unfolding corrected
length_corrected w s e = length-set w s (bit_xor (get_or w s 0) e)

-- e at symbol s corrects w where each S_k of w is what e at s makes of it
pub corrects_from : (w : List ℕ) (s e : ℕ) → s < length w → ((k : ℕ) → k < length w - 64 → syndrome k w ≡ mul e (coeff k s)) → Codeword (corrected w s e)
unfolding Codeword
corrects_from w s e l h k hk =
    let hk' : k < length w - 64 = omega (arith, length_corrected w s e) in
    syndrome_corrected k w s e l ∙ ap (λ x. bit_xor x (mul e (coeff k s))) (h k hk') ∙ xor_self (mul e (coeff k s))

pub corrects_to : (w : List ℕ) (s e : ℕ) → s < length w → Codeword (corrected w s e) → (k : ℕ) → k < length w - 64 → syndrome k w ≡ mul e (coeff k s)
unfolding Codeword
corrects_to w s e l c k hk =
    xor_eq (syndrome k w) (mul e (coeff k s)) (sym (syndrome_corrected k w s e l) ∙ c k (omega (arith, length_corrected w s e)))

-- ---- the value that corrects

coeff_zero : (s : ℕ) → s < 69 → coeff 0 s ≡ 1
unfolding coeff raise
coeff_zero s h = grind (arith, nat_tests)

pub coeff_five : coeff 5 69 ≡ 1
unfolding coeff
coeff_five = refl

pub value_low : (w : List ℕ) (s e : ℕ) → 69 ≤ length w → s < 69 → Corrects w s e → e ≡ syndrome 0 w
value_low w s e l h m =
    sym (corrects_to w s e m.inside m.codeword 0 (omega arith) ∙ ap (mul e) (coeff_zero s h) ∙ mul_one_r e m.byte)

pub value_last : (w : List ℕ) (s e : ℕ) → length w ≤ 70 → 69 ≤ s → Corrects w s e → e ≡ syndrome 5 w
value_last w s e l h m =
    let i : s < length w = m.inside in
    let s69 : s ≡ 69 = omega arith in
    sym (corrects_to w s e i m.codeword 5 (omega arith) ∙ ap (λ n. mul e (coeff 5 n)) s69 ∙ ap (mul e) coeff_five ∙ mul_one_r e m.byte)
