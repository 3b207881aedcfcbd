-- Words near a codeword, and what corrects them.
use Rattle.std.proofs.Common.{◌≡◌, ℕ, zero, suc, ◌+◌, ◌-◌, ◌<◌, ◌≤◌, ◌≢◌, ◌⊎◌, List, [], ◌∷◌, ◌++◌, length, get_or, take, set, Some, None, Option, sym, refl, ap, ◌∙◌, subst, ap₂, inl, inr, ⊎_elim, zero-le, arith, lit≤, length-take, get_or-set_other, get_or-set_same}
use lib.Bits.{bit_xor, xor_lt, xor_zero_r}
use Rattle.std.proofs.lemmas.Bool.{cases_eq}
use Rattle.std.proofs.lemmas.Bool.Decides.{nat_tests}
use Rattle.std.proofs.lemmas.List.{take-take, take_all, take_more}
use Rattle.codec.specs.Word.{Bytes, distance, locator, coeff, weighted, syndrome, Codeword, Consistent, corrected, Corrects, Found}
use Rattle.field.proofs.Xor.{xor_eq, xor_cancel, xor_self_left}
use Rattle.codec.proofs.Sums.{byte_at, bytes_set, weighted_append, weighted_front}
use Rattle.codec.proofs.Distance.{factor, distance_same, distance_differ}
use Rattle.codec.proofs.WordLaws.{near_first, near_all, mid_sum, length_corrected, coeff_five, coeff_past}
use Rattle.field.proofs.FieldLaws.{mul_one_r}
use Rattle.field.specs.Field.{mul}

-- ---- distance

pub distance_none : (w : List ℕ) → distance w w ≡ 0
unfolding distance
distance_none [] = refl
distance_none (x ∷ w) = distance_same x x w w refl ∙ distance_none w

-- one symbol more or less
pub distance_cons : (x y : ℕ) (xs ys : List ℕ) → (distance xs ys ≤ distance (x ∷ xs) (y ∷ ys)) × (distance (x ∷ xs) (y ∷ ys) ≤ suc (distance xs ys))
distance_cons x y xs ys =
    ⊎_elim (λ e. let d = distance_same x y xs ys e in (omega arith, omega arith)) (λ n. let d = distance_differ x y xs ys n in (omega arith, omega arith)) (cases_eq x y)

pub distance_triangle : (u v w : List ℕ) → length u ≡ length v → length v ≡ length w → distance u w ≤ distance u v + distance v w
unfolding distance
distance_triangle [] v w p q = zero-le
distance_triangle (x ∷ u) [] w p q = absurd (omega arith)
distance_triangle (x ∷ u) (y ∷ v) [] p q = zero-le
distance_triangle (x ∷ u) (y ∷ v) (z ∷ w) p q = let ih : distance u w ≤ distance u v + distance v w = distance_triangle u v w (omega arith) (omega arith) in grind (arith, nat_tests)

pub distance_append : (u v xs ys : List ℕ) → length u ≡ length v → distance (u ++ xs) (v ++ ys) ≡ distance u v + distance xs ys
unfolding distance
distance_append [] [] xs ys l = omega arith
distance_append [] (y ∷ v) xs ys l = absurd (omega arith)
distance_append (x ∷ u) [] xs ys l = absurd (omega arith)
distance_append (x ∷ u) (y ∷ v) xs ys l =
    let ih : distance (u ++ xs) (v ++ ys) ≡ distance u v + distance xs ys = distance_append u v xs ys (omega arith) in
    ⊎_elim (λ e. omega (arith, distance_same x y (u ++ xs) (v ++ ys) e, distance_same x y u v e))
    (λ n. omega (arith, distance_differ x y (u ++ xs) (v ++ ys) n, distance_differ x y u v n))
    (cases_eq x y)

pub distance_take : (n : ℕ) (u w : List ℕ) → distance (take n u) (take n w) ≤ distance u w
unfolding distance
distance_take zero u w = zero-le
distance_take (suc n) [] w = zero-le
distance_take (suc n) (x ∷ u) [] = zero-le
distance_take (suc n) (x ∷ u) (y ∷ w) = let ih : distance (take n u) (take n w) ≤ distance u w = distance_take n u w in grind (arith, nat_tests)

distance_set : (w : List ℕ) (s v : ℕ) → distance (set w s v) w ≤ 1
unfolding distance
distance_set [] s v = zero-le
distance_set (x ∷ w) zero v = let d = distance_none w in omega (arith, (distance_cons v x w w).1)
distance_set (x ∷ w) (suc s) v = let d = distance_same x x (set w s v) w refl in omega (arith, distance_set w s v)

-- ---- words near a codeword

pub bytes_corrected : (w : List ℕ) (s e : ℕ) → Bytes w → e < 256 → Bytes (corrected w s e)
unfolding corrected
bytes_corrected w s e b h = bytes_set w s (bit_xor (get_or w s 0) e) b (xor_lt 8 (get_or w s 0) e (byte_at w s b) h)

pub distance_corrected : (w : List ℕ) (s e : ℕ) → distance (corrected w s e) w ≤ 1
unfolding corrected
distance_corrected w s e = distance_set w s (bit_xor (get_or w s 0) e)

distance_back : (w : List ℕ) (s v : ℕ) → distance w (set w s v) ≤ 1
unfolding distance
distance_back [] s v = zero-le
distance_back (x ∷ w) zero v = let d = distance_none w in omega (arith, (distance_cons x v w w).1)
distance_back (x ∷ w) (suc s) v = let d = distance_same x x w (set w s v) refl in omega (arith, distance_back w s v)

pub distance_from : (w : List ℕ) (s e : ℕ) → distance w (corrected w s e) ≤ 1
unfolding corrected
distance_from w s e = distance_back w s (bit_xor (get_or w s 0) e)

pub front : (m n : ℕ) (u w : List ℕ) → m ≤ n → take n u ≡ take n w → take m u ≡ take m w
front m n u w l e = sym (take-take m n u l) ∙ ap (take m) e ∙ take-take m n w l

pub codeword_sums : (w : List ℕ) → 69 ≤ length w → Codeword w → (k : ℕ) → k < 5 → syndrome k w ≡ 0
unfolding Codeword
codeword_sums w l c k h = c k (omega arith)

-- Two codewords of one length that differ in at most five symbols hold the same line.
pub near_codewords : (u w : List ℕ) → Bytes u → Bytes w → 69 ≤ length u → length u ≡ length w → Codeword u → Codeword w → distance u w ≤ 5 → take 64 u ≡ take 64 w
near_codewords u w bu bw l e cu cw d =
    front 64 69 u w (lit≤ tt)
    (near_all u w bu bw l (omega arith) (omega (arith, distance_take 69 u w))
    (λ k h. codeword_sums u l cu k h ∙ sym (codeword_sums w (omega arith) cw k h)))

-- A word with S_1 to S_4 zero within four symbols of a codeword holds its line.
pub near_consistent : (u w : List ℕ) → Bytes u → Bytes w → 69 ≤ length u → length u ≡ length w → Consistent u → Codeword w → distance u w ≤ 4 → take 64 u ≡ take 64 w
unfolding Consistent
near_consistent u w bu bw l e q cw d =
    front 64 68 u w (lit≤ tt)
    (near_first u w bu bw (omega arith) (omega arith) (omega (arith, distance_take 68 u w))
    (λ k h. q (suc k) (omega arith) (omega arith) ∙ sym (codeword_sums w (omega arith) cw (suc k) (omega arith))))

pub distance_zero : (w c : List ℕ) → length w ≡ length c → distance w c ≤ 0 → w ≡ c
distance_zero [] [] l d = refl
distance_zero [] (y ∷ c) l d = absurd (omega arith)
distance_zero (x ∷ w) [] l d = absurd (omega arith)
distance_zero (x ∷ w) (y ∷ c) l d =
    ⊎_elim (λ e. ap₂ ◌∷◌ e (distance_zero w c (omega arith) (omega (arith, distance_same x y w c e))))
    (λ n. absurd (omega (arith, distance_differ x y w c n))) (cases_eq x y)

-- c is w with one symbol changed
pub record Changed (w c : List ℕ) : Type 0 where
  pub place : ℕ
  pub by : ℕ
  pub inside : place < length w
  pub byte : by < 256
  pub changes : by ≢ 0
  pub gives : corrected w place by ≡ c

changed_cons : (x y : ℕ) (w c : List ℕ) → x ≡ y → Changed w c → Changed (x ∷ w) (y ∷ c)
unfolding corrected
changed_cons x y w c e h =
    record { place = suc h.place; by = h.by; inside = let i = h.inside in omega arith; byte = h.byte; changes = h.changes; gives = ap₂ ◌∷◌ e h.gives }

changed_head : (x y : ℕ) (w c : List ℕ) → x < 256 → y < 256 → x ≢ y → w ≡ c → Changed (x ∷ w) (y ∷ c)
unfolding corrected
changed_head x y w c hx hy n e =
    record { place = 0; by = bit_xor x y; inside = omega arith; byte = xor_lt 8 x y hx hy; changes = λ z. n (xor_eq x y z); gives = ap₂ ◌∷◌ (xor_self_left x y) e }

-- Two words that differ in at most one symbol are equal, or one symbol is changed.
pub one_apart : (w c : List ℕ) → Bytes w → Bytes c → length w ≡ length c → distance w c ≤ 1 → (w ≡ c) ⊎ Changed w c
one_apart [] [] bw bc l d = inl refl
one_apart [] (y ∷ c) bw bc l d = absurd (omega arith)
one_apart (x ∷ w) [] bw bc l d = absurd (omega arith)
one_apart (x ∷ w) (y ∷ c) bw bc l d =
    ⊎_elim
    (λ e.
    ⊎_elim (λ t. inl (ap₂ ◌∷◌ e t)) (λ h. inr (changed_cons x y w c e h))
    (one_apart w c bw.1 bc.1 (omega arith) (omega (arith, distance_same x y w c e))))
    (λ n. inr (changed_head x y w c bw.0 bc.0 n (distance_zero w c (omega arith) (omega (arith, distance_differ x y w c n)))))
    (cases_eq x y)

pub corrects_changed : (w c : List ℕ) (h : Changed w c) → Codeword c → Corrects w h.place h.by
corrects_changed w c h k = record { inside = h.inside; byte = h.byte; changes = h.changes; codeword = subst Codeword (sym h.gives) k }

pub consistent_codeword : (w : List ℕ) → 69 ≤ length w → Codeword w → Consistent w
unfolding Consistent
consistent_codeword w l c k a b = codeword_sums w l c k (omega arith)

-- Whether a word is consistent is a matter of its first 68 symbols.
pub consistent_front : (u w : List ℕ) → 68 ≤ length u → 68 ≤ length w → take 68 u ≡ take 68 w → Consistent w → Consistent u
unfolding Consistent
consistent_front u w lu lw same c k l h =
    let s : suc (k - 1) ≡ k = omega arith in
    subst (λ n. syndrome n u ≡ 0) s
    (mid_sum (k - 1) (omega arith) u lu ∙ ap (weighted (factor locator locator (k - 1)) 0) same ∙ sym (mid_sum (k - 1) (omega arith) w lw)
    ∙ c (suc (k - 1)) (omega arith) (omega arith))

-- ---- a line has one check

distance_le : (u w : List ℕ) → distance u w ≤ length u
unfolding distance
distance_le [] w = zero-le
distance_le (x ∷ u) [] = zero-le
distance_le (x ∷ u) (y ∷ w) = omega (arith, distance_le u w, (distance_cons x y u w).1)

pub distance_common : (n : ℕ) (u w : List ℕ) → take n u ≡ take n w → distance u w ≤ length u - n
unfolding distance
distance_common zero u w e = omega (arith, distance_le u w)
distance_common (suc n) [] w e = zero-le
distance_common (suc n) (x ∷ u) [] e = zero-le
distance_common (suc n) (x ∷ u) (y ∷ w) e =
    let h : x ≡ y = cc in
    let t : take n u ≡ take n w = cc in
    omega (arith, distance_same x y u w h, distance_common n u w t)

-- symbol 69 stands in S_5 alone
pub front_five : (k : ℕ) → k < 5 → (v : List ℕ) → 69 ≤ length v → weighted (coeff k) 0 v ≡ weighted (coeff k) 0 (take 69 v)
front_five k h v l = weighted_front (coeff k) (coeff k) 69 v l (λ i m. refl) (λ i m. coeff_past k i h m)

pub last_sum : (u : List ℕ) (x : ℕ) → 0 + length (take 69 u) ≡ 69 → x < 256
    → weighted (coeff 5) 0 (take 69 u ++ x ∷ []) ≡ bit_xor (weighted (coeff 5) 0 (take 69 u)) x
unfolding weighted
last_sum u x t b =
    weighted_append (coeff 5) 0 (take 69 u) (x ∷ [])
    ∙ ap (bit_xor (weighted (coeff 5) 0 (take 69 u)))
    (ap (λ n. bit_xor (mul x (coeff 5 n)) 0) t ∙ xor_zero_r (mul x (coeff 5 69)) ∙ ap (mul x) coeff_five ∙ mul_one_r x b)

-- words that agree in their first 69 symbols and in S_5 agree
pub last_same : (u w : List ℕ) → Bytes u → Bytes w → length u ≡ 70 → length w ≡ 70 → take 69 u ≡ take 69 w → syndrome 5 u ≡ syndrome 5 w → u ≡ w
unfolding syndrome
last_same u w bu bw lu lw t e =
    let su : u ≡ take 69 u ++ get_or u 69 0 ∷ [] = sym (take_all 70 u (omega arith)) ∙ take_more u 69 0 (omega arith) in
    let sw : w ≡ take 69 w ++ get_or w 69 0 ∷ [] = sym (take_all 70 w (omega arith)) ∙ take_more w 69 0 (omega arith) in
    let tu : 0 + length (take 69 u) ≡ 69 = simp length-take (omega arith) in
    let f : bit_xor (weighted (coeff 5) 0 (take 69 u)) (get_or u 69 0) ≡ bit_xor (weighted (coeff 5) 0 (take 69 u)) (get_or w 69 0) =
    sym (last_sum u (get_or u 69 0) tu (byte_at u 69 bu)) ∙ sym (ap (weighted (coeff 5) 0) su) ∙ e ∙ ap (weighted (coeff 5) 0) sw
    ∙ ap (λ xs. weighted (coeff 5) 0 (xs ++ get_or w 69 0 ∷ [])) (sym t) ∙ last_sum u (get_or w 69 0) tu (byte_at w 69 bw) in
    su ∙ ap₂ (λ xs x. xs ++ x ∷ []) t (xor_cancel (weighted (coeff 5) 0 (take 69 u)) (get_or u 69 0) (get_or w 69 0) f) ∙ sym sw

-- A line has one check: codewords of one length with the same line are equal.
pub check_unique : (u w : List ℕ) → Bytes u → Bytes w → (length u ≡ 69) ⊎ (length u ≡ 70) → length u ≡ length w → Codeword u → Codeword w → take 64 u ≡ take 64 w → u ≡ w
unfolding Codeword
check_unique u w bu bw ls e cu cw t =
    let l : 69 ≤ length u = ⊎_elim (λ h. omega arith) (λ h. omega arith) ls in
    let same : (k : ℕ) → k < 5 → syndrome k u ≡ syndrome k w = λ k h. cu k (omega arith) ∙ sym (cw k (omega arith)) in
    let l68 : length (take 68 u) ≡ 68 = simp length-take (omega arith) in
    let l69 : length (take 69 u) ≡ 69 = simp length-take (omega arith) in
    let t64 : take 64 (take 68 u) ≡ take 64 (take 68 w) = take-take 64 68 u (lit≤ tt) ∙ t ∙ sym (take-take 64 68 w (lit≤ tt)) in
    let f68 : take 68 u ≡ take 68 w =
    near_first u w bu bw (omega arith) (omega arith) (omega (arith, distance_common 64 (take 68 u) (take 68 w) t64)) (λ k h. same (suc k) (omega arith)) in
    let t68 : take 68 (take 69 u) ≡ take 68 (take 69 w) = take-take 68 69 u (lit≤ tt) ∙ f68 ∙ sym (take-take 68 69 w (lit≤ tt)) in
    let f69 : take 69 u ≡ take 69 w =
    near_all u w bu bw l (omega arith) (omega (arith, distance_common 68 (take 69 u) (take 69 w) t68)) same in
    ⊎_elim (λ h. sym (take_all 69 u (omega arith)) ∙ f69 ∙ take_all 69 w (omega arith))
    (λ h. last_same u w bu bw h (omega arith) f69 (cu 5 (omega arith) ∙ sym (cw 5 (omega arith))))
    ls

-- ---- one pair at most corrects a word

both_correct : (w : List ℕ) (s e t f : ℕ) → Bytes w → (length w ≡ 69) ⊎ (length w ≡ 70) → Corrects w s e → Corrects w t f → corrected w s e ≡ corrected w t f
both_correct w s e t f b ls m n =
    let u : List ℕ = corrected w s e in
    let v : List ℕ = corrected w t f in
    let lu : length u ≡ length w = length_corrected w s e in
    let lv : length v ≡ length w = length_corrected w t f in
    let bu : Bytes u = bytes_corrected w s e b m.byte in
    let bv : Bytes v = bytes_corrected w t f b n.byte in
    let l : 69 ≤ length u = ⊎_elim (λ h. omega arith) (λ h. omega arith) ls in
    let lsu : (length u ≡ 69) ⊎ (length u ≡ 70) = ⊎_elim (λ h. inl (lu ∙ h)) (λ h. inr (lu ∙ h)) ls in
    let d : distance u v ≤ 2 = omega (arith, distance_triangle u w v lu (sym lv), distance_corrected w s e, distance_from w t f) in
    check_unique u v bu bv lsu (lu ∙ sym lv) m.codeword n.codeword (near_codewords u v bu bv l (lu ∙ sym lv) m.codeword n.codeword (omega arith))

at_both : (w : List ℕ) (s e t f : ℕ) → s < length w → t < length w → e ≢ 0 → corrected w s e ≡ corrected w t f → (s ≡ t) × (e ≡ f)
unfolding corrected
at_both w s e t f hs ht ne same =
    let x : ℕ = get_or w s 0 in
    let y : ℕ = bit_xor (get_or w t 0) f in
    let a : bit_xor x e ≡ get_or (set w t y) s 0 = sym (get_or-set_same w s (bit_xor x e) 0 hs) ∙ ap (λ v. get_or v s 0) same in
    ⊎_elim
    (λ (h : s ≡ t).
    (h, xor_cancel x e f (a ∙ ap (λ i. get_or (set w t y) i 0) h ∙ get_or-set_same w t y 0 ht ∙ ap (λ i. bit_xor (get_or w i 0) f) (sym h))))
    (λ (h : s ≡ t → ⊥). absurd (ne (xor_cancel x e 0 (a ∙ get_or-set_other w t s y 0 h ∙ sym (xor_zero_r x)))))
    (cases_eq s t)

-- One pair at most corrects a word.
pub corrects_unique : (w : List ℕ) (s e t f : ℕ) → Bytes w → (length w ≡ 69) ⊎ (length w ≡ 70) → Corrects w s e → Corrects w t f → (s ≡ t) × (e ≡ f)
corrects_unique w s e t f b ls m n = at_both w s e t f m.inside n.inside m.changes (both_correct w s e t f b ls m n)

-- What is found is determined by the word.
pub found_unique : (w : List ℕ) (p q : Option (ℕ × ℕ)) → Bytes w → (length w ≡ 69) ⊎ (length w ≡ 70) → Found w p → Found w q → p ≡ q
found_unique w None None b ls h k = refl
found_unique w None (Some q) b ls h k = absurd (h q.0 q.1 k)
found_unique w (Some p) None b ls h k = absurd (k p.0 p.1 h)
found_unique w (Some p) (Some q) b ls h k =
    let u = corrects_unique w p.0 p.1 q.0 q.1 b ls h k in ap₂ (λ s e. Some (s, e)) u.0 u.1
