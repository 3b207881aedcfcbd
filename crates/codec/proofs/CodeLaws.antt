-- The laws of the code.
use Rattle.std.proofs.Common.{◌≡◌, ℕ, zero, suc, ◌+◌, ◌-◌, ◌<◌, ◌≤◌, Bool, true, false, eqb, ◌≢◌, ◌⊎◌, List, [], ◌∷◌, ◌++◌, length, get_or, take, set, Some, None, Option, sym, refl, ap, ◌∙◌, subst, ap₂, inl, inr, ⊎_elim, arith, lit≤, length-append, length-take}
use lib.Bits.{bit_xor}
use lib.Seq.{take-append-le}
use Rattle.std.proofs.lemmas.Bool.{cases_eq, cases_lt, cases_Bool, and_parts, and_from, eqb-true, eq-eqb, cond-true, cond-false, both_ways}
use Rattle.std.proofs.lemmas.Bool.Decides.{nat_tests}
use Rattle.std.proofs.lemmas.List.{append_cancel_left, take_all}
use Rattle.codec.specs.declared.word.Finding.{Finding}
use Rattle.codec.specs.declared.word.Finding.TheVariants.{Clean, Corrected, Rebuilt, RebuiltCorrected}
use Rattle.codec.specs.Word.{Bytes, distance, syndrome, Codeword, Consistent, corrected, Corrects, Found}
use Rattle.codec.specs.Finder.{single_error}
use Rattle.codec.specs.Check.{check}
use Rattle.codec.specs.Code.{Decoded, found, uncorrectable, line_of, corrected_by, vanish, codeword, consistent, decoding, judging, Decodes, Judges, checked, checks, Symbols}
use Rattle.codec.specs.Laws.{CorrectedWithin, DetectedWithin, RightWithin, RebuiltWithin, Laws}
use Rattle.codec.specs.Code as code
use Rattle.codec.proofs.Sums.{bytes_from, bytes_take}
use Rattle.codec.proofs.Distance.{distance_same, distance_differ}
use Rattle.codec.proofs.WordLaws.{length_corrected}
use Rattle.codec.proofs.DecodingLaws.{distance_none, distance_append, distance_triangle, distance_corrected, bytes_corrected, near_codewords, near_consistent, one_apart, corrects_changed, consistent_codeword, check_unique}
use Rattle.codec.proofs.FinderLaws.{single_error_found, single_error_is}
use Rattle.codec.proofs.PointsShown.{points}
use Rattle.codec.proofs.CheckLaws.{check_six, check_bytes, check_full, check_short}

-- ---- lists

pub bytes_append : (xs ys : List ℕ) → Bytes xs → Bytes ys → Bytes (xs ++ ys)
bytes_append [] ys bx by = by
bytes_append (x ∷ xs) ys bx by = (bx.0, bytes_append xs ys bx.1 by)

bytes : (n : ℕ) (w : List ℕ) → Symbols n w → Bytes w
bytes n w h = bytes_from w h.small

distance_swap : (u w : List ℕ) → length u ≡ length w → distance u w ≡ distance w u
unfolding distance
distance_swap [] [] l = refl
distance_swap [] (y ∷ w) l = absurd (omega arith)
distance_swap (x ∷ u) [] l = absurd (omega arith)
distance_swap (x ∷ u) (y ∷ w) l =
    let ih : distance u w ≡ distance w u = distance_swap u w (omega arith) in
    ⊎_elim (λ e. distance_same x y u w e ∙ ih ∙ sym (distance_same y x w u (sym e)))
    (λ n. distance_differ x y u w n ∙ ap suc ih ∙ sym (distance_differ y x w u (λ e. n (sym e))))
    (cases_eq x y)

pub line_before : (l c : List ℕ) → length l ≡ 64 → take 64 (l ++ c) ≡ l
line_before l c h = take-append-le 64 l c (omega arith) ∙ take_all 64 l (omega arith)

-- the first n symbols of a corrected word
pub take_corrected_inside : (n : ℕ) (w : List ℕ) (s e : ℕ) → s < n → take n (corrected w s e) ≡ set (take n w) s (bit_xor (get_or (take n w) s 0) e)
unfolding corrected
take_corrected_inside zero w s e h = absurd (omega arith)
take_corrected_inside (suc n) [] s e h = refl
take_corrected_inside (suc n) (x ∷ w) zero e h = refl
take_corrected_inside (suc n) (x ∷ w) (suc s) e h = ap (λ t. x ∷ t) (take_corrected_inside n w s e (omega arith))

pub take_corrected_past : (n : ℕ) (w : List ℕ) (s e : ℕ) → n ≤ s → take n (corrected w s e) ≡ take n w
unfolding corrected
take_corrected_past zero w s e h = refl
take_corrected_past (suc n) [] s e h = refl
take_corrected_past (suc n) (x ∷ w) zero e h = absurd (omega arith)
take_corrected_past (suc n) (x ∷ w) (suc s) e h = ap (λ t. x ∷ t) (take_corrected_past n w s e (omega arith))

-- ---- the check

pub checked_bytes : (short : Bool) (l : List ℕ) → Bytes (checked short l)
checked_bytes true l = bytes_take 5 (check l) (check_bytes l)
checked_bytes false l = check_bytes l

pub checked_length : (short : Bool) (l : List ℕ) → length (checked short l) ≡ checks short
checked_length true l = simp length-take (omega (arith, check_six l))
checked_length false l = check_six l

pub checks_are : (short : Bool) → (checks short ≡ 5) ⊎ (checks short ≡ 6)
checks_are true = inl refl
checks_are false = inr refl

fits : (short : Bool) (l : List ℕ) → length l ≡ 64 → Codeword (l ++ checked short l)
fits true l h = check_short l h
fits false l h = check_full l h

only : (short : Bool) (l c : List ℕ) → Symbols 64 l → Symbols (checks short) c → Codeword (l ++ c) → c ≡ checked short l
only short l c hl hc k =
    let m : length l ≡ 64 = hl.count in
    let n : length c ≡ checks short = hc.count in
    let o : length (checked short l) ≡ checks short = checked_length short l in
    let u : length (l ++ c) ≡ length l + length c = length-append l c in
    let v : length (l ++ checked short l) ≡ length l + length (checked short l) = length-append l (checked short l) in
    append_cancel_left l c (checked short l)
    (check_unique (l ++ c) (l ++ checked short l) (bytes_append l c (bytes 64 l hl) (bytes (checks short) c hc))
    (bytes_append l (checked short l) (bytes 64 l hl) (checked_bytes short l))
    (⊎_elim (λ t. inl (omega arith)) (λ t. inr (omega arith)) (checks_are short))
    (omega arith) k (fits short l m) (line_before l c m ∙ sym (line_before l (checked short l) m)))

-- ---- decoding and judging

consistent_sums : (w : List ℕ) → consistent w ≡ true → (syndrome 1 w ≡ 0) × (syndrome 2 w ≡ 0) × (syndrome 3 w ≡ 0) × (syndrome 4 w ≡ 0)
unfolding consistent
consistent_sums w t = (grind (arith, nat_tests), grind (arith, nat_tests), grind (arith, nat_tests), grind (arith, nat_tests))

pub consistent_sound : (w : List ℕ) → consistent w ≡ true → Consistent w
unfolding Consistent
consistent_sound w t zero l h = absurd (omega arith)
consistent_sound w t (suc zero) l h = (consistent_sums w t).0
consistent_sound w t (suc (suc zero)) l h = (consistent_sums w t).1
consistent_sound w t (suc (suc (suc zero))) l h = (consistent_sums w t).2
consistent_sound w t (suc (suc (suc (suc zero)))) l h = (consistent_sums w t).3
consistent_sound w t (suc (suc (suc (suc (suc k))))) l h = absurd (omega arith)

pub consistent_whole : (w : List ℕ) → Consistent w → consistent w ≡ true
unfolding Consistent consistent
consistent_whole w q =
    let a = q 1 (lit≤ tt) (lit≤ tt) in
    let b = q 2 (lit≤ tt) (lit≤ tt) in
    let c = q 3 (lit≤ tt) (lit≤ tt) in
    let d = q 4 (lit≤ tt) (lit≤ tt) in
    grind (arith, nat_tests)

consistent_not : (w : List ℕ) → (Consistent w → ⊥) → consistent w ≡ false
consistent_not w n = ⊎_elim (λ t. absurd (n (consistent_sound w t))) (λ f. f) (cases_Bool (consistent w))

vanish_sound : (n : ℕ) (w : List ℕ) → vanish n w ≡ true → (k : ℕ) → k < n → syndrome k w ≡ 0
unfolding vanish
vanish_sound zero w t k h = absurd (omega arith)
vanish_sound (suc n) w t k h =
    let p = and_parts (eqb (syndrome n w) 0) (vanish n w) t in
    ⊎_elim (λ (l : k < n). vanish_sound n w p.1 k l)
    (λ (l : n ≤ k). let e : n ≡ k = omega arith in subst (λ i. syndrome i w ≡ 0) e (eqb-true (syndrome n w) 0 p.0))
    (cases_lt k n)

vanish_whole : (n : ℕ) (w : List ℕ) → ((k : ℕ) → k < n → syndrome k w ≡ 0) → vanish n w ≡ true
unfolding vanish
vanish_whole zero w h = refl
vanish_whole (suc n) w h =
    and_from (eqb (syndrome n w) 0) (vanish n w) (eq-eqb (syndrome n w) 0 (h n (omega arith))) (vanish_whole n w (λ k l. h k (omega arith)))

pub codeword_sound : (w : List ℕ) → codeword w ≡ true → Codeword w
unfolding Codeword codeword
codeword_sound w t = vanish_sound (length w - 64) w t

pub codeword_whole : (w : List ℕ) → Codeword w → codeword w ≡ true
unfolding Codeword codeword
codeword_whole w c = vanish_whole (length w - 64) w c

codeword_not : (w : List ℕ) → (Codeword w → ⊥) → codeword w ≡ false
codeword_not w n = ⊎_elim (λ t. absurd (n (codeword_sound w t))) (λ f. f) (cases_Bool (codeword w))

decodes_by : (w : List ℕ) (o : Option (ℕ × ℕ)) → (Consistent w → ⊥) → Found w o → Decodes w (corrected_by Corrected w o)
decodes_by w None n f = code.Decodes.beyond n f
decodes_by w (Some p) n f = code.Decodes.one_off n p.0 p.1 f

decodes : (w : List ℕ) → 69 ≤ length w → length w ≤ 70 → Decodes w (decoding w)
unfolding decoding
decodes w l h =
    ⊎_elim (λ t. subst (Decodes w) (sym (cond-true (consistent w) (found (line_of w) Clean) (corrected_by Corrected w (single_error w)) t)) (code.Decodes.clean (consistent_sound w t)))
    (λ t.
    subst (Decodes w) (sym (cond-false (consistent w) (found (line_of w) Clean) (corrected_by Corrected w (single_error w)) t))
    (decodes_by w (single_error w) (λ q. both_ways (consistent w) t (consistent_whole w q)) (single_error_found w l h)))
    (cases_Bool (consistent w))

decodes_only : (w : List ℕ) (r : Decoded) → ((k : ℕ) → get_or w k 0 < 256) → 69 ≤ length w → length w ≤ 70 → Decodes w r → r ≡ decoding w
unfolding decoding
decodes_only w r b l h (code.Decodes.clean q) = sym (cond-true (consistent w) (found (line_of w) Clean) (corrected_by Corrected w (single_error w)) (consistent_whole w q))
decodes_only w r b l h (code.Decodes.one_off n s e m) =
    ap (corrected_by Corrected w) (single_error_is w (Some (s, e)) (bytes_from w b) l h m)
    ∙ sym (cond-false (consistent w) (found (line_of w) Clean) (corrected_by Corrected w (single_error w)) (consistent_not w n))
decodes_only w r b l h (code.Decodes.beyond n f) =
    ap (corrected_by Corrected w) (single_error_is w None (bytes_from w b) l h f)
    ∙ sym (cond-false (consistent w) (found (line_of w) Clean) (corrected_by Corrected w (single_error w)) (consistent_not w n))

judges_by : (w : List ℕ) (o : Option (ℕ × ℕ)) → (Codeword w → ⊥) → Found w o → Judges w (corrected_by RebuiltCorrected w o)
judges_by w None n f = code.Judges.beyond n f
judges_by w (Some p) n f = code.Judges.one_off n p.0 p.1 f

judges : (w : List ℕ) → 69 ≤ length w → length w ≤ 70 → Judges w (judging w)
unfolding judging
judges w l h =
    ⊎_elim
    (λ t.
    subst (Judges w) (sym (cond-true (codeword w) (found (line_of w) Rebuilt) (corrected_by RebuiltCorrected w (single_error w)) t))
    (code.Judges.whole (codeword_sound w t)))
    (λ t.
    subst (Judges w) (sym (cond-false (codeword w) (found (line_of w) Rebuilt) (corrected_by RebuiltCorrected w (single_error w)) t))
    (judges_by w (single_error w) (λ q. both_ways (codeword w) t (codeword_whole w q)) (single_error_found w l h)))
    (cases_Bool (codeword w))

judges_only : (w : List ℕ) (r : Decoded) → ((k : ℕ) → get_or w k 0 < 256) → 69 ≤ length w → length w ≤ 70 → Judges w r → r ≡ judging w
unfolding judging
judges_only w r b l h (code.Judges.whole q) =
    sym (cond-true (codeword w) (found (line_of w) Rebuilt) (corrected_by RebuiltCorrected w (single_error w)) (codeword_whole w q))
judges_only w r b l h (code.Judges.one_off n s e m) =
    ap (corrected_by RebuiltCorrected w) (single_error_is w (Some (s, e)) (bytes_from w b) l h m)
    ∙ sym (cond-false (codeword w) (found (line_of w) Rebuilt) (corrected_by RebuiltCorrected w (single_error w)) (codeword_not w n))
judges_only w r b l h (code.Judges.beyond n f) =
    ap (corrected_by RebuiltCorrected w) (single_error_is w None (bytes_from w b) l h f)
    ∙ sym (cond-false (codeword w) (found (line_of w) Rebuilt) (corrected_by RebuiltCorrected w (single_error w)) (codeword_not w n))

-- ---- a word near the codeword of a line

module _ (short : Bool) (l l' c' : List ℕ) (hl : Symbols 64 l) (hl' : Symbols 64 l') (hc : Symbols (checks short) c') where
  -- the word shown, and the codeword
  w : List ℕ
  w = l' ++ c'

  v : List ℕ
  v = l ++ checked short l

  bytes_w : Bytes w
  unfolding w
  bytes_w = bytes_append l' c' (bytes 64 l' hl') (bytes (checks short) c' hc)

  bytes_v : Bytes v
  unfolding v
  bytes_v = bytes_append l (checked short l) (bytes 64 l hl) (checked_bytes short l)

  length_w : length w ≡ 64 + checks short
  unfolding w
  length_w = length-append l' c' ∙ ap₂ ◌+◌ hl'.count hc.count

  length_v : length v ≡ 64 + checks short
  unfolding v
  length_v = length-append l (checked short l) ∙ ap₂ ◌+◌ hl.count (checked_length short l)

  same_length : length w ≡ length v
  same_length = length_w ∙ sym length_v

  low : 69 ≤ length w
  low = ⊎_elim (λ t. omega (arith, length_w)) (λ t. omega (arith, length_w)) (checks_are short)

  high : length w ≤ 70
  high = ⊎_elim (λ t. omega (arith, length_w)) (λ t. omega (arith, length_w)) (checks_are short)

  sizes : (length w ≡ 69) ⊎ (length w ≡ 70)
  sizes = ⊎_elim (λ t. inl (omega (arith, length_w))) (λ t. inr (omega (arith, length_w))) (checks_are short)

  codeword_v : Codeword v
  unfolding v
  codeword_v = fits short l hl.count

  line_v : take 64 v ≡ l
  unfolding v
  line_v = line_before l (checked short l) hl.count

  line_w : take 64 w ≡ l'
  unfolding w
  line_w = line_before l' c' hl'.count

  apart : distance w v ≡ distance l l' + distance (checked short l) c'
  unfolding w v
  apart =
      distance_append l' l c' (checked short l) (hl'.count ∙ sym hl.count)
      ∙ ap₂ ◌+◌ (distance_swap l' l (hl'.count ∙ sym hl.count)) (distance_swap c' (checked short l) (hc.count ∙ sym (checked_length short l)))

  module _ (s e : ℕ) (m : Corrects w s e) where
    u : List ℕ
    u = corrected w s e

    length_u : length u ≡ length w
    unfolding u
    length_u = length_corrected w s e

    bytes_u : Bytes u
    unfolding u
    bytes_u = bytes_corrected w s e bytes_w m.byte

    codeword_u : Codeword u
    unfolding u
    codeword_u = m.codeword

    near_u : distance u w ≤ 1
    unfolding u
    near_u = distance_corrected w s e

    -- a word within four symbols of the codeword is corrected to its line
    corrects_line : distance w v ≤ 4 → take 64 u ≡ l
    corrects_line d =
        near_codewords u v bytes_u bytes_v (omega (arith, low, length_u)) (length_u ∙ same_length) codeword_u codeword_v
        (omega (arith, near_u, distance_triangle u w v length_u same_length))
        ∙ line_v

    -- and to the codeword itself, which is then one symbol off
    corrects_near : distance w v ≤ 4 → distance w v ≤ 1
    corrects_near d =
        let same : u ≡ v =
        check_unique u v bytes_u bytes_v (⊎_elim (λ t. inl (length_u ∙ t)) (λ t. inr (length_u ∙ t)) sizes) (length_u ∙ same_length) codeword_u codeword_v (corrects_line d ∙ sym line_v) in
        subst (λ n. n ≤ 1) (distance_swap v w (sym same_length)) (subst (λ x. distance x w ≤ 1) same near_u)

  near_decoding : (r : Decoded) → Decodes w r → distance w v ≤ 1 → (f : Finding) × (r ≡ found l f)
  near_decoding r (code.Decodes.clean q) d =
      (Clean, ap (λ x. found x Clean) (near_consistent w v bytes_w bytes_v low same_length q codeword_v (omega arith) ∙ line_v))
  near_decoding r (code.Decodes.one_off n s e m) d = (Corrected (s, e), ap (λ x. found x (Corrected (s, e))) (unfold u in corrects_line s e m (omega arith)))
  near_decoding r (code.Decodes.beyond n f) d =
      absurd
      (⊎_elim (λ t. n (consistent_codeword w low (subst Codeword (sym t) codeword_v))) (λ t. f t.place t.by (corrects_changed w v t codeword_v)) (one_apart w v bytes_w bytes_v same_length d))

  right_decoding : (r : Decoded) → Decodes w r → distance w v ≤ 4 → (r ≡ uncorrectable) ⊎ ((f : Finding) × (r ≡ found l f))
  right_decoding r (code.Decodes.clean q) d =
      inr (Clean, ap (λ x. found x Clean) (near_consistent w v bytes_w bytes_v low same_length q codeword_v d ∙ line_v))
  right_decoding r (code.Decodes.one_off n s e m) d = inr (Corrected (s, e), ap (λ x. found x (Corrected (s, e))) (unfold u in corrects_line s e m d))
  right_decoding r (code.Decodes.beyond n f) d = inl refl

  far_decoding : (r : Decoded) → Decodes w r → 1 < distance w v → distance w v ≤ 4 → l ≢ l' → r ≡ uncorrectable
  far_decoding r (code.Decodes.clean q) g d ne = absurd (ne (sym (sym line_w ∙ near_consistent w v bytes_w bytes_v low same_length q codeword_v d ∙ line_v)))
  far_decoding r (code.Decodes.one_off n s e m) g d ne = absurd (omega (arith, corrects_near s e m d))
  far_decoding r (code.Decodes.beyond n f) g d ne = refl

  near_rebuilt : (r : Decoded) → Judges w r → distance w v ≤ 1 → l' ≡ l → (f : Finding) × (r ≡ found l f)
  near_rebuilt r (code.Judges.whole k) d same = (Rebuilt, ap (λ x. found x Rebuilt) (line_w ∙ same))
  near_rebuilt r (code.Judges.one_off n s e m) d same = (RebuiltCorrected (s, e), ap (λ x. found x (RebuiltCorrected (s, e))) (unfold u in corrects_line s e m (omega arith)))
  near_rebuilt r (code.Judges.beyond n f) d same =
      absurd
      (⊎_elim (λ t. n (subst Codeword (sym t) codeword_v)) (λ t. f t.place t.by (corrects_changed w v t codeword_v)) (one_apart w v bytes_w bytes_v same_length d))

near : (short : Bool) → CorrectedWithin short 1
unfolding w
near short l l' c' hl hl' hc d =
    near_decoding short l l' c' hl hl' hc (decoding (l' ++ c')) (decodes (l' ++ c') (low short l l' c' hl hl' hc) (high short l l' c' hl hl' hc))
    (omega (arith, apart short l l' c' hl hl' hc))

pub right : (short : Bool) → RightWithin short 4
unfolding w
right short l l' c' hl hl' hc d =
    right_decoding short l l' c' hl hl' hc (decoding (l' ++ c')) (decodes (l' ++ c') (low short l l' c' hl hl' hc) (high short l l' c' hl hl' hc))
    (omega (arith, apart short l l' c' hl hl' hc))

far : (short : Bool) → DetectedWithin short 4
unfolding w
far short l l' c' hl hl' hc g d one =
    far_decoding short l l' c' hl hl' hc (decoding (l' ++ c')) (decodes (l' ++ c') (low short l l' c' hl hl' hc) (high short l l' c' hl hl' hc))
    (omega (arith, apart short l l' c' hl hl' hc)) (omega (arith, apart short l l' c' hl hl' hc))
    (λ e. let z : distance l l' ≡ 0 = ap (distance l) (sym e) ∙ distance_none l in omega arith)

rebuilt : (short : Bool) → RebuiltWithin short 1
unfolding w
rebuilt short l c' hl hc d =
    near_rebuilt short l l c' hl hl hc (judging (l ++ c')) (judges (l ++ c') (low short l l c' hl hl hc) (high short l l c' hl hl hc))
    (omega (arith, apart short l l c' hl hl hc, distance_none l)) refl

pub laws : Laws
laws =
    record {
      six = λ l h. check_six l;
      zero_check = points.zero_line_has_check_zero;
      fits = λ short l h. fits short l h.count;
      only = only;
      decodes = decodes;
      decodes_only = decodes_only;
      judges = judges;
      judges_only = judges_only;
      near = near;
      far = far;
      rebuilt = rebuilt;
    }
