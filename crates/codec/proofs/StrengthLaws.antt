-- How far codewords lie apart, and what exactly is found at words with no or one wrong symbol.
use Rattle.std.proofs.Common.{◌≡◌, ℕ, zero, suc, ◌+◌, ◌<◌, ◌≤◌, Bool, true, false, ◌≢◌, ◌⊎◌, List, [], ◌∷◌, ◌++◌, length, get_or, take, sym, refl, ap, ◌∙◌, subst, inl, inr, ⊎_elim, arith, lit<, lit≤, length-append, length-take}
use lib.Bits.{bit_xor, xor_zero_r, xor_comm}
use Rattle.std.proofs.lemmas.Bool.{cases_eq, cases_lt}
use Rattle.std.proofs.lemmas.List.{take_all, take_more}
use Rattle.field.proofs.Xor.{xors, xor_cancel}
use Rattle.codec.specs.declared.word.Finding.TheVariants.{Clean, Corrected, Rebuilt, RebuiltCorrected}
use Rattle.codec.specs.Word.{Bytes, distance, coeff, weighted, syndrome, Codeword, Consistent, corrected, Corrects}
use Rattle.codec.specs.Code.{Decoded, found, uncorrectable, decoding, judging, Decodes, checked, checks, Symbols}
use Rattle.codec.specs.Code as code
use Rattle.codec.specs.Laws.{Apart, ConsistentApart, CorrectedWithin, UncorrectableWithin, RightWithin, RebuiltWithin, DecodesClean, DecodesCorrected, JudgesCorrected}
use Rattle.codec.proofs.Sums.{byte_at, bytes_from, bytes_take}
use Rattle.codec.proofs.WordLaws.{near_first, near_all, near_six, length_corrected}
use Rattle.codec.proofs.DecodingLaws.{distance_append, distance_take, distance_corrected, bytes_corrected, near_codewords, check_unique, consistent_codeword, consistent_front, last_sum, last_same}
use Rattle.codec.proofs.DecodingLaws as near
use Rattle.codec.proofs.Distance.{distance_differ}
use Rattle.codec.proofs.CodeLaws.{laws, right, line_before, bytes_append, checked_bytes, checked_length, checks_are}

-- ---- distances

-- the sums of the first 69 symbols of a full word, less its last symbol's part
front_sum : (u : List ℕ) → Bytes u → length u ≡ 70 → syndrome 5 u ≡ bit_xor (weighted (coeff 5) 0 (take 69 u)) (get_or u 69 0)
unfolding syndrome
front_sum u b l =
    let s : u ≡ take 69 u ++ get_or u 69 0 ∷ [] = sym (take_all 70 u (omega arith)) ∙ take_more u 69 0 (omega arith) in
    let t : 0 + length (take 69 u) ≡ 69 = simp length-take (omega arith) in
    ap (weighted (coeff 5) 0) s ∙ last_sum u (get_or u 69 0) t (byte_at u 69 b)

split : (u w : List ℕ) → length u ≡ 70 → length w ≡ 70 → distance u w ≡ distance (take 69 u) (take 69 w) + distance (get_or u 69 0 ∷ []) (get_or w 69 0 ∷ [])
split u w lu lw =
    let su : take 69 u ++ get_or u 69 0 ∷ [] ≡ u = sym (sym (take_all 70 u (omega arith)) ∙ take_more u 69 0 (omega arith)) in
    let sw : take 69 w ++ get_or w 69 0 ∷ [] ≡ w = sym (sym (take_all 70 w (omega arith)) ∙ take_more w 69 0 (omega arith)) in
    let tu : length (take 69 u) ≡ 69 = simp length-take (omega arith) in
    let tw : length (take 69 w) ≡ 69 = simp length-take (omega arith) in
    sym (ap (λ x. distance x w) su) ∙ ap (distance (take 69 u ++ get_or u 69 0 ∷ [])) (sym sw)
    ∙ distance_append (take 69 u) (take 69 w) (get_or u 69 0 ∷ []) (get_or w 69 0 ∷ []) (tu ∙ sym tw)

one_differs : (x y : ℕ) → x ≢ y → distance (x ∷ []) (y ∷ []) ≡ 1
one_differs x y n = distance_differ x y [] [] n ∙ (unfold distance in refl)

module _ (u w : List ℕ) (bu : Bytes u) (bw : Bytes w) (lu : length u ≡ 70) (lw : length w ≡ 70) (cu : Codeword u) (cw : Codeword w) where
  same_sums : (k : ℕ) → k < 6 → syndrome k u ≡ syndrome k w
  unfolding Codeword
  same_sums k h = cu k (omega arith) ∙ sym (cw k (omega arith))

  tails_sum : get_or u 69 0 ≡ get_or w 69 0 → weighted (coeff 5) 0 (take 69 u) ≡ weighted (coeff 5) 0 (take 69 w)
  tails_sum e =
      xor_cancel (get_or u 69 0) (weighted (coeff 5) 0 (take 69 u)) (weighted (coeff 5) 0 (take 69 w))
      (xor_comm (get_or u 69 0) (weighted (coeff 5) 0 (take 69 u)) ∙ sym (front_sum u bu lu) ∙ same_sums 5 (lit< tt) ∙ front_sum w bw lw
      ∙ xor_comm (weighted (coeff 5) 0 (take 69 w)) (get_or w 69 0) ∙ ap (λ x. bit_xor x (weighted (coeff 5) 0 (take 69 w))) (sym e))

  low_sum : (k : ℕ) → k < 5 → (v : List ℕ) → length v ≡ 70 → syndrome k v ≡ weighted (coeff k) 0 (take 69 v)
  unfolding syndrome
  low_sum k h v l = near.front_five k h v (omega arith)

  front_sums : get_or u 69 0 ≡ get_or w 69 0 → (k : ℕ) → k < 6 → weighted (coeff k) 0 (take 69 u) ≡ weighted (coeff k) 0 (take 69 w)
  front_sums e k h =
      ⊎_elim (λ (l : k < 5). sym (low_sum k l u lu) ∙ same_sums k h ∙ low_sum k l w lw)
      (λ (l : 5 ≤ k). let k5 : 5 ≡ k = omega arith in subst (λ n. weighted (coeff n) 0 (take 69 u) ≡ weighted (coeff n) 0 (take 69 w)) k5 (tails_sum e))
      (cases_lt k 5)

  front_same : distance u w ≤ 6 → take 69 u ≡ take 69 w
  front_same d =
      let tu : length (take 69 u) ≡ 69 = simp length-take (omega arith) in
      let tw : length (take 69 w) ≡ 69 = simp length-take (omega arith) in
      ⊎_elim
      (λ e. near_six (take 69 u) (take 69 w) (bytes_take 69 u bu) (bytes_take 69 w bw) tu tw (omega (arith, distance_take 69 u w)) (front_sums e))
      (λ n. near_all u w bu bw (omega arith) (omega arith) (omega (arith, split u w lu lw, one_differs (get_or u 69 0) (get_or w 69 0) n)) (λ k h. same_sums k (omega arith)))
      (cases_eq (get_or u 69 0) (get_or w 69 0))

  full_same : distance u w ≤ 6 → u ≡ w
  full_same d = last_same u w bu bw lu lw (front_same d) (same_sums 5 (lit< tt))

pub apart_full : (n : ℕ) → n ≤ 7 → Apart false n
apart_full n b u w hu hw cu cw ne =
    ⊎_elim (λ (l : distance u w < 7). absurd (ne (full_same u w (bytes_from u hu.small) (bytes_from w hw.small) hu.count hw.count cu cw (omega arith))))
    (λ (l : 7 ≤ distance u w). omega arith) (cases_lt (distance u w) 7)

pub apart_short : (n : ℕ) → n ≤ 6 → Apart true n
apart_short n b u w hu hw cu cw ne =
    let bu : Bytes u = bytes_from u hu.small in
    let bw : Bytes w = bytes_from w hw.small in
    let lu = hu.count in
    let e : length u ≡ length w = hu.count ∙ sym hw.count in
    ⊎_elim
    (λ (l : distance u w < 6).
    absurd (ne (check_unique u w bu bw (inl lu) e cu cw (near_codewords u w bu bw (omega arith) e cu cw (omega arith)))))
    (λ (l : 6 ≤ distance u w). omega arith) (cases_lt (distance u w) 6)

pub consistent_apart : (short : Bool) (n : ℕ) → n ≤ 5 → ConsistentApart short n
unfolding Consistent
consistent_apart short n b u w hu hw cu cw ne =
    let lu : 68 ≤ length u = ⊎_elim (λ t. omega (arith, hu.count)) (λ t. omega (arith, hu.count)) (checks_are short) in
    let lw : 68 ≤ length w = ⊎_elim (λ t. omega (arith, hw.count)) (λ t. omega (arith, hw.count)) (checks_are short) in
    ⊎_elim
    (λ (l : distance (take 68 u) (take 68 w) < 5).
    absurd
    (ne
    (near_first u w (bytes_from u hu.small) (bytes_from w hw.small) lu lw (omega arith)
    (λ k h. cu (suc k) (omega arith) (omega arith) ∙ sym (cw (suc k) (omega arith) (omega arith))))))
    (λ (l : 5 ≤ distance (take 68 u) (take 68 w)). omega arith) (cases_lt (distance (take 68 u) (take 68 w)) 5)

-- ---- one changed symbol

corrected_back : (v : List ℕ) (s e : ℕ) → corrected (corrected v s e) s e ≡ v
unfolding corrected
corrected_back [] s e = refl
corrected_back (x ∷ v) zero e = ap (λ y. y ∷ v) (simp xors)
corrected_back (x ∷ v) (suc s) e = ap (λ ys. x ∷ ys) (corrected_back v s e)

-- a change of 0 only is none
no_change : (n : ℕ) (v : List ℕ) (s e : ℕ) → s < n → s < length v → take n (corrected v s e) ≡ take n v → e ≡ 0
unfolding corrected
no_change zero v s e h l p = absurd (omega arith)
no_change (suc n) [] s e h l p = absurd (omega arith)
no_change (suc n) (x ∷ v) zero e h l p = let q : bit_xor x e ≡ x = cc in xor_cancel x e 0 (q ∙ sym (xor_zero_r x))
no_change (suc n) (x ∷ v) (suc s) e h l p = no_change n v s e (omega arith) (omega arith) (cc)

module _ (short : Bool) (l : List ℕ) (h : Symbols 64 l) where
  v : List ℕ
  v = l ++ checked short l

  bytes_v : Bytes v
  unfolding v
  bytes_v = bytes_append l (checked short l) (bytes_from l h.small) (checked_bytes short l)

  length_v : length v ≡ 64 + checks short
  unfolding v
  length_v = length-append l (checked short l) ∙ ap (λ n. n + length (checked short l)) h.count ∙ ap (λ n. 64 + n) (checked_length short l)

  sizes : (length v ≡ 69) ⊎ (length v ≡ 70)
  sizes = ⊎_elim (λ t. inl (omega (arith, length_v))) (λ t. inr (omega (arith, length_v))) (checks_are short)

  low : 69 ≤ length v
  low = ⊎_elim (λ t. omega arith) (λ t. omega arith) sizes

  high : length v ≤ 70
  high = ⊎_elim (λ t. omega arith) (λ t. omega arith) sizes

  codeword_v : Codeword v
  unfolding v
  codeword_v = laws.fits short l h

  line_v : take 64 v ≡ l
  unfolding v
  line_v = line_before l (checked short l) h.count

  module _ (w : List ℕ) (hw : Symbols (64 + checks short) w) where
    long : length w ≡ length v
    long = hw.count ∙ sym length_v

    low_w : 69 ≤ length w
    low_w = let a = low in let b = long in omega arith

    high_w : length w ≤ 70
    high_w = let a = high in let b = long in omega arith

    clean_by : take 68 w ≡ take 68 v → decoding w ≡ found l Clean
    clean_by same =
        sym (laws.decodes_only w (found (take 64 w) Clean) hw.small low_w high_w
        (code.Decodes.clean (consistent_front w v (let a = low_w in omega arith) (let a = low in omega arith) same (consistent_codeword v low codeword_v))))
        ∙ ap (λ x. found x Clean) (near.front 64 68 w v (lit≤ tt) same ∙ line_v)

    nothing_by : 1 < distance w v → distance w v ≤ 4 → take 68 w ≢ take 68 v → (r : Decoded) → Decodes w r → r ≡ uncorrectable
    unfolding Consistent
    nothing_by g d ne r (code.Decodes.clean q) =
        let c = consistent_codeword v low codeword_v in
        absurd
        (ne
        (near_first w v (bytes_from w hw.small) bytes_v (let a = low_w in omega arith) (let a = low in omega arith) (omega (arith, distance_take 68 w v))
        (λ k m. q (suc k) (omega arith) (omega arith) ∙ sym (c (suc k) (omega arith) (omega arith)))))
    nothing_by g d ne r (code.Decodes.one_off n s e m) =
        let u : List ℕ = corrected w s e in
        let bw : Bytes w = bytes_from w hw.small in
        let lu : length u ≡ length w = length_corrected w s e in
        let bu : Bytes u = bytes_corrected w s e bw m.byte in
        let t : distance u v ≤ 5 = omega (arith, distance_corrected w s e, near.distance_triangle u w v lu long) in
        let same : u ≡ v =
        check_unique u v bu bytes_v (⊎_elim (λ z. inl (lu ∙ long ∙ z)) (λ z. inr (lu ∙ long ∙ z)) sizes) (lu ∙ long) m.codeword codeword_v
        (near_codewords u v bu bytes_v (let a = low_w in omega arith) (lu ∙ long) m.codeword codeword_v t) in
        let one : distance w v ≤ 1 = subst (λ x. distance w x ≤ 1) same (near.distance_from w s e) in
        absurd (omega arith)
    nothing_by g d ne r (code.Decodes.beyond n f) = refl

  pub judges_rebuilt : judging (l ++ checked short l) ≡ found l Rebuilt
  unfolding v
  judges_rebuilt =
      sym (laws.judges_only v (found (take 64 v) Rebuilt) (λ k. byte_at v k bytes_v) low high (code.Judges.whole codeword_v))
      ∙ ap (λ x. found x Rebuilt) line_v

  module _ (s e : ℕ) (inside : s < length v) (byte : e < 256) (changes : e ≢ 0) where
    w : List ℕ
    w = corrected v s e

    length_w : length w ≡ length v
    unfolding w
    length_w = length_corrected v s e

    bytes_w : Bytes w
    unfolding w
    bytes_w = bytes_corrected v s e bytes_v byte

    near_v : distance w v ≤ 1
    unfolding w
    near_v = distance_corrected v s e

    back : corrected w s e ≡ v
    unfolding w
    back = corrected_back v s e

    corrects : Corrects w s e
    corrects = record { inside = omega (arith, length_w); byte = byte; changes = changes; codeword = subst Codeword (sym back) codeword_v }

    inconsistent : s < 68 → Consistent w → ⊥
    unfolding Consistent w
    inconsistent b q =
        let c = consistent_codeword v low codeword_v in
        let same : take 68 w ≡ take 68 v =
        near_first w v bytes_w bytes_v (omega (arith, length_w, low)) (omega (arith, low)) (omega (arith, near_v, distance_take 68 w v))
        (λ k m. q (suc k) (omega arith) (omega arith) ∙ sym (c (suc k) (omega arith) (omega arith))) in
        changes (no_change 68 v s e b inside same)

    no_codeword : Codeword w → ⊥
    unfolding w
    no_codeword c =
        let same : w ≡ v =
        check_unique w v bytes_w bytes_v (⊎_elim (λ t. inl (length_w ∙ t)) (λ t. inr (length_w ∙ t)) sizes) length_w c codeword_v
        (near_codewords w v bytes_w bytes_v (omega (arith, length_w, low)) length_w c codeword_v (omega (arith, near_v))) in
        changes (no_change (length v) v s e inside inside (ap (take (length v)) same))

    one_wrong : s < 68 → decoding w ≡ found l (Corrected (s, e))
    one_wrong b =
        sym (laws.decodes_only w (found (take 64 (corrected w s e)) (Corrected (s, e))) (λ k. byte_at w k bytes_w) (omega (arith, length_w, low)) (omega (arith, length_w, high))
        (code.Decodes.one_off (inconsistent b) s e corrects))
        ∙ ap (λ x. found (take 64 x) (Corrected (s, e))) back ∙ ap (λ x. found x (Corrected (s, e))) line_v

    one_wrong_rebuilt : judging w ≡ found l (RebuiltCorrected (s, e))
    one_wrong_rebuilt =
        sym (laws.judges_only w (found (take 64 (corrected w s e)) (RebuiltCorrected (s, e))) (λ k. byte_at w k bytes_w) (omega (arith, length_w, low))
        (omega (arith, length_w, high)) (code.Judges.one_off no_codeword s e corrects))
        ∙ ap (λ x. found (take 64 x) (RebuiltCorrected (s, e))) back ∙ ap (λ x. found x (RebuiltCorrected (s, e))) line_v

pub decodes_clean : (short : Bool) → DecodesClean short
unfolding v
decodes_clean short l w h hw same = clean_by short l h w hw same

pub decodes_corrected : (short : Bool) → DecodesCorrected short
unfolding w v
decodes_corrected short l s e h b byte changes = one_wrong short l h s e (let f = low short l h in omega arith) byte changes b

pub judges_corrected : (short : Bool) → JudgesCorrected short
unfolding w v
judges_corrected short l s e h b byte changes = one_wrong_rebuilt short l h s e (let f = length_v short l h in omega arith) byte changes

-- ---- numbers of symbols up to which each law holds

pub corrected_within : (short : Bool) (n : ℕ) → n ≤ 1 → CorrectedWithin short n
corrected_within short n b l l' c' hl hl' hc d = laws.near short l l' c' hl hl' hc (omega arith)

pub uncorrectable_within : (short : Bool) (n : ℕ) → n ≤ 4 → UncorrectableWithin short n
unfolding v
uncorrectable_within short n b l w h hw g d ne =
    nothing_by short l h w hw g (omega arith) ne (decoding w) (laws.decodes w (low_w short l h w hw) (high_w short l h w hw))

pub right_within : (short : Bool) (n : ℕ) → n ≤ 4 → RightWithin short n
right_within short n b l l' c' hl hl' hc d = right short l l' c' hl hl' hc (omega arith)

pub rebuilt_within : (short : Bool) (n : ℕ) → n ≤ 1 → RebuiltWithin short n
rebuilt_within short n b l c' hl hc d = laws.rebuilt short l c' hl hc (omega arith)
