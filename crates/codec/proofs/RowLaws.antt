-- The check of a line by rows of eight bytes: what one more row does to it.
use Rattle.std.proofs.Common.{◌≡◌, ℕ, zero, suc, ◌+◌, ◌-◌, ◌*◌, ◌/◌, ◌%◌, ◌^◌, ◌<◌, ◌≤◌, T, eqb, List, [], ◌∷◌, ◌++◌, length, sym, refl, ap, ◌∙◌, ap₂, add-mul, suc-add, zero-add, arith, lit<, length-append}
use lib.Bits.{bit_xor, xor_shr, xor_mod}
use Rattle.field.specs.Field.{times_z, times_low, mul, pow}
use Rattle.codec.specs.Word.{locator, coeff, weighted}
use Rattle.field.specs.Rows.{lane, packed, share, part, carried, advanced}
use Rattle.field.proofs.Every.{every, same}
use Rattle.field.proofs.Xor.{xors, xor_swap, xor_self_left}
use Rattle.field.proofs.FieldLaws.{mul_lt, mul_xor_l, mul_xor_r, mul_assoc, mul_zero_l, mul_zero_r, mul_one_r, mul_pow, raise_pow}
use Rattle.codec.proofs.Sums.{weighted_append}
use Rattle.codec.proofs.WordLaws.{coeff_low}

-- the first check
unfoldable pub first : ℕ → List ℕ
first x = lane 0 x ∷ lane 1 x ∷ lane 2 x ∷ lane 3 x ∷ []

-- of the two symbols of the second check the one that stands in S_k
unfoldable pub pick : ℕ → ℕ → ℕ → ℕ
pick zero e f = e
pick (suc zero) e f = 0
pick (suc (suc zero)) e f = 0
pick (suc (suc (suc zero))) e f = 0
pick (suc (suc (suc (suc zero)))) e f = 0
pick (suc (suc (suc (suc (suc k))))) e f = f

-- x is the check of the bytes p of a line: with its first check right after p, S_1 to S_4 are zero, and S_0 and S_5 its second check,
-- at the place where p ends
unfoldable pub Checks : List ℕ → ℕ → Type 0
Checks p x =
    (k : ℕ) → k < 6
    → bit_xor (weighted (coeff k) 0 p) (weighted (coeff k) (length p) (first x)) ≡ mul (pick k (lane 4 x) (lane 5 x)) (pow ((64 - length p) * k))

-- ---- bytes of a number

pub lane_xor : (l x y : ℕ) → lane l (bit_xor x y) ≡ bit_xor (lane l x) (lane l y)
unfolding lane
lane_xor zero x y = xor_mod x y 8
lane_xor (suc l) x y = ap (λ n. n % 256) (xor_shr x y (8 * suc l)) ∙ xor_mod (x / 2 ^ (8 * suc l)) (y / 2 ^ (8 * suc l)) 8

last_byte : (c m : ℕ) → c < 256 → (c + m * 256) % 256 ≡ c
last_byte c m h = omega arith

above_1 : (r n : ℕ) → r < 256 → (r + n * 256) / 256 ≡ n
above_1 r n h = omega arith

above_2 : (r n : ℕ) → r < 65536 → (r + n * 65536) / 65536 ≡ n
above_2 r n h = omega arith

above_3 : (r n : ℕ) → r < 16777216 → (r + n * 16777216) / 16777216 ≡ n
above_3 r n h = omega arith

above_4 : (r n : ℕ) → r < 4294967296 → (r + n * 4294967296) / 4294967296 ≡ n
above_4 r n h = omega arith

above_5 : (r n : ℕ) → r < 1099511627776 → (r + n * 1099511627776) / 1099511627776 ≡ n
above_5 r n h = omega arith

module _ (a b c d e f : ℕ) (ha : a < 256) (hb : b < 256) (hc : c < 256) (hd : d < 256) (he : e < 256) (hf : f < 256) where
  packed_first : first (packed a b c d e f) ≡ a ∷ b ∷ c ∷ d ∷ []
  unfolding first lane packed
  packed_first =
      let m1 : ℕ = c + d * 256 + e * 65536 + f * 16777216 in
      let m2 : ℕ = d + e * 256 + f * 65536 in
      let m3 : ℕ = e + f * 256 in
      let s0 : packed a b c d e f ≡ a + (b + m1 * 256) * 256 = omega arith in
      let s2 : packed a b c d e f ≡ (a + b * 256) + (c + m2 * 256) * 65536 = omega arith in
      let s3 : packed a b c d e f ≡ (a + b * 256 + c * 65536) + (d + m3 * 256) * 16777216 = omega arith in
      let p : packed a b c d e f % 256 ≡ a = ap (λ n. n % 256) s0 ∙ last_byte a (b + m1 * 256) ha in
      let q : packed a b c d e f / 256 % 256 ≡ b = ap (λ n. n / 256 % 256) s0 ∙ ap (λ n. n % 256) (above_1 a (b + m1 * 256) ha) ∙ last_byte b m1 hb in
      let r : packed a b c d e f / 65536 % 256 ≡ c = ap (λ n. n / 65536 % 256) s2 ∙ ap (λ n. n % 256) (above_2 (a + b * 256) (c + m2 * 256) (omega arith)) ∙ last_byte c m2 hc in
      let s : packed a b c d e f / 16777216 % 256 ≡ d =
      ap (λ n. n / 16777216 % 256) s3 ∙ ap (λ n. n % 256) (above_3 (a + b * 256 + c * 65536) (d + m3 * 256) (omega arith)) ∙ last_byte d m3 hd in
      cc

  packed_4 : lane 4 (packed a b c d e f) ≡ e
  unfolding lane packed
  packed_4 =
      let s : packed a b c d e f ≡ (a + b * 256 + c * 65536 + d * 16777216) + (e + f * 256) * 4294967296 = omega arith in
      ap (λ n. n / 4294967296 % 256) s ∙ ap (λ n. n % 256) (above_4 (a + b * 256 + c * 65536 + d * 16777216) (e + f * 256) (omega arith)) ∙ last_byte e f he

  packed_5 : lane 5 (packed a b c d e f) ≡ f
  unfolding lane packed
  packed_5 =
      ap (λ n. n % 256) (above_5 (a + b * 256 + c * 65536 + d * 16777216 + e * 4294967296) f (omega arith)) ∙ (let h : f % 256 ≡ f = omega arith in h)

-- ---- what a check of eight bytes, or of none, makes of S_k

-- the weight in S_k of place j of twelve, eight bytes and a first check
local : ℕ → ℕ → ℕ
local k j = pow ((11 - j) * k)

sum : ℕ → ℕ → ℕ
sum k x = bit_xor (weighted (local k) 8 (first x)) (pick k (lane 4 x) (lane 5 x))

pick_xor : (k a b c d : ℕ) → pick k (bit_xor a b) (bit_xor c d) ≡ bit_xor (pick k a c) (pick k b d)
unfolding pick
pick_xor zero a b c d = refl
pick_xor (suc zero) a b c d = refl
pick_xor (suc (suc zero)) a b c d = refl
pick_xor (suc (suc (suc zero))) a b c d = refl
pick_xor (suc (suc (suc (suc zero)))) a b c d = refl
pick_xor (suc (suc (suc (suc (suc k))))) a b c d = refl

pick_mul : (k v e f : ℕ) → pick k (mul v e) (mul v f) ≡ mul v (pick k e f)
unfolding pick
pick_mul zero v e f = refl
pick_mul (suc zero) v e f = sym (mul_zero_r v)
pick_mul (suc (suc zero)) v e f = sym (mul_zero_r v)
pick_mul (suc (suc (suc zero))) v e f = sym (mul_zero_r v)
pick_mul (suc (suc (suc (suc zero)))) v e f = sym (mul_zero_r v)
pick_mul (suc (suc (suc (suc (suc k))))) v e f = refl

first_xor : (g : ℕ → ℕ) (s x y : ℕ) → weighted g s (first (bit_xor x y)) ≡ bit_xor (weighted g s (first x)) (weighted g s (first y))
unfolding weighted first
first_xor g s x y = simp (lane_xor, mul_xor_l, xors)

sum_xor : (k x y : ℕ) → sum k (bit_xor x y) ≡ bit_xor (sum k x) (sum k y)
unfolding sum
sum_xor k x y =
    ap₂ bit_xor (first_xor (local k) 8 x y) (ap₂ (pick k) (lane_xor 4 x y) (lane_xor 5 x y) ∙ pick_xor k (lane 4 x) (lane 4 y) (lane 5 x) (lane 5 y))
    ∙ xor_swap (weighted (local k) 8 (first x)) (weighted (local k) 8 (first y)) (pick k (lane 4 x) (lane 5 x)) (pick k (lane 4 y) (lane 5 y))

-- the shares of byte j undo its weight in each sum: 48 equations, by computing
column : ℕ → ℕ → ℕ
column k j = bit_xor (weighted (local k) 8 (share 0 j ∷ share 1 j ∷ share 2 j ∷ share 3 j ∷ [])) (pick k (share 4 j) (share 5 j))

columns_test : T (every (λ i. eqb (column (i / 8) (i % 8)) (local (i / 8) (i % 8))) 48)
unfolding every column weighted local share pick pow mul times_low times_z
columns_test = tt

columns : (k j : ℕ) → k < 6 → j < 8 → column k j ≡ local k j
columns k j hk hj =
    let q : (8 * k + j) / 8 ≡ k = omega arith in
    let r : (8 * k + j) % 8 ≡ j = omega arith in
    sym (ap₂ column q r) ∙ same (λ i. column (i / 8) (i % 8)) (λ i. local (i / 8) (i % 8)) 48 columns_test (8 * k + j) (omega arith) ∙ ap₂ local q r

four_scaled : (g : ℕ → ℕ) (s v a b c d : ℕ) → weighted g s (mul v a ∷ mul v b ∷ mul v c ∷ mul v d ∷ []) ≡ mul v (weighted g s (a ∷ b ∷ c ∷ d ∷ []))
unfolding weighted
four_scaled g s v a b c d = simp (mul_xor_r, mul_assoc, mul_zero_r)

sum_part : (k j v : ℕ) → k < 6 → j < 8 → sum k (part j v) ≡ mul v (local k j)
unfolding sum part
sum_part k j v hk hj =
    let l : (i : ℕ) → mul v (share i j) < 256 = λ i. mul_lt v (share i j) in
    ap₂ bit_xor
    (ap (weighted (local k) 8) (packed_first _ _ _ _ _ _ (l 0) (l 1) (l 2) (l 3) (l 4) (l 5)) ∙ four_scaled (local k) 8 v (share 0 j) (share 1 j) (share 2 j) (share 3 j))
    (ap₂ (pick k) (packed_4 _ _ _ _ _ _ (l 0) (l 1) (l 2) (l 3) (l 4) (l 5)) (packed_5 _ _ _ _ _ _ (l 0) (l 1) (l 2) (l 3) (l 4) (l 5)) ∙ pick_mul k v (share 4 j) (share 5 j))
    ∙ sym (mul_xor_r v (weighted (local k) 8 (share 0 j ∷ share 1 j ∷ share 2 j ∷ share 3 j ∷ [])) (pick k (share 4 j) (share 5 j)))
    ∙ ap (mul v) (unfold column in columns k j hk hj)

-- the second check of the bytes so far, eight places on
carry_pick : (k e f : ℕ) → k < 6 → e < 256 → pick k e (mul f (pow 40)) ≡ mul (pick k e f) (pow (8 * k))
unfolding pick
carry_pick zero e f h l = sym (unfold pow in mul_one_r e l)
carry_pick (suc zero) e f h l = sym (mul_zero_l (pow 8))
carry_pick (suc (suc zero)) e f h l = sym (mul_zero_l (pow 16))
carry_pick (suc (suc (suc zero))) e f h l = sym (mul_zero_l (pow 24))
carry_pick (suc (suc (suc (suc zero)))) e f h l = sym (mul_zero_l (pow 32))
carry_pick (suc (suc (suc (suc (suc zero))))) e f h l = refl
carry_pick (suc (suc (suc (suc (suc (suc k)))))) e f h l = absurd (omega arith)

four_zero : (g : ℕ → ℕ) (s : ℕ) → weighted g s (0 ∷ 0 ∷ 0 ∷ 0 ∷ []) ≡ 0
unfolding weighted
four_zero g s = simp (mul_zero_l)

sum_carry : (k e f : ℕ) → k < 6 → e < 256 → sum k (packed 0 0 0 0 e (mul f (pow 40))) ≡ mul (pick k e f) (pow (8 * k))
unfolding sum
sum_carry k e f h l =
    let z : 0 < 256 = lit< tt in
    let m = mul_lt f (pow 40) in
    ap₂ bit_xor (ap (weighted (local k) 8) (packed_first 0 0 0 0 e (mul f (pow 40)) z z z z l m) ∙ four_zero (local k) 8)
    (ap₂ (pick k) (packed_4 0 0 0 0 e (mul f (pow 40)) z z z z l m) (packed_5 0 0 0 0 e (mul f (pow 40)) z z z z l m))
    ∙ carry_pick k e f h l

-- ---- one more row

pub lane_lt : (l x : ℕ) → lane l x < 256
unfolding lane
lane_lt zero x = omega arith
lane_lt (suc l) x = let m : ℕ = x / 2 ^ (8 * suc l) in let h : m % 256 < 256 = omega arith in h

-- `advanced`, with the eight bytes by name
stepped : (x s t u v w y z n : ℕ) → ℕ
stepped x s t u v w y z n =
    bit_xor
    (bit_xor (bit_xor (part 0 (bit_xor s (lane 0 x))) (part 1 (bit_xor t (lane 1 x)))) (bit_xor (part 2 (bit_xor u (lane 2 x))) (part 3 (bit_xor v (lane 3 x)))))
    (bit_xor (bit_xor (bit_xor (part 4 w) (part 5 y)) (bit_xor (part 6 z) (part 7 n))) (packed 0 0 0 0 (lane 4 x) (mul (lane 5 x) (pow 40))))

advanced_is : (x s t u v w y z n : ℕ) → advanced x (s ∷ t ∷ u ∷ v ∷ w ∷ y ∷ z ∷ n ∷ []) ≡ stepped x s t u v w y z n
unfolding advanced carried stepped
advanced_is x s t u v w y z n = refl

module _ (k : ℕ) (hk : k < 6) (x s t u v w y z n : ℕ) where
  row_sum : sum k (stepped x s t u v w y z n)
      ≡ bit_xor (bit_xor (weighted (local k) 0 (s ∷ t ∷ u ∷ v ∷ w ∷ y ∷ z ∷ n ∷ [])) (weighted (local k) 0 (first x))) (mul (pick k (lane 4 x) (lane 5 x)) (pow (8 * k)))
  unfolding stepped weighted first
  row_sum =
      let e0 = sum_part k 0 (bit_xor s (lane 0 x)) hk (lit< tt) in
      let e1 = sum_part k 1 (bit_xor t (lane 1 x)) hk (lit< tt) in
      let e2 = sum_part k 2 (bit_xor u (lane 2 x)) hk (lit< tt) in
      let e3 = sum_part k 3 (bit_xor v (lane 3 x)) hk (lit< tt) in
      let e4 = sum_part k 4 w hk (lit< tt) in
      let e5 = sum_part k 5 y hk (lit< tt) in
      let e6 = sum_part k 6 z hk (lit< tt) in
      let e7 = sum_part k 7 n hk (lit< tt) in
      let e8 = sum_carry k (lane 4 x) (lane 5 x) hk (lane_lt 4 x) in
      simp (sum_xor, e0, e1, e2, e3, e4, e5, e6, e7, e8, mul_xor_l, xors)

-- ---- places of a row in the whole line

pub coeff_pow : (k s : ℕ) → s < 68 → coeff k s ≡ pow ((67 - s) * k)
unfolding locator
coeff_pow k s h = coeff_low k s h ∙ raise_pow (67 - s) k

coeff_local : (k m i : ℕ) → m ≤ 56 → i < 12 → coeff k (i + m) ≡ mul (local k i) (pow ((56 - m) * k))
unfolding local
coeff_local k m i hm hi =
    let d : 67 - (i + m) ≡ (11 - i) + (56 - m) = omega arith in
    coeff_pow k (i + m) (omega arith) ∙ ap (λ n. pow (n * k)) d ∙ ap pow (add-mul (11 - i) (56 - m) k) ∙ sym (mul_pow ((11 - i) * k) ((56 - m) * k))

weighted_shift : (g h : ℕ → ℕ) (d q N m : ℕ) (xs : List ℕ) → ((i : ℕ) → i < N → h (i + d) ≡ mul (g i) q) → m + length xs ≤ N → weighted h (m + d) xs ≡ mul (weighted g m xs) q
unfolding weighted
weighted_shift g h d q N m [] e l = sym (mul_zero_l q)
weighted_shift g h d q N m (x ∷ xs) e l =
    ap₂ bit_xor (ap (mul x) (e m (omega arith)) ∙ sym (mul_assoc x (g m) q)) (ap (λ n. weighted h n xs) (sym (suc-add m d)) ∙ weighted_shift g h d q N (suc m) xs e (omega arith))
    ∙ sym (mul_xor_l (mul x (g m)) (weighted g (suc m) xs) q)

xor_last : (a b p r x y : ℕ) → bit_xor a b ≡ bit_xor (bit_xor y x) r → bit_xor p x ≡ r → bit_xor (bit_xor p y) a ≡ b
xor_last a b p r x y h e =
    sym (sym (xor_self_left a b) ∙ ap (bit_xor a) (h ∙ ap (bit_xor (bit_xor y x)) (sym e)) ∙ simp xors)

pub step_law : (x s t u v w y z n : ℕ) (p : List ℕ) → length p ≤ 56 → Checks p x → Checks (p ++ s ∷ t ∷ u ∷ v ∷ w ∷ y ∷ z ∷ n ∷ []) (advanced x (s ∷ t ∷ u ∷ v ∷ w ∷ y ∷ z ∷ n ∷ []))
unfolding Checks
step_law x s t u v w y z n p l c k hk =
    let row : List ℕ = s ∷ t ∷ u ∷ v ∷ w ∷ y ∷ z ∷ n ∷ [] in
    let r : ℕ = advanced x (s ∷ t ∷ u ∷ v ∷ w ∷ y ∷ z ∷ n ∷ []) in
    let m : ℕ = length p in
    let q : ℕ = pow ((56 - m) * k) in
    let lp : length (p ++ row) ≡ 8 + m = simp length-append (omega arith) in
    let at : (i : ℕ) → i < 12 → coeff k (i + m) ≡ mul (local k i) q = λ i h. coeff_local k m i l h in
    let a : weighted (coeff k) (8 + m) (first r) ≡ mul (weighted (local k) 8 (first r)) q = weighted_shift (local k) (coeff k) m q 12 8 (first r) at (unfold first in omega arith) in
    let b : weighted (coeff k) (0 + m) row ≡ mul (weighted (local k) 0 row) q = weighted_shift (local k) (coeff k) m q 12 0 row at (omega arith) in
    let f : weighted (coeff k) (0 + m) (first x) ≡ mul (weighted (local k) 0 (first x)) q = weighted_shift (local k) (coeff k) m q 12 0 (first x) at (unfold first in omega arith) in
    let g : pow ((64 - m) * k) ≡ mul (pow (8 * k)) q =
    let d : 64 - m ≡ 8 + (56 - m) = omega arith in ap (λ i. pow (i * k)) d ∙ ap pow (add-mul 8 (56 - m) k) ∙ sym (mul_pow (8 * k) ((56 - m) * k)) in
    let rs : bit_xor (weighted (local k) 8 (first r)) (pick k (lane 4 r) (lane 5 r))
    ≡ bit_xor (bit_xor (weighted (local k) 0 row) (weighted (local k) 0 (first x))) (mul (pick k (lane 4 x) (lane 5 x)) (pow (8 * k))) =
    unfold sum in ap (sum k) (advanced_is x s t u v w y z n) ∙ row_sum k hk x s t u v w y z n in
    let whole : bit_xor (weighted (coeff k) (8 + m) (first r)) (mul (pick k (lane 4 r) (lane 5 r)) q)
    ≡ bit_xor (bit_xor (weighted (coeff k) (0 + m) row) (weighted (coeff k) (0 + m) (first x))) (mul (pick k (lane 4 x) (lane 5 x)) (pow ((64 - m) * k))) =
    ap (λ i. bit_xor i (mul (pick k (lane 4 r) (lane 5 r)) q)) a ∙ sym (mul_xor_l (weighted (local k) 8 (first r)) (pick k (lane 4 r) (lane 5 r)) q)
    ∙ ap (λ i. mul i q) rs
    ∙ mul_xor_l (bit_xor (weighted (local k) 0 row) (weighted (local k) 0 (first x))) (mul (pick k (lane 4 x) (lane 5 x)) (pow (8 * k))) q
    ∙ ap₂ bit_xor (mul_xor_l (weighted (local k) 0 row) (weighted (local k) 0 (first x)) q ∙ sym (ap₂ bit_xor b f))
    (mul_assoc (pick k (lane 4 x) (lane 5 x)) (pow (8 * k)) q ∙ ap (mul (pick k (lane 4 x) (lane 5 x))) (sym g)) in
    let before : bit_xor (weighted (coeff k) 0 p) (weighted (coeff k) (0 + m) (first x)) ≡ mul (pick k (lane 4 x) (lane 5 x)) (pow ((64 - m) * k)) =
    ap (λ i. bit_xor (weighted (coeff k) 0 p) (weighted (coeff k) i (first x))) (zero-add m) ∙ c k hk in
    let d : 64 - (8 + m) ≡ 56 - m = omega arith in
    ap₂ bit_xor (weighted_append (coeff k) 0 p row) (ap (λ i. weighted (coeff k) i (first r)) lp)
    ∙ xor_last (weighted (coeff k) (8 + m) (first r)) (mul (pick k (lane 4 r) (lane 5 r)) q) (weighted (coeff k) 0 p) (mul (pick k (lane 4 x) (lane 5 x)) (pow ((64 - m) * k)))
    (weighted (coeff k) (0 + m) (first x)) (weighted (coeff k) (0 + m) row) whole before
    ∙ ap (λ i. mul (pick k (lane 4 r) (lane 5 r)) (pow (i * k))) (sym (ap (λ i. 64 - i) lp ∙ d))

pick_none : (k : ℕ) → pick k 0 0 ≡ 0
unfolding pick
pick_none zero = refl
pick_none (suc zero) = refl
pick_none (suc (suc zero)) = refl
pick_none (suc (suc (suc zero))) = refl
pick_none (suc (suc (suc (suc zero)))) = refl
pick_none (suc (suc (suc (suc (suc k))))) = refl

-- no bytes have the check 0
pub no_bytes : Checks [] 0
unfolding Checks first lane weighted
no_bytes k h = four_zero (coeff k) 0 ∙ sym (ap (λ i. mul i (pow (64 * k))) (pick_none k) ∙ mul_zero_l (pow (64 * k)))
