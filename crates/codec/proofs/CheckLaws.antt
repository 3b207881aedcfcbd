-- A line with its check is a codeword, full and short, and with no other check.
use Rattle.std.proofs.Common.{◌≡◌, ℕ, zero, suc, ◌+◌, ◌-◌, ◌*◌, ◌<◌, ◌≤◌, List, [], ◌∷◌, ◌++◌, length, get_or, take, sym, refl, ap, ◌∙◌, ap₂, zero-add, arith}
use native.Mathlib.Nat as nat
use lib.Bits.{bit_xor}
use Rattle.field.specs.Field.{times_z, times_low, mul, pow, raise}
use Rattle.codec.specs.Word.{Bytes, locator, coeff, weighted, syndrome, Codeword}
use Rattle.codec.specs.Check.{turned, remainder, share, first_check, check}
use Rattle.field.proofs.Xor.{xors}
use Rattle.field.proofs.FieldLaws.{mul_comm, mul_assoc, mul_left_comm, mul_xor_l, mul_xor_r, mul_zero_l, mul_one_l, mul_pow, raise_pow}
use Rattle.codec.proofs.Sums.{weighted_lt, weighted_append}
use Rattle.codec.proofs.WordLaws.{coeff_low}
use Rattle.codec.proofs.Encoding.{full_codeword, short_codeword}

-- a z^3 + b z^2 + c z + d, where p, q, r, s stand for z^3, z^2, z and 1
abbrev valued : (p q r s a b c d : ℕ) → ℕ
valued p q r s a b c d = bit_xor (mul a p) (bit_xor (mul b q) (bit_xor (mul c r) (mul d s)))

spread : (p q r s a b c d : ℕ)
    → valued p q r s (bit_xor b (mul a 30)) (bit_xor c (mul a 216)) (bit_xor d (mul a 231)) (mul a 116)
    ≡ bit_xor (mul a (valued p q r s 30 216 231 116)) (bit_xor (mul b p) (bit_xor (mul c q) (mul d r)))
spread p q r s a b c d = simp (mul_xor_l, mul_xor_r, mul_assoc, mul_comm, mul_left_comm, xors)

gathered : (x p q r s a b c d : ℕ) → bit_xor (mul a (mul x p)) (bit_xor (mul b (mul x q)) (bit_xor (mul c (mul x r)) (mul d (mul x s)))) ≡ mul x (valued p q r s a b c d)
gathered x p q r s a b c d = simp (mul_xor_r, mul_comm, mul_left_comm)

-- what p, q, r, s and x are at z = α^k: x is z, and the polynomial is zero there
record Root (k x p q r s : ℕ) : Type 0 where
  at_64 : coeff k 64 ≡ p
  at_65 : coeff k 65 ≡ q
  at_66 : coeff k 66 ≡ r
  at_67 : coeff k 67 ≡ s
  one : s ≡ 1
  up_s : r ≡ mul x s
  up_r : q ≡ mul x r
  up_q : p ≡ mul x q
  root : valued p q r s 30 216 231 116 ≡ mul x p
  is : x ≡ pow k

root_1 : Root 1 2 8 4 2 1
unfolding coeff raise locator pow times_z mul times_low
root_1 = record { at_64 = refl; at_65 = refl; at_66 = refl; at_67 = refl; one = refl; up_s = refl; up_r = refl; up_q = refl; root = refl; is = refl }

root_2 : Root 2 4 64 16 4 1
unfolding coeff raise locator pow times_z mul times_low
root_2 = record { at_64 = refl; at_65 = refl; at_66 = refl; at_67 = refl; one = refl; up_s = refl; up_r = refl; up_q = refl; root = refl; is = refl }

root_3 : Root 3 8 58 64 8 1
unfolding coeff raise locator pow times_z mul times_low
root_3 = record { at_64 = refl; at_65 = refl; at_66 = refl; at_67 = refl; one = refl; up_s = refl; up_r = refl; up_q = refl; root = refl; is = refl }

root_4 : Root 4 16 205 29 16 1
unfolding coeff raise locator pow times_z mul times_low
root_4 = record { at_64 = refl; at_65 = refl; at_66 = refl; at_67 = refl; one = refl; up_s = refl; up_r = refl; up_q = refl; root = refl; is = refl }

module _ (k x p q r s : ℕ) (h : Root k x p q r s) where
  value : List ℕ → ℕ
  value v = valued p q r s (get_or v 0 0) (get_or v 1 0) (get_or v 2 0) (get_or v 3 0)

  turned_value : (v : List ℕ) → value (turned v) ≡ mul x (value v)
  unfolding value turned
  turned_value v =
      let a : ℕ = get_or v 0 0 in
      let b : ℕ = get_or v 1 0 in
      let c : ℕ = get_or v 2 0 in
      let d : ℕ = get_or v 3 0 in
      spread p q r s a b c d
      ∙ ap (λ n. bit_xor (mul a n) (bit_xor (mul b p) (bit_xor (mul c q) (mul d r)))) h.root
      ∙ ap (λ n. bit_xor (mul a (mul x p)) (bit_xor (mul b n) (bit_xor (mul c q) (mul d r)))) h.up_q
      ∙ ap (λ n. bit_xor (mul a (mul x p)) (bit_xor (mul b (mul x q)) (bit_xor (mul c n) (mul d r)))) h.up_r
      ∙ ap (λ n. bit_xor (mul a (mul x p)) (bit_xor (mul b (mul x q)) (bit_xor (mul c (mul x r)) (mul d n)))) h.up_s
      ∙ gathered x p q r s a b c d

  -- the remainder of z^n has the value of z^n
  remainder_value : (n : ℕ) → value (remainder n) ≡ pow (n * k)
  unfolding remainder
  remainder_value zero =
      unfold value pow in simp (mul_zero_l, xors) (mul_one_l s (omega (arith, h.one)) ∙ h.one ∙ sym (ap pow (nat.zero-mul k)))
  remainder_value (suc n) =
      turned_value (remainder n) ∙ ap₂ mul h.is (remainder_value n) ∙ mul_pow k (n * k) ∙ ap pow (nat.add_comm k (n * k) ∙ sym (nat.suc-mul n k))

  share_value : (i : ℕ) → i < 68 → valued p q r s (share 0 i) (share 1 i) (share 2 i) (share 3 i) ≡ coeff k i
  unfolding share value locator
  share_value i l = remainder_value (67 - i) ∙ sym (coeff_low k i l ∙ raise_pow (67 - i) k)

  linear : (v a b c d e f g j : ℕ)
      → valued p q r s (bit_xor (mul v a) e) (bit_xor (mul v b) f) (bit_xor (mul v c) g) (bit_xor (mul v d) j)
      ≡ bit_xor (mul v (valued p q r s a b c d)) (valued p q r s e f g j)
  linear v a b c d e f g j = simp (mul_xor_l, mul_xor_r, mul_assoc, mul_comm, mul_left_comm, xors)

  shares_from : (n : ℕ) (xs : List ℕ) → n + length xs ≤ 68
      → valued p q r s (weighted (share 0) n xs) (weighted (share 1) n xs) (weighted (share 2) n xs) (weighted (share 3) n xs) ≡ weighted (coeff k) n xs
  unfolding weighted
  shares_from n [] l = simp (mul_zero_l, xors)
  shares_from n (v ∷ xs) l =
      linear v (share 0 n) (share 1 n) (share 2 n) (share 3 n) _ _ _ _
      ∙ ap₂ (λ a b. bit_xor (mul v a) b) (share_value n (omega arith)) (shares_from (suc n) xs (omega arith))

  first_sum : (line : List ℕ) → length line ≡ 64 → weighted (coeff k) 64 (first_check line) ≡ syndrome k line
  unfolding first_check syndrome
  first_sum line l =
      unfold weighted in rw (h.at_64, h.at_65, h.at_66, h.at_67) (simp xors (simp xors at (shares_from 0 line (omega arith))))

mid : (line : List ℕ) → length line ≡ 64 → (k : ℕ) → 1 ≤ k → k ≤ 4 → weighted (coeff k) 64 (first_check line) ≡ syndrome k line
mid line l zero a b = absurd (omega arith)
mid line l (suc zero) a b = first_sum 1 2 8 4 2 1 root_1 line l
mid line l (suc (suc zero)) a b = first_sum 2 4 64 16 4 1 root_2 line l
mid line l (suc (suc (suc zero))) a b = first_sum 3 8 58 64 8 1 root_3 line l
mid line l (suc (suc (suc (suc zero)))) a b = first_sum 4 16 205 29 16 1 root_4 line l
mid line l (suc (suc (suc (suc (suc k))))) a b = absurd (omega arith)

end : (line : List ℕ) → length line ≡ 64 → (k : ℕ) → syndrome k (line ++ first_check line) ≡ bit_xor (syndrome k line) (weighted (coeff k) 64 (first_check line))
unfolding syndrome
end line l k =
    weighted_append (coeff k) 0 line (first_check line)
    ∙ ap (λ n. bit_xor (weighted (coeff k) 0 line) (weighted (coeff k) n (first_check line))) (zero-add (length line) ∙ l)

sum_lt : (k : ℕ) (w : List ℕ) → syndrome k w < 256
unfolding syndrome
sum_lt k w = weighted_lt (coeff k) 0 w

four : (line : List ℕ) → length (first_check line) ≡ 4
unfolding first_check
four line = refl

pub check_six : (line : List ℕ) → length (check line) ≡ 6
unfolding check first_check
check_six line = refl

pub check_bytes : (line : List ℕ) → Bytes (check line)
unfolding check first_check
check_bytes line =
    (weighted_lt (share 0) 0 line, (weighted_lt (share 1) 0 line, (weighted_lt (share 2) 0 line, (weighted_lt (share 3) 0 line, (sum_lt 0 _, (sum_lt 5 _, tt))))))

-- With its check a line is a codeword.
pub check_full : (line : List ℕ) → length line ≡ 64 → Codeword (line ++ check line)
unfolding check
check_full line l =
    full_codeword line (first_check line) (syndrome 0 (line ++ first_check line)) (syndrome 5 (line ++ first_check line)) (sum_lt 0 _) (sum_lt 5 _) l (four line)
    (mid line l) (end line l 0) (end line l 5)

-- So is a short word with the first five symbols.
pub check_short : (line : List ℕ) → length line ≡ 64 → Codeword (line ++ take 5 (check line))
unfolding check
check_short line l =
    unfold first_check in
    short_codeword line (first_check line) (syndrome 0 (line ++ first_check line)) (syndrome 5 (line ++ first_check line)) (sum_lt 0 _) (sum_lt 5 _) l (four line)
    (mid line l) (end line l 0) (end line l 5)
