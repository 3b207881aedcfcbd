-- The check of a line by rows of eight bytes is its check.
use Rattle.std.proofs.Common.{◌≡◌, ℕ, zero, suc, ◌+◌, ◌-◌, ◌*◌, ◌<◌, ◌≤◌, false, List, [], ◌∷◌, ◌++◌, length, take, drop, sym, refl, ap, ◌∙◌, subst, append_assoc, append-nil, zero-mul, arith, lit<, length-append, length-drop, length-take}
use lib.Bits.{bit_xor}
use Rattle.std.proofs.lemmas.List.{take-append-drop}
use Rattle.std.specs.List.{fold}
use Rattle.std.specs.Simd.{first_chunks}
use Rattle.field.specs.Field.{mul, pow}
use Rattle.field.specs.Rows.{lane, advanced}
use Rattle.field.proofs.Xor.{xor_eq}
use Rattle.field.proofs.FieldLaws.{mul_zero_l, mul_one_r}
use Rattle.codec.specs.Word.{coeff, weighted, syndrome, Codeword}
use Rattle.codec.specs.Check.{check}
use Rattle.codec.specs.Code.{Symbols}
use Rattle.codec.specs.Packed.{unpacked}
use Rattle.codec.proofs.Sums.{byte_at}
use Rattle.codec.proofs.Encoding.{full_codeword}
use Rattle.codec.proofs.CodeLaws.{laws}
use Rattle.codec.proofs.RowLaws.{first, pick, Checks, lane_lt, step_law}

module _ (line : List ℕ) (x : ℕ) (l : length line ≡ 64) (c : Checks line x) where
  at_end : (k : ℕ) → k < 6 → bit_xor (syndrome k line) (weighted (coeff k) 64 (first x)) ≡ mul (pick k (lane 4 x) (lane 5 x)) 1
  unfolding Checks syndrome
  at_end k h =
      let z : (64 - length line) * k ≡ 0 = ap (λ n. (64 - n) * k) l ∙ zero-mul k in
      let o : pow 0 ≡ 1 = unfold pow in refl in
      ap (λ n. bit_xor (weighted (coeff k) 0 line) (weighted (coeff k) n (first x))) (sym l) ∙ c k h
      ∙ ap (λ n. mul (pick k (lane 4 x) (lane 5 x)) (pow n)) z ∙ ap (mul (pick k (lane 4 x) (lane 5 x))) o

  none : (k : ℕ) → 1 ≤ k → k ≤ 4 → pick k (lane 4 x) (lane 5 x) ≡ 0
  unfolding pick
  none zero a b = absurd (omega arith)
  none (suc zero) a b = refl
  none (suc (suc zero)) a b = refl
  none (suc (suc (suc zero))) a b = refl
  none (suc (suc (suc (suc zero)))) a b = refl
  none (suc (suc (suc (suc (suc k))))) a b = absurd (omega arith)

  first_length : length (first x) ≡ 4
  unfolding first
  first_length = refl

  mid : (k : ℕ) → 1 ≤ k → k ≤ 4 → weighted (coeff k) 64 (first x) ≡ syndrome k line
  mid k a b = sym (xor_eq (syndrome k line) (weighted (coeff k) 64 (first x)) (at_end k (omega arith) ∙ ap (λ n. mul n 1) (none k a b) ∙ mul_zero_l 1))

  e_is : lane 4 x ≡ bit_xor (syndrome 0 line) (weighted (coeff 0) 64 (first x))
  e_is = sym (at_end 0 (lit< tt) ∙ (unfold pick in mul_one_r (lane 4 x) (lane_lt 4 x)))

  f_is : lane 5 x ≡ bit_xor (syndrome 5 line) (weighted (coeff 5) 64 (first x))
  f_is = sym (at_end 5 (lit< tt) ∙ (unfold pick in mul_one_r (lane 5 x) (lane_lt 5 x)))

  pub checks_full : Codeword (line ++ (first x ++ lane 4 x ∷ lane 5 x ∷ []))
  checks_full = full_codeword line (first x) (lane 4 x) (lane 5 x) (lane_lt 4 x) (lane_lt 5 x) l first_length mid e_is f_is

unpacked_symbols : (x : ℕ) → Symbols 6 (unpacked x)
unfolding unpacked
unpacked_symbols x =
    record {
      count = refl;
      small = λ k. byte_at (unpacked x) k (lane_lt 0 x, (lane_lt 1 x, (lane_lt 2 x, (lane_lt 3 x, (lane_lt 4 x, (lane_lt 5 x, tt))))));
    }

pub check_by_rows : (line : List ℕ) (x : ℕ) → Symbols 64 line → Checks line x → unpacked x ≡ check line
check_by_rows line x h c = laws.only false line (unpacked x) h (unpacked_symbols x) (unfold unpacked first in checks_full line x h.count c)

-- ---- one more row

row_more : (x : ℕ) (p row : List ℕ) → length row ≡ 8 → length p ≤ 56 → Checks p x → Checks (p ++ row) (advanced x row)
row_more x p [] h t k = absurd (omega arith)
row_more x p (a ∷ []) h t k = absurd (omega arith)
row_more x p (a ∷ b ∷ []) h t k = absurd (omega arith)
row_more x p (a ∷ b ∷ c ∷ []) h t k = absurd (omega arith)
row_more x p (a ∷ b ∷ c ∷ d ∷ []) h t k = absurd (omega arith)
row_more x p (a ∷ b ∷ c ∷ d ∷ e ∷ []) h t k = absurd (omega arith)
row_more x p (a ∷ b ∷ c ∷ d ∷ e ∷ f ∷ []) h t k = absurd (omega arith)
row_more x p (a ∷ b ∷ c ∷ d ∷ e ∷ f ∷ g ∷ []) h t k = absurd (omega arith)
row_more x p (a ∷ b ∷ c ∷ d ∷ e ∷ f ∷ g ∷ i ∷ []) h t k = step_law x a b c d e f g i p t k
row_more x p (a ∷ b ∷ c ∷ d ∷ e ∷ f ∷ g ∷ i ∷ j ∷ xs) h t k = absurd (omega arith)

-- and n more
pub rows_more : (n x : ℕ) (p xs : List ℕ) → length xs ≡ 8 * n → length p + length xs ≤ 64 → Checks p x
    → Checks (p ++ xs) (fold advanced x (first_chunks 8 n xs))
rows_more zero x p [] l t k = subst (λ ys. Checks ys x) (sym (append-nil p)) k
rows_more zero x p (y ∷ xs) l t k = absurd (omega arith)
rows_more (suc n) x p xs l t k =
    let r : length (take 8 xs) ≡ 8 = simp length-take (omega arith) in
    let d : length (drop 8 xs) ≡ 8 * n = simp length-drop (omega arith) in
    let q : length (p ++ take 8 xs) ≡ length p + 8 = omega (arith, length-append p (take 8 xs)) in
    subst (λ ys. Checks ys (fold advanced (advanced x (take 8 xs)) (first_chunks 8 n (drop 8 xs))))
    (append_assoc p (take 8 xs) (drop 8 xs) ∙ ap (λ ys. p ++ ys) (take-append-drop 8 xs))
    (rows_more n (advanced x (take 8 xs)) (p ++ take 8 xs) (drop 8 xs) d (omega arith) (row_more x p (take 8 xs) r (omega arith) k))
