-- Weighted sums of symbols.
use Rattle.std.proofs.Common.{◌≡◌, ℕ, zero, suc, ◌+◌, ◌<◌, ◌≤◌, List, [], ◌∷◌, ◌++◌, length, get_or, take, drop, set, sym, refl, ap, ◌∙◌, ap₂, add-zero, add-suc, suc-add, arith, lit<, take-append-drop, length-take}
use lib.Bits.{bit_xor, xor_lt, xor_assoc, xor_comm, xor_zero_r}
use Rattle.std.proofs.lemmas.List.{take_more}
use Rattle.field.specs.Field.{mul}
use Rattle.codec.specs.Word.{Bytes, weighted}
use Rattle.field.proofs.FieldLaws.{mul_lt, mul_zero_r, mul_xor_l}

pub byte_at : (w : List ℕ) (i : ℕ) → Bytes w → get_or w i 0 < 256
byte_at [] i b = lit< tt
byte_at (x ∷ w) zero b = b.0
byte_at (x ∷ w) (suc i) b = byte_at w i b.1

pub bytes_from : (w : List ℕ) → ((i : ℕ) → get_or w i 0 < 256) → Bytes w
bytes_from [] h = tt
bytes_from (x ∷ w) h = (h 0, bytes_from w (λ i. h (suc i)))

pub bytes_take : (n : ℕ) (w : List ℕ) → Bytes w → Bytes (take n w)
bytes_take zero w b = tt
bytes_take (suc n) [] b = tt
bytes_take (suc n) (x ∷ w) b = (b.0, bytes_take n w b.1)

pub bytes_set : (w : List ℕ) (i v : ℕ) → Bytes w → v < 256 → Bytes (set w i v)
bytes_set [] i v b h = tt
bytes_set (x ∷ w) zero v b h = (h, b.1)
bytes_set (x ∷ w) (suc i) v b h = (b.0, bytes_set w i v b.1 h)

pub weighted_lt : (f : ℕ → ℕ) (s : ℕ) (w : List ℕ) → weighted f s w < 256
unfolding weighted
weighted_lt f s [] = lit< tt
weighted_lt f s (x ∷ w) = xor_lt 8 (mul x (f s)) (weighted f (suc s) w) (mul_lt x (f s)) (weighted_lt f (suc s) w)

pub weighted_append : (f : ℕ → ℕ) (s : ℕ) (xs ys : List ℕ) → weighted f s (xs ++ ys) ≡ bit_xor (weighted f s xs) (weighted f (s + length xs) ys)
unfolding weighted
weighted_append f s [] ys = ap (λ n. weighted f n ys) (sym (add-zero s))
weighted_append f s (x ∷ xs) ys =
    rw (weighted_append f (suc s) xs ys, suc-add s (length xs), add-suc s (length xs))
    (sym (xor_assoc (mul x (f s)) (weighted f (suc s) xs) (weighted f (suc (s + length xs)) ys)))

-- only the weights of the list's decodes symbols matter
pub weighted_agree : (f g : ℕ → ℕ) (N s : ℕ) (xs : List ℕ) → ((i : ℕ) → i < N → f i ≡ g i) → s + length xs ≤ N → weighted f s xs ≡ weighted g s xs
unfolding weighted
weighted_agree f g N s [] h l = refl
weighted_agree f g N s (x ∷ xs) h l = ap₂ (λ m t. bit_xor (mul x m) t) (h s (omega arith)) (weighted_agree f g N (suc s) xs h (omega arith))

pub weighted_none : (f : ℕ → ℕ) (N s : ℕ) (xs : List ℕ) → ((i : ℕ) → N ≤ i → f i ≡ 0) → N ≤ s → weighted f s xs ≡ 0
unfolding weighted
weighted_none f N s [] h l = refl
weighted_none f N s (x ∷ xs) h l = rw (h s l, mul_zero_r x) (weighted_none f N (suc s) xs h (omega arith))

-- a sum to which symbols from N on add nothing is that of the first N
pub weighted_front : (f g : ℕ → ℕ) (N : ℕ) (w : List ℕ) → N ≤ length w → ((i : ℕ) → i < N → f i ≡ g i) → ((i : ℕ) → N ≤ i → f i ≡ 0)
    → weighted f 0 w ≡ weighted g 0 (take N w)
weighted_front f g N w l same none =
    let t : length (take N w) ≡ N = simp length-take (omega arith) in
    ap (weighted f 0) (sym (take-append-drop N w)) ∙ weighted_append f 0 (take N w) (drop N w)
    ∙ ap (bit_xor (weighted f 0 (take N w))) (weighted_none f N (0 + length (take N w)) (drop N w) none (omega arith))
    ∙ xor_zero_r (weighted f 0 (take N w)) ∙ weighted_agree f g N 0 (take N w) same (omega arith)

-- one more symbol
pub weighted_more : (f : ℕ → ℕ) (s : ℕ) (w : List ℕ) (i : ℕ) → i < length w → weighted f s (take (i + 1) w) ≡ bit_xor (weighted f s (take i w)) (mul (get_or w i 0) (f (s + i)))
unfolding weighted
weighted_more f s w i h =
    let t : length (take i w) ≡ i = simp length-take (omega arith) in
    ap (weighted f s) (take_more w i 0 h) ∙ weighted_append f s (take i w) (get_or w i 0 ∷ [])
    ∙ ap (bit_xor (weighted f s (take i w))) (xor_zero_r (mul (get_or w i 0) (f (s + length (take i w)))) ∙ ap (λ n. mul (get_or w i 0) (f (s + n))) t)

-- what e added to one symbol adds to the sum
pub weighted_corrected : (f : ℕ → ℕ) (s : ℕ) (w : List ℕ) (i e : ℕ) → i < length w
    → weighted f s (set w i (bit_xor (get_or w i 0) e)) ≡ bit_xor (weighted f s w) (mul e (f (s + i)))
unfolding weighted
weighted_corrected f s [] i e h = absurd (omega arith)
weighted_corrected f s (x ∷ w) zero e h =
    rw (mul_xor_l x e (f s), add-zero s)
    (xor_assoc (mul x (f s)) (mul e (f s)) (weighted f (suc s) w) ∙ ap (bit_xor (mul x (f s))) (xor_comm (mul e (f s)) (weighted f (suc s) w)) ∙ sym (xor_assoc (mul x (f s)) (weighted f (suc s) w) (mul e (f s))))
weighted_corrected f s (x ∷ w) (suc i) e h =
    rw (weighted_corrected f (suc s) w i e (omega arith), suc-add s i, add-suc s i)
    (sym (xor_assoc (mul x (f s)) (weighted f (suc s) w) (mul e (f (suc (s + i))))))
