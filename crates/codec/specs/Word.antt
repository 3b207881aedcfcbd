-- Words: lists of bytes, called symbols. A full word has symbols 0 to 69: 0 to 63 are the line, 64 to 67 the first check,
-- 68 and 69 the second check. A short word lacks symbol 69.
use Rattle.std.specs.Prelude.{◌≡◌, ℕ, suc, ◌-◌, ◌<◌, ◌≤◌, cond, ◌&&◌, ◌||◌, ◌≢◌, List, [], ◌∷◌, length, Some, None, Option, ◌==◌, bit_xor, nat_lt, slice_index, slice_set}
use Rattle.field.specs.Field.{mul, pow, raise}

-- each symbol is a byte
abbrev pub Bytes : List ℕ → Type 0
Bytes [] = Unit {0}
Bytes (x ∷ xs) = (x < 256) × Bytes xs

-- the locator of symbol s, below 68
unfoldable pub locator : ℕ → ℕ
locator s = pow (67 - s)

-- what symbol s is multiplied by in S_k: locator^k below 68; symbol 68 stands in S_0 alone, and symbol 69 in S_5 alone
unfoldable pub coeff : ℕ → ℕ → ℕ
coeff k s = cond (nat_lt s 68) (raise (locator s) k) (cond ((s == 68 && k == 0) || (s == 69 && k == 5)) 1 0)

-- the sum of symbol × f(number) over a list of symbols of which the first has the number s
unfoldable pub weighted : (ℕ → ℕ) → ℕ → List ℕ → ℕ
weighted f s [] = 0
weighted f s (v ∷ vs) = bit_xor (mul v (f s)) (weighted f (suc s) vs)

-- S_k of a word
unfoldable pub syndrome : ℕ → List ℕ → ℕ
syndrome k w = weighted (coeff k) 0 w

-- S_0 to S_5
unfoldable pub sums : List ℕ → List ℕ
sums w = syndrome 0 w ∷ syndrome 1 w ∷ syndrome 2 w ∷ syndrome 3 w ∷ syndrome 4 w ∷ syndrome 5 w ∷ []

-- a full word is a codeword when S_0 to S_5 are zero, a short one when S_0 to S_4 are: as many sums as check symbols
unfoldable pub Codeword : List ℕ → Type 0
Codeword w = (k : ℕ) → k < length w - 64 → syndrome k w ≡ 0

-- S_1 to S_4 are zero
unfoldable pub Consistent : List ℕ → Type 0
Consistent w = (k : ℕ) → 1 ≤ k → k ≤ 4 → syndrome k w ≡ 0

-- in how many symbols two words differ
unfoldable pub distance : List ℕ → List ℕ → ℕ
distance [] ys = 0
distance (x ∷ xs) [] = 0
distance (x ∷ xs) (y ∷ ys) = let d = distance xs ys in cond (x == y) d (suc d)

-- w with e added to symbol s
unfoldable pub corrected : List ℕ → ℕ → ℕ → List ℕ
corrected w s e = slice_set w s (bit_xor (slice_index w s) e)

-- a codeword differs from w in exactly one symbol: in symbol s, by e
pub record Corrects (w : List ℕ) (s e : ℕ) : Type 0 where
  pub inside : s < length w
  pub byte : e < 256
  pub changes : e ≢ 0
  pub codeword : Codeword (corrected w s e)

-- the answer to which one symbol is wrong: the pair that corrects the word, or none where no pair does
abbrev pub Found : List ℕ → Option (ℕ × ℕ) → Type 0
Found w None = (s e : ℕ) → Corrects w s e → ⊥
Found w (Some p) = Corrects w p.0 p.1

-- of e alone at symbol s, the sums S_0 and S_1 in the list given allow only s = r
abbrev pub PointsAt : List ℕ → ℕ → Type 0
PointsAt ss r =
    (s e : ℕ) → s < 70 → e < 256 → e ≢ 0 → slice_index ss 0 ≡ mul e (coeff 0 s) → slice_index ss 1 ≡ mul e (coeff 1 s) → s ≡ r
