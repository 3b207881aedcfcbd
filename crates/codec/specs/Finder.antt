-- The pair that corrects a word, as a function of the word.
use Rattle.std.specs.Prelude.{ℕ, zero, suc, ◌-◌, Bool, true, cond, not, ◌&&◌, List, length, Some, None, Option, ◌==◌, nat_lt}
use Rattle.field.specs.Field.{mul}
use Rattle.codec.specs.Word.{coeff, syndrome}

-- the only value that can correct symbol s: that of the sum in which its weight is 1
unfoldable pub value : List ℕ → ℕ → ℕ
value w s = cond (nat_lt s 69) (syndrome 0 w) (syndrome 5 w)

-- whether e at symbol s explains S_0 to S_(n-1)
unfoldable pub explained : List ℕ → ℕ → ℕ → ℕ → Bool
explained w s e zero = true
explained w s e (suc n) = syndrome n w == mul e (coeff n s) && explained w s e n

unfoldable pub corrects_at : List ℕ → ℕ → Bool
corrects_at w s = not (value w s == 0) && explained w s (value w s) (length w - 64)

-- the first of n symbols, from s on, that can be corrected
unfoldable pub first_from : List ℕ → ℕ → ℕ → Option (ℕ × ℕ)
first_from w s zero = None
first_from w s (suc n) = let r = first_from w (suc s) n in cond (corrects_at w s) (Some (s, value w s)) r

-- the number of the one wrong symbol and what corrects it
unfoldable pub single_error : List ℕ → Option (ℕ × ℕ)
single_error w = first_from w 0 (length w)
