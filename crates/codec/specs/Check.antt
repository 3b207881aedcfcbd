-- The check symbols of a line.
-- The first 68 symbols of a word, as the coefficients of z^67 down to z^0, have S_1 to S_4 zero when they are a multiple of the generator polynomial
-- (z + α)(z + α^2)(z + α^3)(z + α^4) = z^4 + 1E z^3 + D8 z^2 + E7 z + 74.
use Rattle.std.specs.Prelude.{ℕ, zero, suc, ◌-◌, List, [], ◌∷◌, ◌++◌, bit_xor, slice_index}
use Rattle.field.specs.Field.{mul}
use Rattle.codec.specs.Word.{weighted, syndrome}

-- z times r_0 z^3 + r_1 z^2 + r_2 z + r_3, less its multiple of that polynomial
unfoldable pub turned : List ℕ → List ℕ
turned r =
    bit_xor (slice_index r 1) (mul (slice_index r 0) 0x1E)
    ∷ bit_xor (slice_index r 2) (mul (slice_index r 0) 0xD8)
    ∷ bit_xor (slice_index r 3) (mul (slice_index r 0) 0xE7)
    ∷ mul (slice_index r 0) 0x74
    ∷ []

-- the remainder of z^n
unfoldable pub remainder : ℕ → List ℕ
remainder zero = 0 ∷ 0 ∷ 0 ∷ 1 ∷ []
remainder (suc n) = turned (remainder n)

-- what symbol s of a line is multiplied by in symbol 64 + i, for i below 4
unfoldable pub share : ℕ → ℕ → ℕ
share i s = slice_index (remainder (67 - s)) i

-- symbols 64 to 67
unfoldable pub first_check : List ℕ → List ℕ
first_check line = weighted (share 0) 0 line ∷ weighted (share 1) 0 line ∷ weighted (share 2) 0 line ∷ weighted (share 3) 0 line ∷ []

-- symbols 64 to 69: the last two are S_0 and S_5 of the symbols before them
unfoldable pub check : List ℕ → List ℕ
check line = first_check line ++ syndrome 0 (line ++ first_check line) ∷ syndrome 5 (line ++ first_check line) ∷ []
