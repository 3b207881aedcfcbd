-- The check of a line, eight bytes at a time. The check so far is one number: its bytes, lowest first, are the four symbols of
-- the first check and the two of the second.
use Rattle.std.specs.Prelude.{ℕ, zero, suc, ◌+◌, ◌*◌, ◌/◌, ◌%◌, ◌^◌, List, [], ◌∷◌, bit_xor, slice_index}
use Rattle.field.specs.Field.{mul, pow}

-- byte l of a number
unfoldable pub lane : ℕ → ℕ → ℕ
lane zero x = x % 256
lane (suc l) x = x / 2 ^ (8 * suc l) % 256

-- the number of these six bytes
unfoldable pub packed : (a b c d e f : ℕ) → ℕ
packed a b c d e f = a + b * 256 + c * 65536 + d * 16777216 + e * 4294967296 + f * 1099511627776

-- what byte j of eight is multiplied by in check symbol l
unfoldable pub share : ℕ → ℕ → ℕ
share zero j = slice_index (217 ∷ 5 ∷ 132 ∷ 89 ∷ 41 ∷ 218 ∷ 145 ∷ 30 ∷ []) j
share (suc zero) j = slice_index (118 ∷ 191 ∷ 198 ∷ 68 ∷ 80 ∷ 112 ∷ 130 ∷ 216 ∷ []) j
share (suc (suc zero)) j = slice_index (9 ∷ 233 ∷ 240 ∷ 149 ∷ 16 ∷ 126 ∷ 161 ∷ 231 ∷ []) j
share (suc (suc (suc zero))) j = slice_index (185 ∷ 85 ∷ 172 ∷ 213 ∷ 168 ∷ 255 ∷ 177 ∷ 116 ∷ []) j
share (suc (suc (suc (suc zero)))) j = slice_index (30 ∷ 7 ∷ 31 ∷ 92 ∷ 192 ∷ 42 ∷ 2 ∷ 84 ∷ []) j
share (suc (suc (suc (suc (suc l))))) j = slice_index (182 ∷ 249 ∷ 133 ∷ 77 ∷ 238 ∷ 57 ∷ 205 ∷ 146 ∷ []) j

-- the check of eight bytes of which byte j is v and the others are 0
unfoldable pub part : ℕ → ℕ → ℕ
part j v = packed (mul v (share 0 j)) (mul v (share 1 j)) (mul v (share 2 j)) (mul v (share 3 j)) (mul v (share 4 j)) (mul v (share 5 j))

-- the second check of the bytes so far, as it stands eight bytes later
unfoldable pub carried : ℕ → ℕ
carried x = packed 0 0 0 0 (lane 4 x) (mul (lane 5 x) (pow 40))

-- the check x of the bytes so far taken on over eight more: the first check is added to the first four
unfoldable pub advanced : ℕ → List ℕ → ℕ
advanced x row =
    bit_xor
    (bit_xor
    (bit_xor (part 0 (bit_xor (slice_index row 0) (lane 0 x))) (part 1 (bit_xor (slice_index row 1) (lane 1 x))))
    (bit_xor (part 2 (bit_xor (slice_index row 2) (lane 2 x))) (part 3 (bit_xor (slice_index row 3) (lane 3 x)))))
    (bit_xor
    (bit_xor (bit_xor (part 4 (slice_index row 4)) (part 5 (slice_index row 5))) (bit_xor (part 6 (slice_index row 6)) (part 7 (slice_index row 7))))
    (carried x))
