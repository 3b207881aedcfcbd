-- Checks of lines and decodings of shown words that were worked out beforehand.
use Rattle.std.specs.Prelude.{◌≡◌, ℕ, List, [], ◌∷◌, ◌++◌, replicate}
use Rattle.codec.specs.declared.word.Finding.TheVariants.{Clean, Corrected}
use Rattle.codec.specs.Check.{check}
use Rattle.codec.specs.Code.{decoding, found, uncorrectable, zero_line}

-- a line that is 00 but for bytes 62 and 63
abbrev pub ending : ℕ → ℕ → List ℕ
ending a b = replicate 62 0 ++ a ∷ b ∷ []

-- g are the lower coefficients of the generator polynomial, highest first: the first check of the line that is 00 but for a last byte of 01
pub record Points (g : List ℕ) : Type 0 where
  pub zero_line_has_check_zero : check zero_line ≡ replicate 6 0
  pub byte_63 : check (ending 0x00 0x01) ≡ g ++ 0x54 ∷ 0x92 ∷ []
  pub byte_62 : check (ending 0x01 0x00) ≡ 0x91 ∷ 0x82 ∷ 0xA1 ∷ 0xB1 ∷ 0x02 ∷ 0xCD ∷ []
  pub both_bytes : check (ending 0x01 0x01) ≡ 0x8F ∷ 0x5A ∷ 0x46 ∷ 0xC5 ∷ 0x56 ∷ 0x5F ∷ []
  pub symbol_0 : decoding (0x01 ∷ replicate 69 0) ≡ found zero_line (Corrected (0, 0x01))
  pub second_check : decoding (replicate 68 0 ++ 0xFF ∷ 0xFF ∷ []) ≡ found zero_line Clean
  pub no_second_check : decoding (ending 0x00 0x01 ++ 0x1E ∷ 0xD8 ∷ 0xE7 ∷ 0x74 ∷ 0x00 ∷ 0x00 ∷ []) ≡ found (ending 0x00 0x01) Clean
  pub symbol_67 : decoding (ending 0x00 0x01 ++ 0x1E ∷ 0xD8 ∷ 0xE7 ∷ 0x00 ∷ 0x54 ∷ 0x92 ∷ []) ≡ found (ending 0x00 0x01) (Corrected (67, 0x74))
  pub two_symbols : decoding (0x01 ∷ 0x01 ∷ replicate 68 0) ≡ uncorrectable
