-- What decoding a shown word and judging a rebuilt word give, first as functions, then as the rules have it.
-- A word's length says whether it is full (70 symbols) or short (69).
use Rattle.std.specs.Prelude.{◌≡◌, ℕ, zero, suc, ◌-◌, ◌<◌, Bool, true, false, cond, ◌&&◌, List, length, take, replicate, Some, None, Option, ◌==◌, slice_index}
use Rattle.codec.specs.declared.word.Finding.{Finding}
use Rattle.codec.specs.declared.word.Finding.TheVariants.{Clean, Corrected, Rebuilt, RebuiltCorrected}
use Rattle.codec.specs.Word.{syndrome, Codeword, Consistent, Corrects, corrected}
use Rattle.codec.specs.Finder.{single_error}
use Rattle.codec.specs.Check.{check}

-- a line handed out and how it was come by, or nothing
pub data Decoded : Type 0 where
  found : List ℕ → Finding → Decoded
  uncorrectable : Decoded

-- the first 64 symbols
abbrev pub line_of : List ℕ → List ℕ
line_of w = take 64 w

-- the line of a word once a pair is applied, if there is one
abbrev pub corrected_by : (ℕ × ℕ → Finding) → List ℕ → Option (ℕ × ℕ) → Decoded
corrected_by how w None = uncorrectable
corrected_by how w (Some p) = found (line_of (corrected w p.0 p.1)) (how p)

-- S_0 to S_(n-1) are zero
unfoldable pub vanish : ℕ → List ℕ → Bool
vanish zero w = true
vanish (suc n) w = syndrome n w == 0 && vanish n w

-- whether a word is a codeword
unfoldable pub codeword : List ℕ → Bool
codeword w = vanish (length w - 64) w

-- whether S_1 to S_4 are zero
unfoldable pub consistent : List ℕ → Bool
consistent w = syndrome 1 w == 0 && (syndrome 2 w == 0 && (syndrome 3 w == 0 && syndrome 4 w == 0))

-- what a shown word gives by itself
unfoldable pub decoding : List ℕ → Decoded
decoding w = cond (consistent w) (found (line_of w) Clean) (corrected_by Corrected w (single_error w))

-- what a rebuilt word gives
unfoldable pub judging : List ℕ → Decoded
judging w = cond (codeword w) (found (line_of w) Rebuilt) (corrected_by RebuiltCorrected w (single_error w))

-- If S_1 to S_4 are zero, the first 64 symbols, clean. Otherwise, if a codeword differs in exactly one symbol, its line,
-- corrected with the pair. Otherwise nothing.
pub data Decodes (w : List ℕ) : Decoded → Type 0 where
  clean : Consistent w → Decodes w (found (line_of w) Clean)
  one_off : (Consistent w → ⊥) → (s e : ℕ) → Corrects w s e → Decodes w (found (line_of (corrected w s e)) (Corrected (s, e)))
  beyond : (Consistent w → ⊥) → ((s e : ℕ) → Corrects w s e → ⊥) → Decodes w uncorrectable

-- If the word is a codeword, its line, rebuilt. If a codeword differs in exactly one symbol, its line, rebuilt and corrected
-- with the pair. Otherwise nothing.
pub data Judges (w : List ℕ) : Decoded → Type 0 where
  whole : Codeword w → Judges w (found (line_of w) Rebuilt)
  one_off : (Codeword w → ⊥) → (s e : ℕ) → Corrects w s e → Judges w (found (line_of (corrected w s e)) (RebuiltCorrected (s, e)))
  beyond : (Codeword w → ⊥) → ((s e : ℕ) → Corrects w s e → ⊥) → Judges w uncorrectable

abbrev pub zero_line : List ℕ
zero_line = replicate 64 0

-- the check that a word carries: all six symbols, or the first five where it is short
abbrev pub checked : Bool → List ℕ → List ℕ
checked true l = take 5 (check l)
checked false l = check l

abbrev pub checks : Bool → ℕ
checks true = 5
checks false = 6

-- n bytes
pub record Symbols (n : ℕ) (w : List ℕ) : Type 0 where
  pub count : length w ≡ n
  pub small : (k : ℕ) → slice_index w k < 256
