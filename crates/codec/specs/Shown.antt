-- The code's words and answers, as lists and what decoding gives.
use Rattle.std.specs.Prelude.{◌≡◌, ℕ, Bool, true, false, List, ◌++◌, Ok, Err, Result}
use Rattle.codec.specs.declared.word.Finding.{Finding}
use Rattle.codec.specs.declared.word.Finding.TheVariants.{Clean, Corrected, Rebuilt, RebuiltCorrected}
use Rattle.codec.specs.declared.word.Check.{Check}
use Rattle.codec.specs.declared.word.Check.TheVariants.{Full, Short}
use Rattle.codec.specs.declared.word.Word.{Word}
use Rattle.codec.specs.declared.word.Uncorrectable.{Uncorrectable}
use Rattle.codec.specs.Code.{Decoded, found, uncorrectable}

-- the number of each finding
abbrev pub number_of : Finding → ℕ
number_of Clean = 0
number_of (Corrected p) = 1
number_of Rebuilt = 2
number_of (RebuiltCorrected p) = 3

abbrev pub check_of : Check → List ℕ
check_of (Full c) = c
check_of (Short c) = c

abbrev pub is_short : Check → Bool
is_short (Full c) = false
is_short (Short c) = true

-- the symbols of a word: its line, then its check
abbrev pub symbols : Word → List ℕ
symbols w = w.line ++ check_of w.check

-- an answer with the line that was handed out
abbrev pub told : Result Finding Uncorrectable → List ℕ → Decoded
told (Ok f) line = found line f
told (Err e) line = uncorrectable

-- a refusal leaves the line as it was
abbrev pub Kept : Result Finding Uncorrectable → List ℕ → List ℕ → Type 0
Kept (Ok f) before after = Unit {0}
Kept (Err e) before after = after ≡ before

-- what decoding gave, told by a number: the finding's with the line handed out, or 255 with the line as it was
abbrev pub Exported : Decoded → ℕ → List ℕ → List ℕ → Type 0
Exported (found l f) r before after = (r ≡ number_of f) × (after ≡ l)
Exported uncorrectable r before after = (r ≡ 255) × (after ≡ before)
