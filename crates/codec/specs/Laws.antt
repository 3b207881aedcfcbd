-- The laws of the code, on which the lines of a board rest.
use Rattle.std.specs.Prelude.{◌≡◌, ℕ, ◌+◌, ◌<◌, ◌≤◌, Bool, ◌≢◌, ◌⊎◌, List, ◌++◌, length, take, replicate, slice_index}
use Rattle.codec.specs.declared.word.Finding.{Finding}
use Rattle.codec.specs.declared.word.Finding.TheVariants.{Clean, Corrected, Rebuilt, RebuiltCorrected}
use Rattle.codec.specs.Word.{Codeword, Consistent, distance, corrected}
use Rattle.codec.specs.Check.{check}
use Rattle.codec.specs.Code.{Decoded, found, uncorrectable, decoding, judging, Decodes, Judges, zero_line, checked, checks, Symbols}

-- two codewords of one length that are not equal differ in at least n symbols
abbrev pub Apart : Bool → ℕ → Type 0
Apart short n =
    (u w : List ℕ) → Symbols (64 + checks short) u → Symbols (64 + checks short) w → Codeword u → Codeword w → u ≢ w → n ≤ distance u w

-- two consistent words whose first 68 symbols are not equal differ in at least n of these
abbrev pub ConsistentApart : Bool → ℕ → Type 0
ConsistentApart short n =
    (u w : List ℕ) → Symbols (64 + checks short) u → Symbols (64 + checks short) w → Consistent u → Consistent w → take 68 u ≢ take 68 w
    → n ≤ distance (take 68 u) (take 68 w)

-- a word that differs from a line's codeword at most in symbols 68 and 69 decodes as the line, clean
abbrev pub DecodesClean : Bool → Type 0
DecodesClean short =
    (l w : List ℕ) → Symbols 64 l → Symbols (64 + checks short) w → take 68 w ≡ take 68 (l ++ checked short l) → decoding w ≡ found l Clean

-- with one wrong symbol below 68 it decodes as the line, corrected with that symbol's number and what was added to it
abbrev pub DecodesCorrected : Bool → Type 0
DecodesCorrected short =
    (l : List ℕ) (s e : ℕ) → Symbols 64 l → s < 68 → e < 256 → e ≢ 0
    → decoding (corrected (l ++ checked short l) s e) ≡ found l (Corrected (s, e))

-- a right line with its check is judged as the line, rebuilt; with one wrong check symbol, corrected with its pair
abbrev pub JudgesRebuilt : Bool → Type 0
JudgesRebuilt short = (l : List ℕ) → Symbols 64 l → judging (l ++ checked short l) ≡ found l Rebuilt

abbrev pub JudgesCorrected : Bool → Type 0
JudgesCorrected short =
    (l : List ℕ) (s e : ℕ) → Symbols 64 l → s < 64 + checks short → e < 256 → e ≢ 0
    → judging (corrected (l ++ checked short l) s e) ≡ found l (RebuiltCorrected (s, e))

-- at most n wrong symbols: decoding gives the line
abbrev pub CorrectedWithin : Bool → ℕ → Type 0
CorrectedWithin short n =
    (l l' c' : List ℕ) → Symbols 64 l → Symbols 64 l' → Symbols (checks short) c'
    → distance l l' + distance (checked short l) c' ≤ n
    → (f : Finding) × (decoding (l' ++ c') ≡ found l f)

-- two to n wrong symbols, at most one of them in the check: decoding gives nothing
abbrev pub DetectedWithin : Bool → ℕ → Type 0
DetectedWithin short n =
    (l l' c' : List ℕ) → Symbols 64 l → Symbols 64 l' → Symbols (checks short) c'
    → 1 < distance l l' + distance (checked short l) c' → distance l l' + distance (checked short l) c' ≤ n
    → distance (checked short l) c' ≤ 1
    → decoding (l' ++ c') ≡ uncorrectable

-- two to n wrong symbols, not all of them 68 or 69: decoding gives nothing
abbrev pub UncorrectableWithin : Bool → ℕ → Type 0
UncorrectableWithin short n =
    (l w : List ℕ) → Symbols 64 l → Symbols (64 + checks short) w
    → 1 < distance w (l ++ checked short l) → distance w (l ++ checked short l) ≤ n → take 68 w ≢ take 68 (l ++ checked short l)
    → decoding w ≡ uncorrectable

-- at most n wrong symbols, wherever they are: decoding gives the line or nothing, and never another line
abbrev pub RightWithin : Bool → ℕ → Type 0
RightWithin short n =
    (l l' c' : List ℕ) → Symbols 64 l → Symbols 64 l' → Symbols (checks short) c'
    → distance l l' + distance (checked short l) c' ≤ n
    → (decoding (l' ++ c') ≡ uncorrectable) ⊎ ((f : Finding) × (decoding (l' ++ c') ≡ found l f))

-- the right line with a check that has at most n wrong symbols: the rebuilt word gives the line
abbrev pub RebuiltWithin : Bool → ℕ → Type 0
RebuiltWithin short n =
    (l c' : List ℕ) → Symbols 64 l → Symbols (checks short) c'
    → distance (checked short l) c' ≤ n
    → (f : Finding) × (judging (l ++ c') ≡ found l f)

pub record Laws : Type 0 where
  -- a check has six symbols, and the zero line's are zero
  pub six : (l : List ℕ) → length l ≡ 64 → length (check l) ≡ 6
  pub zero_check : check zero_line ≡ replicate 6 0
  -- with its check a line is a codeword, full or short, and with no other
  pub fits : (short : Bool) (l : List ℕ) → Symbols 64 l → Codeword (l ++ checked short l)
  pub only : (short : Bool) (l c : List ℕ) → Symbols 64 l → Symbols (checks short) c → Codeword (l ++ c) → c ≡ checked short l
  -- decoding and judging are those of the rules, and the rules allow no other
  pub decodes : (w : List ℕ) → 69 ≤ length w → length w ≤ 70 → Decodes w (decoding w)
  pub decodes_only : (w : List ℕ) (r : Decoded) → ((k : ℕ) → slice_index w k < 256) → 69 ≤ length w → length w ≤ 70 → Decodes w r → r ≡ decoding w
  pub judges : (w : List ℕ) → 69 ≤ length w → length w ≤ 70 → Judges w (judging w)
  pub judges_only : (w : List ℕ) (r : Decoded) → ((k : ℕ) → slice_index w k < 256) → 69 ≤ length w → length w ≤ 70 → Judges w r → r ≡ judging w
  -- what they give for words near a codeword
  pub near : (short : Bool) → CorrectedWithin short 1
  pub far : (short : Bool) → DetectedWithin short 4
  pub rebuilt : (short : Bool) → RebuiltWithin short 1
