-- What the inner functions of the code answer.
use Rattle.std.specs.Prelude.{◌≡◌, ℕ, Bool, true, false, List, [], ◌∷◌, Some, None, Option, Ok, Err, Result}
use Rattle.field.specs.Rows.{lane}
use Rattle.codec.specs.declared.word.Word.{Word}
use Rattle.codec.specs.declared.word.Uncorrectable.{Uncorrectable}
use Rattle.codec.specs.Word.{corrected}
use Rattle.codec.specs.Finder.{single_error}
use Rattle.codec.specs.Code.{line_of}
use Rattle.codec.specs.Shown.{symbols}

-- the six lowest bytes of a number, lowest first
unfoldable pub unpacked : ℕ → List ℕ
unpacked x = lane 0 x ∷ lane 1 x ∷ lane 2 x ∷ lane 3 x ∷ lane 4 x ∷ lane 5 x ∷ []

-- What restoring a word answers and the line it hands out, where `right` tests whether the word is right: if it is, its line; otherwise the
-- line of the word that a pair corrects it to, with the pair; or no pair, and the line as it was.
abbrev pub Restores : Bool → List ℕ → Result (Option (ℕ × ℕ)) Uncorrectable → List ℕ → List ℕ → Type 0
Restores right w (Ok None) before after = (right ≡ true) × (after ≡ line_of w)
Restores right w (Ok (Some p)) before after = (right ≡ false) × (single_error w ≡ Some p) × (after ≡ line_of (corrected w p.0 p.1))
Restores right w (Err e) before after = (right ≡ false) × (single_error w ≡ None) × (after ≡ before)

-- the same of a word as it is held, by a test of its symbols
abbrev pub RestoresBy : (List ℕ → Bool) → Word → Result (Option (ℕ × ℕ)) Uncorrectable → List ℕ → List ℕ → Type 0
RestoresBy test w r before after = Restores (test (symbols w)) (symbols w) r before after
