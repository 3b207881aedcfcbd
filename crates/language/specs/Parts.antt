-- Text cut at separators: lines, and the fields of a line.
use Rattle.std.specs.Prelude.{ℕ, cond, List, [], ◌∷◌, ◌==◌}
use Rattle.std.specs.List.{onto_first, slice_split}

-- every byte 0A ends a line, and what follows the last one is a line if it is not empty
unfoldable pub lines : List ℕ → List (List ℕ)
lines [] = []
lines (x ∷ xs) = cond (x == 10) ([] ∷ lines xs) (onto_first x (lines xs))

-- tabs part fields, so that there is one more than tabs
abbrev pub fields : List ℕ → List (List ℕ)
fields line = slice_split (λ x. x == 9) line
