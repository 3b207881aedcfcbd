-- How a text is cut at its first end of a line.
use Rattle.std.proofs.Common.{Bool, ◌≤◌, ◌+◌, ◌≡◌, ℕ, zero, suc, ◌<◌, eqb, true, false, List, [], ◌∷◌, length, get_or, take, drop, refl, ap, ◌∙◌, arith}
use Rattle.std.specs.List.{onto_first}
use Rattle.language.specs.Parts.{lines}

pub no_lines : lines [] ≡ []
unfolding lines
no_lines = refl

ends_here : (x : ℕ) (xs : List ℕ) → eqb x 10 ≡ true → lines (x ∷ xs) ≡ [] ∷ lines xs
unfolding lines
ends_here x xs e = rw e

goes_on : (x : ℕ) (xs : List ℕ) → eqb x 10 ≡ false → lines (x ∷ xs) ≡ onto_first x (lines xs)
unfolding lines
goes_on x xs e = rw e

pub line_ends_at : (xs : List ℕ) (i : ℕ) → i < length xs → ((k : ℕ) → k < i → eqb (get_or xs k 0) 10 ≡ false) → eqb (get_or xs i 0) 10 ≡ true
    → lines xs ≡ take i xs ∷ lines (drop (suc i) xs)
line_ends_at [] i h before at = absurd (omega arith)
line_ends_at (x ∷ xs) zero h before at = ends_here x xs at
line_ends_at (x ∷ xs) (suc i) h before at =
    goes_on x xs (before 0 (omega arith)) ∙ ap (onto_first x) (line_ends_at xs i (omega arith) (λ k l. before (suc k) (omega arith)) at)

pub line_without_end : (xs : List ℕ) → 0 < length xs → ((k : ℕ) → k < length xs → eqb (get_or xs k 0) 10 ≡ false) → lines xs ≡ xs ∷ lines []
line_without_end [] h none = absurd (omega arith)
line_without_end (x ∷ []) h none = goes_on x [] (none 0 (omega arith)) ∙ rw no_lines
line_without_end (x ∷ y ∷ ys) h none =
    goes_on x (y ∷ ys) (none 0 (omega arith)) ∙ ap (onto_first x) (line_without_end (y ∷ ys) (omega arith) (λ k l. none (suc k) (omega arith)))

-- no text has more lines than bytes
onto_length : (x : ℕ) (ps : List (List ℕ)) → length (onto_first x ps) ≤ length ps + 1
onto_length x [] = omega arith
onto_length x (p ∷ ps) = omega arith

few_by : (x : ℕ) (xs : List ℕ) (b : Bool) → eqb x 10 ≡ b → length (lines xs) ≤ length xs → length (lines (x ∷ xs)) ≤ length xs + 1
few_by x xs true e few = rw (ends_here x xs e) (omega arith)
few_by x xs false e few = rw (goes_on x xs e) (omega (arith, onto_length x (lines xs)))

pub few_lines : (xs : List ℕ) → length (lines xs) ≤ length xs
unfolding lines
few_lines [] = omega arith
few_lines (x ∷ xs) = omega (arith, few_by x xs (eqb x 10) refl (few_lines xs))
