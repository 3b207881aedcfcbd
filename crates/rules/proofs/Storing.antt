-- Which banks get nothing of a line that is stored.
use Rattle.std.proofs.Common.{◌≡◌, ℕ, ◌+◌, ◌/◌, ◌<◌, ◌≤◌, List, [], ◌∷◌, None, inl, inr, arith}
use Rattle.std.proofs.lemmas.Bool.{cases_lt}
use Rattle.std.proofs.lemmas.Bool.Decides.{nat_tests}
use Rattle.rules.proofs.Geometry.{Low}
use Rattle.rules.specs.Places.{role}
use Rattle.rules.specs.Work.{storing}

-- of the first 64 banks all but the line's own
pub no_other_line : (ms : List ℕ) → Low ms → (b : ℕ) (new par : List ℕ) (y : ℕ) → y < 64 → (y ≡ b → ⊥) → storing ms b new par y ≡ None
unfolding role
no_other_line [] v b new par y h n = grind (arith, nat_tests)
no_other_line (m ∷ []) v b new par y h n = grind (arith, nat_tests)
no_other_line (m ∷ k ∷ []) v b new par y h n = grind (arith, nat_tests)
no_other_line (m ∷ k ∷ x ∷ xs) v b new par y h n = absurd v

-- of the banks of first checks all but one
pub no_other_check : (ms : List ℕ) → Low ms → (b : ℕ) (new par : List ℕ) (y : ℕ) → 64 ≤ y → y < 68 → (y ≡ 64 + b / 16 → ⊥) → storing ms b new par y ≡ None
unfolding role
no_other_check [] v b new par y l h n = grind (arith, nat_tests)
no_other_check (m ∷ []) v b new par y l h n = grind (arith, nat_tests)
no_other_check (m ∷ k ∷ []) v b new par y l h n = grind (arith, nat_tests)
no_other_check (m ∷ k ∷ x ∷ xs) v b new par y l h n = absurd v

-- all banks between the line's own and that of its first check
pub none_between : (ms : List ℕ) → Low ms → (b : ℕ) (new par : List ℕ) (y : ℕ) → b < 64 → b < y → y < 64 + b / 16 → storing ms b new par y ≡ None
none_between ms v b new par y low l h =
    elim (cases_lt y 64) [
      | inl u ↦ no_other_line ms v b new par y u (omega arith)
      | inr u ↦ no_other_check ms v b new par y u (omega arith) (omega arith)
    ]
