-- What a mark leaves as it is.
use Rattle.std.proofs.Common.{◌≡◌, ℕ, ◌-◌, ◌<◌, false, eqb, ltb, List, [], ◌∷◌, ◌++◌, length, sym, refl, ap, ◌∙◌, arith}
use Rattle.std.proofs.lemmas.Bool.{ne_eqb, eqb-false, ltb-false, cond-false, cond_both, or_parts}
use Rattle.rules.proofs.Geometry.{Valid}
use Rattle.rules.specs.Places.{InUse, image, image_by, role}
use Rattle.rules.specs.Rules.{among, filled}
use Rattle.rules.specs.declared.roles.Role.{Role}
use Rattle.rules.specs.declared.roles.Role.TheVariants.{Fifth, First, Line, Parity, Retired, Second}

pub mark_valid : (ms : List ℕ) (b : ℕ) → Valid ms → b < 64 → among b ms ≡ false → length ms < 2 → Valid (ms ++ b ∷ [])
mark_valid [] b v h o l = h
mark_valid (m ∷ []) b v h o l = (v, h, eqb-false b m (or_parts (eqb b m) false o).0)
mark_valid (m ∷ n ∷ ms) b v h o l = absurd (omega arith)

pub mark_use : (ms : List ℕ) (b c : ℕ) → length ms < 2 → InUse (ms ++ b ∷ []) c → InUse ms c
mark_use [] b c l u = record { real = u.real; free = tt }
mark_use (m ∷ []) b c l u = record { real = u.real; free = (u.free.0, tt) }
mark_use (m ∷ n ∷ ms) b c l u = absurd (omega arith)

role_stays₀ : (b c : ℕ) → (c ≡ b → ⊥) → (c ≡ 71 → ⊥) → role (b ∷ []) c ≡ role [] c
unfolding role
role_stays₀ b c n n1 = cond-false (eqb c b) Retired _ (ne_eqb c b n) ∙ cond-false (eqb c 71) (Line b) _ (ne_eqb c 71 n1)

image_stays₀ : (lines : ℕ → List ℕ) (b c i k : ℕ) → c < 70 → image_by [] lines i k (role [] c) ≡ image_by (b ∷ []) lines i k (role [] c)
unfolding role image_by
image_stays₀ lines b c i k h =
    let P : Role → Type 0 = λ r. image_by [] lines i k r ≡ image_by (b ∷ []) lines i k r in
    cond_both (ltb c 64) (Line c) _ P (λ _. refl)
    (λ _. cond_both (ltb c 68) (First (c - 64)) _ P (λ _. refl)
    (λ _. cond_both (ltb c 70) (Second (c - 68)) _ P (λ _. refl)
    (λ e. absurd (omega (arith, ltb-false c 70 e)))))

role_stays₁ : (m b c : ℕ) → (c ≡ m → ⊥) → (c ≡ b → ⊥) → (c ≡ 68 → ⊥) → (c ≡ 69 → ⊥) → role (m ∷ b ∷ []) c ≡ role (m ∷ []) c
unfolding role
role_stays₁ m b c n n1 n2 n3 =
    rw (ne_eqb c m n, ne_eqb c b n1, ne_eqb c 69 n3, ne_eqb c 68 n2) refl

image_stays₁ : (lines : ℕ → List ℕ) (m b i k : ℕ) (r : Role) → image_by (m ∷ []) lines i k r ≡ image_by (m ∷ b ∷ []) lines i k r
unfolding image_by
image_stays₁ lines m b i k (Line x) = refl
image_stays₁ lines m b i k (First q) = refl
image_stays₁ lines m b i k (Second q) = refl
image_stays₁ lines m b i k Fifth = refl
image_stays₁ lines m b i k (Parity g) = refl
image_stays₁ lines m b i k Retired = refl

-- a bank that the mark does not fill holds what it held
pub mark_image : (ms : List ℕ) (b : ℕ) → length ms < 2 → (lines : ℕ → List ℕ) (c i k : ℕ) → InUse (ms ++ b ∷ []) c → filled ms c ≡ false
    → image ms lines c i k ≡ image (ms ++ b ∷ []) lines c i k
mark_image [] b l lines c i k u f =
    let o = or_parts (eqb c 70) (eqb c 71) f in
    let n0 : c ≡ 70 → ⊥ = eqb-false c 70 o.0 in
    let n1 : c ≡ 71 → ⊥ = eqb-false c 71 o.1 in
    let r = u.real in
    image_stays₀ lines b c i k (omega arith) ∙ ap (image_by (b ∷ []) lines i k) (sym (role_stays₀ b c u.free.0 n1))
mark_image (m ∷ []) b l lines c i k u f =
    let o = or_parts (eqb c 68) (eqb c 69) f in
    image_stays₁ lines m b i k (role (m ∷ []) c)
    ∙ ap (image_by (m ∷ b ∷ []) lines i k)
    (sym (role_stays₁ m b c u.free.0 u.free.1.0 (eqb-false c 68 o.0) (eqb-false c 69 o.1)))
mark_image (m ∷ n ∷ ms) b l lines c i k u f = absurd (omega arith)
