-- Lines loaded into a work buffer, one after the other.
use Rattle.std.proofs.Common.{◌≡◌, ℕ, suc, ◌+◌, ◌-◌, ◌*◌, ◌<◌, ◌⊎◌, List, [], ◌∷◌, ◌++◌, Some, None, sym, refl, ap, ◌∙◌, inl, inr, arith}
use Rattle.std.specs.List.{range_with_len}
use Rattle.std.proofs.lemmas.Bool.{cases_eq}
use Rattle.rules.proofs.Gathering.{counting_split, addresses_append}
use Rattle.codec.specs.declared.word.Finding.{Finding}
use Rattle.rules.specs.Rules.{Outcome, addresses, denied, first_denied, line_of, obtained, step_first}
use Rattle.rules.specs.Work.{Loaded, slot}
use Rattle.stack.specs.declared.refusal.Refusal.{Refusal}

some_none : (e : Refusal) → Some e ≡ None → ⊥
some_none e q = let z : ◌≡◌ {A = ℕ} 0 1 = cc in omega arith

cases_outcome : (o : Outcome) → ((l : List ℕ) × (f : Finding) × (o ≡ obtained l f)) ⊎ ((e : Refusal) × (o ≡ denied e))
cases_outcome (obtained l f) = inl (l, f, refl)
cases_outcome (denied e) = inr (e, refl)

module _ (g : ℕ → Outcome) where
  pub first_append : (ps qs : List ℕ) → first_denied g ps ≡ None → first_denied g (ps ++ qs) ≡ first_denied g qs
  unfolding first_denied
  first_append [] qs e = refl
  first_append (p ∷ ps) qs e =
      elim (cases_outcome (g p)) [
        | inl q ↦ ap (λ z. step_first z (first_denied g (ps ++ qs))) q.2
            ∙ first_append ps qs (sym (ap (λ z. step_first z (first_denied g ps)) q.2) ∙ e)
        | inr q ↦ absurd (some_none q.0 (sym (ap (λ z. step_first z (first_denied g ps)) q.1) ∙ e))
      ]

  pub first_some : (ps qs : List ℕ) (r : Refusal) → first_denied g ps ≡ Some r → first_denied g (ps ++ qs) ≡ Some r
  unfolding first_denied
  first_some [] qs r e = absurd (some_none r (sym e))
  first_some (p ∷ ps) qs r e =
      elim (cases_outcome (g p)) [
        | inl q ↦ ap (λ z. step_first z (first_denied g (ps ++ qs))) q.2
            ∙ first_some ps qs r (sym (ap (λ z. step_first z (first_denied g ps)) q.2) ∙ e)
        | inr q ↦ ap (λ z. step_first z (first_denied g (ps ++ qs))) q.1 ∙ sym (ap (λ z. step_first z (first_denied g ps)) q.1) ∙ e
      ]

  pub first_part : (ps qs : List ℕ) → first_denied g (ps ++ qs) ≡ None → first_denied g ps ≡ None
  unfolding first_denied
  first_part [] qs e = refl
  first_part (p ∷ ps) qs e =
      elim (cases_outcome (g p)) [
        | inl q ↦ ap (λ z. step_first z (first_denied g ps)) q.2
            ∙ first_part ps qs (sym (ap (λ z. step_first z (first_denied g (ps ++ qs))) q.2) ∙ e)
        | inr q ↦ absurd (some_none q.0 (sym (ap (λ z. step_first z (first_denied g (ps ++ qs))) q.1) ∙ e))
      ]

module _ (g : ℕ → Outcome) (i lo : ℕ) where
  pub load_start : (w : List ℕ) → Loaded g i lo 0 w
  unfolding first_denied
  load_start w = record { none = refl; lines = λ x l u. absurd (omega arith) }

  more_split : (m n : ℕ) → addresses i (range_with_len lo (m + n)) ≡ addresses i (range_with_len lo m) ++ addresses i (range_with_len (lo + m) n)
  more_split m n = ap (addresses i) (counting_split lo m n) ∙ addresses_append i (range_with_len lo m) (range_with_len (lo + m) n)

  pub load_more : (n : ℕ) (w w' line : List ℕ) (f : Finding) → g (64 * i + (lo + n)) ≡ obtained line f → slot w' (lo + n) ≡ line
      → ((x : ℕ) → (x ≡ lo + n → ⊥) → slot w' x ≡ slot w x) → Loaded g i lo n w → Loaded g i lo (n + 1) w'
  unfolding first_denied
  load_more n w w' line f o e same h =
      record {
        none = ap (first_denied g) (more_split n 1) ∙ first_append g (addresses i (range_with_len lo n)) _ h.none ∙ ap (λ z. step_first z None) o;
        lines = λ x l u.
            elim (cases_eq x (lo + n)) [
              | inl q ↦ rw q (e ∙ ap line_of (sym o))
              | inr q ↦ same x q ∙ h.lines x l (omega arith)
            ];
      }

  pub load_denied : (n all : ℕ) (w : List ℕ) (e : Refusal) → n < all → g (64 * i + (lo + n)) ≡ denied e → Loaded g i lo n w
      → first_denied g (addresses i (range_with_len lo all)) ≡ Some e
  unfolding first_denied
  load_denied n all w e l o h =
      let r : ℕ = all - suc n in
      let q : all ≡ n + suc r = omega arith in
      ap (λ m. first_denied g (addresses i (range_with_len lo m))) q ∙ ap (first_denied g) (more_split n (suc r))
      ∙ first_append g (addresses i (range_with_len lo n)) (addresses i (range_with_len (lo + n) (suc r))) h.none
      ∙ ap (λ z. step_first z (first_denied g (addresses i (range_with_len (lo + n + 1) r)))) o
