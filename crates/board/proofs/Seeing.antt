-- What the code's marks are, and results by their cases.
use Rattle.std.proofs.Common.{◌≡◌, ℕ, ◌<◌, List, Some, None, Ok, Err, Option, Result, sym, refl, ap, ◌∙◌, subst, inl, inr, arith, MatchResult}
use Rattle.std.specs.Result.{IsErrAnd}
use Rattle.codec.specs.declared.word.Finding.{Finding}
use Rattle.codec.specs.declared.word.Uncorrectable.{Uncorrectable}
use Rattle.codec.specs.Shown.{told}
use Rattle.stack.specs.declared.refusal.Refusal.{Refusal}
use Rattle.stack.specs.declared.refusal.Refusal.TheVariants.{BankOutOfRange, RebuildFailed}
use Rattle.rules.specs.Places.{role}
use Rattle.rules.specs.Rules.{argument_check, denied, judged_or, unless}
use Rattle.rules.specs.Work.{markable}
use Rattle.rules.specs.declared.calls.Call.TheVariants.{Mark}
use Rattle.rules.proofs.Retiring.{mark_bank, mark_middle}
use Rattle.std.proofs.lemmas.Bool.{cases_lt, lt-ltb, le-ltb}
use Rattle.stack.specs.Memory.{Meaning}
use Rattle.rules.specs.declared.roles.Role.{Role}
use Rattle.rules.proofs.Geometry.{Low, Real, role_low}
use Rattle.board.specs.declared.marks.Marks.{Marks}
use Rattle.board.specs.declared.marks.Marks.TheVariants.{Zero, One, Two}
use Rattle.board.specs.Marks.{listed, unmarkable}
use Rattle.board.specs.Told.{obtained_by}

-- marked banks are below 64
pub listed_low : (m : Marks) → Low (listed m)
listed_low Zero = tt
listed_low (One m) = m.low
listed_low (Two m n) = (m.low, n.low)

-- what the code finds a bank to hold speaks of banks that there are
pub role_real : (m : Marks) (bank : ℕ) (r : Role) → bank < 72 → r ≡ role (listed m) bank → Real (listed m) r
role_real m bank r h e = subst (Real (listed m)) (sym e) (role_low (listed m) (listed_low m) bank h)

-- a load that can be denied nothing
pub not_denied : {X : Type 0} (r : Result X Refusal) (P : Type 0) (o : Option Refusal) → MatchResult r (λ _. P) (λ e. o ≡ Some e) → o ≡ None → P
not_denied (Ok x) P o h n = h
not_denied (Err e) P o h n = let z : ◌≡◌ {A = ℕ} 0 1 = cc in absurd (omega arith)

-- a result whose error was replaced, from what it is now
pub mapped_ok : (r : Result Finding Uncorrectable) (r' : Result Finding Refusal) (Q : Uncorrectable → Refusal → Type 0) (f : Finding)
    → MatchResult r (λ x. r' ≡ Ok x) (λ d. IsErrAnd r' (Q d)) → r' ≡ Ok f → r ≡ Ok f
mapped_ok (Ok x) r' Q f h e = let q : ◌≡◌ {A = Result Finding Refusal} (Ok x) (Ok f) = sym h ∙ e in let z : x ≡ f = cc in ap Ok z
mapped_ok (Err d) (Ok x) Q f h e = absurd h
mapped_ok (Err d) (Err x) Q f h e = let z : ◌≡◌ {A = ℕ} 0 1 = cc in absurd (omega arith)

pub mapped_err : (r : Result Finding Uncorrectable) (r' : Result Finding Refusal) (Q : Uncorrectable → Refusal → Type 0) (e : Refusal)
    → MatchResult r (λ x. r' ≡ Ok x) (λ d. IsErrAnd r' (Q d)) → r' ≡ Err e → (d : Uncorrectable) × (r ≡ Err d) × Q d e
mapped_err (Ok x) r' Q e h q = let p : ◌≡◌ {A = Result Finding Refusal} (Ok x) (Err e) = sym h ∙ q in let z : ◌≡◌ {A = ℕ} 0 1 = cc in absurd (omega arith)
mapped_err (Err d) (Ok x) Q e h q = absurd h
mapped_err (Err d) (Err x) Q e h q = let z : x ≡ e = cc in (d, refl, subst (Q d) z h)

-- a judged word, an uncorrectable one told as a rebuilding that failed
pub judged_told : (r : Result Finding Uncorrectable) (r' : Result Finding Refusal) {Q : Uncorrectable → Refusal → Type 0} (line : List ℕ) (a : ℕ)
    → MatchResult r (λ x. r' ≡ Ok x) (λ d. IsErrAnd r' (Q d)) → ((d : Uncorrectable) (e : Refusal) → Q d e → e ≡ RebuildFailed a)
    → judged_or (told r line) a ≡ obtained_by r' line
judged_told (Ok x) r' line a h q = ap (λ z. obtained_by z line) (sym h)
judged_told (Err d) (Ok x) line a h q = absurd h
judged_told (Err d) (Err e) line a h q = ap denied (sym (q d e h))

-- a bank that may be marked, by its number, and the refusal of one that may not
pub unmarkable_none : (ms : List ℕ) (b : ℕ) → unmarkable ms b ≡ None → (b < 64) × (markable b ms ≡ None)
unmarkable_none ms b h =
    elim (cases_lt b 64) [
      | inl l ↦ (l, ap (λ t. unless t BankOutOfRange (markable b ms)) (sym (lt-ltb b 64 l)) ∙ h)
      | inr l ↦
          let q : Some BankOutOfRange ≡ None = ap (λ t. unless t BankOutOfRange (markable b ms)) (sym (le-ltb b 64 l)) ∙ h in
          let z : ◌≡◌ {A = ℕ} 0 1 = cc in absurd (omega arith)
    ]

pub unmarkable_refused : (m : Meaning) (ms : List ℕ) (b n : ℕ) (e : Refusal) → unmarkable ms b ≡ Some e → argument_check m.size ms (Mark b n) ≡ Some e
unmarkable_refused m ms b n e h =
    elim (cases_lt b 64) [
      | inl l ↦ mark_middle m ms b n e l (ap (λ t. unless t BankOutOfRange (markable b ms)) (sym (lt-ltb b 64 l)) ∙ h)
      | inr l ↦ mark_bank m ms b n l ∙ ap (λ t. unless t BankOutOfRange (markable b ms)) (sym (le-ltb b 64 l)) ∙ h
    ]
