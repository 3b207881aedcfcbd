use Rattle.std.proofs.Common.{◌≡◌, ℕ, ◌-◌, ◌*◌, ◌<◌, Bool, true, false, T, length, sym, refl, ◌∙◌, subst, zero-add, rules, tests, arith}
use Rattle.std.specs.Bool.{MatchBool}
use Rattle.std.specs.List.{AllWithin, HoldsAt, range_with_len}
use Rattle.std.proofs.lemmas.Iterator.{cases_from_all, YieldsList-from_range}
use Rattle.std.proofs.lemmas.List.FromFn.{get_or-range_with_len, length-range_with_len}
use Rattle.board.specs.State.{state}
use Rattle.rehearsal.specs.Theorem.{HandsOutEqual}
use Rattle.rehearsal.proofs.comparing.same_lines.Goals as goal

-- what the test of every number below n says of each
module _ (P : ℕ → Type 0) (n : ℕ) where
  at_each : (r : Bool) → MatchBool r (AllWithin P (range_with_len 0 n) 0 (length (range_with_len 0 n))) ((k : ℕ) × (k < length (range_with_len 0 n)) × HoldsAt (λ a. P a → ⊥) (range_with_len 0 n) k)
      → (T r → (a : ℕ) → a < n → P a) × (((a : ℕ) → a < n → P a) → T r)
  at_each true h = (
    λ t a l. subst P (get_or-range_with_len 0 n a 0 l ∙ zero-add a) (h a 0 (omega arith) (omega (arith, length-range_with_len 0 n))),
    λ all. tt,
  )
  at_each false h = (
    λ t. absurd t,
    λ all.
        let l : h.0 < n = omega (arith, h.1, length-range_with_len 0 n) in
        h.2 0 (subst P (sym (get_or-range_with_len 0 n h.0 0 l ∙ zero-add h.0)) (all h.0 l)),
  )

pub returns-then-size : goal.returns-then-size
returns-then-size g c =
    let P = HandsOutEqual (state g.A.Stack c.args.left.now) (state g.B.Stack c.args.right.now) in
    let size = (g.A.Stack.means c.args.left.now.stack).size in
    let n : ℕ = 64 * c.size-then-size.result - 0 in
    let all : n ≡ 64 * size = omega (arith, c.size-then-size.ensures.is_the_size) in
    let each = at_each P n c.all.result
    (cases_from_all _ _ _ P (λ a. P a → ⊥) c.all.ensures.ran (YieldsList-from_range _ _ _ refl refl) (λ x q k. search (rules, tests)) (λ x q k. search (rules, tests))) in
    record {
      tells_exactly = record {
        only = λ t. record { size = sym c.size.ensures.is_the_size ∙ c.if-size.true ∙ c.size-2.ensures.is_the_size; lines = λ a l. each.0 t a (omega (arith, all, l)) };
        whenever = λ e. each.1 (λ a l. e.lines a (omega (arith, all, l)));
      };
    }
