-- A list of calls run one after the other.
use Rattle.std.proofs.Common.{◌≡◌, ℕ, zero, suc, ◌+◌, ◌-◌, ◌<◌, ◌≤◌, List, ◌∷◌, length, get_or, drop, set, sym, refl, ap, ◌∙◌, subst, ap₂, add-one, arith, Bor, Ok}
use Rattle.std.proofs.lemmas.List.{drop-drop, drop-set-lt, get_or-set_other, get_or-set_same}
use Rattle.stack.specs.declared.memory.Stack.{Ghosts}
use Rattle.rules.specs.History.{Event}
use Rattle.rules.specs.Answers.{Answer}
use Rattle.rules.specs.declared.calls.Outcome.TheVariants.{Done}
use Rattle.rules.specs.declared.calls.Call.{Call}
use Rattle.rules.specs.declared.calls.Call.TheVariants.{Read}
use Rattle.board.specs.declared.board.Board.{Board}
use Rattle.rehearsal.specs.Events.{heard, first_events}
use Rattle.rehearsal.specs.Traces.{Called, RanOn, none, more}

module _ (cs : List (Call (Bor (List ℕ)))) where
  -- an answer entered leaves the events before it
  events_before : (rs : List Answer) (n i : ℕ) (r : Answer) → n ≤ i → first_events cs (set rs i r) n ≡ first_events cs rs n
  unfolding first_events
  events_before rs zero i r h = refl
  events_before rs (suc n) i r h =
      ap₂ (λ (x : Answer) (es : List Event). record { call = heard (get_or cs n (Read 0 0)); answer = x } ∷ es) (get_or-set_other rs i n r (Ok Done) (λ e. omega arith)) (events_before rs n i r (omega arith))

  events_more : (rs : List Answer) (i : ℕ) (r : Answer) → i < length rs
      → first_events cs (set rs i r) (i + 1) ≡ record { call = heard (get_or cs i (Read 0 0)); answer = r } ∷ first_events cs rs i
  unfolding first_events
  events_more rs i r h =
      ap (first_events cs (set rs i r)) (add-one i)
      ∙ ap₂ (λ (x : Answer) (es : List Event). record { call = heard (get_or cs i (Read 0 0)); answer = x } ∷ es) (get_or-set_same rs i r (Ok Done) h) (events_before rs i i r (omega arith))

  module _ {X : Type 0} (G : Ghosts X) (b : Board X) where
    pub ran_none : (rs : List Answer) → RanOn G b (first_events cs rs 0) b
    unfolding first_events
    ran_none rs = none

    pub ran_more : (t u : Board X) (rs : List Answer) (i : ℕ) (r : Answer) → i < length rs → RanOn G b (first_events cs rs i) t
        → Called G t (heard (get_or cs i (Read 0 0))) r u → RanOn G b (first_events cs (set rs i r) (i + 1)) u
    ran_more t u rs i r h run did = subst (λ es. RanOn G b es u) (sym (events_more rs i r h)) (more run did)

-- what lies behind the answers so far stays
pub rest_more : (rs was : List Answer) (i : ℕ) (r : Answer) → drop i rs ≡ drop i was → drop (i + 1) (set rs i r) ≡ drop (i + 1) was
rest_more rs was i r e = drop-set-lt (i + 1) rs i r (omega arith) ∙ sym (drop-drop 1 i rs) ∙ ap (drop 1) e ∙ drop-drop 1 i was

pub rest_behind : (rs was : List Answer) (i n : ℕ) → i ≤ n → drop i rs ≡ drop i was → drop n rs ≡ drop n was
rest_behind rs was i n h e =
    let m : i + (n - i) ≡ n = omega arith in
    subst (λ k. drop k rs ≡ drop k was) m (sym (drop-drop (n - i) i rs) ∙ ap (drop (n - i)) e ∙ drop-drop (n - i) i was)
