-- Calls on boards, from what the board promises.
use Rattle.std.proofs.Common.{◌≡◌, ℕ, Bool, true, false, T, List, [], Some, Decides, sym, refl, ap, ◌∙◌, inl, inr, Ok}
use Rattle.codec.specs.declared.word.Finding.{Finding}
use Rattle.std.specs.List.{range_with_len}
use Rattle.std.proofs.lemmas.Bool.{cases_Bool, false≢true, cond-false, cond-true}
use Rattle.stack.specs.declared.memory.Stack.{Ghosts}
use Rattle.rules.specs.Rules.{State, HostCall, accepted, answer, plan, puts}
use Rattle.rules.specs.History.{Given, Step}
use Rattle.rules.specs.Theorem.{line_handed}
use Rattle.rules.specs.Answers.{Answer}
use Rattle.rules.specs.declared.calls.Outcome.TheVariants.{HandedOut}
use Rattle.rehearsal.specs.Theorem.{ExactlyWhen, HandsOutEqual}
use Rattle.rules.specs.declared.calls.Call.TheVariants.{Read}
use Rattle.rules.proofs.Chain.{step_by_puts, shown_small}
use Rattle.rules.proofs.Laying.{along_nothing}
use Rattle.board.specs.Marks.{listed}
use Rattle.board.specs.State.{state, MarksOf, PutsOf}
use Rattle.board.specs.declared.board.Board.{Board}

-- a call's step, from its answer, its puts and its marks
pub stepped : {X : Type 0} (G : Ghosts X) (b t : Board X) (c : HostCall) (r : Answer) → Given c → r ≡ answer (state G b) c → PutsOf G b c t → MarksOf G b c t
    → Step (state G b) c r (state G t)
stepped G b t c r given says puts marks =
    step_by_puts G b.stack t.stack (listed b.marks) (listed t.marks) c r given says marks puts (shown_small G t.stack)

-- a read puts nothing
pub read_puts : (s : State) (a n : ℕ) → puts s (Read a n) ≡ []
read_puts s a n =
    elim (cases_Bool (accepted (answer s (Read a n)))) [
      | inl t ↦ cond-true (accepted (answer s (Read a n))) _ [] t ∙ along_nothing (plan s (Read a n)) (range_with_len 0 s.size) (λ j b. refl)
      | inr t ↦ cond-false (accepted (answer s (Read a n))) _ [] t
    ]

some_same : (A B : List ℕ) → Some A ≡ Some B → A ≡ B
some_same A B e = cc

-- two lines handed out, compared
pub compared : (s t : State) (a : ℕ) (A B : List ℕ) (f g : Finding) (r : Bool) → Ok (HandedOut A f) ≡ answer s (Read a 64) → Ok (HandedOut B g) ≡ answer t (Read a 64)
    → Decides r (A ≡ B) → ExactlyWhen (T r) (HandsOutEqual s t a)
compared s t a A B f g true p q d = record { only = λ _. sym (ap line_handed p) ∙ ap Some (d.0 refl) ∙ ap line_handed q; whenever = λ _. tt }
compared s t a A B f g false p q d = record { only = λ x. absurd x; whenever = λ e. absurd (false≢true (d.1 (some_same A B (ap line_handed p ∙ e ∙ sym (ap line_handed q))))) }
