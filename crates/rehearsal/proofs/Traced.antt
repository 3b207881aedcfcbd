-- The main theorem, for boards whose calls were traced.
use Rattle.std.proofs.Common.{◌≡◌, ℕ, ◌*◌, ◌<◌, Bool, T, List, Some, sym, ap, ◌∙◌}
use Rattle.stack.specs.declared.memory.Stack.{Ghosts}
use Rattle.rules.specs.Rules.{State}
use Rattle.rules.specs.History.{Event, History, fresh, next, ledger}
use Rattle.rules.specs.Theorem.{ReadsBack, SameLines, line_handed}
use Rattle.rules.proofs.Main.{main, ruled}
use Rattle.board.specs.State.{state}
use Rattle.board.specs.declared.board.Board.{Board}
use Rattle.rehearsal.specs.Traces.{Made, RanOn, none, more, RefusedAsRuled, Tolerated, Trace, made, then_called}
use Rattle.rehearsal.specs.Theorem.{Comparable, Conclusion, ExactlyWhen, ReadsEqual}

module _ {X : Type 0} {G : Ghosts X} {x : X} where
  pub trace_of : {b t : Board X} {es : List Event} → Made G x b → RanOn G b es t → Trace G x t es
  trace_of m none = made m
  trace_of m (more run did) = then_called (trace_of m run) did

  history_of : {b : Board X} {es : List Event} (run : Trace G x b es) → Tolerated run → History (state G b) es
  history_of (made m) t = fresh m.formatted
  history_of (then_called run did) t = next (history_of run t.0) t.1 did.step

  refused_as_ruled : {b : Board X} {es : List Event} (run : Trace G x b es) → Tolerated run → RefusedAsRuled run
  unfolding history_of
  refused_as_ruled (made m) t = tt
  refused_as_ruled (then_called run did) t = (refused_as_ruled run t.0, (ruled _ _ (history_of (then_called run did) t)).0)

some_same : (l m : List ℕ) → Some l ≡ Some m → l ≡ m
some_same l m e = cc

-- boards that read back their ledgers have the same lines exactly when they read the same
reads_lines : (s t : State) (es fs : List Event) → s.size ≡ t.size → ReadsBack s es → ReadsBack t fs → ReadsEqual s t → SameLines s.size es fs
reads_lines s t es fs z p q e = λ a h.
    let h' : a < 64 * t.size = rw z at h in
    some_same ((ledger es).lines a) ((ledger fs).lines a) (sym (ap line_handed (p a h).1) ∙ e.lines a h ∙ ap line_handed (q a h').1)

pub concluded : {X Y : Type 0} (G : Ghosts X) (H : Ghosts Y) (x : X) (y : Y) (a : Board X) (b : Board Y) (es fs : List Event) (equal : Bool)
    → ExactlyWhen (T equal) (ReadsEqual (state G a) (state H b))
    → (run : Trace G x a es) (run' : Trace H y b fs) → Comparable G H x y a b es fs run run' → Conclusion G H x y a b es fs equal run run'
concluded G H x y a b es fs equal told run run' c =
    let s = state G a in
    let t = state H b in
    let holds = main s t es fs (history_of run c.tolerated) (history_of run' c.tolerated') c.sizes c.marks c.at_end c.at_end' in
    record {
      same = record { only = holds.equal_then; whenever = holds.same_then };
      reads = holds.reads;
      reads' = holds.reads';
      refusals = refused_as_ruled run c.tolerated;
      refusals' = refused_as_ruled run' c.tolerated';
      answered = record {
        only = λ e. reads_lines s t es fs c.sizes holds.reads holds.reads' (told.only e);
        whenever = λ e. told.whenever (record { size = c.sizes; lines = (holds.same_then e).reads });
      };
    }
