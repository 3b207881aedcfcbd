-- What calls do to a board over a stack, one by one and in whole lists.
use Rattle.std.specs.Prelude.{◌≡◌, List, [], ◌∷◌}
use Rattle.stack.specs.declared.memory.Stack.{Ghosts}
use Rattle.rules.specs.Rules.{HostCall}
use Rattle.rules.specs.History.{Event, Formatted, Named, Step, Tolerable}
use Rattle.rules.specs.Theorem.{refusal_in, ruled_refusal}
use Rattle.rules.specs.Answers.{Answer}
use Rattle.rules.specs.declared.calls.Call.TheVariants.{Read, Write, Renew, Clear, Scrub, Mark, Settle, Pass}
use Rattle.board.specs.State.{state, PutsOf, FormatRun}
use Rattle.board.specs.declared.board.Board.{Board}

-- exactly what a stack went through in a call: the call's pieces, a settle or a pass
abbrev pub Exactly : {X : Type 0} → Ghosts X → Board X → HostCall → Board X → Type 0
Exactly G b (Read a n) t = PutsOf G b (Read a n) t
Exactly G b (Write a l) t = PutsOf G b (Write a l) t
Exactly G b (Renew a l) t = PutsOf G b (Renew a l) t
Exactly G b (Clear a) t = PutsOf G b (Clear a) t
Exactly G b (Scrub a w) t = PutsOf G b (Scrub a w) t
Exactly G b (Mark m w) t = PutsOf G b (Mark m w) t
Exactly G b Settle t = G.settles b.stack t.stack
Exactly G b Pass t = G.passes b.stack t.stack

-- a call on a board, its answer and the board after it
pub record Called {X : Type 0} (G : Ghosts X) (b : Board X) (c : HostCall) (r : Answer) (t : Board X) : Type 0 where
  pub step : Step (state G b) c r (state G t)
  pub exactly : Exactly G b c t

-- a stack formatted
pub record Made {X : Type 0} (G : Ghosts X) (x : X) (b : Board X) : Type 0 where
  pub formatted : Formatted (state G b)
  pub size : (G.means b.stack).size ≡ (G.means x).size
  pub exactly : FormatRun G x b.stack

-- a stack formatted and then called, the latest call first
pub data Trace {X : Type 0} (G : Ghosts X) (x : X) : Board X → List Event → Type 0 where
  made : {b : Board X} → Made G x b → Trace G x b []
  then_called : {b t : Board X} {es : List Event} {c : HostCall} {r : Answer}
      → Trace G x b es → Called G b c r t → Trace G x t (record { call = c; answer = r } ∷ es)

-- damage was tolerable before every call
abbrev pub Tolerated : {X : Type 0} {G : Ghosts X} {x : X} {b : Board X} {es : List Event} → Trace G x b es → Type 0
Tolerated (made m) = Unit {0}
Tolerated {G = G} (then_called {b = b} {c = c} run did) = Tolerated run × Tolerable (Named c) (state G b)

-- every call was refused exactly when, and as, the rules say of its arguments and of the state it met
abbrev pub RefusedAsRuled : {X : Type 0} {G : Ghosts X} {x : X} {b : Board X} {es : List Event} → Trace G x b es → Type 0
RefusedAsRuled (made m) = Unit {0}
RefusedAsRuled {G = G} (then_called {b = b} {c = c} {r = r} run did) = RefusedAsRuled run × (refusal_in r ≡ ruled_refusal (state G b) c)

-- a board called, the latest call first
pub data RanOn {X : Type 0} (G : Ghosts X) (b : Board X) : List Event → Board X → Type 0 where
  none : RanOn G b [] b
  more : {t u : Board X} {es : List Event} {c : HostCall} {r : Answer}
      → RanOn G b es t → Called G t c r u → RanOn G b (record { call = c; answer = r } ∷ es) u
