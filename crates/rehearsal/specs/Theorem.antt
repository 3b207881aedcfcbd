-- The main theorem on two boards, as a rehearsal of two lists of calls has it.
use Rattle.std.specs.Prelude.{◌≡◌, ℕ, ◌*◌, ◌<◌, Bool, T, List}
use Rattle.stack.specs.declared.memory.Stack.{Ghosts}
use Rattle.rules.specs.Rules.{State, answer}
use Rattle.rules.specs.History.{Event, NoneNamed, Tolerable, ledger}
use Rattle.rules.specs.Theorem.{Equal, ReadsBack, SameLines, line_handed}
use Rattle.rules.specs.Answers.{Answer}
use Rattle.rules.specs.declared.calls.Call.TheVariants.{Read}
use Rattle.board.specs.State.{state}
use Rattle.board.specs.declared.board.Board.{Board}
use Rattle.rehearsal.specs.declared.Rehearsal.{Rehearsal}
use Rattle.rehearsal.specs.Events.{Calls, events}
use Rattle.rehearsal.specs.Traces.{RefusedAsRuled, Tolerated, Trace}

-- reads into 64 bytes hand out the same line at an address, or both none
abbrev pub HandsOutEqual : State → State → ℕ → Type 0
HandsOutEqual s t a = line_handed (answer s (Read a 64)) ≡ line_handed (answer t (Read a 64))

-- two boards have one size, and reads into 64 bytes hand out the same lines (or none) at every address
pub record ReadsEqual (s t : State) : Type 0 where
  pub size : s.size ≡ t.size
  pub lines : (a : ℕ) → a < 64 * s.size → HandsOutEqual s t a

-- each of two statements follows from the other
pub record ExactlyWhen (P Q : Type 0) : Type 0 where
  pub only : P → Q
  pub whenever : Q → P

module _ {X Y : Type 0} (G : Ghosts X) (H : Ghosts Y) (x : X) (y : Y) (a : Board X) (b : Board Y) (es fs : List Event) where
  -- damage was tolerable before every call and is at the end, the sizes are equal, and the same banks were marked in the same order
  pub record Comparable (run : Trace G x a es) (run' : Trace H y b fs) : Type 0 where
    pub tolerated : Tolerated run
    pub tolerated' : Tolerated run'
    pub at_end : Tolerable NoneNamed (state G a)
    pub at_end' : Tolerable NoneNamed (state H b)
    pub sizes : (state G a).size ≡ (state H b).size
    pub marks : (ledger es).marks ≡ (ledger fs).marks

  -- what then holds; `equal` is what the rehearsal answers
  pub record Conclusion (equal : Bool) (run : Trace G x a es) (run' : Trace H y b fs) : Type 0 where
    pub same : ExactlyWhen (Equal (state G a) (state H b)) (SameLines (state G a).size es fs)
    pub reads : ReadsBack (state G a) es
    pub reads' : ReadsBack (state H b) fs
    pub refusals : RefusedAsRuled run
    pub refusals' : RefusedAsRuled run'
    pub answered : ExactlyWhen (T equal) (SameLines (state G a).size es fs)

  -- both lists were run on newly formatted boards, and the theorem holds of every way in which the stacks can have gone through them
  pub record Rehearsed (equal : Bool) : Type 0 where
    pub ran : Trace G x a es
    pub ran' : Trace H y b fs
    pub compared : ExactlyWhen (T equal) (ReadsEqual (state G a) (state H b))
    pub theorem : (run : Trace G x a es) (run' : Trace H y b fs) → Comparable run run' → Conclusion equal run run'

-- the same of a rehearsal's result, the calls given and the answers got
abbrev pub Rehearses : {X Y : Type 0} → Ghosts X → Ghosts Y → X → Y → Rehearsal X Y → Calls → List Answer → Calls → List Answer → Type 0
Rehearses G H x y r cs told ds said = Rehearsed G H x y r.first r.second (events cs told) (events ds said) r.equal
