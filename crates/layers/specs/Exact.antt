-- What the calls of a layer do exactly, by what they do to the memory below and to the layer's table.
use Rattle.std.specs.Prelude.{◌≡◌, [], ◌∷◌, ◌++◌, map, Result, MatchOption}
use Rattle.std.specs.Result as results
use Rattle.stack.specs.declared.refusal.Refusal.{Refusal}
use Rattle.stack.specs.Memory.{Meaning, Piece}
use Rattle.stack.specs.Pieces.{Accepted, InOrder, Rested}
use Rattle.layers.specs.Faults.{aged, outlasting}
use Rattle.layers.specs.Lines.{absorbed, drained}
use Rattle.layers.specs.Tables.{faults_in, lines_in}
use Rattle.layers.specs.declared.fault.Fault.{Fault}
use Rattle.layers.specs.declared.injector.FaultTable.{FaultTable}
use Rattle.layers.specs.declared.injector.FaultInjector.{FaultInjector}
use Rattle.layers.specs.declared.buffer.WriteBuffer.{WriteBuffer}

-- a fault more stands at the table's end, or the table is as it was
abbrev pub Struck : Result (Unit {0}) Refusal → FaultTable → Fault → FaultTable → Type 0
Struck r old fault new = results.MatchResult r (λ _. faults_in new ≡ faults_in old ++ fault ∷ []) (λ _. new ≡ old)

-- the piece is put below, and the flips that act on its bytes are gone
pub record InjectorPuts {X : Type 0} (means : X → Meaning) (puts : X → Piece → X → Type 0) (s : FaultInjector X) (p : Piece) (t : FaultInjector X) : Type 0 where
  pub down : Accepted means puts s.below p t.below
  pub faults : faults_in t.table ≡ outlasting p (faults_in s.table)

-- the memory below is settled
pub record InjectorSettles {X : Type 0} (means : X → Meaning) (settles : X → X → Type 0) (s t : FaultInjector X) : Type 0 where
  pub down : Rested means settles s.below t.below
  pub faults : t.table ≡ s.table

-- the interval goes by below, and every delay above 0 falls by one
pub record InjectorPasses {X : Type 0} (means : X → Meaning) (passes : X → X → Type 0) (s t : FaultInjector X) : Type 0 where
  pub down : Rested means passes s.below t.below
  pub faults : faults_in t.table ≡ map aged (faults_in s.table)

-- the piece is put below and the lines stay, or the lines take it up and the memory below stays
abbrev pub BufferPuts : {X : Type 0} → (X → Meaning) → (X → Piece → X → Type 0) → WriteBuffer X → Piece → WriteBuffer X → Type 0
BufferPuts means puts s p t =
    MatchOption (absorbed (lines_in s.table) p) (Accepted means puts s.below p t.below × (t.table ≡ s.table)) (λ ls. (t.below ≡ s.below) × (lines_in t.table ≡ ls))

-- the lines are put down in the order in which they came and let go, and then the memory below is settled
pub record BufferSettles {X : Type 0} (means : X → Meaning) (puts : X → Piece → X → Type 0) (settles : X → X → Type 0) (s t : WriteBuffer X) : Type 0 where
  pub between : X
  pub down : InOrder means puts s.below (drained (means s.below).size (lines_in s.table)) between
  pub settled : Rested means settles between t.below
  pub lines : lines_in t.table ≡ []

-- the interval goes by below
pub record BufferPasses {X : Type 0} (means : X → Meaning) (passes : X → X → Type 0) (s t : WriteBuffer X) : Type 0 where
  pub down : Rested means passes s.below t.below
  pub lines : t.table ≡ s.table
