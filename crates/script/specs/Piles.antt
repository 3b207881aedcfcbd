-- A write buffer over a fault injector over a memory in bytes, as a value that every put, settle and pass determines.
use Rattle.std.specs.Prelude.{ℕ, List, [], ◌∷◌, ◌++◌, map, length, replicate, Some, None, Ok, Err, vec_items, Option, Result}
use Rattle.stack.specs.Flat.{flat_means, size_of, written}
use Rattle.stack.specs.Memory.{Meaning, Piece}
use Rattle.stack.specs.Memories.{ByteMemory}
use Rattle.stack.specs.declared.refusal.Refusal.{Refusal}
use Rattle.layers.specs.Faults.{aged, faulty, outlasting, struck}
use Rattle.layers.specs.Lines.{absorbed, buffering, drained}
use Rattle.layers.specs.Tables.{faults_in, lines_in}
use Rattle.layers.specs.declared.fault.Fault.{Fault}
use Rattle.layers.specs.declared.line.BufferedLine.{BufferedLine}
use Rattle.layers.specs.declared.buffer.WriteBuffer.{WriteBuffer}
use Rattle.layers.specs.declared.injector.FaultInjector.{FaultInjector}

-- the memory's bytes, the faults and the buffered lines, each in order
pub record Pile : Type 0 where
  pub bytes : List ℕ
  pub faults : List Fault
  pub buffered : List BufferedLine

abbrev pub pile : List ℕ → List Fault → List BufferedLine → Pile
pile bytes faults buffered = record { bytes = bytes; faults = faults; buffered = buffered }

-- the pile that a program holds, and an injector with nothing buffered above it
abbrev pub pile_of : WriteBuffer (FaultInjector ByteMemory) → Pile
pile_of w = pile (vec_items w.below.below.bytes) (faults_in w.below.table) (lines_in w.table)

abbrev pub bare_pile_of : FaultInjector ByteMemory → Pile
bare_pile_of x = pile (vec_items x.below.bytes) (faults_in x.table) []

-- what it means: the bytes as faults show them, under the buffered lines
abbrev pub meaning : Pile → Meaning
meaning s = buffering s.buffered (faulty s.faults (flat_means s.bytes))

-- the number of its indexes
abbrev pub size : Pile → ℕ
size s = size_of (length s.bytes)

-- zeros in a memory of 8 indexes, no fault, and nothing buffered
unfoldable pub blank : Pile
blank = pile (replicate 36864 0) [] []

-- a piece put below the write buffer: it is stored, and the flips that act on it are gone
abbrev pub put_below : Pile → Piece → Pile
put_below s p = pile (written s.bytes p) (outlasting p s.faults) s.buffered

-- a piece put: the write buffer takes it, or it goes down
abbrev pub put_or_buffer : Option (List BufferedLine) → Pile → Piece → Pile
put_or_buffer None s p = put_below s p
put_or_buffer (Some ls) s p = pile s.bytes s.faults ls

abbrev pub put : Pile → Piece → Pile
put s p = put_or_buffer (absorbed s.buffered p) s p

-- pieces put one after the other
unfoldable pub in_turn : (Pile → Piece → Pile) → Pile → List Piece → Pile
in_turn f s [] = s
in_turn f s (p ∷ ps) = in_turn f (f s p) ps

-- a settle puts the buffered lines down in turn, and lets go of them
abbrev pub emptied : Pile → Pile
emptied s = pile s.bytes s.faults []

abbrev pub settled : Pile → Pile
settled s = emptied (in_turn put_below s (drained (size s) s.buffered))

-- a pass brings the faults nearer
abbrev pub passed : Pile → Pile
passed s = pile s.bytes (map aged s.faults) s.buffered

-- a fault added, unless it is refused
abbrev pub struck_by : Pile → Fault → Result (Unit {0}) Refusal
struck_by s f = struck (size s) (length s.faults) f

abbrev pub added : Result (Unit {0}) Refusal → Pile → Fault → Pile
added (Ok u) s f = pile s.bytes (s.faults ++ f ∷ []) s.buffered
added (Err e) s f = s

abbrev pub with_fault : Pile → Fault → Pile
with_fault s f = added (struck_by s f) s f
