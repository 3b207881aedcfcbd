-- The exact relations of the layers determine the pile.
use Rattle.std.proofs.Common.{◌≡◌, ℕ, List, [], ◌∷◌, ◌++◌, replicate, Some, None, Ok, Err, vec_items, Option, Result, refl, ap, ◌∙◌, MatchOption}
use Rattle.std.specs.Result as results
use Rattle.stack.specs.declared.refusal.Refusal.{Refusal}
use Rattle.stack.specs.Flat.{flat_sound}
use Rattle.stack.specs.Memories.{BytesStored, byte_means}
use Rattle.stack.specs.Memory.{Piece}
use Rattle.stack.specs.Pieces.{Accepted, InOrder, done, more}
use Rattle.stack.specs.Memories.{ByteMemory}
use Rattle.stack.specs.declared.memory.Stack.{Ghosts}
use Rattle.layers.specs.Exact.{BufferPasses, BufferPuts, BufferSettles, InjectorPasses, InjectorPuts, InjectorSettles}
use Rattle.layers.specs.Faults.{faulty, faulty_sound}
use Rattle.layers.specs.Lines.{absorbed, buffering, buffering_sound, drained}
use Rattle.layers.specs.Tables.{faults_in, lines_in}
use Rattle.layers.specs.declared.fault.Fault.{Fault}
use Rattle.layers.specs.declared.line.BufferedLine.{BufferedLine}
use Rattle.layers.specs.declared.buffer.WriteBuffer.{WriteBuffer}
use Rattle.layers.specs.declared.injector.FaultInjector.{FaultInjector}
use Rattle.script.specs.Piles.{Pile, added, bare_pile_of, blank, emptied, in_turn, passed, pile, pile_of, put, put_below, put_or_buffer, settled, size, struck_by, with_fault}

-- what the three layers say of themselves
abbrev pub bytes_ghosts : Ghosts ByteMemory
bytes_ghosts = record {
  means = byte_means;
  puts = BytesStored;
  settles = λ s t. t ≡ s;
  passes = λ s t. t ≡ s;
  sound = λ s. flat_sound (vec_items s.bytes);
}

abbrev pub faults_ghosts : Ghosts (FaultInjector ByteMemory)
faults_ghosts = record {
  means = λ s. faulty (faults_in s.table) (byte_means s.below);
  puts = InjectorPuts byte_means BytesStored;
  settles = InjectorSettles byte_means bytes_ghosts.settles;
  passes = InjectorPasses byte_means bytes_ghosts.passes;
  sound = λ s. faulty_sound (faults_in s.table) (bytes_ghosts.sound s.below);
}

abbrev pub pile_ghosts : Ghosts (WriteBuffer (FaultInjector ByteMemory))
pile_ghosts = record {
  means = λ s. buffering (lines_in s.table) (faults_ghosts.means s.below);
  puts = BufferPuts faults_ghosts.means faults_ghosts.puts;
  settles = BufferSettles faults_ghosts.means faults_ghosts.puts faults_ghosts.settles;
  passes = BufferPasses faults_ghosts.means faults_ghosts.passes;
  sound = λ s. buffering_sound (lines_in s.table) (faults_ghosts.sound s.below);
}

same_pile : {a b : List ℕ} {f g : List Fault} {l m : List BufferedLine} → a ≡ b → f ≡ g → l ≡ m → pile a f l ≡ pile b g m
same_pile p q r = cc

-- an injector below those lines
under : FaultInjector ByteMemory → List BufferedLine → Pile
under x ls = pile (vec_items x.below.bytes) (faults_in x.table) ls

-- a put below the write buffer, and a run of them
below_put : (x y : FaultInjector ByteMemory) (p : Piece) (ls : List BufferedLine)
    → Accepted faults_ghosts.means faults_ghosts.puts x p y → under y ls ≡ put_below (under x ls) p
unfolding under
below_put x y p ls did = same_pile did.exactly.down.exactly did.exactly.faults refl

below_run : {x y : FaultInjector ByteMemory} (ps : List Piece) (ls : List BufferedLine)
    → InOrder faults_ghosts.means faults_ghosts.puts x ps y → under y ls ≡ in_turn put_below (under x ls) ps
unfolding in_turn
below_run [] ls done = refl
below_run (p ∷ ps) ls (more {x = x} {y = y} did rest) = below_run ps ls rest ∙ ap (λ s. in_turn put_below s ps) (below_put x y p ls did)

-- a put, and a run of them
put_by : (x y : WriteBuffer (FaultInjector ByteMemory)) (p : Piece) (o : Option (List BufferedLine))
    → MatchOption o ((Accepted faults_ghosts.means faults_ghosts.puts x.below p y.below) × (y.table ≡ x.table)) (λ ls. (y.below ≡ x.below) × (lines_in y.table ≡ ls))
    → pile_of y ≡ put_or_buffer o (pile_of x) p
put_by x y p None did = same_pile did.0.exactly.down.exactly did.0.exactly.faults (ap lines_in did.1)
put_by x y p (Some ls) did = same_pile (ap (λ z. vec_items z.below.bytes) did.0) (ap (λ z. faults_in z.table) did.0) did.1

one_put : (x y : WriteBuffer (FaultInjector ByteMemory)) (p : Piece) → pile_ghosts.puts x p y → pile_of y ≡ put (pile_of x) p
one_put x y p did = put_by x y p (absorbed (lines_in x.table) p) did

pub run_of_puts : {x y : WriteBuffer (FaultInjector ByteMemory)} (ps : List Piece)
    → InOrder pile_ghosts.means pile_ghosts.puts x ps y → pile_of y ≡ in_turn put (pile_of x) ps
unfolding in_turn
run_of_puts [] done = refl
run_of_puts (p ∷ ps) (more {x = x} {y = y} did rest) = run_of_puts ps rest ∙ ap (λ s. in_turn put s ps) (one_put x y p did.exactly)

-- a settle and a pass
pub one_settle : (x y : WriteBuffer (FaultInjector ByteMemory)) → pile_ghosts.settles x y → pile_of y ≡ settled (pile_of x)
unfolding under
one_settle x y did =
    let drained_all = below_run (drained (size (pile_of x)) (lines_in x.table)) (lines_in x.table) did.down in
    same_pile (ap (λ z. vec_items z.bytes) did.settled.exactly.down.exactly) (ap faults_in did.settled.exactly.faults) did.lines ∙ ap emptied drained_all

pub one_pass : (x y : WriteBuffer (FaultInjector ByteMemory)) → pile_ghosts.passes x y → pile_of y ≡ passed (pile_of x)
one_pass x y did =
    same_pile (ap (λ z. vec_items z.bytes) did.down.exactly.down.exactly) did.down.exactly.faults (ap lines_in did.lines)

-- a fault added or refused
added_by : (x y : FaultInjector ByteMemory) (f : Fault) (r : Result (Unit {0}) Refusal) → y.below ≡ x.below
    → results.MatchResult r (λ _. faults_in y.table ≡ faults_in x.table ++ f ∷ []) (λ _. y.table ≡ x.table)
    → bare_pile_of y ≡ added r (bare_pile_of x) f
added_by x y f (Ok u) low stands = same_pile (ap (λ z. vec_items z.bytes) low) stands refl
added_by x y f (Err e) low stands = same_pile (ap (λ z. vec_items z.bytes) low) (ap faults_in stands) refl

pub one_fault : (x y : FaultInjector ByteMemory) (f : Fault) (r : Result (Unit {0}) Refusal) → r ≡ struck_by (bare_pile_of x) f → y.below ≡ x.below
    → results.MatchResult r (λ _. faults_in y.table ≡ faults_in x.table ++ f ∷ []) (λ _. y.table ≡ x.table)
    → bare_pile_of y ≡ with_fault (bare_pile_of x) f
one_fault x y f r judged low stands = added_by x y f r low stands ∙ ap (λ q. added q (bare_pile_of x) f) judged

-- a new pile
pub first_pile : (x : FaultInjector ByteMemory) (m : ByteMemory) → x.below ≡ m → faults_in x.table ≡ [] → vec_items m.bytes ≡ replicate 36864 0
    → bare_pile_of x ≡ blank
unfolding blank
first_pile x m low none zeros = same_pile (ap (λ z. vec_items z.bytes) low ∙ zeros) none refl

pub unbuffered : (x : FaultInjector ByteMemory) (w : WriteBuffer (FaultInjector ByteMemory)) → w.below ≡ x → lines_in w.table ≡ [] → pile_of w ≡ bare_pile_of x
unbuffered x w low none = same_pile (ap (λ z. vec_items z.below.bytes) low) (ap (λ z. faults_in z.table) low) none
