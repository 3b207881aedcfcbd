-- What calls and formats do to lent bytes, from what they do exactly to the memory.
use Rattle.std.proofs.Common.{◌≡◌, List, [], sym, refl, ap, ◌∙◌, ap₂}
use Rattle.std.specs.List.{range_with_len}
use Rattle.stack.specs.Flat.{flat_sound}
use Rattle.stack.specs.Memory.{Piece}
use Rattle.stack.specs.Memories.{LentStored, lent_means}
use Rattle.stack.specs.Pieces.{InOrder, done, more}
use Rattle.stack.specs.Memories.{LentMemory}
use Rattle.stack.specs.declared.memory.Stack.{Ghosts}
use Rattle.rules.specs.Rules.{HostCall, along, answer, plan, puts}
use Rattle.rules.specs.declared.calls.Call.TheVariants.{Read, Write, Renew, Clear, Scrub, Mark, Settle, Pass}
use Rattle.rules.specs.Work.{formatting}
use Rattle.rules.proofs.Laying.{along_nothing}
use Rattle.rules.specs.Boards.{board}
use Rattle.rules.specs.Answers.{Answer}
use Rattle.board.specs.Marks.{listed}
use Rattle.board.specs.State.{state}
use Rattle.board.specs.declared.board.Board.{Board}
use Rattle.board.specs.declared.marks.Marks.{Marks}
use Rattle.rehearsal.specs.Traces.{Called, Exactly}
use Rattle.ffi.specs.Lent.{Performed, all_written, zeroed}

abbrev pub lent_ghosts : Ghosts LentMemory
lent_ghosts = record {
  means = lent_means;
  puts = LentStored;
  settles = λ s t. t ≡ s;
  passes = λ s t. t ≡ s;
  sound = λ s. flat_sound s.bytes.now;
}

-- the loan is the same, and the pieces are written
pub record Wrote (x : LentMemory) (ps : List Piece) (y : LentMemory) : Type 0 where
  pub loan : y.bytes.ghost_name ≡ x.bytes.ghost_name
  pub bytes : y.bytes.now ≡ all_written x.bytes.now ps

pub run_wrote : {x y : LentMemory} {ps : List Piece} → InOrder lent_means LentStored x ps y → Wrote x ps y
unfolding all_written
run_wrote done = record { loan = refl; bytes = refl }
run_wrote (more {ps = ps} a rest) =
    let later = run_wrote rest in
    record { loan = later.loan ∙ a.exactly.loan; bytes = later.bytes ∙ ap (λ xs. all_written xs ps) a.exactly.bytes }

-- nothing put
wrote_nothing : (x y : LentMemory) (ps : List Piece) → y ≡ x → ps ≡ [] → Wrote x ps y
unfolding all_written
wrote_nothing x y ps e n =
    record { loan = ap (λ s. s.bytes.ghost_name) e; bytes = ap (λ s. s.bytes.now) e ∙ sym (ap (all_written x.bytes.now) n) }

pub call_wrote : (b t : Board LentMemory) (c : HostCall) → Exactly lent_ghosts b c t → Wrote b.stack (puts (state lent_ghosts b) c) t.stack
call_wrote b t (Read a n) e = run_wrote e
call_wrote b t (Write a l) e = run_wrote e
call_wrote b t (Renew a l) e = run_wrote e
call_wrote b t (Clear a) e = run_wrote e
call_wrote b t (Scrub a w) e = run_wrote e
call_wrote b t (Mark m w) e = run_wrote e
call_wrote b t Settle e = wrote_nothing _ _ _ e (along_nothing (plan (state lent_ghosts b) Settle) (range_with_len 0 (state lent_ghosts b).size) (λ j k. refl))
call_wrote b t Pass e = wrote_nothing _ _ _ e (along_nothing (plan (state lent_ghosts b) Pass) (range_with_len 0 (state lent_ghosts b).size) (λ j k. refl))

-- a call on a board that was made of lent memory and taken apart again
module _ (x : LentMemory) (m : Marks) (c : HostCall) (r : Answer) (b t : Board LentMemory) (y : LentMemory)
    (stack : b.stack ≡ x) (marks : b.marks ≡ m) (did : Called lent_ghosts b c r t) (back : y ≡ t.stack) where
  wrote : Wrote b.stack (puts (state lent_ghosts b) c) t.stack
  wrote = call_wrote b t c did.exactly

  pub performed : Performed x (listed m) c r y
  performed =
      record {
        answers = did.step.says ∙ ap₂ (λ s l. answer (board (lent_means s) (listed l)) c) stack marks;
        bytes = ap (λ s. s.bytes.now) back ∙ wrote.bytes ∙ ap₂ (λ s l. all_written s.bytes.now (puts (board (lent_means s) (listed l)) c)) stack marks;
      }

  pub same_loan : y.bytes.ghost_name ≡ x.bytes.ghost_name
  same_loan = ap (λ s. s.bytes.ghost_name) back ∙ wrote.loan ∙ ap (λ s. s.bytes.ghost_name) stack

-- a format of lent memory
module _ (x y z : LentMemory) (zeros : InOrder lent_means LentStored x (along (λ _. formatting) (range_with_len 0 (lent_means x).size)) y) (settled : z ≡ y) where
  zero_run : Wrote x (along (λ _. formatting) (range_with_len 0 (lent_means x).size)) y
  zero_run = run_wrote zeros

  pub format_bytes : z.bytes.now ≡ zeroed x.bytes.now
  format_bytes = ap (λ s. s.bytes.now) settled ∙ zero_run.bytes

  pub format_loan : z.bytes.ghost_name ≡ x.bytes.ghost_name
  format_loan = ap (λ s. s.bytes.ghost_name) settled ∙ zero_run.loan
