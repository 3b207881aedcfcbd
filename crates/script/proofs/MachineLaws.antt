-- The promises of the board's calls determine the machine.
use Rattle.std.proofs.Common.{◌≡◌, ℕ, List, [], ap, ◌∙◌}
use Rattle.std.specs.List.{range_with_len}
use Rattle.stack.specs.Memories.{ByteMemory}
use Rattle.layers.specs.declared.buffer.WriteBuffer.{WriteBuffer}
use Rattle.layers.specs.declared.injector.FaultInjector.{FaultInjector}
use Rattle.layers.specs.Tables.{lines_in}
use Rattle.board.specs.Marks.{listed}
use Rattle.rules.specs.Rules.{HostCall, along, answer, puts}
use Rattle.rules.specs.Work.{formatting}
use Rattle.rules.specs.Answers.{Answer}
use Rattle.rules.specs.declared.calls.Call.TheVariants.{Clear, Mark, Pass, Read, Renew, Scrub, Settle, Write}
use Rattle.board.specs.State.{FormatRun}
use Rattle.board.specs.declared.board.Board.{Board}
use Rattle.rehearsal.specs.Traces.{Called, Exactly}
use Rattle.script.specs.Piles.{Pile, bare_pile_of, pile_of, settled, size}
use Rattle.script.specs.Machines.{after_call, formatted, machine, machine_of, pile_after, view}
use Rattle.script.proofs.PileLaws.{one_pass, one_settle, pile_ghosts, run_of_puts, unbuffered}

pile_called : (b t : Board (WriteBuffer (FaultInjector ByteMemory))) (c : HostCall)
    → Exactly pile_ghosts b c t → pile_of t.stack ≡ pile_after (machine_of b) c
pile_called b t (Read a n) did = run_of_puts (puts (view (machine_of b)) (Read a n)) did
pile_called b t (Write a l) did = run_of_puts (puts (view (machine_of b)) (Write a l)) did
pile_called b t (Renew a l) did = run_of_puts (puts (view (machine_of b)) (Renew a l)) did
pile_called b t (Clear a) did = run_of_puts (puts (view (machine_of b)) (Clear a)) did
pile_called b t (Scrub a w) did = run_of_puts (puts (view (machine_of b)) (Scrub a w)) did
pile_called b t (Mark m w) did = run_of_puts (puts (view (machine_of b)) (Mark m w)) did
pile_called b t Settle did = one_settle b.stack t.stack did
pile_called b t Pass did = one_pass b.stack t.stack did

same_machine : {s t : Pile} {m n : List ℕ} → s ≡ t → m ≡ n → machine s m ≡ machine t n
same_machine p q = cc

pub machine_called : (b t : Board (WriteBuffer (FaultInjector ByteMemory))) (c : HostCall) (r : Answer)
    → Called pile_ghosts b c r t → machine_of t ≡ after_call (machine_of b) c
unfolding after_call
machine_called b t c r did = same_machine (pile_called b t c did.exactly) did.step.marks

pub answer_called : (b t : Board (WriteBuffer (FaultInjector ByteMemory))) (c : HostCall) (r : Answer)
    → Called pile_ghosts b c r t → r ≡ answer (view (machine_of b)) c
answer_called b t c r did = did.step.says

pub pile_formatted : (x z : WriteBuffer (FaultInjector ByteMemory)) → FormatRun pile_ghosts x z → pile_of z ≡ (formatted (pile_of x)).pile
pile_formatted x z run =
    one_settle run.0 z run.2 ∙ ap settled (run_of_puts (along (λ _. formatting) (range_with_len 0 (size (pile_of x)))) run.1)

pub board_formatted : (x : FaultInjector ByteMemory) (w : WriteBuffer (FaultInjector ByteMemory)) (b : Board (WriteBuffer (FaultInjector ByteMemory)))
    → w.below ≡ x → lines_in w.table ≡ [] → FormatRun pile_ghosts w b.stack → listed b.marks ≡ [] → machine_of b ≡ formatted (bare_pile_of x)
board_formatted x w b low none run stage =
    same_machine (pile_formatted w b.stack run ∙ ap (λ s. (formatted s).pile) (unbuffered x w low none)) stage
