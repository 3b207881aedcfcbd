use Rattle.std.proofs.Common.{Ok, sym, ap, subst, rules}
use Rattle.stack.specs.Pieces.{InOrder, done}
use Rattle.rules.specs.History.{Step}
use Rattle.rules.specs.Boards.{board}
use Rattle.rules.specs.declared.calls.Outcome.TheVariants.{Done}
use Rattle.rules.specs.declared.calls.Call.TheVariants.{Write, Renew, Clear, Scrub, Mark, Settle, Pass}
use Rattle.rules.proofs.Chain.{pass_step, read_step, settle_step, shown_small}
use Rattle.board.specs.Marks.{listed}
use Rattle.board.specs.State.{state}
use Rattle.rehearsal.proofs.Calls.{read_puts, stepped}
use Rattle.rehearsal.proofs.running.perform.Goals as goal

pub returns-in-Read : goal.returns-in-Read
returns-in-Read g c =
    let b = c.args.board.now in
    let s = state g.S.Stack b in
    let a = c.in-Read.address in
    let n = c.in-Read.length in
    rw c.in-Read.is
    (record {
      does_the_call = record {
        step = read_step (g.S.Stack.means b.stack) (listed b.marks) a n c.read.result (shown_small g.S.Stack b.stack) c.read.ensures.answers_as_ruled;
        exactly = subst (λ ps. InOrder g.S.Stack.means g.S.Stack.puts b.stack ps b.stack) (sym (read_puts s a n)) done;
      };
    })

pub returns-in-Write : goal.returns-in-Write
returns-in-Write g c =
    let b = c.args.board.now in
    let t = c.write.new.self in
    let did = c.write.ensures in
    rw c.in-Write.is
    (record { does_the_call = record { step = stepped g.S.Stack b t (Write c.in-Write.address c.in-Write.line.now) c.map.result did.takes_bytes (search rules) did.puts_as_ruled did.marks_as_ruled; exactly = did.puts_as_ruled } })

pub returns-in-Renew : goal.returns-in-Renew
returns-in-Renew g c =
    let b = c.args.board.now in
    let t = c.renew.new.self in
    let did = c.renew.ensures in
    rw c.in-Renew.is
    (record { does_the_call = record { step = stepped g.S.Stack b t (Renew c.in-Renew.address c.in-Renew.line.now) c.map-in-Renew.result did.takes_bytes (search rules) did.puts_as_ruled did.marks_as_ruled; exactly = did.puts_as_ruled } })

pub returns-in-Clear : goal.returns-in-Clear
returns-in-Clear g c =
    let b = c.args.board.now in
    let t = c.clear.new.self in
    let did = c.clear.ensures in
    rw c.in-Clear.is
    (record { does_the_call = record { step = stepped g.S.Stack b t (Clear c.in-Clear.address) c.map-in-Clear.result tt (search rules) did.puts_as_ruled did.marks_as_ruled; exactly = did.puts_as_ruled } })

pub returns-in-Scrub : goal.returns-in-Scrub
returns-in-Scrub g c =
    let b = c.args.board.now in
    let t = c.scrub.new.board in
    let did = c.scrub.ensures.scrubs in
    rw c.in-Scrub.is
    (record { does_the_call = record { step = stepped g.S.Stack b t (Scrub c.in-Scrub.address c.in-Scrub.length) c.scrub.result tt did.answers did.puts did.marks; exactly = did.puts } })

pub returns-in-Mark : goal.returns-in-Mark
returns-in-Mark g c =
    let b = c.args.board.now in
    let t = c.mark.new.board in
    let did = c.mark.ensures.marks in
    rw c.in-Mark.is
    (record { does_the_call = record { step = stepped g.S.Stack b t (Mark c.in-Mark.bank c.in-Mark.length) c.mark.result tt did.answers did.puts did.marks; exactly = did.puts } })

pub returns-in-Settle : goal.returns-in-Settle
returns-in-Settle g c =
    let b = c.args.board.now in
    let t = c.settle.new.self in
    let did = c.settle.ensures in
    rw c.in-Settle.is
    (record {
      does_the_call = record {
        step = subst (λ ms. Step (state g.S.Stack b) Settle (Ok Done) (board (g.S.Stack.means t.stack) ms)) (ap listed (sym did.leaves_the_marks))
            (settle_step (g.S.Stack.means b.stack) (g.S.Stack.means t.stack) (listed b.marks) did.keeps_every_byte (shown_small g.S.Stack t.stack));
        exactly = did.settles_the_stack;
      };
    })

pub returns-in-Pass : goal.returns-in-Pass
returns-in-Pass g c =
    let b = c.args.board.now in
    let t = c.pass.new.self in
    let did = c.pass.ensures in
    rw c.in-Pass.is
    (record {
      does_the_call = record {
        step = subst (λ ms. Step (state g.S.Stack b) Pass (Ok Done) (board (g.S.Stack.means t.stack) ms)) (ap listed (sym did.leaves_the_marks))
            (pass_step (g.S.Stack.means b.stack) (g.S.Stack.means t.stack) (listed b.marks) did.keeps_every_byte (shown_small g.S.Stack t.stack));
        exactly = did.passes_on_the_stack;
      };
    })
