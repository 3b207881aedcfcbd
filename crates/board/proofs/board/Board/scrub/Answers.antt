use Rattle.std.proofs.Common.{◌++◌, length, drop, sym, ap, ◌∙◌}
use Rattle.std.proofs.lemmas.Result.{err_from_is_err_and}
use Rattle.stack.specs.declared.refusal.Refusal.TheVariants.{AddressOutOfRange, WorkBufferShort}
use Rattle.rules.specs.Work.{left_over}
use Rattle.rules.specs.declared.calls.Call.TheVariants.{Scrub}
use Rattle.rules.proofs.Calling.{call_refused}
use Rattle.rules.proofs.Scrubbing.{scrub_open, scrub_address, scrub_work, scrub_refused}
use Rattle.board.specs.Marks.{listed}
use Rattle.board.proofs.board.Board.scrub.Goals as goal

pub returns-in_err-check_address : goal.returns-in_err-check_address
returns-in_err-check_address g c =
    let x = c.args.self.now.stack in
    let ms = listed c.args.self.now.marks in
    let w = c.args.work.now in
    let m = g.S.Stack.means x in
    let no = c.in_err-check_address.ensures.tells_whether in
    let q = err_from_is_err_and c.from_residual.result c.from_residual.ensures.1 in
    let shut = scrub_address m ms c.args.address (length w) no.past in
    let p = call_refused g.S.Stack x ms (Scrub c.args.address (length w)) AddressOutOfRange tt (scrub_refused m ms c.args.address (length w) AddressOutOfRange shut) in
    rw (q.1, q.2, no.says)
    (record { answers_as_ruled = p.0.says; puts_as_ruled = p.1; marks_as_ruled = p.0.marks; zeroes_the_work_buffer = sym (ap (λ o. left_over o w) shut) })

pub returns-in_default : goal.returns-in_default
returns-in_default g c =
    let x = c.args.self.now.stack in
    let ms = listed c.args.self.now.marks in
    let w = c.args.work.now in
    let m = g.S.Stack.means x in
    let shut = scrub_work m ms c.args.address (length w) c.in_ok-check_address.ensures.tells_whether c.in_default.ensures.cases in
    let p = call_refused g.S.Stack x ms (Scrub c.args.address (length w)) WorkBufferShort tt (scrub_refused m ms c.args.address (length w) WorkBufferShort shut) in
    record { answers_as_ruled = p.0.says; puts_as_ruled = p.1; marks_as_ruled = p.0.marks; zeroes_the_work_buffer = sym (ap (λ o. left_over o w) shut) }

pub returns : goal.returns
returns g c =
    let x = c.args.self.now.stack in
    let ms = listed c.args.self.now.marks in
    let w = c.args.work.now in
    let room = c.in-Some.ensures.cases.enough in
    let p = c.scrub_with-done.ensures.scrubs (length w) room in
    record {
      answers_as_ruled = p.answers;
      puts_as_ruled = p.puts;
      marks_as_ruled = p.marks;
      zeroes_the_work_buffer = ap (λ z. z ++ drop 4096 w) c.zero.ensures.zeros
          ∙ sym (ap (λ o. left_over o w) (scrub_open (g.S.Stack.means x) ms c.args.address (length w) c.in_ok-check_address.ensures.tells_whether room));
    }
