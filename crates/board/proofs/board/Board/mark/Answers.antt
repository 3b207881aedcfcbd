use Rattle.std.proofs.Common.{◌++◌, length, drop, sym, ap, ◌∙◌}
use Rattle.std.proofs.lemmas.Result.{err_from_is_err_and}
use Rattle.stack.specs.declared.refusal.Refusal.TheVariants.{WorkBufferShort}
use Rattle.rules.specs.Work.{left_over}
use Rattle.rules.specs.declared.calls.Call.TheVariants.{Mark}
use Rattle.rules.proofs.Calling.{call_refused}
use Rattle.rules.proofs.Retiring.{mark_work, mark_open, mark_refused}
use Rattle.board.specs.Marks.{listed}
use Rattle.board.proofs.Seeing.{unmarkable_none, unmarkable_refused}
use Rattle.board.proofs.board.Board.mark.Goals as goal

pub returns-in_err-next : goal.returns-in_err-next
returns-in_err-next g c =
    let x = c.args.self.now.stack in
    let ms = listed c.args.self.now.marks in
    let w = c.args.work.now in
    let b = c.args.bank in
    let m = g.S.Stack.means x in
    let e = c.in_err-next.field-0.0 in
    let q = err_from_is_err_and c.from_residual.result c.from_residual.ensures.1 in
    let shut = unmarkable_refused m ms b (length w) e c.in_err-next.ensures.adds_or_refuses in
    let p = call_refused g.S.Stack x ms (Mark b (length w)) e tt (mark_refused m ms b (length w) e shut) in
    rw (q.1, q.2)
    (record { answers_as_ruled = p.0.says; puts_as_ruled = p.1; marks_as_ruled = p.0.marks; zeroes_the_work_buffer = sym (ap (λ o. left_over o w) shut) })

pub returns-in_default : goal.returns-in_default
returns-in_default g c =
    let x = c.args.self.now.stack in
    let ms = listed c.args.self.now.marks in
    let w = c.args.work.now in
    let b = c.args.bank in
    let m = g.S.Stack.means x in
    let ok = c.in_ok-next.ensures.adds_or_refuses in
    let may = unmarkable_none ms b ok.allowed in
    let shut = mark_work m ms b (length w) may.0 may.1 c.in_default.ensures.cases in
    let p = call_refused g.S.Stack x ms (Mark b (length w)) WorkBufferShort tt (mark_refused m ms b (length w) WorkBufferShort shut) in
    record { answers_as_ruled = p.0.says; puts_as_ruled = p.1; marks_as_ruled = p.0.marks; zeroes_the_work_buffer = sym (ap (λ o. left_over o w) shut) }

pub retire-done-requires : goal.retire-done-requires
retire-done-requires g c =
    let ok = c.in_ok-next.ensures.adds_or_refuses in
    let may = unmarkable_none (listed c.args.self.now.marks) c.args.bank ok.allowed in
    record { real_bank = may.0; allowed = may.1; next = ok.list }

pub returns : goal.returns
returns g c =
    let x = c.args.self.now.stack in
    let ms = listed c.args.self.now.marks in
    let w = c.args.work.now in
    let b = c.args.bank in
    let ok = c.in_ok-next.ensures.adds_or_refuses in
    let may = unmarkable_none ms b ok.allowed in
    let room = c.in-Some.ensures.cases.enough in
    let p = c.retire-done.ensures.retires (length w) room in
    record {
      answers_as_ruled = p.answers;
      puts_as_ruled = p.puts;
      marks_as_ruled = p.marks;
      zeroes_the_work_buffer = ap (λ z. z ++ drop 4096 w) c.zero.ensures.zeros
          ∙ sym (ap (λ o. left_over o w) (mark_open (g.S.Stack.means x) ms b (length w) may.0 may.1 room));
    }
