use Rattle.std.proofs.Common.{inl, inr, ap, ◌∙◌, subst, arith}
use Rattle.std.proofs.lemmas.Result.{err_from_is_err_and}
use Rattle.stack.specs.declared.refusal.Refusal.TheVariants.{AddressOutOfRange, LineLength}
use Rattle.rules.specs.Work.{parity_after}
use Rattle.rules.specs.declared.calls.Call.TheVariants.{Write}
use Rattle.rules.proofs.Calling.{call_refused, write_done, write_address, write_buffer, write_denied}
use Rattle.board.specs.Marks.{listed}
use Rattle.board.specs.State.{state, Ran, stored_pieces}
use Rattle.board.proofs.board.Board.write.Goals as goal

pub returns-in_err-new : goal.returns-in_err-new
returns-in_err-new g c =
    let x = c.args.self.now.stack in
    let ms = listed c.args.self.now.marks in
    let m = g.S.Stack.means x in
    let a = c.args.address in
    let l = c.args.line.now in
    let q = err_from_is_err_and c.from_residual.result c.from_residual.ensures.1 in
    rw (q.1, q.2)
    (elim c.in_err-new.ensures.tells_whether [
      | inl u ↦
          let p = call_refused g.S.Stack x ms (Write a l) AddressOutOfRange (λ k. omega (arith, c.type_inv.line k)) (write_address m ms a l u.past) in
          rw u.says (record { answers_as_ruled = p.0.says; puts_as_ruled = p.1; marks_as_ruled = p.0.marks; takes_bytes = p.0.given })
      | inr u ↦
          let p = call_refused g.S.Stack x ms (Write a l) LineLength (λ k. omega (arith, c.type_inv.line k)) (write_buffer m ms a l u.0 u.1) in
          rw u.2 (record { answers_as_ruled = p.0.says; puts_as_ruled = p.1; marks_as_ruled = p.0.marks; takes_bytes = p.0.given })
    ])

pub returns-in_err-finding : goal.returns-in_err-finding
returns-in_err-finding g c =
    let x = c.args.self.now.stack in
    let ms = listed c.args.self.now.marks in
    let q = err_from_is_err_and c.from_residual-in_err-finding.result c.from_residual-in_err-finding.ensures.1 in
    let p = call_refused g.S.Stack x ms (Write c.args.address c.args.line.now) _
    (λ k. omega (arith, c.type_inv.line k))
    (write_denied (g.S.Stack.means x) ms c.args.address c.args.line.now _ c.in_ok-new.ensures.tells_whether.in_range c.in_ok-new.ensures.tells_whether.long c.in_err-finding.ensures.reads) in
    rw (q.1, q.2) (record { answers_as_ruled = p.0.says; puts_as_ruled = p.1; marks_as_ruled = p.0.marks; takes_bytes = p.0.given })

pub returns : goal.returns
returns g c =
    let x = c.args.self.now.stack in
    let ms = listed c.args.self.now.marks in
    let s = state g.S.Stack c.args.self.now in
    let a = c.args.address in
    let l = c.args.line.now in
    let same = c.in_ok-new.ensures.tells_whether.same in
    let did = c.store.ensures.stores in
    let run = subst (λ n. Ran g.S.Stack c.args.self.now (stored_pieces c.args.self.now a n c.parity_after-parity.result) c.store.new.self) same did in
    let p = write_done g.S.Stack x c.store.new.self.stack ms (listed c.store.new.self.marks)
    a l c.read_line.new.line c.parity_after-parity.result _ c.in_ok-new.ensures.tells_whether.in_range c.in_ok-new.ensures.tells_whether.long (λ k. omega (arith, c.type_inv.line k))
    c.in_ok-finding.ensures.reads
    (c.parity_after-parity.ensures.is_that_parity ∙ ap (λ n. parity_after s a c.read_line.new.line n) same)
    (ap listed run.marks) run.run in
    record { answers_as_ruled = p.0.says; puts_as_ruled = p.1; marks_as_ruled = p.0.marks; takes_bytes = p.0.given }
