use Rattle.std.proofs.Common.{ℕ, get_or, inl, inr, ap, ◌∙◌, subst, arith}
use lib.Bits.{bit_xor}
use Rattle.std.proofs.lemmas.Result.{err_from_is_err_and}
use Rattle.std.proofs.lemmas.List.FromFn.{fill_by_all}
use Rattle.stack.specs.declared.refusal.Refusal.TheVariants.{AddressOutOfRange, LineLength}
use Rattle.rules.specs.Rules.{partners_byte}
use Rattle.rules.specs.declared.calls.Call.TheVariants.{Renew}
use Rattle.rules.proofs.Calling.{call_refused, renew_done, renew_address, renew_buffer, renew_denied}
use Rattle.board.specs.Marks.{listed}
use Rattle.board.specs.State.{state, Ran, stored_pieces}
use Rattle.board.proofs.board.Board.renew.Goals as goal

pub returns-in_err-new : goal.returns-in_err-new
returns-in_err-new g c =
    let x = c.args.self.now.stack in
    let ms = listed c.args.self.now.marks in
    let m = g.S.Stack.means x in
    let a = c.args.address in
    let l = c.args.line.now in
    let q = err_from_is_err_and c.from_residual.result c.from_residual.ensures.1 in
    rw (q.1, q.2)
    (elim c.in_err-new.ensures.tells_whether [
      | inl u ↦
          let p = call_refused g.S.Stack x ms (Renew a l) AddressOutOfRange (λ k. omega (arith, c.type_inv.line k)) (renew_address m ms a l u.past) in
          rw u.says (record { answers_as_ruled = p.0.says; puts_as_ruled = p.1; marks_as_ruled = p.0.marks; takes_bytes = p.0.given })
      | inr u ↦
          let p = call_refused g.S.Stack x ms (Renew a l) LineLength (λ k. omega (arith, c.type_inv.line k)) (renew_buffer m ms a l u.0 u.1) in
          rw u.2 (record { answers_as_ruled = p.0.says; puts_as_ruled = p.1; marks_as_ruled = p.0.marks; takes_bytes = p.0.given })
    ])

pub returns-in_err-add_partners : goal.returns-in_err-add_partners
returns-in_err-add_partners g c =
    let x = c.args.self.now.stack in
    let ms = listed c.args.self.now.marks in
    let q = err_from_is_err_and c.from_residual-in_err-add_partners.result c.from_residual-in_err-add_partners.ensures.1 in
    let p = call_refused g.S.Stack x ms (Renew c.args.address c.args.line.now) _
    (λ k. omega (arith, c.type_inv.line k))
    (renew_denied (g.S.Stack.means x) ms c.args.address c.args.line.now _ c.in_ok-new.ensures.tells_whether.in_range c.in_ok-new.ensures.tells_whether.long c.in_err-add_partners.ensures.sums_or_refuses) in
    rw (q.1, q.2) (record { answers_as_ruled = p.0.says; puts_as_ruled = p.1; marks_as_ruled = p.0.marks; takes_bytes = p.0.given })

pub returns : goal.returns
returns g c =
    let x = c.args.self.now.stack in
    let ms = listed c.args.self.now.marks in
    let s = state g.S.Stack c.args.self.now in
    let a = c.args.address in
    let l = c.args.line.now in
    let same = c.in_ok-new.ensures.tells_whether.same in
    let made = c.in_ok-add_partners.ensures.sums_or_refuses in
    let f : ℕ → ℕ = λ k. bit_xor (get_or l k 0) (partners_byte s a k) in
    let par = fill_by_all f c.add_partners.new.sum 64 0 (omega arith)
    (λ k u. made.sums k u ∙ ap (λ v. bit_xor (get_or v k 0) (partners_byte s a k)) same) in
    let run = subst (λ n. Ran g.S.Stack c.args.self.now (stored_pieces c.args.self.now a n c.add_partners.new.sum) c.store.new.self) same c.store.ensures.stores in
    let p = renew_done g.S.Stack x c.store.new.self.stack ms (listed c.store.new.self.marks)
    a l c.add_partners.new.sum c.in_ok-new.ensures.tells_whether.in_range c.in_ok-new.ensures.tells_whether.long (λ k. omega (arith, c.type_inv.line k))
    made.none par (ap listed run.marks) run.run in
    record { answers_as_ruled = p.0.says; puts_as_ruled = p.1; marks_as_ruled = p.0.marks; takes_bytes = p.0.given }
