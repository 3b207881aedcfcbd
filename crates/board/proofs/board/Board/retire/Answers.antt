use Rattle.std.proofs.Common.{◌≡◌, Some, ap, ◌∙◌, Ok}
use Rattle.std.proofs.lemmas.Result.{err_from_is_err_and}
use Rattle.rules.specs.Rules.{spare_of}
use Rattle.rules.specs.declared.calls.Outcome.TheVariants.{Marked}
use Rattle.rules.specs.declared.calls.Call.TheVariants.{Mark}
use Rattle.rules.proofs.Calling.{call_refused}
use Rattle.rules.proofs.Retiring.{mark_open, mark_answer, mark_done}
use Rattle.board.specs.Marks.{listed}
use Rattle.board.proofs.board.Board.retire.Goals as goal

pub returns-in_err-survey : goal.returns-in_err-survey
returns-in_err-survey g c =
    let x = c.args.self.now.stack in
    let ms = listed c.args.self.now.marks in
    let m = g.S.Stack.means x in
    let b = c.args.bank in
    let e = c.in_err-survey.field-0.0 in
    let p = err_from_is_err_and c.from_residual.result c.from_residual.ensures.1 in
    rw (p.1, p.2)
    (record {
      retires = λ n h.
          let q = call_refused g.S.Stack x ms (Mark b n) e tt
          (mark_answer m ms b n (Some e) (mark_open m ms b n c.requires.real_bank c.requires.allowed h) c.in_err-survey.ensures.surveys) in
          record { answers = q.0.says; puts = q.1; marks = q.0.marks };
    })

pub returns : goal.returns
returns g c =
    let x = c.args.self.now.stack in
    let y = c.retire_all.new.self.stack in
    let ms = listed c.args.self.now.marks in
    let nx = listed c.args.next in
    let m = g.S.Stack.means x in
    let b = c.args.bank in
    let did = c.retire_all.ensures.fills in
    let e : c.spare-spare.result ≡ spare_of ms = c.spare-spare.ensures.is_the_spare ∙ ap (λ k. spare_of (listed k)) did.marks in
    record {
      retires = λ n h.
          let p = mark_done g.S.Stack x y ms nx b n
          (mark_open m ms b n c.requires.real_bank c.requires.allowed h) c.in_ok-survey.ensures.surveys c.requires.next did.run in
          record { answers = ap (λ n. Ok (Marked n)) e ∙ p.0.says; puts = p.1; marks = p.0.marks };
    }
