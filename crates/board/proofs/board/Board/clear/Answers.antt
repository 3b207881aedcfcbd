use Rattle.std.proofs.Common.{ap}
use Rattle.std.proofs.lemmas.Result.{err_from_is_err_and}
use Rattle.board.specs.Marks.{listed}
use Rattle.rules.proofs.Clearing.{clear_done, clear_refused}
use Rattle.board.proofs.board.Board.clear.Goals as goal

pub returns-in_err-check_address : goal.returns-in_err-check_address
returns-in_err-check_address g c =
    let no = c.in_err-check_address.ensures.tells_whether in
    let q = err_from_is_err_and c.from_residual.result c.from_residual.ensures.1 in
    let p = clear_refused g.S.Stack c.args.self.now.stack (listed c.args.self.now.marks) c.args.address no.past in
    rw (q.1, q.2, no.says) (record { answers_as_ruled = p.0.says; puts_as_ruled = p.1; marks_as_ruled = p.0.marks })

pub returns : goal.returns
returns g c =
    let did = c.clear_group.ensures.clears in
    let p = clear_done g.S.Stack
    c.args.self.now.stack c.clear_group.new.self.stack (listed c.args.self.now.marks) (listed c.clear_group.new.self.marks) c.args.address
    c.in_ok-check_address.ensures.tells_whether (ap listed did.marks) did.run in
    record { answers_as_ruled = p.0.says; puts_as_ruled = p.1; marks_as_ruled = p.0.marks }
