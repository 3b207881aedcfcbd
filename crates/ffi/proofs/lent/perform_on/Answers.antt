use Rattle.std.proofs.Common.{◌≡◌, ◌∙◌}
use Rattle.rehearsal.specs.Events.{heard}
use Rattle.ffi.proofs.LentLaws.{performed, same_loan}
use Rattle.ffi.proofs.lent.perform_on.Goals as goal

pub returns : goal.returns
returns c =
    let stack : c.resume-board.result.stack ≡ c.args.memory.now = c.resume-board.ensures.takes_the_stack ∙ c.replace-lent.ensures.value in
    let marks = c.resume-board.ensures.takes_the_marks in
    let did = c.perform-answer.ensures.does_the_call in
    let back = c.release.ensures.gives_back_the_stack in
    let call = heard c.args.call.now in
    record {
      performs = performed c.args.memory.now c.args.marks call c.perform-answer.result c.resume-board.result c.perform-answer.new.board c.release.result stack marks did back;
      keeps_the_loan = same_loan c.args.memory.now c.args.marks call c.perform-answer.result c.resume-board.result c.perform-answer.new.board c.release.result stack marks did back;
    }
