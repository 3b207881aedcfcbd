use Rattle.std.proofs.lemmas.Slice.Eq.{slice_eq-Decides}
use Rattle.board.specs.State.{state}
use Rattle.rehearsal.proofs.Calls.{compared}
use Rattle.rehearsal.proofs.comparing.same_line.Goals as goal
use Rattle.std.proofs.lemmas.Bool.Decides.{Decides-eqb}

pub returns-in-Ok-Ok : goal.returns-in-Ok-Ok
returns-in-Ok-Ok g c =
    record {
      tells_exactly = compared (state g.A.Stack c.args.left.now) (state g.B.Stack c.args.right.now) c.args.address
          c.read.new.into c.read-2.new.into c.in-Ok-Ok.field-0-0 c.in-Ok-Ok.field-0-1 c.eq.result
          c.in-Ok-Ok.ensures.answers_as_ruled c.in-Ok-Ok.ensures'.answers_as_ruled (slice_eq-Decides Decides-eqb _ _ _ c.eq.ensures);
    }
