use Rattle.std.proofs.Common.{◌≡◌, replicate, ap, ◌∙◌, subst}
use Rattle.rules.specs.Rules.{HostCall}
use Rattle.rehearsal.specs.Events.{heard}
use Rattle.rehearsal.specs.Traces.{Called}
use Rattle.script.specs.Machines.{filled, with_that_line}
use Rattle.script.specs.Scripts.{answered}
use Rattle.script.proofs.PileLaws.{pile_ghosts}
use Rattle.script.proofs.MachineLaws.{answer_called, machine_called}
use Rattle.script.proofs.lines.run_call.Goals as goal

pub returns : goal.returns
unfolding answered
returns c =
    let call = c.args.call.now in
    let asked : heard c.with_line-lent.result ≡ filled call =
    c.with_line-lent.ensures.is_that_call ∙ ap (λ x. with_that_line call (replicate 64 x)) c.fill-line.ensures.is_its_byte in
    let P : HostCall → Type 0 = λ q. Called pile_ghosts c.args.board.now q c.perform.result c.perform.new.board in
    let did : P (filled call) = subst P asked c.perform.ensures.does_the_call in
    record {
      answers = answer_called c.args.board.now c.perform.new.board (filled call) c.perform.result did;
      moves = machine_called c.args.board.now c.perform.new.board (filled call) c.perform.result did;
    }
