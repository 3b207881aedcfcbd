use Rattle.std.proofs.Common.{◌∙◌}
use Rattle.board.specs.State.{state}
use Rattle.rules.proofs.Gathering.{reading_made}
use Rattle.board.proofs.board.Site.read_line.Goals as goal

pub returns-in-Ok : goal.returns-in-Ok
returns-in-Ok g c = record { reads = reading_made (state g.S.Stack c.args.self.now.board.now) c.args.self.now.address _ c.in-Ok.ensures.decodes }

pub returns-in-Err : goal.returns-in-Err
returns-in-Err g c =
    record { reads = reading_made (state g.S.Stack c.args.self.now.board.now) c.args.self.now.address _ c.in-Err.ensures.decodes ∙ c.rebuild_line.ensures.rebuilds }
