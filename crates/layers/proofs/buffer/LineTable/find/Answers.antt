use Rattle.std.proofs.Common.{◌≡◌, List, ap, ◌∙◌}
use Rattle.std.specs.List.{position_from}
use Rattle.layers.specs.Lines.{is_of}
use Rattle.layers.specs.Tables.{lines_in}
use Rattle.layers.specs.declared.line.BufferedLine.{BufferedLine}
use Rattle.layers.proofs.LineLaws.{known}
use Rattle.layers.proofs.buffer.LineTable.find.Goals as goal

pub returns : goal.returns
returns c =
    let ls = lines_in c.args.self.now in
    let e : c.first_at.result ≡ position_from (λ l. is_of l c.args.bank c.args.index) 0 ls =
    c.first_at.ensures.is_first ∙ ap (λ (ms : List BufferedLine). position_from (λ l. is_of l c.args.bank c.args.index) 0 ms) c.standing.ensures.stands in
    record { known = known ls c.args.bank c.args.index c.first_at.result e; first = e }
