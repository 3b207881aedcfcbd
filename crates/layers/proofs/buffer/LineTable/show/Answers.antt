use Rattle.std.proofs.Common.{◌≡◌, ℕ, List, [], length, get_or, take, drop, sym, ap, ◌∙◌, arith}
use Rattle.stack.specs.Memory.{Piece, piece}
use Rattle.layers.specs.Tables.{lines_in}
use Rattle.layers.specs.declared.line.BufferedLine.{BufferedLine}
use Rattle.layers.proofs.LineLaws.{found_at, part_shown}
use Rattle.layers.proofs.buffer.LineTable.show.Goals as goal

pub returns : goal.returns
returns c =
    let ls = lines_in c.args.self.now in
    let j = c.in-Some.j in
    let d : BufferedLine = record { bank = 0; index = 0; bytes = [] } in
    let p : Piece = piece c.args.at.bank c.args.at.index c.args.at.byte [] in
    let at = found_at ls p j c.in-Some.ensures.first in
    let count = length c.args.into.now in
    let e : c.copy_from_slice.new.self ≡ take count (drop c.args.at.byte (get_or ls j d).bytes) =
    c.copy_from_slice.ensures.after
    ∙ ap (λ (k : ℕ). take k (drop c.args.at.byte (get_or c.standing.result.now j d).bytes)) (omega arith)
    ∙ ap (λ (xs : List BufferedLine). take count (drop c.args.at.byte (get_or xs j d).bytes)) c.standing.ensures.stands in
    record {
      found = sym at.is;
      copies = part_shown ls p j count d c.copy_from_slice.new.self at e c.copy_from_slice.ensures.len (λ k. omega (arith, c.type_inv.into k));
    }
