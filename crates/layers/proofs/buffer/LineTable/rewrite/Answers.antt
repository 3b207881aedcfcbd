use Rattle.std.proofs.Common.{[], sym, refl, ap, ◌∙◌, arith}
use Rattle.std.proofs.lemmas.Bool.{both_ways}
use Rattle.stack.specs.Memory.{Piece, piece}
use Rattle.layers.specs.Lines.{orderly}
use Rattle.layers.specs.Tables.{lines_in}
use Rattle.layers.specs.declared.line.BufferedLine.{BufferedLine}
use Rattle.layers.proofs.LineLaws.{found_at, rewritten_none, refilled, orderly_rewritten}
use Rattle.layers.proofs.buffer.LineTable.rewrite.Goals as goal

pub returns-in_default : goal.returns-in_default
returns-in_default c =
    let p : Piece = piece c.args.at.bank c.args.at.index c.args.at.byte c.args.bytes.now in
    let none = c.in_default.ensures.known in
    record { found = sym none; stays = λ _. refl; writes = sym (rewritten_none (lines_in c.args.self.now) p none) }

pub invariant_of-self-clause-order : goal.invariant_of-self-clause-order
invariant_of-self-clause-order c =
    let ls = lines_in c.args.self.now in
    let j = c.in-Some.j in
    let p : Piece = piece c.args.at.bank c.args.at.index c.args.at.byte c.args.bytes.now in
    let d : BufferedLine = record { bank = 0; index = 0; bytes = [] } in
    let e = refilled ls c.as_mut_slice.result.now c.standing.result.now j _ d p c.copy_from_slice.new.self (found_at ls p j c.in-Some.ensures.first)
    c.as_mut_slice.ensures.value c.standing.ensures.stands c.copy_from_slice.ensures.after (omega arith) in
    ap orderly e ∙ orderly_rewritten ls p c.requires.part c.args.self.now.order

pub returns : goal.returns
returns c =
    let ls = lines_in c.args.self.now in
    let j = c.in-Some.j in
    let p : Piece = piece c.args.at.bank c.args.at.index c.args.at.byte c.args.bytes.now in
    let d : BufferedLine = record { bank = 0; index = 0; bytes = [] } in
    let at = found_at ls p j c.in-Some.ensures.first in
    record {
      found = sym at.is;
      stays = λ e. absurd (both_ways _ e refl);
      writes = refilled ls c.as_mut_slice.result.now c.standing.result.now j _ d p c.copy_from_slice.new.self at
          c.as_mut_slice.ensures.value c.standing.ensures.stands c.copy_from_slice.ensures.after (omega arith);
    }
