use Rattle.std.proofs.Common.{ap, ◌∙◌, arith}
use Rattle.layers.specs.Lines.{orderly}
use Rattle.layers.specs.Tables.{lines_in}
use Rattle.layers.specs.declared.line.BufferedLine.{BufferedLine}
use Rattle.layers.proofs.LineLaws.{orderly_push}
use Rattle.layers.proofs.buffer.LineTable.push.Goals as goal

pub invariant_of-self : goal.invariant_of-self
invariant_of-self c =
    let l : BufferedLine = record { bank = c.args.bank; index = c.args.index; bytes = c.copy_from_slice.new.self } in
    record {
      room = omega (arith, c.push.ensures.len);
      order = ap orderly c.push.ensures.items ∙ orderly_push (lines_in c.args.self.now) l c.args.self.now.order c.requires.other c.copy_from_slice.ensures.len;
    }
