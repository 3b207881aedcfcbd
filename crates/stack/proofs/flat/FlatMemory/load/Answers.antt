use Rattle.std.proofs.Common.{ℕ, length, subst, arith}
use Rattle.stack.specs.Flat.{Start}
use Rattle.stack.proofs.FlatLaws.{flat_cells}
use Rattle.stack.proofs.flat.FlatMemory.load.Goals as goal

pub returns : goal.returns
returns g c =
    let at = c.args.at in
    let n = length c.args.into.now in
    let s = subst (λ (r : ℕ). Start r at.bank at.index at.byte n c.start.result) c.size.ensures.is_size c.start.ensures.starts in
    record {
      copies =
          flat_cells (g.B.Entries.bytes c.args.self.now.bytes) c.read_at.new.into at.bank at.index at.byte n c.start.result s
          c.read_at.ensures.copies (λ k. omega (arith, c.type_inv.into k)) c.read_at.auto.into;
    }
