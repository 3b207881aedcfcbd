use Rattle.std.proofs.Common.{◌≡◌, ℕ, length, ap, subst, arith}
use Rattle.stack.specs.Memory.{Piece, piece}
use Rattle.stack.specs.Flat.{Start, replaced, written}
use Rattle.stack.proofs.FlatLaws.{flat_stores}
use Rattle.stack.proofs.flat.FlatMemory.store.Goals as goal

pub returns : goal.returns
returns g c =
    let E = g.B.Entries in
    let xs = E.bytes c.args.self.now.bytes in
    let at = c.args.at in
    let p : Piece = piece at.bank at.index at.byte c.args.bytes.now in
    let s = subst (λ (r : ℕ). Start r p.bank p.index p.from (length p.bytes) c.start-from.result) c.size.ensures.is_size c.start-from.ensures.starts in
    let same : replaced xs c.start-from.result p.bytes ≡ written xs p = ap (λ (q : ℕ). replaced xs q p.bytes) s.at_is in
    let exactly : E.becomes c.args.self.now.bytes (written xs p) c.write_at.new.self = subst (λ ys. E.becomes c.args.self.now.bytes ys c.write_at.new.self) same c.write_at.ensures.writes in
    record {
      stores = record {
        stores = flat_stores xs p c.start-from.result s _ (λ k. omega (arith, c.type_inv.bytes k)) (g.met.B.Entries.holds _ _ _ exactly);
        exactly = exactly;
      };
    }
