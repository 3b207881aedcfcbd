use Rattle.std.proofs.Common.{ℕ, length, vec_items, ap, ◌∙◌}
use Rattle.stack.specs.Memory.{Piece, piece, outside}
use Rattle.stack.specs.Flat.{flat_means}
use Rattle.stack.proofs.PieceLaws.{answered}
use Rattle.unsteady.proofs.NoiseLaws.{both, unsteady_put}
use Rattle.unsteady.proofs.Unsteady.put_both.Goals as goal

pub returns : goal.returns
returns c =
    let s = c.args.self.now in
    let x = flat_means (vec_items s.kept.bytes) in
    let y = flat_means (vec_items s.shown.bytes) in
    let p : Piece = piece c.args.at.bank c.args.at.index c.args.at.byte c.args.bytes.now in
    let two = both x.size y.size p.bank p.index p.from (length c.args.bytes.now) c.requires.lies in
    let keep = (answered _ c.put.result c.put.ensures.refuses c.put.ensures.stores).0 two.in_kept in
    let in_shown = ap (λ (q : ℕ). outside y.size p.bank p.index p.from q) c.requires.alike ∙ two.in_shown in
    let show = (answered _ c.put-2.result c.put-2.ensures.refuses c.put-2.ensures.stores).0 in_shown in
    record { stores = unsteady_put x y _ _ s.noise p c.args.any.now two.same c.requires.alike keep.stores show.stores }
