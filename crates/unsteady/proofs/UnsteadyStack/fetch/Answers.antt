use Rattle.std.proofs.Common.{◌≡◌, ℕ, false, cond, eqb, List, length, vec_items, sym, ap, ◌∙◌, rules}
use Rattle.stack.specs.Memory.{outside}
use Rattle.stack.specs.Refusals.{judged}
use Rattle.stack.specs.Flat.{flat_means}
use Rattle.stack.proofs.PieceLaws.{accepted, answered}
use Rattle.unsteady.specs.Noise.{noisy}
use Rattle.unsteady.proofs.NoiseLaws.{both, noisy_cells}
use Rattle.unsteady.proofs.UnsteadyStack.fetch.Goals as goal

pub returns : goal.returns
returns c =
    let s = c.args.self.now in
    let x = flat_means (vec_items s.kept.bytes) in
    let y = flat_means (vec_items s.shown.bytes) in
    let n = length c.args.into.now in
    let in' : outside (cond (eqb x.size y.size) x.size 0) c.args.at.bank c.args.at.index c.args.at.byte n ≡ false =
    ap (λ (q : ℕ). outside q c.args.at.bank c.args.at.index c.args.at.byte n) (sym c.size.ensures.is_size) ∙ accepted _ (sym c.in_ok-check.ensures.refuses_what_lies_outside) in
    let two = both x.size y.size c.args.at.bank c.args.at.index c.args.at.byte n in' in
    let got = (answered _ c.fetch.result c.fetch.ensures.refuses c.fetch.ensures.copies).0 two.in_shown in
    let shown : c.disturb.new.into ≡ noisy s.noise c.fetch.new.into = search rules in
    record {
      refuses = ap judged (sym in');
      copies =
          shown
          ∙ ap (λ (zs : List ℕ). noisy s.noise zs) got
          ∙ noisy_cells s.noise y.shown c.args.at.bank c.args.at.index c.args.at.byte n;
    }
