use Rattle.std.proofs.Common.{◌≡◌, ℕ, ◌<◌, Decides, List, length, get_or, take, sym, ap, ◌∙◌, arith, length-take, rules}
use Rattle.std.proofs.lemmas.List.{get_or-take, ext_get_or}
use Rattle.codec.proofs.finder.explains.Goals as goal

pub returns : goal.returns
returns c =
    let n : ℕ = c.args.count in
    let xs : List ℕ = c.args.sums.now in
    let t : List ℕ = c.terms.result in
    let six : length t ≡ 6 = search rules in
    let d : Decides c.starts_with.result (take n t ≡ take n xs) = search rules in
    let products = c.terms.ensures.are_its_products in
    let long : length (take n t) ≡ n = simp length-take (omega arith) in
    let long' : length (take n xs) ≡ n = simp length-take (omega arith) in
    record {
      sound = λ h k l. sym (get_or-take n xs k 0 l) ∙ ap (λ ys. get_or ys k 0) (sym (d.0 h)) ∙ get_or-take n t k 0 l ∙ products k (omega arith);
      whole =
          λ h.
          d.1
          (ext_get_or 0 (take n t) (take n xs) (long ∙ sym long')
          (λ k m. let l : k < n = omega arith in get_or-take n t k 0 l ∙ products k (omega arith) ∙ sym (h k l) ∙ sym (get_or-take n xs k 0 l)));
    }
