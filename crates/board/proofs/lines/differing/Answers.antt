use Rattle.std.proofs.Common.{◌≡◌, ℕ, not, eqb, List, [], ◌∷◌, length, suc, refl, sym, ap, ◌∙◌, inl, inr, rules, tests}
use Rattle.std.specs.List.{zip, filter}
use Rattle.std.proofs.lemmas.Bool.{cases_eq, eq-eqb, ne_eqb}
use Rattle.std.proofs.lemmas.Bool.Decides.{Decides-eqb}
use Rattle.std.proofs.lemmas.Slice.Eq.{slice_eq-Decides}
use Rattle.std.proofs.lemmas.Iterator.{YieldsList-from_slice, YieldsList-from_zip}
use Rattle.std.proofs.lemmas.Iterator.Consumers.{YieldsList-at, YieldsList-from_filter, count_from_yields_List}
use Rattle.codec.specs.Word.{distance}
use Rattle.codec.proofs.DecodingLaws.{distance_none}
use Rattle.board.proofs.lines.differing.Goals as goal

-- the pairs that differ, counted
distance_pairs : (xs ys : List ℕ) → length (filter (λ p. not (eqb p.0 p.1)) (zip xs ys)) ≡ distance xs ys
unfolding distance
distance_pairs [] ys = refl
distance_pairs (x ∷ xs) [] = refl
distance_pairs (x ∷ xs) (y ∷ ys) =
    elim (cases_eq x y) [
      | inl e ↦ rw (eq-eqb x y e) (distance_pairs xs ys)
      | inr n ↦ rw (ne_eqb x y n) (ap (λ k. suc k) (distance_pairs xs ys))
    ]

pub returns-clause-counts : goal.returns-clause-counts
returns-clause-counts c =
    count_from_yields_List c.filter.result c.count.result c.count.ensures.ran
    (YieldsList-from_filter _ (λ p. not (eqb p.0 p.1))
    (YieldsList-at c.filter.ensures.source (YieldsList-from_zip (YieldsList-from_slice c.args.a.now cc) (YieldsList-from_slice c.args.b.now cc)))
    c.filter.ensures.closure (λ x r q k. search (rules, tests)))
    ∙ distance_pairs c.args.a.now c.args.b.now

pub returns-then-eq-clause-counts : goal.returns-then-eq-clause-counts
returns-then-eq-clause-counts c =
    let same = slice_eq-Decides Decides-eqb c.args.a.now c.args.b.now c.eq.result c.eq.ensures in
    let xs = c.args.a.now in
    sym (ap (distance xs) (sym (same.0 c.if-eq.true)) ∙ distance_none xs)
