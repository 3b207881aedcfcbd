use Rattle.std.proofs.Common.{◌≡◌, eqb, List, ℕ, [], Some, None, Option, Bor, get_or, refl, ap, ◌∙◌, arith, rules}
use Rattle.std.specs.List.{slice_get}
use Rattle.std.specs.Option.{option_map, unwrap_or}
use Rattle.std.proofs.lemmas.Iterator.Consumers.{nth_from_yields_List}
use Rattle.std.proofs.lemmas.Iterator.Splits.{YieldsList-from_slice_split}
use Rattle.std.proofs.lemmas.Option.{unwrap_or-slice_get}
use borrow.Author.Tests.{tests}
use Rattle.language.specs.Parts.{fields}
use Rattle.language.proofs.parts.field.Goals as goal

unwrapped_now : (r : Option (Bor (List ℕ))) (d : Bor (List ℕ)) → (unwrap_or r d).now ≡ unwrap_or (option_map (λ x. x.now) r) d.now
unwrapped_now None d = refl
unwrapped_now (Some x) d = refl

-- what stands at a place that is the one asked for
at_asked : (fs : List (List ℕ)) (o : Option (List ℕ)) (k n : ℕ) → o ≡ slice_get fs k → k ≡ n → unwrap_or o [] ≡ get_or fs n []
at_asked fs o k n e same = ap (λ p. unwrap_or p []) e ∙ unwrap_or-slice_get fs k [] ∙ ap (λ m. get_or fs m []) same

pub returns : goal.returns
returns c =
    let found =
    nth_from_yields_List c.nth.result c.nth.new.self _ c.nth.ensures.ran
    (YieldsList-from_slice_split _ (λ b. eqb b 9) c.args.line.now c.split.ensures.rest c.split.ensures.done c.split.ensures.closure (λ x b q k. search (rules, tests))) in
    record {
      is_that_field =
          ap (λ r. r.now) c.unwrap_or.ensures ∙ unwrapped_now c.nth.result _
          ∙ at_asked (fields c.args.line.now) _ _ c.args.number found (omega arith);
    }
