use Rattle.std.proofs.Common.{ap, ◌∙◌, subst}
use Rattle.codec.specs.Word.{Found}
use Rattle.codec.specs.Finder.{single_error}
use Rattle.codec.proofs.finder.single_error.Goals as goal

pub returns : goal.returns
returns c =
    let e = c.spread.ensures.in_order in
    record {
      is_the_single_error = c.locate.ensures.is_the_single_error ∙ ap single_error e;
      some_exactly_where_one_symbol_makes_a_codeword = subst (λ w. Found w c.locate.result) e c.locate.ensures.answers;
    }
