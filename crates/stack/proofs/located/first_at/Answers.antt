use Rattle.std.proofs.Common.{Bool, ◌∙◌, ◌&&◌, eqb, rules}
use Rattle.std.proofs.lemmas.Iterator.{YieldsList-from_slice}
use Rattle.std.proofs.lemmas.Iterator.Search.{position_from_yields_List}
use Rattle.std.proofs.lemmas.Iterator.Adapters.{position_from-zero}
use Rattle.stack.proofs.located.first_at.Goals as goal

pub returns : goal.returns
returns g c =
    let test : g.row.E.Denot → Bool = λ x. eqb (g.E.Located.bank_of x) c.args.bank && eqb (g.E.Located.index_of x) c.args.index in
    record {
      is_first =
          position_from_yields_List test _ _ _ c.position.ensures.ran (YieldsList-from_slice c.args.entries.now cc) (λ x b q k. search rules)
          ∙ position_from-zero test c.args.entries.now;
    }
