use Rattle.std.proofs.Common.{◌≡◌, ℕ, List, length, ap, ◌∙◌, rules}
use Rattle.layers.specs.Faults.{corrupted_all}
use Rattle.layers.specs.Tables.{faults_in}
use Rattle.layers.proofs.FaultLaws.{corrupted_all_cells}
use Rattle.layers.proofs.injector.calls.FaultInjectorStack.fetch.Goals as goal

pub returns : goal.returns
returns g c =
    let fs = faults_in c.args.self.now.table in
    let shown : c.show_all.new.into ≡ corrupted_all fs c.args.at.bank c.args.at.index c.args.at.byte c.fetch.new.into = search rules in
    let below = c.in_ok-fetch.ensures in
    record {
      refuses = below.refuses;
      copies =
          shown
          ∙ ap (λ (xs : List ℕ). corrupted_all fs c.args.at.bank c.args.at.index c.args.at.byte xs) below.copies
          ∙ corrupted_all_cells fs (g.S.Stack.means c.args.self.now.below).shown c.args.at.bank c.args.at.index c.args.at.byte (length c.args.into.now);
    }
