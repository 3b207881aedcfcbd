use Rattle.std.proofs.Common.{◌≡◌, rules}
use Rattle.stack.specs.Memory.{Piece, piece}
use Rattle.layers.specs.Faults.{outlasting}
use Rattle.layers.specs.Tables.{faults_in}
use Rattle.layers.proofs.FaultLaws.{faulty_stores}
use Rattle.layers.proofs.injector.calls.FaultInjectorStack.put.Goals as goal

pub returns : goal.returns
returns g c =
    let fs = faults_in c.args.self.now.table in
    let p : Piece = piece c.args.at.bank c.args.at.index c.args.at.byte c.args.bytes.now in
    let gone : faults_in c.remove_flips.new.self ≡ outlasting p fs = search rules in
    let below = c.in_ok-put.ensures in
    record {
      refuses = below.refuses;
      stores = record {
        stores = faulty_stores fs _ (g.S.Stack.means c.args.self.now.below) (g.S.Stack.means c.put.new.self) p below.stores.stores gone;
        exactly = record { down = below.stores; faults = gone };
      };
    }
