use Rattle.std.proofs.Common.{◌≡◌, refl, arith}
use Rattle.codec.specs.Code.{zero_line}
use Rattle.stack.specs.Pieces.{Accepted}
use Rattle.stack.proofs.RunLaws.{run_size}
use Rattle.rules.specs.Work.{formatting}
use Rattle.rules.proofs.Wording.{put_done}
use Rattle.rules.proofs.Wiping.{banks_none, banks_put}
use Rattle.board.proofs.board.storing.zero_index.Goals as goal

pub loop-bank-init : goal.loop-bank-init
loop-bank-init g c = banks_none (Accepted g.S.Stack.means g.S.Stack.puts) _ _ _

pub loop-bank-preserved : goal.loop-bank-preserved
loop-bank-preserved g c =
    let run = c.loop-bank.invariant in
    let room = run_size run in
    let put = put_done g.S.Stack c.put.result _ _ _ _ _ _ c.put.ensures.refuses c.put.ensures.stores (record { bank_real = omega arith; index_real = omega arith; some = omega arith; room = omega arith }) in
    banks_put (Accepted g.S.Stack.means g.S.Stack.puts) formatting c.args.index c.loop-bank.bank 0 zero_line _ _ _ refl run put

pub returns : goal.returns
returns g c =
    let all : c.loop-bank.bank ≡ 72 = omega arith in
    record { zeros = rw all at c.loop-bank.invariant }
