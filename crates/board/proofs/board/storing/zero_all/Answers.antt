use Rattle.std.proofs.Common.{◌≡◌, arith}
use Rattle.stack.specs.Pieces.{Accepted}
use Rattle.stack.proofs.RunLaws.{run_size}
use Rattle.rules.specs.Work.{formatting}
use Rattle.rules.proofs.Calling.{index_none, index_more}
use Rattle.board.proofs.board.storing.zero_all.Goals as goal

pub loop-index-init : goal.loop-index-init
loop-index-init g c = index_none (Accepted g.S.Stack.means g.S.Stack.puts) _ _

pub zero_index-requires : goal.zero_index-requires
zero_index-requires g c =
    let room = run_size c.loop-index.invariant in
    record { in_range = omega (arith, c.size-index-end.ensures.is_size) }

pub loop-index-preserved : goal.loop-index-preserved
loop-index-preserved g c =
    index_more (Accepted g.S.Stack.means g.S.Stack.puts) (λ _. formatting) c.loop-index.index _ _ _ c.loop-index.invariant c.zero_index.ensures.zeros

pub returns : goal.returns
returns g c =
    let all : c.loop-index.index ≡ (g.S.Stack.means c.args.stack.now).size = omega (arith, c.size-index-end.ensures.is_size) in
    record { zeros = rw all at c.loop-index.invariant }
