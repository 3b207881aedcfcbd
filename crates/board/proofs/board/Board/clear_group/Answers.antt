use Rattle.std.proofs.Common.{◌≡◌, sym, refl, ap, ◌∙◌, arith}
use Rattle.codec.specs.Code.{zero_line}
use Rattle.stack.specs.Pieces.{Accepted}
use Rattle.stack.proofs.RunLaws.{run_size}
use Rattle.rules.specs.Rules.{clearing, when, part}
use Rattle.rules.proofs.Wording.{put_done}
use Rattle.rules.proofs.Wiping.{banks_none, banks_put, banks_skip}
use Rattle.board.specs.Marks.{listed, holds_of_group}
use Rattle.board.proofs.board.Board.clear_group.Goals as goal
use Rattle.board.proofs.board.Board.clear_group.Goals.{then-holds, else-holds}

pub loop-bank-init : goal.loop-bank-init
loop-bank-init g c = record { run = banks_none (Accepted g.S.Stack.means g.S.Stack.puts) _ _ _; marks = refl }

pub loop-bank-preserved : goal.loop-bank-preserved
loop-bank-preserved g c =
    let ms = listed c.args.self.now.marks in
    let n = c.loop-bank.bank in
    let chain = c.loop-bank.invariant.run in
    let same = c.loop-bank.invariant.marks in
    let room = run_size chain in
    let step = Accepted g.S.Stack.means g.S.Stack.puts in
    let tells : c.holds.result ≡ holds_of_group ms c.args.b n =
    c.holds.ensures.tells_whether_it_holds ∙ ap (λ m. holds_of_group (listed m) c.args.b n) same in
    elim c.if-holds.branch [
      | then-holds w ↦
          let put = put_done g.S.Stack w.put.result _ _ _ _ _ _ w.put.ensures.refuses w.put.ensures.stores (record { bank_real = omega arith; index_real = omega arith; some = omega arith; room = omega arith }) in
          rw w.self-is (record {
            run = banks_put step (clearing ms c.args.b) c.args.index n 0 zero_line _ _ _
                (ap (λ t. when t (part 0 zero_line)) (sym tells ∙ w.if-holds.true)) chain put;
            marks = same;
          })
      | else-holds w ↦
          rw w.self-is (record {
            run = banks_skip step (clearing ms c.args.b) c.args.index n _ _
                (ap (λ t. when t (part 0 zero_line)) (sym tells ∙ w.if-holds.false)) chain;
            marks = same;
          })
    ]

pub returns : goal.returns
returns g c =
    let all : c.loop-bank.bank ≡ 72 = omega arith in
    record { clears = rw all at c.loop-bank.invariant }
