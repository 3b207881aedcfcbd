use Rattle.std.proofs.Common.{◌≡◌, ℕ, ◌+◌, List, [], Option, sym, refl, ap, ◌∙◌, subst, ap₂, arith}
use Rattle.std.specs.List.{concat}
use Rattle.stack.specs.Pieces.{Accepted, InOrder}
use Rattle.stack.proofs.RunLaws.{run_size}
use Rattle.rules.specs.Rules.{Part, piece_at, otherwise_part}
use Rattle.rules.specs.Work.{slots, scrubbing}
use Rattle.rules.proofs.Wiping.{banks_none, banks_more}
use Rattle.rules.proofs.Rows.{otherwise_none}
use Rattle.rules.proofs.Scrubbing.{total_more, scrub_count}
use Rattle.board.specs.Marks.{listed}
use Rattle.board.proofs.board.Board.scrub_group.Goals as goal

pub loop-bank-init : goal.loop-bank-init
loop-bank-init g c =
    (record { run = banks_none (Accepted g.S.Stack.means g.S.Stack.puts) _ _ _; marks = refl }, otherwise_none _ _ _, omega arith)

pub scrub_bank-count-requires : goal.scrub_bank-count-requires
scrub_bank-count-requires g c =
    let room = run_size c.loop-bank.invariant.0.run in
    record { real_bank = c.loop-bank-test.true; in_range = omega (arith, c.requires.in_range) }

pub loop-bank-preserved : goal.loop-bank-preserved
loop-bank-preserved g c =
    let x = c.args.self.now.stack in
    let y = c.loop-bank.self.stack in
    let z = c.scrub_bank-count.new.self.stack in
    let i = c.args.index in
    let n = c.loop-bank.bank in
    let p : List ℕ → ℕ → Option Part = λ ms. scrubbing ms c.args.b (slots (concat c.args.work.now)) i in
    let ms = listed c.args.self.now.marks in
    let run = c.loop-bank.invariant.0.run in
    let same = c.loop-bank.invariant.0.marks in
    let sx = (g.S.Stack.means x).shown in
    let sy = (g.S.Stack.means y).shown in
    let one : c.scrub_bank-count.result ≡ otherwise_part sx i n (p ms n) =
    c.scrub_bank-count.ensures.counts ∙ ap (λ m. otherwise_part sy i n (p (listed m) n)) same
    ∙ scrub_count g.S.Stack x y ms c.args.b (slots (concat c.args.work.now)) i n c.requires.in_range c.loop-bank-test.true run in
    let low = c.scrub_bank-count.ensures.at_most_64 in
    let was = c.loop-bank.invariant.2 in (
      record {
        run = banks_more (Accepted g.S.Stack.means g.S.Stack.puts) (p ms) i n x y z run
            (subst (λ m. InOrder g.S.Stack.means g.S.Stack.puts y (piece_at (p (listed m) n) i n []) z) same c.scrub_bank-count.ensures.puts_anew.run);
        marks = c.scrub_bank-count.ensures.puts_anew.marks ∙ same;
      },
      ap₂ (λ u v. u + v) c.loop-bank.invariant.1 one ∙ sym (total_more sx i (p ms) n),
      omega arith,
    )

pub returns : goal.returns
returns g c =
    let all : c.loop-bank.bank ≡ 72 = omega arith in
    record { puts_anew = rw all at c.loop-bank.invariant.0; counts = rw all at c.loop-bank.invariant.1 }
