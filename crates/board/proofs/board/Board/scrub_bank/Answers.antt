use Rattle.std.proofs.Common.{◌≡◌, [], None, Option, refl, ap, ◌∙◌, subst, arith}
use Rattle.std.specs.List.{concat}
use Rattle.stack.specs.Pieces.{done}
use Rattle.rules.specs.Rules.{Part, part, when, piece_at, otherwise_part, row}
use Rattle.rules.specs.Work.{slots}
use Rattle.board.specs.Marks.{listed}
use Rattle.board.specs.State.{Ran, scrubbed_part}
use Rattle.board.proofs.board.Board.scrub_bank.Goals as goal

pub returns-then-not-holds : goal.returns-then-not-holds
returns-then-not-holds g c =
    let x = c.args.self.now in
    let r = row (listed x.marks) (slots (concat c.args.work.now)) c.args.index c.args.bank in
    let e : None ≡ scrubbed_part x c.args.b c.args.index (concat c.args.work.now) c.args.bank =
    ap (λ t. when t (part 0 r)) c.if-not-holds.ensures.tells_whether_it_holds in
    record {
      puts_anew = subst (λ (o : Option Part). Ran g.S.Stack x (piece_at o c.args.index c.args.bank []) x) e (record { run = done; marks = refl });
      counts = ap (otherwise_part (g.S.Stack.means x.stack).shown c.args.index c.args.bank) e;
      at_most_64 = omega arith;
    }

pub returns : goal.returns
returns g c =
    let x = c.args.self.now in
    let y = c.put_row.new.self in
    let r = row (listed x.marks) (slots (concat c.args.work.now)) c.args.index c.args.bank in
    let e : part 0 c.build_row-row.result ≡ scrubbed_part x c.args.b c.args.index (concat c.args.work.now) c.args.bank =
    ap (part 0) (c.build_row-row.ensures.is_the_row c.args.index) ∙ ap (λ t. when t (part 0 r)) c.if-not-holds.ensures.tells_whether_it_holds in
    record {
      puts_anew = subst (λ (o : Option Part). Ran g.S.Stack x (piece_at o c.args.index c.args.bank []) y) e c.put_row.ensures.puts_it;
      counts = c.put_row.ensures.counts ∙ ap (otherwise_part (g.S.Stack.means x.stack).shown c.args.index c.args.bank) e;
      at_most_64 = c.put_row.ensures.at_most_64;
    }
