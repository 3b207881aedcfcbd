use Rattle.std.proofs.Common.{◌≡◌, ◌-◌, ◌*◌, ◌/◌, ◌%◌, eqb, [], take, drop, refl, ap, ◌∙◌, subst, arith}
use Rattle.std.proofs.lemmas.List.{take_all, length-drop}
use Rattle.codec.specs.Check.{check}
use Rattle.stack.specs.Pieces.{done}
use Rattle.rules.specs.Rules.{store_part, piece_at, when, part}
use Rattle.board.specs.Marks.{listed}
use Rattle.board.specs.State.{Ran}
use Rattle.board.proofs.board.Board.store_bank.Goals as goal

pub returns-in-Second : goal.returns-in-Second
returns-in-Second g c =
    let ms = listed c.args.self.now.marks in
    let x = c.args.self.now in
    let y = c.put_when-in-Second.new.self in
    let a = c.args.address in
    let l = c.args.line.now in
    let w = c.args.check.now in
    let q = c.in-Second.q in
    let e : take (6 - 4) (drop 4 w) ≡ drop 4 (check l) =
    take_all 2 (drop 4 w) (simp length-drop (omega (arith, c.told-check))) ∙ ap (drop 4) c.requires.its_check in
    record {
      stores = subst (λ r. Ran g.S.Stack x (piece_at (store_part ms (a % 64) l c.args.parity.now r) (a / 64) c.args.bank []) y)
          c.in-Second.ensures.is_its_role
          (subst (λ bs. Ran g.S.Stack x (piece_at (when (eqb q (a % 64 / 32)) (part (2 * (a % 64 % 32)) bs)) (a / 64) c.args.bank []) y) e
          c.put_when-in-Second.ensures.puts);
    }

pub returns-in-Retired : goal.returns-in-Retired
returns-in-Retired g c =
    let ms = listed c.args.self.now.marks in
    let x = c.args.self.now in
    let a = c.args.address in
    record {
      stores = subst (λ r. Ran g.S.Stack x (piece_at (store_part ms (a % 64) c.args.line.now c.args.parity.now r) (a / 64) c.args.bank []) x)
          c.in-Retired.ensures.is_its_role (record { run = done; marks = refl });
    }
