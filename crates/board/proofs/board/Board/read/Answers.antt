use Rattle.std.proofs.Common.{length, sym, refl}
use Rattle.std.proofs.lemmas.Result.{err_from_is_err_and}
use Rattle.board.specs.State.{state}
use Rattle.rules.proofs.Chain.{read_address, read_buffer, read_past}
use Rattle.board.proofs.board.Board.read.Goals as goal

pub returns-in_err-check_address : goal.returns-in_err-check_address
returns-in_err-check_address g c =
    let no = c.in_err-check_address.ensures.tells_whether in
    let p = err_from_is_err_and c.from_residual.result c.from_residual.ensures.1 in
    rw (p.1, p.2, no.says)
    (record {
      answers_as_ruled = sym (read_address (state g.S.Stack c.args.self.now) c.args.address (length c.args.into.now) no.past);
      a_refusal_leaves_the_buffer = refl;
    })

pub returns-then-into-ne-LINE : goal.returns-then-into-ne-LINE
returns-then-into-ne-LINE g c =
    record {
      answers_as_ruled = sym (read_buffer (state g.S.Stack c.args.self.now) c.args.address (length c.args.into.now) c.in_ok-check_address.ensures.tells_whether c.if-into-ne-LINE.true);
      a_refusal_leaves_the_buffer = refl;
    }

pub returns-in_err-finding : goal.returns-in_err-finding
returns-in_err-finding g c =
    let p = err_from_is_err_and c.from_residual-in_err-finding.result c.from_residual-in_err-finding.ensures.1 in
    rw (p.1, p.2)
    (record {
      answers_as_ruled = sym (read_past (state g.S.Stack c.args.self.now) c.args.address (length c.args.into.now) c.in_ok-check_address.ensures.tells_whether c.if-into-ne-LINE.false _ c.in_err-finding.ensures.reads);
      a_refusal_leaves_the_buffer = refl;
    })

pub returns : goal.returns
returns g c =
    record {
      answers_as_ruled = rw c.copy_from_slice.ensures.after
          (sym (read_past (state g.S.Stack c.args.self.now) c.args.address (length c.args.into.now) c.in_ok-check_address.ensures.tells_whether c.if-into-ne-LINE.false _ c.in_ok-finding.ensures.reads));
      a_refusal_leaves_the_buffer = tt;
    }
