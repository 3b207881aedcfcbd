use Rattle.std.proofs.Common.{◌≡◌, length, get_or, sym, refl, ap, ◌∙◌, ap₂, arith, zero-add}
use lib.Bits.{bit_xor}
use Rattle.std.proofs.lemmas.List.{get_or-replicate}
use Rattle.rules.proofs.Rows.{xor_more}
use Rattle.board.specs.State.{line_at}
use Rattle.board.proofs.board.rows.parity_row.Goals as goal

pub loop-line-init : goal.loop-line-init
loop-line-init c = ((λ k h. get_or-replicate 64 k 0 0 h), refl)

pub loop-line-preserved : goal.loop-line-preserved
loop-line-preserved c =
    let n = c.loop-line.line-index in (
      (λ k h. c.xor_into.ensures.adds k h
          ∙ ap₂ bit_xor (c.loop-line.invariant.0 k h) (ap (λ b. get_or (line_at c.args.lines.now b) k 0) (sym (zero-add n)))
          ∙ sym (xor_more (λ b. get_or (line_at c.args.lines.now b) k 0) 0 n)),
      omega arith,
    )

pub returns : goal.returns
returns c =
    let e : c.loop-line.line-index ≡ length c.args.lines.now = omega arith in
    record { is_their_xor = rw e at c.loop-line.invariant.0 }
