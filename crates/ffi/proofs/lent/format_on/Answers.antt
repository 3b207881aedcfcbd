use Rattle.std.proofs.Common.{[], sym, ap, ◌∙◌, subst}
use Rattle.rules.specs.Boards.{board}
use Rattle.rules.specs.History.{Formatted}
use Rattle.stack.specs.Memories.{lent_means}
use Rattle.ffi.specs.Lent.{zeroed}
use Rattle.ffi.proofs.LentLaws.{format_bytes, format_loan}
use Rattle.ffi.proofs.lent.format_on.Goals as goal

pub returns : goal.returns
returns c =
    let x = c.replace-lent.result in
    let run = c.format.ensures.puts_zeros_then_settles in
    let taken = c.replace-lent.ensures.value in
    let back = c.release.ensures.gives_back_the_stack in
    let whole = c.format.ensures.is_formatted in
    record {
      formats = record {
        bytes = format_bytes x run.0 c.release.result run.1 (back ∙ run.2) ∙ ap (λ s. zeroed s.bytes.now) taken;
        formatted = subst (λ s. Formatted (board (lent_means s) [])) (sym back) (subst (λ ms. Formatted (board (lent_means c.format.result.stack) ms)) whole.stage whole);
      };
      keeps_the_loan = format_loan x run.0 c.release.result run.1 (back ∙ run.2) ∙ ap (λ s. s.bytes.ghost_name) taken;
    }
