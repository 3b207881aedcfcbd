use Rattle.std.proofs.Common.{replicate, ap, ◌∙◌}
use Rattle.board.proofs.board.rows.zero.Goals as goal

pub returns : goal.returns
returns c = record { zeros = c.fill.ensures.after (λ y e. e) ∙ ap (λ n. replicate n 0) c.told-front }
