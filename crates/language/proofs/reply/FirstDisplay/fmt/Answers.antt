use Rattle.std.proofs.Common.{◌<◌, true, sym, ap, ◌∙◌, rules, arith}
use Rattle.std.proofs.lemmas.Fmt.{hex_byte}
use Rattle.std.proofs.Output.{has_written_of_eq}
use Rattle.language.specs.Rows.{byte_text}
use Rattle.language.proofs.reply.FirstDisplay.fmt.Goals as goal

pub returns-in-Some-clause-writes : goal.returns-in-Some-clause-writes
returns-in-Some-clause-writes g c =
    λ plain ok.
    let small : c.in-Some.b < 256 = omega arith in
    has_written_of_eq _ _ _ _ _ (hex_byte true c.in-Some.b small ∙ ap byte_text (sym c.in-Some.is)) (search rules)
