use Rattle.std.proofs.Common.{append_assoc, rules}
use Rattle.language.specs.Rows.{row}
use Rattle.language.proofs.reply.push_row.Goals as goal

pub returns : goal.returns
unfolding row
returns c = search (rules, append_assoc)
