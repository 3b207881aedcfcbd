use Rattle.std.proofs.Common.{rules}
use Rattle.layers.proofs.LineLaws.{overlaid_at}
use Rattle.layers.proofs.buffer.calls.WriteBufferStack.pass.Goals as goal

pub returns : goal.returns
returns g c = search (rules, overlaid_at)
