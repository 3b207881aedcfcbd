use Rattle.layers.specs.Tables.{lines_in}
use Rattle.layers.proofs.BufferLaws.{Draining}
use Rattle.layers.proofs.buffer.calls.WriteBufferStack.settle.Given as goal

-- the lines so far are put down
abbrev pub invariant-loop-line : goal.invariant-loop-line
invariant-loop-line g l = Draining g.S.Stack.means g.S.Stack.puts (lines_in l.fn.self.table) l.line-index l.initial.self.1.0 l.self.1.0
