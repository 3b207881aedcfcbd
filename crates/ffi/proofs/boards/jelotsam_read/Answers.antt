use Rattle.std.proofs.Common.{length, ◌∙◌}
use Rattle.ffi.proofs.CallLaws.{read_leaves}
use Rattle.ffi.proofs.boards.jelotsam_read.Goals as goal

pub returns-clause-leaves_the_memory : goal.returns-clause-leaves_the_memory
returns-clause-leaves_the_memory c =
    c.call_on-answer.ensures.stores ∙ read_leaves c.args.memory.now c.args.marked.now c.args.address (length c.args.line.now)
