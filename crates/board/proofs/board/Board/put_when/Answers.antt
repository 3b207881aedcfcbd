use Rattle.std.proofs.Common.{refl}
use Rattle.stack.specs.Pieces.{done, more}
use Rattle.rules.proofs.Wording.{put_done}
use Rattle.board.proofs.board.Board.put_when.Goals as goal

pub returns-then-test : goal.returns-then-test
returns-then-test g c =
    record {
      puts = record {
        run = rw c.if-test.true (more (put_done g.S.Stack c.put.result _ _ _ _ _ _ c.put.ensures.refuses c.put.ensures.stores c.requires.in_range) done);
        marks = refl;
      };
    }

pub returns-else-test : goal.returns-else-test
returns-else-test g c = record { puts = record { run = rw c.if-test.false done; marks = refl } }
