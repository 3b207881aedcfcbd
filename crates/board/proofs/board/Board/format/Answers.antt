use Rattle.rules.proofs.Calling.{format_done, format_size}
use Rattle.board.proofs.board.Board.format.Goals as goal

pub returns : goal.returns
returns g c =
    let zeros = c.zero_all.ensures.zeros in
    let keeps = c.settle.ensures.keeps in
    record {
      is_formatted = format_done g.S.Stack c.args.stack c.zero_all.new.stack c.settle.new.self zeros keeps;
      keeps_the_size = format_size g.S.Stack c.args.stack c.zero_all.new.stack c.settle.new.self zeros keeps;
      puts_zeros_then_settles = (c.zero_all.new.stack, zeros, c.settle.ensures.exactly);
    }
