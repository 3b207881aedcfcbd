use Rattle.rehearsal.proofs.Traced.{concluded, trace_of}
use Rattle.rehearsal.proofs.rehearse.Goals as goal

pub returns : goal.returns
returns g c =
    let first = c.format-left.ensures in
    let second = c.format-right.ensures in
    let told = c.same_lines-equal.ensures.tells_exactly in
    record {
      main_theorem = record {
        ran = trace_of (record { formatted = first.is_formatted; size = first.keeps_the_size; exactly = first.puts_zeros_then_settles }) c.run.ensures.runs_in_order;
        ran' = trace_of (record { formatted = second.is_formatted; size = second.keeps_the_size; exactly = second.puts_zeros_then_settles }) c.run-2.ensures.runs_in_order;
        compared = told;
        theorem = concluded g.A.Stack g.B.Stack c.args.a c.args.b c.run.new.board c.run-2.new.board _ _ c.same_lines-equal.result told;
      };
    }
