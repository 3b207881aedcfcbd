use Rattle.script.proofs.LineLaws.{later_lines_only_add, refused_changes_nothing}
use Rattle.script.proofs.lines_hold.Goals as goal

pub returns : goal.returns
returns c = record { a_refused_line_changes_nothing = refused_changes_nothing; later_lines_only_add = later_lines_only_add }
