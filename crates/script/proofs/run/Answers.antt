use Rattle.std.proofs.Common.{◌<◌, ◌≤◌, length, vec_items, refl, ap, ◌∙◌, arith}
use Rattle.std.proofs.lemmas.Result.{err_from_is_err_and}
use Rattle.script.specs.Piles.{bare_pile_of}
use Rattle.script.specs.Machines.{machine_of}
use Rattle.script.proofs.PileLaws.{first_pile}
use Rattle.script.proofs.MachineLaws.{board_formatted}
use Rattle.script.proofs.ScriptLaws.{one_row_each, too_long, whole}
use Rattle.script.proofs.run.Goals as goal

pub returns-then-input-gt-LONGEST : goal.returns-then-input-gt-LONGEST
returns-then-input-gt-LONGEST c =
    let long : 16384 < length c.args.input.now = omega (arith, c.if-input-gt-LONGEST.true) in
    let all =
    too_long c.args.input.now (vec_items c.new-bytes.result) (vec_items c.push_row.new.out) c.unreadable.result
    long c.new-bytes.ensures.items c.unreadable.ensures.is_the_reply c.in_ok-push_row.ensures.writes_the_row in
    record { is_the_output = all; has_a_row_for_each_line = one_row_each c.args.input.now (vec_items c.push_row.new.out) all }

pub inject_leading-requires-clause-begins : goal.inject_leading-requires-clause-begins
inject_leading-requires-clause-begins c = refl

pub returns-in_err-rest : goal.returns-in_err-rest
returns-in_err-rest c =
    let p = err_from_is_err_and c.from_residual-in_err-rest.result c.from_residual-in_err-rest.ensures.1 in
    record { is_the_output = rw p.1 tt; has_a_row_for_each_line = rw p.1 tt }

pub returns-in_err-run_lines : goal.returns-in_err-run_lines
returns-in_err-run_lines c =
    let p = err_from_is_err_and c.from_residual-in_err-run_lines.result c.from_residual-in_err-run_lines.ensures.1 in
    record { is_the_output = rw p.1 tt; has_a_row_for_each_line = rw p.1 tt }

pub returns : goal.returns
returns c =
    let short : length c.args.input.now ≤ 16384 = omega (arith, c.if-input-gt-LONGEST.false) in
    let all =
    whole c.args.input.now (vec_items c.new-bytes.result) (vec_items c.inject_leading.new.rows.bytes) (vec_items c.run_lines.new.rows.bytes)
    c.in_ok-rest.rest.now (bare_pile_of c.new-injector.result) (bare_pile_of c.inject_leading.new.injector)
    (machine_of c.format-board.result) c.inject_leading.new.rows.number
    short c.new-bytes.ensures.items
    (first_pile c.new-injector.result c.new-memory.result c.new-injector.ensures.holds c.new-injector.ensures.empty
    (ap vec_items c.new-memory.ensures.holds ∙ c.in_ok-vec.ensures.items_if_clones_equal (λ y e. e)))
    c.in_ok-rest.ensures.leads
    (board_formatted c.inject_leading.new.injector c.new.result c.format-board.result c.new.ensures.holds c.new.ensures.empty
    c.format-board.ensures.puts_zeros_then_settles c.format-board.ensures.is_formatted.stage)
    c.in_ok-run_lines.ensures.writes_the_rows in
    record { is_the_output = all; has_a_row_for_each_line = one_row_each c.args.input.now (vec_items c.run_lines.new.rows.bytes) all }
