use Rattle.std.proofs.Common.{◌≡◌, ◌-◌, ◌/◌, ◌%◌, Some, sym, ap, ◌∙◌, subst, ap₂, arith}
use Rattle.std.specs.List.{concat, range_with_len}
use Rattle.std.proofs.lemmas.Result.{err_from_is_err_and}
use Rattle.rules.specs.Places.{group_start, group_count}
use Rattle.rules.specs.Rules.{reading, first_denied, addresses}
use Rattle.rules.specs.Work.{Loaded}
use Rattle.rules.specs.declared.calls.Call.TheVariants.{Scrub}
use Rattle.rules.proofs.Gathering.{group_room}
use Rattle.rules.proofs.Calling.{call_refused}
use Rattle.rules.proofs.Scrubbing.{scrub_denied, scrub_done}
use Rattle.board.specs.Marks.{listed}
use Rattle.board.specs.State.{state}
use Rattle.board.proofs.Seeing.{listed_low}
use Rattle.board.proofs.board.Board.scrub_with.Goals as goal

pub load-requires : goal.load-requires
load-requires g c =
    let ms = listed c.args.self.now.marks in
    let room = group_room ms (c.args.address % 64) (omega arith) in
    let ends = c.group-banks.ensures.ends in
    record { in_range = c.requires.in_range; real_banks = omega (arith, room, ends); room = omega (arith, room, ends, c.told-work) }

pub returns-in_err-load : goal.returns-in_err-load
returns-in_err-load g c =
    let x = c.args.self.now.stack in
    let ms = listed c.args.self.now.marks in
    let s = state g.S.Stack c.args.self.now in
    let a = c.args.address in
    let e = c.in_err-load.field-0.0 in
    let p = err_from_is_err_and c.from_residual.result c.from_residual.ensures.1 in
    let starts = c.group-banks.ensures.starts in
    let counts : c.group-banks.result.end - c.group-banks.result.start ≡ group_count ms = omega (arith, starts, c.group-banks.ensures.ends) in
    let refuses : first_denied (reading s) (addresses (a / 64) (range_with_len (group_start ms (a % 64)) (group_count ms))) ≡ Some e =
    ap₂ (λ lo n. first_denied (reading s) (addresses (a / 64) (range_with_len lo n))) (sym starts) (sym counts) ∙ c.in_err-load.ensures.loads_or_refuses in
    rw (p.1, p.2)
    (record {
      scrubs = λ n h.
          let q = call_refused g.S.Stack x ms (Scrub a n) e tt (scrub_denied (g.S.Stack.means x) ms a n e c.requires.in_range h refuses) in
          record { answers = q.0.says; puts = q.1; marks = q.0.marks };
    })

pub returns : goal.returns
returns g c =
    let x = c.args.self.now.stack in
    let ms = listed c.args.self.now.marks in
    let s = state g.S.Stack c.args.self.now in
    let a = c.args.address in
    let w = concat c.load.new.work in
    let starts = c.group-banks.ensures.starts in
    let counts : c.group-banks.result.end - c.group-banks.result.start ≡ group_count ms = omega (arith, starts, c.group-banks.ensures.ends) in
    let load : Loaded (reading s) (a / 64) (group_start ms (a % 64)) (group_count ms) w =
    subst (λ l. Loaded (reading s) (a / 64) l (group_count ms) w) starts
    (subst (λ n. Loaded (reading s) (a / 64) c.group-banks.result.start n w) counts c.in_ok-load.ensures.loads_or_refuses) in
    let did = c.scrub_group.ensures.puts_anew in
    record {
      scrubs = λ n h.
          let q = scrub_done g.S.Stack x c.scrub_group.new.self.stack ms (listed c.scrub_group.new.self.marks)
          a n w c.scrub_group.result c.requires.in_range h (listed_low c.args.self.now.marks) load (ap listed did.marks)
          c.scrub_group.ensures.counts did.run in
          record { answers = q.0.says; puts = q.1; marks = q.0.marks };
    }
