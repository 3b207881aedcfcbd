use Rattle.std.proofs.Common.{◌≡◌, ℕ, ◌+◌, ◌-◌, ◌*◌, ◌/◌, ◌%◌, ◌<◌, ◌≤◌, length, get_or, drop, sym, ap, ◌∙◌, subst, ap₂, arith}
use Rattle.std.proofs.lemmas.List.{length-take, length-drop, get_or-take, get_or-drop}
use Rattle.std.proofs.lemmas.Nat.{div-mul-add, mod-mul-add}
use Rattle.codec.specs.Check.{check}
use Rattle.rules.proofs.Rows.{length_chunk, chunk_room, chunk_more}
use Rattle.board.specs.State.{line_at}
use Rattle.board.proofs.board.rows.check_row.Goals as goal

pub slice_bounds-row-end : goal.slice_bounds-row-end
slice_bounds-row-end c =
    omega (arith, chunk_room c.loop-n.n (length c.args.lines.now) (c.args.symbols.end - c.args.symbols.start) c.loop-n-test.true c.requires.fills_the_row, c.loop-n.invariant.1)

pub loop-n-preserved : goal.loop-n-preserved
loop-n-preserved c =
    let lines = c.args.lines.now in
    let n = c.loop-n.n in
    let skip = c.args.symbols.start in
    let per : ℕ = c.args.symbols.end - skip in
    let symbols = c.check_of.result in
    let piece = c.copy_from_slice.new.self in
    let f : ℕ → ℕ = λ k. get_or (check (line_at lines (k / per))) (skip + k % per) 0 in
    let room = chunk_room n (length lines) per c.loop-n-test.true c.requires.fills_the_row in
    let full = c.loop-n.invariant.1 in
    let fits : n * per + per ≤ length c.loop-n.row = omega arith in
    let long : length piece ≡ per = c.copy_from_slice.ensures.len ∙ simp (length-take, length-drop) (omega arith) in (
      (chunk_more f c.loop-n.row piece n per (n * per + per - n * per) fits long c.loop-n.invariant.0
          (λ r h. ap (λ xs. get_or xs r 0) c.copy_from_slice.ensures.after
          ∙ get_or-take per (drop skip symbols) r 0 h ∙ get_or-drop skip symbols r 0 ∙ ap (λ xs. get_or xs (skip + r) 0) c.check_of.ensures.is_the_check
          ∙ ap₂ (λ x y. get_or (check (line_at lines x)) (skip + y) 0) (sym (div-mul-add n per r h)) (sym (mod-mul-add n per r h)))),
      length_chunk (n * per) (n * per + per - n * per) c.loop-n.row piece (omega arith) (omega (arith, long)) ∙ full,
    )

pub returns : goal.returns
returns c =
    let per : ℕ = c.args.symbols.end - c.args.symbols.start in
    let e : c.loop-n.n ≡ length c.args.lines.now = omega arith in
    record { has_the_checks = λ k h. c.loop-n.invariant.0 k (subst (λ m. k < m) (sym (ap (λ m. m * per) e ∙ c.requires.fills_the_row)) h) }
