use Rattle.std.proofs.Common.{◌≡◌, ℕ, ◌+◌, ◌-◌, ◌*◌, ◌/◌, ◌%◌, ◌≤◌, Some, sym, ap, ◌∙◌, subst, rules, tests, arith}
use Rattle.std.proofs.lemmas.Result.{err_from_is_err_and}
use Rattle.codec.specs.Code.{uncorrectable, found}
use Rattle.codec.specs.Shown.{told}
use Rattle.stack.specs.declared.refusal.Refusal.TheVariants.{PartnerUncorrectable}
use Rattle.rules.specs.Places.{group_start, group_count}
use Rattle.rules.specs.Rules.{decoded}
use Rattle.rules.proofs.Gathering.{Gathered, gather_start, gather_skip, gather_more, gather_all, gather_refused, group_room}
use Rattle.board.specs.Marks.{listed}
use Rattle.board.specs.State.{state}
use Rattle.board.proofs.Seeing.{mapped_ok, mapped_err}
use Rattle.board.proofs.board.Site.add_partners.Goals as goal

pub loop-bank-init : goal.loop-bank-init
loop-bank-init g c =
    let s = state g.S.Stack c.args.self.now.board.now in
    let a = c.args.self.now.address in
    let lo = c.into_iter-bank-iterator.result.start in
    let none : lo - lo ≡ 0 = omega arith in
    let group = c.into_iter-bank-iterator.ensures.into_iter_gives in
    let starts = ap (λ r. r.start) group in
    let ends = ap (λ r. r.end) group in (
      subst (λ n. Gathered s (a / 64) (a % 64) lo n c.args.sum.now c.args.sum.now) (sym none) (gather_start _ _ _ _ _),
      omega arith,
      omega (arith, starts, ends, c.group-bank-items.ensures.starts, c.group-bank-items.ensures.ends),
      omega arith,
    )

pub overflow_add-partner : goal.overflow_add-partner
overflow_add-partner g c =
    let room = group_room (listed c.args.self.now.board.now.marks) (c.args.self.now.address % 64) (omega arith) in
    let group = c.into_iter-bank-iterator.ensures.into_iter_gives in
    let low : c.in-Some.bank + 1 ≤ 64 =
    omega (arith, room, ap (λ r. r.end) group, c.group-bank-items.ensures.ends, c.in-Some.ensures.steps, c.loop-bank.invariant.3) in
    search (rules, low)

pub returns-in_err-map_err : goal.returns-in_err-map_err
returns-in_err-map_err g c =
    let s = state g.S.Stack c.args.self.now.board.now in
    let a = c.args.self.now.address in
    let b = c.in-Some.bank in
    let at = c.in-Some.ensures.steps in
    let held = c.loop-bank.invariant in
    let group = c.into_iter-bank-iterator.ensures.into_iter_gives in
    let lo = group_start (listed c.args.self.now.board.now.marks) (a % 64) in
    let starts : c.into_iter-bank-iterator.result.start ≡ lo = ap (λ r. r.start) group ∙ c.group-bank-items.ensures.starts in
    let n : ℕ = c.loop-bank.bank-iterator.start - c.into_iter-bank-iterator.result.start in
    let here : b ≡ lo + n = omega (arith, at, held.1, starts) in
    let test = c.if-partner-address.true in
    let was = mapped_err c.decode_word.result c.map_err.result _ c.in_err-map_err.field-0.0 c.map_err.ensures.cases c.in_err-map_err.was in
    let e : c.in_err-map_err.field-0.0 ≡ PartnerUncorrectable a (64 * (a / 64) + b) = search (rules, tests, was.2) in
    let bad : decoded s (64 * (a / 64) + b) ≡ uncorrectable = c.decode_word.ensures.decodes ∙ ap (λ r. told r c.decode_word.new.line) was.1 in
    let p = err_from_is_err_and c.from_residual.result c.from_residual.ensures.1 in
    rw (p.1, p.2)
    (record {
      sums_or_refuses =
          gather_refused s a n c.args.sum.now c.loop-bank.sum (omega (arith, at, held.1, held.3, starts, ap (λ r. r.end) group, c.group-bank-items.ensures.ends))
          (λ q. test (omega (arith, here, q))) (subst (λ x. decoded s (64 * (a / 64) + x) ≡ uncorrectable) here bad)
          (subst (λ x. Gathered s (a / 64) (a % 64) x n c.args.sum.now c.loop-bank.sum) starts held.0)
          ∙ ap (λ x. Some (PartnerUncorrectable a (64 * (a / 64) + x))) (sym here) ∙ ap Some (sym e);
    })

pub loop-bank-preserved : goal.loop-bank-preserved
loop-bank-preserved g c =
    let s = state g.S.Stack c.args.self.now.board.now in
    let a = c.args.self.now.address in
    let at = c.in-Some.ensures.steps in
    let held = c.loop-bank.invariant in
    let lo = c.into_iter-bank-iterator.result.start in
    let n : ℕ = c.loop-bank.bank-iterator.start - lo in
    let next : n + 1 ≡ c.next.new.self.start - lo = omega (arith, at, held.1) in
    let own : lo + n ≡ a % 64 = omega (arith, at, held.1, c.if-partner-address.false) in (
      subst (λ m. Gathered s (a / 64) (a % 64) lo m c.args.sum.now c.loop-bank.sum) next
          (gather_skip s (a / 64) (a % 64) lo c.args.sum.now n c.loop-bank.sum own held.0),
      omega (arith, at, held.1),
      omega (arith, at, held.2),
      omega (arith, at, held.3),
    )

pub loop-bank-preserved-then-partner-address : goal.loop-bank-preserved-then-partner-address
loop-bank-preserved-then-partner-address g c =
    let s = state g.S.Stack c.args.self.now.board.now in
    let a = c.args.self.now.address in
    let b = c.in-Some.bank in
    let f = c.in_ok-map_err.field-0 in
    let line = c.decode_word.new.line in
    let at = c.in-Some.ensures.steps in
    let held = c.loop-bank.invariant in
    let lo = c.into_iter-bank-iterator.result.start in
    let n : ℕ = c.loop-bank.bank-iterator.start - lo in
    let here : b ≡ lo + n = omega (arith, at, held.1) in
    let next : n + 1 ≡ c.next.new.self.start - lo = omega (arith, at, held.1) in
    let test = c.if-partner-address.true in
    let was = mapped_ok c.decode_word.result c.map_err.result _ f c.map_err.ensures.cases c.in_ok-map_err.was in
    let good : decoded s (64 * (a / 64) + b) ≡ found line f = c.decode_word.ensures.decodes ∙ ap (λ r. told r line) was in (
      subst (λ m. Gathered s (a / 64) (a % 64) lo m c.args.sum.now c.xor_into.new.sum) next
          (gather_more s (a / 64) (a % 64) lo c.args.sum.now n c.loop-bank.sum c.xor_into.new.sum line f
          (λ q. test (omega (arith, here, q))) (subst (λ x. decoded s (64 * (a / 64) + x) ≡ found line f) here good) c.xor_into.ensures.adds held.0),
      omega (arith, at, held.1),
      omega (arith, at, held.2),
      omega (arith, at, held.3),
    )

pub returns : goal.returns
returns g c =
    let s = state g.S.Stack c.args.self.now.board.now in
    let a = c.args.self.now.address in
    let held = c.loop-bank.invariant in
    let done = c.in-None.ensures.steps in
    let ms = listed c.args.self.now.board.now.marks in
    let group = c.into_iter-bank-iterator.ensures.into_iter_gives in
    let starts : c.into_iter-bank-iterator.result.start ≡ group_start ms (a % 64) = ap (λ r. r.start) group ∙ c.group-bank-items.ensures.starts in
    let ends : c.into_iter-bank-iterator.result.end ≡ group_start ms (a % 64) + group_count ms = ap (λ r. r.end) group ∙ c.group-bank-items.ensures.ends in
    let all : c.loop-bank.bank-iterator.start - c.into_iter-bank-iterator.result.start ≡ group_count ms = omega (arith, done, held.1, held.2, held.3, starts, ends) in
    let sum = gather_all s a c.args.sum.now c.loop-bank.sum
    (subst (λ m. Gathered s (a / 64) (a % 64) (group_start ms (a % 64)) m c.args.sum.now c.loop-bank.sum) all
    (subst (λ x. Gathered s (a / 64) (a % 64) x (c.loop-bank.bank-iterator.start - c.into_iter-bank-iterator.result.start) c.args.sum.now c.loop-bank.sum) starts held.0)) in
    record { sums_or_refuses = record { none = sum.0; sums = sum.1 } }
