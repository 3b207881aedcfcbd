use Rattle.std.proofs.Common.{◌≡◌, ℕ, ◌+◌, ◌-◌, ◌*◌, ◌<◌, length, set, sym, ap, ◌∙◌, subst, arith}
use Rattle.std.proofs.lemmas.Result.{err_from_is_err_and}
use Rattle.std.specs.List.{concat}
use Rattle.rules.specs.Rules.{obtained, denied}
use Rattle.rules.specs.Work.{taken, slot, Loaded}
use Rattle.rules.proofs.Loading.{load_start, load_more, load_denied}
use Rattle.board.specs.State.{state}
use Rattle.board.proofs.Slots.{slot_set_same, slot_set_other, long_set}
use Rattle.board.proofs.board.Board.load.Goals as goal

pub loop-bank-init : goal.loop-bank-init
loop-bank-init g c =
    let lo = c.into_iter-bank-iterator.result.start in
    let none : lo - lo ≡ 0 = omega arith in
    let T = taken (state g.S.Stack c.args.self.now) c.args.retired in
    let w = concat c.args.work.now in
    (subst (λ n. Loaded T c.args.index lo n w) (sym none) (load_start T c.args.index lo w), c.told-work, omega arith, omega arith, omega arith)

pub returns-in_err-obtain : goal.returns-in_err-obtain
returns-in_err-obtain g c =
    let T = taken (state g.S.Stack c.args.self.now) c.args.retired in
    let i = c.args.index in
    let b = c.in-Some.bank in
    let at = c.in-Some.ensures.steps in
    let held = c.loop-bank.invariant in
    let banks = c.into_iter-bank-iterator.ensures.into_iter_gives in
    let lo = c.args.banks.start in
    let starts : c.into_iter-bank-iterator.result.start ≡ lo = ap (λ r. r.start) banks in
    let ends : c.into_iter-bank-iterator.result.end ≡ c.args.banks.end = ap (λ r. r.end) banks in
    let e = c.in_err-obtain.field-0.0 in
    let p = err_from_is_err_and c.from_residual.result c.from_residual.ensures.1 in
    let n : ℕ = c.loop-bank.bank-iterator.start - c.into_iter-bank-iterator.result.start in
    let here : b ≡ lo + n = omega (arith, at, held.2) in
    rw (p.1, p.2)
    (record {
      loads_or_refuses = load_denied T i lo n (c.args.banks.end - lo) (concat c.loop-bank.work) e (omega (arith, at, held.2, held.4))
          (subst (λ x. T (64 * i + x) ≡ denied e) here c.in_err-obtain.ensures.obtains) (subst (λ x. Loaded T i x n (concat c.loop-bank.work)) starts held.0);
    })

pub loop-bank-preserved : goal.loop-bank-preserved
loop-bank-preserved g c =
    let T = taken (state g.S.Stack c.args.self.now) c.args.retired in
    let i = c.args.index in
    let b = c.in-Some.bank in
    let w = c.loop-bank.work in
    let line = c.obtain.new.line in
    let at = c.in-Some.ensures.steps in
    let held = c.loop-bank.invariant in
    let lo = c.into_iter-bank-iterator.result.start in
    let n : ℕ = c.loop-bank.bank-iterator.start - lo in
    let here : b ≡ lo + n = omega (arith, at, held.2) in
    let next : n + 1 ≡ c.next.new.self.start - lo = omega (arith, at, held.2) in
    let room : b < length w = omega (arith, at, held.4, c.loop-bank.auto.work, c.requires.room, ap (λ r. r.end) c.into_iter-bank-iterator.ensures.into_iter_gives) in
    let long : length line ≡ 64 = c.obtain.array_long in (
      subst (λ m. Loaded T i lo m (concat (set w b line))) next
          (load_more T i lo n (concat w) (concat (set w b line)) line _ (subst (λ x. T (64 * i + x) ≡ obtained line c.in_ok-obtain.field-0) here c.in_ok-obtain.ensures.obtains)
          (subst (λ x. slot (concat (set w b line)) x ≡ line) here (slot_set_same w b line held.1 long room))
          (λ y ne. slot_set_other w b y line held.1 long (λ q. ne (q ∙ here)))
          held.0),
      long_set w b line held.1 long,
      omega (arith, at, held.2),
      omega (arith, at, held.2, held.3),
      omega (arith, at, held.4),
    )

pub returns : goal.returns
returns g c =
    let T = taken (state g.S.Stack c.args.self.now) c.args.retired in
    let held = c.loop-bank.invariant in
    let done = c.in-None.ensures.steps in
    let banks = c.into_iter-bank-iterator.ensures.into_iter_gives in
    let starts : c.into_iter-bank-iterator.result.start ≡ c.args.banks.start = ap (λ r. r.start) banks in
    let ends : c.into_iter-bank-iterator.result.end ≡ c.args.banks.end = ap (λ r. r.end) banks in
    let all : c.loop-bank.bank-iterator.start - c.into_iter-bank-iterator.result.start ≡ c.args.banks.end - c.args.banks.start =
    omega (arith, done, held.2, held.3, held.4, starts, ends) in
    record {
      loads_or_refuses = subst (λ n. Loaded T c.args.index c.args.banks.start n (concat c.loop-bank.work)) all
          (subst (λ x. Loaded T c.args.index x (c.loop-bank.bank-iterator.start - c.into_iter-bank-iterator.result.start) (concat c.loop-bank.work)) starts held.0);
    }
