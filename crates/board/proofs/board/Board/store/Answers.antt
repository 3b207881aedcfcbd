use Rattle.std.proofs.Common.{◌≡◌, ℕ, ◌+◌, ◌-◌, ◌/◌, ◌%◌, List, [], Option, refl, ◌∙◌, subst, arith}
use Rattle.std.specs.List.{range_with_len}
use Rattle.stack.specs.Pieces.{Accepted, InOrder}
use Rattle.stack.proofs.RunLaws.{run_size}
use Rattle.rules.specs.Rules.{along_banks, piece_at, Part}
use Rattle.rules.specs.Work.{storing}
use Rattle.rules.proofs.Wiping.{banks_none, banks_more, banks_pass, banks_join, from_none, from_more}
use Rattle.rules.proofs.Storing.{no_other_line, no_other_check, none_between}
use Rattle.board.specs.Marks.{listed}
use Rattle.board.proofs.Seeing.{listed_low}
use Rattle.board.proofs.board.Board.store.Goals as goal

pub store_bank-requires : goal.store_bank-requires
store_bank-requires g c = record { in_range = c.requires.in_range; real_bank = omega arith; its_check = c.check_of-check.ensures.is_the_check }

pub store_bank-requires-2 : goal.store_bank-requires-2
store_bank-requires-2 g c =
    let room = run_size c.store_bank.ensures.stores.run in
    record { in_range = omega arith; real_bank = omega arith; its_check = c.check_of-check.ensures.is_the_check }

pub store_bank-requires-in-loop-bank : goal.store_bank-requires-in-loop-bank
store_bank-requires-in-loop-bank g c =
    let one = run_size c.store_bank.ensures.stores.run in
    let two = run_size c.store_bank-2.ensures.stores.run in
    let room = run_size c.loop-bank.invariant.run in
    record { in_range = omega arith; real_bank = omega arith; its_check = c.check_of-check.ensures.is_the_check }

pub loop-bank-init : goal.loop-bank-init
loop-bank-init g c = record { run = from_none (Accepted g.S.Stack.means g.S.Stack.puts) _ _ 68 _; marks = refl }

pub loop-bank-preserved : goal.loop-bank-preserved
loop-bank-preserved g c =
    let a = c.args.address in
    let bank = c.loop-bank.bank in
    let n : ℕ = bank - 68 in
    let here : bank ≡ 68 + n = omega (arith, c.loop-bank.auto.bank) in
    let next : n + 1 ≡ bank + 1 - 68 = omega (arith, c.loop-bank.auto.bank) in
    let means = g.S.Stack.means in
    let puts = g.S.Stack.puts in
    let x = c.store_bank-2.new.self in
    let y = c.loop-bank.self in
    let z = c.store_bank-in-loop-bank.new.self in
    let p : List ℕ → ℕ → Option Part = λ ms. storing ms (a % 64) c.args.line.now c.args.parity.now in
    let one : InOrder means puts y.stack (piece_at (p (listed x.marks) bank) (a / 64) bank []) z.stack =
    subst (λ m. InOrder means puts y.stack (piece_at (p (listed m) bank) (a / 64) bank []) z.stack) c.loop-bank.invariant.marks c.store_bank-in-loop-bank.ensures.stores.run in
    record {
      run = subst (λ m. InOrder means puts x.stack (along_banks (p (listed x.marks)) (a / 64) (range_with_len 68 m)) z.stack) next
          (from_more (Accepted means puts) (p (listed x.marks)) (a / 64) 68 n x.stack y.stack z.stack c.loop-bank.invariant.run
          (subst (λ b. InOrder means puts y.stack (piece_at (p (listed x.marks) b) (a / 64) b []) z.stack) here one));
      marks = c.store_bank-in-loop-bank.ensures.stores.marks ∙ c.loop-bank.invariant.marks;
    }

pub returns : goal.returns
returns g c =
    let a = c.args.address in
    let b = a % 64 in
    let i = a / 64 in
    let x = c.args.self.now in
    let q = 64 + b / 16 in
    let ms = listed x.marks in
    let low = listed_low x.marks in
    let means = g.S.Stack.means in
    let puts = g.S.Stack.puts in
    let step = Accepted means puts in
    let new = c.args.line.now in
    let par = c.args.parity.now in
    let plan : List ℕ → ℕ → Option Part = λ l. storing l b new par in
    let p : ℕ → Option Part = plan ms in
    let y = c.store_bank.new.self in
    let z = c.store_bank-2.new.self in
    let first_Marks = c.store_bank.ensures.stores.marks in
    let second_marks : z.marks ≡ x.marks = c.store_bank-2.ensures.stores.marks ∙ first_Marks in
    let second : InOrder means puts y.stack (piece_at (p q) i q []) z.stack =
    subst (λ m. InOrder means puts y.stack (piece_at (plan (listed m) q) i q []) z.stack) first_Marks c.store_bank-2.ensures.stores.run in
    let all : c.loop-bank.bank - 68 ≡ 4 = omega arith in
    let rest : InOrder means puts z.stack (along_banks p i (range_with_len 68 4)) c.loop-bank.self.stack =
    subst (λ m. InOrder means puts z.stack (along_banks (plan (listed m)) i (range_with_len 68 4)) c.loop-bank.self.stack) second_marks
    (subst (λ n. InOrder means puts z.stack (along_banks (plan (listed z.marks)) i (range_with_len 68 n)) c.loop-bank.self.stack) all c.loop-bank.invariant.run) in
    let to_line = banks_pass step p i 0 b x.stack x.stack (omega arith) (λ k l h. no_other_line ms low b new par k (omega arith) (omega arith)) (banks_none step p i x.stack) in
    let with_line = banks_more step p i b x.stack x.stack y.stack to_line c.store_bank.ensures.stores.run in
    let to_check = banks_pass step p i (b + 1) q x.stack y.stack (omega arith) (λ k l h. none_between ms low b new par k (omega arith) (omega arith) h) with_line in
    let with_check = banks_more step p i q x.stack y.stack z.stack to_check second in
    let to_rest = banks_pass step p i (q + 1) 68 x.stack z.stack (omega arith) (λ k l h. no_other_check ms low b new par k (omega arith) h (omega arith)) with_check in
    record {
      stores = record {
        run = banks_join step p i 68 4 x.stack z.stack c.loop-bank.self.stack to_rest rest;
        marks = c.loop-bank.invariant.marks ∙ second_marks;
      };
    }
