use Rattle.std.proofs.Common.{◌≡◌, ℕ, ◌/◌, ◌%◌, get_or, replicate, sym, refl, ap, ◌∙◌, subst, zero-add, arith}
use lib.Bits.{bit_xor}
use Rattle.std.proofs.lemmas.List.FromFn.{fill_by_all}
use Rattle.stack.specs.Memory.{Fits, cells}
use Rattle.stack.proofs.PieceLaws.{getD_cells}
use Rattle.rules.specs.Places.{parity_bank}
use Rattle.rules.proofs.Wording.{fetched}
use Rattle.rules.proofs.Gathering.{parity_real}
use Rattle.board.specs.Marks.{listed}
use Rattle.board.proofs.board.Site.parity_after.Goals as goal

pub returns : goal.returns
returns g c =
    let ms = listed c.args.self.now.board.now.marks in
    let m = g.S.Stack.means c.args.self.now.board.now.stack in
    let a = c.args.self.now.address in
    let bank = parity_bank ms (a % 64) in
    let found = c.parity_bank-bank.ensures.is_parity_bank in
    let fit : Fits m.size bank (a / 64) 0 64 =
    record { bank_real = parity_real ms (a % 64) (omega arith); index_real = c.args.self.now.in_range; some = omega arith; room = omega arith } in
    let was : c.fetch.new.into ≡ cells m.shown bank (a / 64) 0 64 =
    fetched c.fetch.result m.shown m.size c.parity_bank-bank.result (a / 64) 0 64 (replicate 64 0) _ c.fetch.ensures.refuses c.fetch.ensures.copies refl
    (subst (λ b. Fits m.size b (a / 64) 0 64) (sym found) fit)
    ∙ ap (λ b. cells m.shown b (a / 64) 0 64) found in
    let f : ℕ → ℕ = λ k. bit_xor (bit_xor (m.shown bank (a / 64) k) (get_or c.args.old.now k 0)) (get_or c.args.new.now k 0) in
    record {
      is_that_parity = fill_by_all f c.xor_into-2.new.sum 64 0 (omega arith)
          (λ k u. c.xor_into-2.ensures.adds k u
          ∙ ap (λ v. bit_xor v (get_or c.args.new.now k 0))
          (c.xor_into.ensures.adds k u
          ∙ ap (λ v. bit_xor v (get_or c.args.old.now k 0))
          (ap (λ v. get_or v k 0) was ∙ getD_cells m.shown bank (a / 64) 0 64 k 0 u ∙ ap (m.shown bank (a / 64)) (zero-add k))));
    }
