use Rattle.std.proofs.Common.{◌≡◌, ◌/◌, ◌%◌, sym, ap, ◌∙◌, subst, arith}
use Rattle.board.specs.Marks.{listed}
use Rattle.board.specs.State.{state}
use Rattle.rules.specs.Places.{parity_bank}
use Rattle.stack.specs.Memory.{Fits, cells}
use Rattle.std.proofs.lemmas.Result.{MatchResult-weaker}
use Rattle.rules.proofs.Wording.{fetched}
use Rattle.rules.proofs.Gathering.{sum_made, parity_real}
use Rattle.board.proofs.board.Site.sum_group.Goals as goal

pub returns : goal.returns
returns g c =
    let ms = listed c.args.self.now.board.now.marks in
    let m = g.S.Stack.means c.args.self.now.board.now.stack in
    let s = state g.S.Stack c.args.self.now.board.now in
    let a = c.args.self.now.address in
    let bank = c.parity_bank-bank.ensures.is_parity_bank in
    let fit : Fits m.size (parity_bank ms (a % 64)) (a / 64) 0 64 =
    record { bank_real = parity_real ms (a % 64) (omega arith); index_real = c.args.self.now.in_range; some = omega arith; room = omega arith } in
    let was : c.fetch.new.into ≡ cells m.shown (parity_bank ms (a % 64)) (a / 64) 0 64 =
    fetched c.fetch.result m.shown m.size c.parity_bank-bank.result (a / 64) 0 64 _ _ c.fetch.ensures.refuses c.fetch.ensures.copies c.told-line
    (subst (λ b. Fits m.size b (a / 64) 0 64) (sym bank) fit)
    ∙ ap (λ b. cells m.shown b (a / 64) 0 64) bank in
    record {
      sums_or_refuses = MatchResult-weaker c.add_partners.result c.add_partners.ensures.sums_or_refuses
          (λ u h. (h.none, sum_made s a c.fetch.new.into c.add_partners.new.sum was (omega arith) h.sums))
          (λ e h. h);
    }
