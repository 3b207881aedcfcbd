use Rattle.std.proofs.Common.{◌/◌, ◌++◌, replicate, sym, refl, ap, ◌∙◌, subst, ap₂}
use Rattle.stack.specs.Memory.{Fits, cells}
use Rattle.board.specs.Marks.{listed}
use Rattle.rules.proofs.Wording.{fetched, line_fits}
use Rattle.board.proofs.board.Site.fetch_word.Goals as goal

pub returns : goal.returns
returns g c =
    let ms = listed c.args.self.now.board.now.marks in
    let a = c.args.self.now.address in
    let m = g.S.Stack.means c.args.self.now.board.now.stack in
    let where' = c.line_bank-bank.ensures.is_line_bank in
    record {
      is_shown = ap₂ ◌++◌
          (fetched c.fetch.result m.shown m.size c.line_bank-bank.result (a / 64) 0 64 (replicate 64 0) _ c.fetch.ensures.refuses c.fetch.ensures.copies refl
          (subst (λ b. Fits m.size b (a / 64) 0 64) (sym where') (line_fits ms m.size a c.args.self.now.in_range))
          ∙ ap (λ b. cells m.shown b (a / 64) 0 64) where')
          c.fetch_check-check.ensures.is_shown;
    }
