use Rattle.std.proofs.Common.{length, sym, refl, ap, ◌∙◌, subst, arith}
use Rattle.codec.specs.Code.{zero_line}
use Rattle.codec.specs.Word.{distance}
use Rattle.stack.specs.Memory.{Fits, cells}
use Rattle.stack.specs.Pieces.{done, more}
use Rattle.rules.proofs.Wording.{fetched, put_done}
use Rattle.board.proofs.board.Board.put_row.Goals as goal

pub returns : goal.returns
returns g c =
    let m = g.S.Stack.means c.args.self.now.stack in
    let row = c.args.row.now in
    let bank = c.args.bank in
    let i = c.args.index in
    let full = c.told-row in
    let fit : Fits m.size bank i 0 64 = record { bank_real = c.requires.real_bank; index_real = c.requires.in_range; some = omega arith; room = omega arith } in
    let fit' : Fits m.size bank i 0 (length row) = subst (Fits m.size bank i 0) (sym full) fit in
    let was = fetched c.fetch.result m.shown m.size bank i 0 64 zero_line c.fetch.new.into c.fetch.ensures.refuses c.fetch.ensures.copies refl fit in
    record {
      puts_it = record { run = more (put_done g.S.Stack c.put.result _ _ _ _ _ _ c.put.ensures.refuses c.put.ensures.stores fit') done; marks = refl };
      counts = c.differing.ensures.counts ∙ ap (λ xs. distance xs row) (was ∙ ap (cells m.shown bank i 0) (sym full));
      at_most_64 = c.differing.ensures.at_most_64;
    }
