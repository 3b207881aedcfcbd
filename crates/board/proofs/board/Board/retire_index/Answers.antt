use Rattle.std.proofs.Common.{◌≡◌, ℕ, ◌<◌, List, [], ◌∷◌, ◌++◌, refl, ◌∙◌, ap₂, arith}
use Rattle.std.specs.List.{concat, range_with_len}
use Rattle.stack.specs.Pieces.{Accepted}
use Rattle.rules.specs.Rules.{Outcome, for_mark, line_of, row, first_denied, addresses}
use Rattle.rules.specs.Work.{Loaded}
use Rattle.rules.proofs.Wording.{put_done}
use Rattle.rules.proofs.Retiring.{lower_real, spare_real, row_loaded, pieces_put}
use Rattle.board.specs.Marks.{listed}
use Rattle.board.specs.State.{state}
use Rattle.board.proofs.Seeing.{listed_low, not_denied}
use Rattle.board.proofs.board.Board.retire_index.Goals as goal

pub returns : goal.returns
returns g c =
    let x = c.args.self.now.stack in
    let y = c.put.new.self in
    let z = c.put-2.new.self in
    let ms = listed c.args.self.now.marks in
    let nx = listed c.args.next.now in
    let b = c.args.bank in
    let i = c.args.index in
    let w = concat c.load.new.work in
    let got : ℕ → Outcome = for_mark (state g.S.Stack c.args.self.now) b in
    let f : ℕ → List ℕ = row (ms ++ b ∷ []) (λ a. line_of (got a)) i in
    let load : Loaded got i 0 64 w =
    not_denied c.load.result (Loaded got i 0 64 w) (first_denied got (addresses i (range_with_len 0 64))) c.load.ensures.loads_or_refuses c.requires.obtainable in
    let el = c.lower-lower.ensures.is_the_lower in
    let es = c.spare-spare.ensures.is_the_spare in
    let low : c.lower-lower.result < 72 = omega (arith, lower_real ms) in
    let sp : c.spare-spare.result < 72 = omega (arith, spare_real ms) in
    let r1 = c.build_row-row.ensures.is_the_row i ∙ row_loaded nx (listed_low c.args.next.now) got i c.lower-lower.result w low load in
    let r2 = c.build_row-row-2.ensures.is_the_row i ∙ row_loaded nx (listed_low c.args.next.now) got i c.spare-spare.result w sp load in
    let p1 = put_done g.S.Stack c.put.result _ _ _ _ _ _ c.put.ensures.refuses c.put.ensures.stores (record { bank_real = low; index_real = c.requires.in_range; some = omega arith; room = omega arith }) in
    let sz : (g.S.Stack.means y).size ≡ (g.S.Stack.means x).size = p1.stores.size in
    let p2 = put_done g.S.Stack c.put-2.result _ _ _ _ _ _ c.put-2.ensures.refuses c.put-2.ensures.stores (record { bank_real = sp; index_real = omega (arith, c.requires.in_range); some = omega arith; room = omega arith }) in
    record {
      fills = record {
        run = pieces_put (Accepted g.S.Stack.means g.S.Stack.puts) ms f i x y z c.lower-lower.result c.spare-spare.result c.build_row-row.result c.build_row-row-2.result el es
            (r1 ∙ ap₂ (λ n d. row n (λ a. line_of (got a)) i d) c.requires.next el)
            (r2 ∙ ap₂ (λ n d. row n (λ a. line_of (got a)) i d) c.requires.next es) p1 p2;
        marks = refl;
      };
    }
