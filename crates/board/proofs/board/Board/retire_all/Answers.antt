use Rattle.std.proofs.Common.{◌≡◌, ◌<◌, [], ◌∷◌, ◌++◌, sym, refl, ap, ◌∙◌, subst, arith}
use Rattle.std.specs.List.{range_with_len}
use Rattle.stack.specs.Pieces.{Accepted, InOrder}
use Rattle.stack.proofs.RunLaws.{run_size}
use Rattle.rules.specs.Rules.{first_denied, for_mark, along_banks, line_of, addresses}
use Rattle.rules.specs.Boards.{board}
use Rattle.rules.specs.Work.{filling}
use Rattle.rules.proofs.Geometry.{Low}
use Rattle.rules.proofs.Calling.{index_none}
use Rattle.rules.proofs.Retiring.{retire_none, retire_more}
use Rattle.board.specs.Marks.{listed}
use Rattle.board.proofs.Seeing.{listed_low}
use Rattle.board.proofs.board.Board.retire_all.Goals as goal

pub loop-index-init : goal.loop-index-init
loop-index-init g c = record { run = index_none (Accepted g.S.Stack.means g.S.Stack.puts) _ _; marks = refl }

pub retire_index-requires : goal.retire_index-requires
retire_index-requires g c =
    let x = c.args.self.now.stack in
    let y = c.loop-index.self.stack in
    let i = c.loop-index.index in
    let b = c.args.bank in
    let ms = listed c.args.self.now.marks in
    let run = c.loop-index.invariant.run in
    let same = c.loop-index.invariant.marks in
    let room = run_size run in
    let h : i < (g.S.Stack.means x).size = omega (arith, c.size-index-end.ensures.is_size) in
    record {
      in_range = omega arith;
      next = c.requires.next ∙ ap (λ m. listed m ++ b ∷ []) (sym same);
      obtainable = ap (λ m. first_denied (for_mark (board (g.S.Stack.means y) (listed m)) b) (addresses i (range_with_len 0 64))) same
          ∙ retire_none g.S.Stack ms b x y i h run c.requires.obtainable;
    }

pub loop-index-preserved : goal.loop-index-preserved
loop-index-preserved g c =
    let x = c.args.self.now.stack in
    let y = c.loop-index.self.stack in
    let z = c.retire_index.new.self.stack in
    let i = c.loop-index.index in
    let b = c.args.bank in
    let ms = listed c.args.self.now.marks in
    let same = c.loop-index.invariant.marks in
    let h : i < (g.S.Stack.means x).size = omega (arith, c.size-index-end.ensures.is_size) in
    record {
      run = retire_more g.S.Stack ms b x y i h c.loop-index.invariant.run z
          (subst Low c.requires.next (listed_low c.args.next.now))
          (subst (λ m. InOrder g.S.Stack.means g.S.Stack.puts y (along_banks (filling (listed m) b (λ a. line_of (for_mark (board (g.S.Stack.means y) (listed m)) b a)) i) i (range_with_len 0 72)) z) same
          c.retire_index.ensures.fills.run);
      marks = c.retire_index.ensures.fills.marks ∙ same;
    }

pub returns : goal.returns
returns g c =
    let all : c.loop-index.index ≡ (g.S.Stack.means c.args.self.now.stack).size = omega (arith, c.size-index-end.ensures.is_size) in
    record { fills = rw all at c.loop-index.invariant }
