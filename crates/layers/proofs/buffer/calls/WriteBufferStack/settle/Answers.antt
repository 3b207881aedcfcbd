use Rattle.std.proofs.Common.{Result, rules, ◌≡◌, ℕ, ◌<◌, ◌≤◌, List, [], length, get_or, sym, ap, ◌∙◌, subst, arith}
use Rattle.std.proofs.lemmas.List.{get_or_default}
use Rattle.stack.specs.Memory.{Meaning, Piece, outside, piece}
use Rattle.stack.specs.Memory as memory
use Rattle.stack.specs.Refusals.{Stored, judged}
use Rattle.stack.specs.declared.place.Place.{Place}
use Rattle.stack.specs.declared.refusal.Refusal.{Refusal}
use Rattle.layers.specs.Lines.{overlaid}
use Rattle.layers.specs.Places.{line_start}
use Rattle.layers.specs.Tables.{lines_in}
use Rattle.layers.specs.declared.line.BufferedLine.{BufferedLine}
use Rattle.layers.proofs.BufferLaws.{draining_none, draining_more, draining_all}
use Rattle.layers.proofs.buffer.calls.WriteBufferStack.settle.Goals as goal

-- a line is put down where it begins, whatever names it
module _ {X : Type 0} (means : X → Meaning) (puts : X → Piece → X → Type 0) (x y : X) (r : Result (Unit {0}) Refusal) (l : BufferedLine) where
  abbrev Down : Place → List ℕ → Type 0
  Down at bs = (r ≡ judged (outside (means x).size at.bank at.index at.byte (length bs))) × Stored r means puts x (piece at.bank at.index at.byte bs) y

  put_down : (m : BufferedLine) (at : Place) → at ≡ line_start m → m ≡ l → r ≡ judged (outside (means x).size at.bank at.index at.byte (length m.bytes))
      → Stored r means puts x (piece at.bank at.index at.byte m.bytes) y → Down (line_start l) l.bytes
  put_down m at e same refuses stores =
      subst (λ (k : BufferedLine). Down (line_start k) k.bytes) same (subst (λ (a : Place). Down a m.bytes) e (refuses, stores))

pub loop-line-init : goal.loop-line-init
loop-line-init g c = draining_none (lines_in c.args.self.now.table) c.args.self.now.below

pub loop-line-preserved : goal.loop-line-preserved
loop-line-preserved g c =
    let s = c.args.self.now in
    let ls = lines_in s.table in
    let i = c.loop-line.line-index in
    let d : BufferedLine = record { bank = 0; index = 0; bytes = [] } in
    let l = get_or c.standing-line-items.result.now i d in
    let n = ap length c.standing-line-items.ensures.stands in
    let h : c.loop-line.line-index < length (lines_in c.args.self.now.table) = omega (arith, n, c.loop-line-test.true) in
    let read : l ≡ get_or ls i l = ap (λ (xs : List BufferedLine). get_or xs i d) c.standing-line-items.ensures.stands ∙ get_or_default ls i d l h in
    let x = c.loop-line.self.1.0 in
    let down = put_down g.S.Stack.means g.S.Stack.puts x c.put.new.self c.put.result l _ _ c.start.ensures.is_the_first_byte (search rules) c.put.ensures.refuses c.put.ensures.stores in
    draining_more g.S.Stack.sound ls i l s.below x c.put.new.self c.put.result s.table.order h read c.loop-line.invariant down.0 down.1

pub returns : goal.returns
unfolding overlaid
returns g c =
    let s = c.args.self.now in
    let ls = lines_in s.table in
    let n = ap length c.standing-line-items.ensures.stands in
    let h : length (lines_in c.args.self.now.table) ≤ c.loop-line.line-index = omega arith in
    let inv = c.loop-line.invariant in
    let all = draining_all ls c.loop-line.line-index s.below c.loop-line.self.1.0 h inv in
    let keeps = c.settle.ensures.keeps in
    let end = c.settle.new.self in
    record {
      keeps = record {
        size = keeps.size ∙ inv.size;
        kept = λ b i k at.
            ap (λ (ms : List BufferedLine). overlaid ms (g.S.Stack.means end).kept b i k) c.clear.ensures.empty
            ∙ keeps.kept b i k (subst (λ (q : ℕ). memory.Place q b i k) (sym inv.size) at)
            ∙ all.0 b i k at;
      };
      exactly = record {
        between = c.loop-line.self.1.0;
        down = all.1;
        settled = record { keeps = keeps; exactly = c.settle.ensures.exactly };
        lines = c.clear.ensures.empty;
      };
    }
