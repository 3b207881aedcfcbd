use Rattle.std.proofs.Common.{◌≡◌, ℕ, false, length, sym, ap, ◌∙◌, rules}
use Rattle.stack.specs.Memory.{outside}
use Rattle.stack.specs.Refusals.{judged}
use Rattle.stack.proofs.PieceLaws.{accepted, fits}
use Rattle.layers.specs.Tables.{lines_in}
use Rattle.layers.proofs.BufferLaws.{cells_held, fetched_down}
use Rattle.layers.proofs.buffer.calls.WriteBufferStack.fetch.Goals as goal

pub show-requires : goal.show-requires
show-requires g c =
    let f = fits _ _ _ _ _ (accepted _ (sym c.in_ok-check.ensures.refuses_what_lies_outside)) in
    record { part = f.room }

pub returns-then-show : goal.returns-then-show
returns-then-show g c =
    let n = length c.args.into.now in
    let in' : outside (g.S.Stack.means c.args.self.now.below).size c.args.at.bank c.args.at.index c.args.at.byte n ≡ false =
    ap (λ (q : ℕ). outside q c.args.at.bank c.args.at.index c.args.at.byte n) (sym c.size.ensures.is_size) ∙ accepted _ (sym c.in_ok-check.ensures.refuses_what_lies_outside) in
    record {
      refuses = ap judged (sym in');
      copies =
          c.if-show.ensures.copies
          ∙ cells_held (lines_in c.args.self.now.table) (g.S.Stack.means c.args.self.now.below).shown c.args.at.bank c.args.at.index c.args.at.byte n (sym c.if-show.ensures.found);
    }

pub returns : goal.returns
returns g c =
    let s = c.args.self.now in
    let m = g.S.Stack.means c.args.self.now.below in
    let refuses : c.fetch.result ≡ judged (outside m.size c.args.at.bank c.args.at.index c.args.at.byte (length c.args.into.now)) = search rules in
    record {
      refuses = refuses;
      copies =
          fetched_down (lines_in s.table) m.shown c.args.at.bank c.args.at.index c.args.at.byte c.args.into.now c.show.new.into c.fetch.new.into c.fetch.result (sym c.if-show.ensures.found) c.if-show.ensures.copies c.fetch.ensures.copies;
    }
