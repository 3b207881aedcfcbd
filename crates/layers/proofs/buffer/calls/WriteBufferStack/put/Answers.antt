use Rattle.std.proofs.Common.{◌≡◌, ℕ, true, false, [], ◌∷◌, ◌++◌, length, sym, refl, ap, ◌∙◌, arith, rules}
use Rattle.stack.specs.Memory.{Piece, piece, outside}
use Rattle.stack.specs.Refusals.{judged}
use Rattle.stack.proofs.PieceLaws.{accepted, fits}
use Rattle.layers.specs.Lines.{is_buffered, has_room, line_of}
use Rattle.layers.specs.Tables.{lines_in}
use Rattle.layers.specs.declared.buffer.LineTable.{LineTable}
use Rattle.layers.proofs.BufferLaws.{stores_held, stores_more, stores_down, absorbed_held, absorbed_more, absorbed_down, room_is, stored_by, same_buffer}
use Rattle.layers.proofs.buffer.calls.WriteBufferStack.put.Goals as goal

pub rewrite-requires : goal.rewrite-requires
rewrite-requires g c =
    let f = fits _ _ _ _ _ (accepted _ (sym c.in_ok-check.ensures.refuses_what_lies_outside)) in
    record { part = f.room }

pub returns-then-rewrite : goal.returns-then-rewrite
returns-then-rewrite g c =
    let s = c.args.self.now in
    let x = g.S.Stack.means s.below in
    let ls = lines_in s.table in
    let p : Piece = piece c.args.at.bank c.args.at.index c.args.at.byte c.args.bytes.now in
    let in' : outside x.size p.bank p.index p.from (length p.bytes) ≡ false =
    ap (λ (q : ℕ). outside q p.bank p.index p.from (length p.bytes)) (sym c.size.ensures.is_size) ∙ accepted _ (sym c.in_ok-check.ensures.refuses_what_lies_outside) in
    let f = fits _ _ _ _ _ in' in
    let is : is_buffered ls p.bank p.index ≡ true = sym c.if-rewrite.ensures.found in
    record {
      refuses = ap judged (sym in');
      stores = record {
        stores = stores_held ls (lines_in c.rewrite.new.self) x p (λ k. omega (arith, c.type_inv.bytes k)) f.room s.table.order is c.rewrite.ensures.writes;
        exactly = rw (absorbed_held ls p is) (refl, c.rewrite.ensures.writes);
      };
    }

pub push-requires : goal.push-requires
push-requires g c =
    let same = c.if-rewrite.ensures.stays refl in
    let room = room_is (lines_in c.rewrite.new.self) c.args.at.bank (length c.args.bytes.now) (sym c.if-accepts.ensures.tells) in
    record {
      room = room.2;
      whole = room.1;
      other = ap (λ (t : LineTable). is_buffered (lines_in t) c.args.at.bank c.args.at.index) same ∙ sym c.if-rewrite.ensures.found;
    }

pub returns-then-accepts : goal.returns-then-accepts
returns-then-accepts g c =
    let s = c.args.self.now in
    let x = g.S.Stack.means s.below in
    let ls = lines_in s.table in
    let p : Piece = piece c.args.at.bank c.args.at.index c.args.at.byte c.args.bytes.now in
    let in' : outside x.size p.bank p.index p.from (length p.bytes) ≡ false =
    ap (λ (q : ℕ). outside q p.bank p.index p.from (length p.bytes)) (sym c.size.ensures.is_size) ∙ accepted _ (sym c.in_ok-check.ensures.refuses_what_lies_outside) in
    let f = fits _ _ _ _ _ in' in
    let same = c.if-rewrite.ensures.stays refl in
    let none : is_buffered ls p.bank p.index ≡ false = sym c.if-rewrite.ensures.found in
    let room : has_room ls p.bank (length p.bytes) ≡ true = ap (λ (t : LineTable). has_room (lines_in t) p.bank (length p.bytes)) (sym same) ∙ sym c.if-accepts.ensures.tells in
    let whole = (room_is ls p.bank (length p.bytes) room).1 in
    let adds : lines_in c.push.new.self ≡ ls ++ line_of p ∷ [] = c.push.ensures.adds ∙ ap (λ (t : LineTable). lines_in t ++ line_of p ∷ []) same in
    record {
      refuses = ap judged (sym in');
      stores = record {
        stores = stores_more ls (lines_in c.push.new.self) x p (λ k. omega (arith, c.type_inv.bytes k)) f.room none whole adds;
        exactly = rw (absorbed_more ls p none room) (refl, adds);
      };
    }

pub returns : goal.returns
returns g c =
    let s = c.args.self.now in
    let x = g.S.Stack.means s.below in
    let ls = lines_in s.table in
    let p : Piece = piece c.args.at.bank c.args.at.index c.args.at.byte c.args.bytes.now in
    let same = c.if-rewrite.ensures.stays refl in
    let none : is_buffered ls p.bank p.index ≡ false = sym c.if-rewrite.ensures.found in
    let room : has_room ls p.bank (length p.bytes) ≡ false = ap (λ (t : LineTable). has_room (lines_in t) p.bank (length p.bytes)) (sym same) ∙ sym c.if-accepts.ensures.tells in
    let refuses : c.put.result ≡ judged (outside x.size p.bank p.index p.from (length p.bytes)) = search rules in
    record {
      refuses = refuses;
      stores =
          stored_by c.put.result c.put.ensures.stores
          (λ down. record {
            stores = stores_down ls (lines_in c.rewrite.new.self) x p (λ k. omega (arith, c.type_inv.bytes k)) (g.S.Stack.means c.put.new.self) none down.stores (ap lines_in same);
            exactly = rw (absorbed_down ls p none room) (down, same);
          })
          (λ e. same_buffer e same);
    }
