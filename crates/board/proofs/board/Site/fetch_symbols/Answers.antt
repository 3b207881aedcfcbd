use Rattle.std.proofs.Common.{◌≡◌, ℕ, ◌+◌, ◌-◌, ◌*◌, ◌/◌, ◌%◌, ◌++◌, List, length, drop, replicate, ap, ap₂, ◌∙◌, arith, length-append}
use borrow.Rule.Slice.PartMut.{put_mid}
use Rattle.std.proofs.lemmas.List.{length-take, length-drop, length-replicate}
use Rattle.stack.specs.Memory.{cells}
use Rattle.stack.proofs.PieceLaws.{length_cells}
use Rattle.rules.proofs.Wording.{fetched, first_fits, two_parts}
use Rattle.board.proofs.board.Site.fetch_symbols.Goals as goal

pub returns : goal.returns
returns g c =
    let site = c.args.self.now in
    let a = site.address in
    let at = c.args.rest in
    let m = g.S.Stack.means site.board.now.stack in
    let n = g.row.N - 4 in
    let w : List ℕ = replicate g.row.N 0 in
    let F = c.fetch.new.into in
    let S = c.fetch-2.new.into in
    let some = c.requires.lies.some in
    let lw : length w ≡ 4 + n = simp length-replicate (omega arith) in
    let eF : F ≡ cells m.shown (64 + a % 64 / 16) (a / 64) (4 * (a % 64 % 16)) 4 =
    fetched c.fetch.result m.shown m.size _ _ _ 4 _ _ c.fetch.ensures.refuses c.fetch.ensures.copies
    (simp (length-take, length-drop, length-replicate) (omega arith)) (first_fits m.size a site.in_range) in
    let lF : length F ≡ 4 = ap length eF ∙ length_cells m.shown _ _ _ 4 in
    let eS : S ≡ cells m.shown at.bank at.index at.byte n =
    fetched c.fetch-2.result m.shown m.size _ _ _ n _ _ c.fetch-2.ensures.refuses c.fetch-2.ensures.copies
    (simp (length-take, length-drop, length-append, length-replicate) (omega (arith, lF))) c.requires.lies in
    let lS : length S ≡ n = ap length eS ∙ length_cells m.shown _ _ _ n in
    let k : length (F ++ drop 4 w) - 4 ≡ n = simp (length-append, length-drop, length-replicate) (omega (arith, lF)) in
    record { are_shown = ap (λ q. put_mid 4 q (F ++ drop 4 w) S) k ∙ two_parts w F S n lw lF lS ∙ ap₂ ◌++◌ eF eS }
