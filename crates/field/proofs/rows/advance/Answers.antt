use Rattle.std.proofs.Common.{◌≡◌, ℕ, List, get_or, ap, ◌∙◌, ap₂}
use lib.Bits.{bit_xor}
use Rattle.field.specs.Field.{mul, pow}
use Rattle.field.specs.Rows.{lane, part, packed, carried, advanced}
use Rattle.field.proofs.rows.advance.Goals as goal

joined : (x : ℕ) (row : List ℕ) (a b c d e f g h i : ℕ)
    → a ≡ part 0 (bit_xor (get_or row 0 0) (lane 0 x)) → b ≡ part 1 (bit_xor (get_or row 1 0) (lane 1 x))
    → c ≡ part 2 (bit_xor (get_or row 2 0) (lane 2 x)) → d ≡ part 3 (bit_xor (get_or row 3 0) (lane 3 x))
    → e ≡ part 4 (get_or row 4 0) → f ≡ part 5 (get_or row 5 0) → g ≡ part 6 (get_or row 6 0) → h ≡ part 7 (get_or row 7 0) → i ≡ carried x
    → bit_xor (bit_xor (bit_xor a b) (bit_xor c d)) (bit_xor (bit_xor (bit_xor e f) (bit_xor g h)) i) ≡ advanced x row
unfolding advanced
joined x row a b c d e f g h i ea eb ec ed ee ef eg eh ei = cc

pub returns : goal.returns
returns c =
    let row : List ℕ = c.args.row.now in
    let x : ℕ = c.args.check in
    let b0 : get_or c.to_le_bytes-c.result 0 0 ≡ lane 0 x = unfold lane in ap (λ xs. get_or xs 0 0) c.to_le_bytes-c.ensures in
    let b1 : get_or c.to_le_bytes-c.result 1 0 ≡ lane 1 x = unfold lane in ap (λ xs. get_or xs 1 0) c.to_le_bytes-c.ensures in
    let b2 : get_or c.to_le_bytes-c.result 2 0 ≡ lane 2 x = unfold lane in ap (λ xs. get_or xs 2 0) c.to_le_bytes-c.ensures in
    let b3 : get_or c.to_le_bytes-c.result 3 0 ≡ lane 3 x = unfold lane in ap (λ xs. get_or xs 3 0) c.to_le_bytes-c.ensures in
    let b4 : get_or c.to_le_bytes-c.result 4 0 ≡ lane 4 x = unfold lane in ap (λ xs. get_or xs 4 0) c.to_le_bytes-c.ensures in
    let b5 : get_or c.to_le_bytes-c.result 5 0 ≡ lane 5 x = unfold lane in ap (λ xs. get_or xs 5 0) c.to_le_bytes-c.ensures in
    record {
      takes_the_check_on =
          joined x row _ _ _ _ _ _ _ _ _
          (c.entry-5.ensures.is_the_part ∙ ap (λ b. part 0 (bit_xor (get_or row 0 0) b)) b0)
          (c.entry-6.ensures.is_the_part ∙ ap (λ b. part 1 (bit_xor (get_or row 1 0) b)) b1)
          (c.entry-7.ensures.is_the_part ∙ ap (λ b. part 2 (bit_xor (get_or row 2 0) b)) b2)
          (c.entry-8.ensures.is_the_part ∙ ap (λ b. part 3 (bit_xor (get_or row 3 0) b)) b3)
          c.entry.ensures.is_the_part c.entry-2.ensures.is_the_part c.entry-3.ensures.is_the_part c.entry-4.ensures.is_the_part
          (c.carry.ensures.is_moved_on ∙ ap₂ (λ e f. packed 0 0 0 0 e (mul f (pow 40))) b4 b5 ∙ (unfold carried in mathlib.Core.Path.refl));
    }
