use Rattle.std.proofs.Common.{◌≡◌, ℕ, ◌+◌, ◌-◌, ◌≤◌, Bool, List, ◌++◌, length, take, ap, ◌∙◌, ap₂, arith, length-append, rules}
use borrow.Rule.Slice.PartMut.{put_mid}
use Rattle.std.proofs.lemmas.Slice.{take-put_mid}
use Rattle.codec.specs.Shown.{is_short}
use Rattle.codec.proofs.CodeLaws.{line_before}
use Rattle.codec.proofs.TestLaws.{five, six}
use Rattle.codec.proofs.finder.spread.Goals as goal

-- a line written over the first 64 bytes, and n bytes over those behind it
joined : (n : ℕ) (line rest check : List ℕ) → length line ≡ 64 → length check ≡ n → take (64 + n) (put_mid 64 ((64 + n) - 64) (line ++ rest) check) ≡ line ++ check
joined n line rest check l m =
    let k : 64 ≤ length (line ++ rest) = omega (arith, length-append line rest) in
    let d : (64 + n) - 64 ≡ n = omega arith in
    ap (λ i. take (64 + n) (put_mid 64 i (line ++ rest) check)) d
    ∙ take-put_mid 64 n (line ++ rest) check (64 + n) (omega arith) k ∙ ap (λ x. x ++ check) (line_before line rest l)

pub returns : goal.returns
returns c =
    let shown : List ℕ = c.symbols-check.result.now in
    let n = c.symbols-check.ensures.are_six_or_in_short_five in
    let s : Bool = is_short c.args.word.now.check in
    let first : c.copy_from_slice.new.self ≡ c.args.word.now.line = search rules in
    let last : c.copy_from_slice-2.new.self ≡ shown = search rules in
    let l : length c.args.word.now.line ≡ 64 = search rules in
    record {
      at_least_69 = omega (arith, five s, n);
      at_most_70 = omega (arith, six s, n);
      in_order =
          joined (length shown) c.copy_from_slice.new.self _ c.copy_from_slice-2.new.self (ap length first ∙ l) (ap length last)
          ∙ ap₂ ◌++◌ first (last ∙ c.symbols-check.ensures.are_those_held);
    }
