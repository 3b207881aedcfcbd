use Rattle.std.proofs.Common.{◌≡◌, ℕ, ◌-◌, ◌<◌, ◌≤◌, List, ◌++◌, length, get_or, set, sym, ap, ◌∙◌, arith, length-append, rules}
use lib.Bits.{bit_xor}
use Rattle.std.proofs.lemmas.List.{set-append_left, set-append_right, set_past, get_or_append_left, get_or-append_right}
use Rattle.codec.specs.Word.{corrected}
use Rattle.codeword.proofs.shown.ShownWord.change.Goals as goal

module _ (line check : List ℕ) (l : length line ≡ 64) (m : length check ≡ 6) (s e : ℕ) where
  in_line : s < 64 → set line s (bit_xor (get_or line s 0) e) ++ check ≡ corrected (line ++ check) s e
  unfolding corrected
  in_line h =
      let i : s < length line = omega arith in
      sym (ap (λ x. set (line ++ check) s (bit_xor x e)) (get_or_append_left line check 0 s i) ∙ set-append_left line check s (bit_xor (get_or line s 0) e) i)

  in_check : 64 ≤ s → line ++ set check (s - 64) (bit_xor (get_or check (s - 64) 0) e) ≡ corrected (line ++ check) s e
  unfolding corrected
  in_check h =
      sym (ap (λ x. set (line ++ check) s (bit_xor x e)) (get_or-append_right line check 64 s 0 l h) ∙ set-append_right line check 64 s (bit_xor (get_or check (s - 64) 0) e) l h)

  past : 70 ≤ s → line ++ check ≡ corrected (line ++ check) s e
  unfolding corrected
  past h = sym (set_past (line ++ check) s (bit_xor (get_or (line ++ check) s 0) e) (omega (arith, length-append line check)))

pub returns-then-symbol-lt64 : goal.returns-then-symbol-lt64
returns-then-symbol-lt64 c =
    let l : length c.args.self.now.line ≡ 64 = search rules in
    let m : length c.args.self.now.check ≡ 6 = search rules in
    record { adds_to_that_symbol_alone = in_line c.args.self.now.line c.args.self.now.check l m c.args.symbol c.args.xor (omega arith) }

pub returns-then-symbol-lt70 : goal.returns-then-symbol-lt70
returns-then-symbol-lt70 c =
    let l : length c.args.self.now.line ≡ 64 = search rules in
    let m : length c.args.self.now.check ≡ 6 = search rules in
    record { adds_to_that_symbol_alone = in_check c.args.self.now.line c.args.self.now.check l m c.args.symbol c.args.xor (omega arith) }

pub returns-else-symbol-lt70 : goal.returns-else-symbol-lt70
returns-else-symbol-lt70 c =
    let l : length c.args.self.now.line ≡ 64 = search rules in
    let m : length c.args.self.now.check ≡ 6 = search rules in
    record { adds_to_that_symbol_alone = past c.args.self.now.line c.args.self.now.check l m c.args.symbol c.args.xor (omega arith) }
