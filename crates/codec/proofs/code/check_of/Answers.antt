use Rattle.std.proofs.Common.{◌≡◌, ℕ, true, false, List, [], ◌∷◌, ◌++◌, get_or, take, sym, ap, ◌∙◌, subst}
use Rattle.field.specs.Rows.{lane}
use Rattle.codec.specs.Word.{Codeword}
use Rattle.codec.specs.Check.{check}
use Rattle.codec.specs.Code.{Symbols}
use Rattle.codec.specs.Packed.{unpacked}
use Rattle.codec.proofs.CodeLaws.{laws}
use Rattle.codec.proofs.code.check_of.Goals as goal

-- the six lowest bytes of the eight
low : (x : ℕ) (bs : List ℕ)
    → bs ≡ lane 0 x ∷ lane 1 x ∷ lane 2 x ∷ lane 3 x ∷ lane 4 x ∷ lane 5 x ∷ lane 6 x ∷ lane 7 x ∷ []
    → (get_or bs 0 0 ∷ get_or bs 1 0 ∷ get_or bs 2 0 ∷ get_or bs 3 0 ∷ get_or bs 4 0 ∷ get_or bs 5 0 ∷ []) ≡ unpacked x
unfolding unpacked
low x bs e = ap (λ xs. get_or xs 0 0 ∷ get_or xs 1 0 ∷ get_or xs 2 0 ∷ get_or xs 3 0 ∷ get_or xs 4 0 ∷ get_or xs 5 0 ∷ []) e

-- what holds of the check of a line holds of what equals it
module _ (line r : List ℕ) (h : Symbols 64 line) (e : r ≡ check line) where
  full : Codeword (line ++ r)
  full = subst (λ c. Codeword (line ++ c)) (sym e) (laws.fits false line h)

  short : Codeword (line ++ take 5 r)
  short = subst (λ c. Codeword (line ++ take 5 c)) (sym e) (laws.fits true line h)

  no_other_full : (c : List ℕ) → Symbols 6 c → Codeword (line ++ c) → c ≡ r
  no_other_full c s k = laws.only false line c h s k ∙ sym e

  no_other_short : (c : List ℕ) → Symbols 5 c → Codeword (line ++ c) → c ≡ take 5 r
  no_other_short c s k = laws.only true line c h s k ∙ ap (take 5) (sym e)

pub returns : goal.returns
returns c =
    let x : ℕ = c.packed_check.result in
    let h : Symbols 64 c.args.line.now = record { count = c.told-line; small = c.fits-line } in
    let e = low x c.to_le_bytes.result (unfold lane in c.to_le_bytes.ensures) ∙ c.packed_check.ensures.has_the_check_in_its_bytes in
    record {
      is_the_check = e;
      makes_a_full_codeword = full c.args.line.now _ h e;
      makes_a_short_codeword = short c.args.line.now _ h e;
      no_other_does_in_full = no_other_full c.args.line.now _ h e;
      no_other_does_in_short = no_other_short c.args.line.now _ h e;
    }
