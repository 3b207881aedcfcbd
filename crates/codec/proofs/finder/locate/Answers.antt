use Rattle.std.proofs.Common.{◌≡◌, ℕ, ◌-◌, ◌<◌, List, length, get_or, Some, None, sym, ap, ◌∙◌, arith, lit<, rules}
use Rattle.std.proofs.lemmas.Bool.{true≢false}
use Rattle.field.specs.Field.{mul}
use Rattle.codec.specs.Word.{Corrects, coeff, syndrome}
use Rattle.codec.proofs.WordLaws.{syndrome_lt, sums_at, corrects_from, corrects_to, value_low, value_last}
use Rattle.codec.proofs.Sums.{bytes_from}
use Rattle.codec.proofs.FinderLaws.{single_error_is}
use Rattle.codec.proofs.finder.locate.Goals as goal
use Rattle.codec.proofs.finder.locate.Goals.{then-s-lt-LAST, else-s-lt-LAST, else-s-symbols-via-then-s-symbols+then-e-ne0+else-explains, else-s-symbols-via-then-s-symbols+else-e-ne0, else-s-symbols-via-else-s-symbols}

pub returns-then-explains : goal.returns-then-explains
returns-then-explains c =
    let w : List ℕ = c.args.symbols.now in
    let at = sums_at w c.syndromes-sums.result c.syndromes-sums.ensures.are_the_six_sums in
    let b : (k : ℕ) → get_or w k 0 < 256 = search rules in
    let m : Corrects w c.place-s.result c.if-s-lt-LAST.e =
    record {
      inside = c.if-s-symbols.true;
      byte =
          elim c.if-s-lt-LAST.branch [
            | then-s-lt-LAST v ↦ omega (arith, v.e-is, at 0 (lit< tt), syndrome_lt 0 w)
            | else-s-lt-LAST v ↦ omega (arith, v.e-is, at 5 (lit< tt), syndrome_lt 5 w)
          ];
      changes = c.if-e-ne0.true;
      codeword =
          corrects_from w c.place-s.result c.if-s-lt-LAST.e c.if-s-symbols.true
          (λ k h. sym (at k (omega arith)) ∙ c.explains.ensures.sound c.if-explains.true k h);
    } in
    record { is_the_single_error = single_error_is w (Some (c.place-s.result, c.if-s-lt-LAST.e)) (bytes_from w b) (omega arith) (omega arith) m; answers = m }

-- a pair that corrects the word is at the place tried
placed : (c : goal.Joined-else-s-symbols) (s e : ℕ) → Corrects c.args.symbols.now s e → s ≡ c.place-s.result
placed c s e m =
    let w : List ℕ = c.args.symbols.now in
    let i = m.inside in
    let at = sums_at w c.syndromes-sums.result c.syndromes-sums.ensures.are_the_six_sums in
    let to : (k : ℕ) → k < length w - 64 → syndrome k w ≡ mul e (coeff k s) = corrects_to w s e m.inside m.codeword in
    c.place-s.ensures.no_other s e (omega arith) m.byte m.changes (at 0 (lit< tt) ∙ to 0 (omega arith)) (at 1 (lit< tt) ∙ to 1 (omega arith))

-- with the value tried
tried : (c : goal.Joined-else-s-symbols) (s e : ℕ) → Corrects c.args.symbols.now s e → e ≡ c.if-s-lt-LAST.e
tried c s e m =
    let w : List ℕ = c.args.symbols.now in
    let at = sums_at w c.syndromes-sums.result c.syndromes-sums.ensures.are_the_six_sums in
    let p = placed c s e m in
    elim c.if-s-lt-LAST.branch [
      | then-s-lt-LAST v ↦ value_low w s e (omega arith) (let h = v.if-s-lt-LAST.true in omega arith) m ∙ sym (v.e-is ∙ at 0 (lit< tt))
      | else-s-lt-LAST v ↦ value_last w s e (omega arith) (let h = v.if-s-lt-LAST.false in omega arith) m ∙ sym (v.e-is ∙ at 5 (lit< tt))
    ]

none : (c : goal.Joined-else-s-symbols) (s e : ℕ) → Corrects c.args.symbols.now s e → ⊥
none c s e m =
    let w : List ℕ = c.args.symbols.now in
    let at = sums_at w c.syndromes-sums.result c.syndromes-sums.ensures.are_the_six_sums in
    let p = placed c s e m in
    let t = tried c s e m in
    let i = m.inside in
    elim c.else-s-symbols.branch [
      | else-s-symbols-via-then-s-symbols+then-e-ne0+else-explains v ↦
          true≢false
          (sym (v.explains.ensures.whole
          (λ k h. at k (omega arith) ∙ corrects_to w s e m.inside m.codeword k h
          ∙ ap (λ x. mul x (coeff k s)) t ∙ ap (λ n. mul c.if-s-lt-LAST.e (coeff k n)) p))
          ∙ v.if-explains.false)
      | else-s-symbols-via-then-s-symbols+else-e-ne0 v ↦ m.changes (t ∙ v.if-e-ne0.false)
      | else-s-symbols-via-else-s-symbols v ↦ let l = v.if-s-symbols.false in omega arith
    ]

pub returns : goal.returns
returns c =
    let w : List ℕ = c.args.symbols.now in
    let b : (k : ℕ) → get_or w k 0 < 256 = search rules in
    record { is_the_single_error = single_error_is w None (bytes_from w b) (omega arith) (omega arith) (none c); answers = none c }
