-- Laws of a memory that shows arbitrary bytes.
use Rattle.std.proofs.Common.{◌≡◌, ℕ, ◌<◌, true, false, cond, eqb, List, length, ap, ◌∙◌, subst, ⊎_elim, arith}
use Rattle.std.proofs.lemmas.Bool.{cond-true, cond-false, cases_Bool, eqb-true}
use Rattle.std.proofs.lemmas.List.{length-map, get_or-map}
use Rattle.stack.specs.Memory.{Contents, Meaning, Place, Piece, Put, Fits, piece, outside, spans, covers, cells}
use Rattle.stack.proofs.PieceLaws.{fits, inside, over_off, length_cells, getD_cells, is_cells}
use Rattle.unsteady.specs.Noise.{disturbed, noisy, unsteady, place_kept}

-- a piece that it accepts lies in both memories, which are of one size
pub record Both (m n bank index from count : ℕ) : Type 0 where
  pub same : m ≡ n
  pub lies : Fits m bank index from count
  pub in_kept : outside m bank index from count ≡ false
  pub in_shown : outside n bank index from count ≡ false

pub both : (m n bank index from count : ℕ) → outside (cond (eqb m n) m 0) bank index from count ≡ false → Both m n bank index from count
both m n bank index from count e =
    let f = fits (cond (eqb m n) m 0) bank index from count e in
    ⊎_elim
    (λ (on : eqb m n ≡ true).
    let same : m ≡ n = eqb-true m n on in
    let size : cond (eqb m n) m 0 ≡ m = cond-true _ _ _ on in
    let kept : Fits m bank index from count = subst (λ (q : ℕ). Fits q bank index from count) size f in
    record { same = same; lies = kept; in_kept = inside kept; in_shown = inside (subst (λ (q : ℕ). Fits q bank index from count) same kept) })
    (λ (off : eqb m n ≡ false).
    let size : cond (eqb m n) m 0 ≡ 0 = cond-false _ _ _ off in
    absurd (omega (arith, size, f.index_real)))
    (cases_Bool (eqb m n))

-- bytes under a noise are those of the contents under it
pub noisy_cells : (noise : ℕ) (m : Contents) (bank index from count : ℕ) → noisy noise (cells m bank index from count) ≡ cells (λ b i k. disturbed noise (m b i k)) bank index from count
noisy_cells noise m bank index from count =
    is_cells (noisy noise (cells m bank index from count)) (λ b i k. disturbed noise (m b i k)) bank index from count
    (length-map (cells m bank index from count) (disturbed noise) ∙ length_cells m bank index from count)
    (λ k d h.
    let low : k < length (cells m bank index from count) = omega (arith, length_cells m bank index from count) in
    get_or-map (disturbed noise) (cells m bank index from count) k 0 d low ∙ ap (disturbed noise) (getD_cells m bank index from count k 0 h))

-- a piece kept in one memory, and any bytes in its places put into the other, is a piece put
unsteady_stores : (x y x' y' : Meaning) (noise : ℕ) (p q : Piece) → x.size ≡ y.size → ((b i k : ℕ) → covers p b i k ≡ false → covers q b i k ≡ false)
    → Put x p x' → Put y q y' → Put (unsteady x y noise) p (unsteady x' y' noise)
unsteady_stores x y x' y' noise p q same off keep show =
    let kept : (b i k : ℕ) → Place (unsteady x y noise).size b i k → Place x.size b i k = λ b i k at. place_kept (eqb x.size y.size) x.size b i k at in
    record {
      size = ap (λ (n : ℕ). cond (eqb n y'.size) n 0) keep.size ∙ ap (λ (n : ℕ). cond (eqb x.size n) x.size 0) show.size;
      kept = λ b i k at. keep.kept b i k (kept b i k at);
      shown = λ b i k at away.
          ap (λ (v : ℕ). disturbed noise v)
          (show.kept b i k (subst (λ (n : ℕ). Place n b i k) same (kept b i k at)) ∙ over_off y.kept q b i k (off b i k away));
    }

pub unsteady_put : (x y x' y' : Meaning) (noise : ℕ) (p : Piece) (zs : List ℕ) → x.size ≡ y.size → length zs ≡ length p.bytes
    → Put x p x' → Put y (piece p.bank p.index p.from zs) y' → Put (unsteady x y noise) p (unsteady x' y' noise)
unsteady_put x y x' y' noise p zs same len keep show =
    unsteady_stores x y x' y' noise p (piece p.bank p.index p.from zs) same
    (λ b i k off. ap (λ (n : ℕ). spans p.bank p.index p.from n b i k) len ∙ off) keep show
