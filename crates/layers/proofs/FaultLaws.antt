-- Laws of the bytes that faults show.
use Rattle.std.proofs.Common.{◌≡◌, ℕ, ◌+◌, ◌-◌, ◌<◌, ◌≤◌, Bool, true, false, cond, ◌&&◌, eqb, List, [], ◌∷◌, length, get_or, set, filter, sym, refl, ap, ◌∙◌, ⊎_elim, arith}
use Rattle.std.proofs.lemmas.Bool.{cond-true, cond-false, and_parts, and_from, and_left, and_right, eqb-true, eq-eqb, ne_eqb, cases_Bool, cases_eq, both_ways, not-false}
use Rattle.std.proofs.lemmas.List.{length-set, get_or-set_same, get_or-set_other}
use Rattle.stack.specs.Memory.{Contents, Meaning, Piece, Put, covers, cells}
use Rattle.stack.proofs.PieceLaws.{within, spans_from, covers_from, length_cells, getD_cells, is_cells}
use Rattle.layers.specs.Faults.{altered, acts, faulted, faulted_all, faulty, corrupted, corrupted_all, outlasts, outlasting, is_flip}
use Rattle.layers.specs.declared.fault.Fault.{Fault}

-- what it says of a fault that it acts on those bytes
pub record Acting (f : Fault) (bank index from count : ℕ) : Type 0 where
  pub now : f.delay ≡ 0
  pub bank_is : bank ≡ f.bank
  pub index_is : index ≡ f.index
  pub low : from ≤ f.byte
  pub high : f.byte < from + count

pub acting : (f : Fault) (bank index from count : ℕ) → acts f bank index from count ≡ true → Acting f bank index from count
unfolding acts
acting f bank index from count e =
    let p = and_parts _ _ e in
    let w = within bank index from count f.bank f.index f.byte p.1 in
    record {
      now = eqb-true f.delay 0 p.0;
      bank_is = w.bank_is;
      index_is = w.index_is;
      low = w.low;
      high = w.high;
    }

acts_from : (f : Fault) (bank index from count : ℕ) → Acting f bank index from count → acts f bank index from count ≡ true
unfolding acts
acts_from f bank index from count a =
    and_from _ _ (eq-eqb f.delay 0 a.now) (spans_from bank index from count f.bank f.index f.byte (record {
      bank_is = a.bank_is;
      index_is = a.index_is;
      low = a.low;
      high = a.high;
    }))

-- of neighbouring bytes, a fault acts on the one that it names
acts_one : (f : Fault) (bank index from count k : ℕ) → from ≤ k → k < from + count
    → acts f bank index k 1 ≡ (acts f bank index from count && eqb f.byte k)
acts_one f bank index from count k low high =
    ⊎_elim
    (λ (one : acts f bank index k 1 ≡ true).
    let a = acting f bank index k 1 one in
    one ∙ sym (and_from _ _ (acts_from f bank index from count (record { now = a.now; bank_is = a.bank_is; index_is = a.index_is; low = omega arith; high = omega arith })) (eq-eqb f.byte k (omega arith))))
    (λ (none : acts f bank index k 1 ≡ false).
    ⊎_elim
    (λ (some : (acts f bank index from count && eqb f.byte k) ≡ true).
    let p = and_parts _ _ some in
    let a = acting f bank index from count p.0 in
    let here : f.byte ≡ k = eqb-true f.byte k p.1 in
    acts_from f bank index k 1 (record { now = a.now; bank_is = a.bank_is; index_is = a.index_is; low = omega arith; high = omega arith }) ∙ sym some)
    (λ (no' : (acts f bank index from count && eqb f.byte k) ≡ false). none ∙ sym no')
    (cases_Bool (acts f bank index from count && eqb f.byte k)))
    (cases_Bool (acts f bank index k 1))

-- the bytes of a piece under a fault are those of the contents under it
corrupted_cells : (f : Fault) (m : Contents) (bank index from count : ℕ) → corrupted f bank index from (cells m bank index from count) ≡ cells (faulted f m) bank index from count
unfolding corrupted faulted
corrupted_cells f m bank index from count =
    let xs = cells m bank index from count in
    let len : length (cells m bank index from count) ≡ count = length_cells m bank index from count in
    let new = altered f (get_or xs (f.byte - from) 0) in
    ap (λ (n : ℕ). cond (acts f bank index from n) (set xs (f.byte - from) new) xs) len
    ∙ ⊎_elim
    (λ (on : acts f bank index from count ≡ true).
    let a = acting f bank index from count on in
    let at : f.byte - from < count = omega arith in
    cond-true _ _ _ on ∙ is_cells (set xs (f.byte - from) new) (faulted f m) bank index from count (length-set xs _ _ ∙ len) (λ k d hk.
    let one = acts_one f bank index from count (from + k) (omega arith) (omega arith) in
    ⊎_elim
    (λ (here : k ≡ f.byte - from).
    let is : acts f bank index (from + k) 1 ≡ true = one ∙ and_from _ _ on (eq-eqb f.byte (from + k) (omega arith)) in
    let value : get_or (cells m bank index from count) (f.byte - from) 0 ≡ m bank index (from + k) =
    getD_cells m bank index from count (f.byte - from) 0 at ∙ ap (λ (n : ℕ). m bank index (from + n)) (sym here) in
    let inl' : f.byte - from < length (cells m bank index from count) = omega arith in
    ap (λ (j : ℕ). get_or (set xs (f.byte - from) new) j d) here
    ∙ get_or-set_same xs (f.byte - from) new d inl'
    ∙ ap (λ (v : ℕ). altered f v) value ∙ sym (cond-true _ _ _ is))
    (λ (other : k ≡ f.byte - from → ⊥).
    let off : acts f bank index (from + k) 1 ≡ false = one ∙ and_right _ _ (ne_eqb f.byte (from + k) (λ e. other (omega arith))) in
    get_or-set_other xs (f.byte - from) k new d other
    ∙ getD_cells m bank index from count k d hk ∙ sym (cond-false _ _ _ off))
    (cases_eq k (f.byte - from))))
    (λ (off : acts f bank index from count ≡ false).
    cond-false _ _ _ off ∙ is_cells xs (faulted f m) bank index from count len (λ k d hk.
    let one = acts_one f bank index from count (from + k) (omega arith) (omega arith) in
    let none : acts f bank index (from + k) 1 ≡ false = one ∙ and_left _ _ off in
    getD_cells m bank index from count k d hk ∙ sym (cond-false _ _ _ none)))
    (cases_Bool (acts f bank index from count))

pub corrupted_all_cells : (fs : List Fault) (m : Contents) (bank index from count : ℕ) → corrupted_all fs bank index from (cells m bank index from count) ≡ cells (faulted_all fs m) bank index from count
unfolding corrupted_all faulted_all
corrupted_all_cells [] m bank index from count = refl
corrupted_all_cells (f ∷ fs) m bank index from count =
    ap (λ (xs : List ℕ). corrupted_all fs bank index from xs) (corrupted_cells f m bank index from count) ∙ corrupted_all_cells fs (faulted f m) bank index from count

-- a fault that a put removes does not act elsewhere
removed_off : (f : Fault) (p : Piece) (b i k : ℕ) → covers p b i k ≡ false → outlasts p.bank p.index p.from (length p.bytes) f ≡ false → acts f b i k 1 ≡ false
unfolding outlasts
removed_off f p b i k off gone =
    let on = (and_parts (is_flip f.kind) (acts f p.bank p.index p.from (length p.bytes)) (not-false _ gone)).1 in
    let a = acting f p.bank p.index p.from (length p.bytes) on in
    ⊎_elim
    (λ (here : acts f b i k 1 ≡ true).
    let h = acting f b i k 1 here in
    absurd (both_ways _ off (covers_from p b i k (record { bank_is = a.bank_is ∙ sym h.bank_is; index_is = a.index_is ∙ sym h.index_is; low = omega arith; high = omega arith }))))
    (λ none. none)
    (cases_Bool (acts f b i k 1))

-- the faults that outlast a put show elsewhere what all of them showed
faulted_outlasting : (fs : List Fault) (p : Piece) (b i k : ℕ) → covers p b i k ≡ false → (m n : Contents) → n b i k ≡ m b i k
    → faulted_all (outlasting p fs) n b i k ≡ faulted_all fs m b i k
unfolding faulted_all faulted
faulted_outlasting [] p b i k off m n e = e
faulted_outlasting (f ∷ fs) p b i k off m n e =
    let stays? : Fault → Bool = outlasts p.bank p.index p.from (length p.bytes) in
    ⊎_elim
    (λ (stays : outlasts p.bank p.index p.from (length p.bytes) f ≡ true).
    ap (λ (gs : List Fault). faulted_all gs n b i k) (cond-true _ (f ∷ filter stays? fs) (filter stays? fs) stays)
    ∙ faulted_outlasting fs p b i k off (faulted f m) (faulted f n) (ap (λ (v : ℕ). cond (acts f b i k 1) (altered f v) v) e))
    (λ (goes : outlasts p.bank p.index p.from (length p.bytes) f ≡ false).
    ap (λ (gs : List Fault). faulted_all gs n b i k) (cond-false _ (f ∷ filter stays? fs) (filter stays? fs) goes)
    ∙ faulted_outlasting fs p b i k off (faulted f m) n (e ∙ sym (cond-false _ _ _ (removed_off f p b i k off goes))))
    (cases_Bool (outlasts p.bank p.index p.from (length p.bytes) f))

-- a put below, with the flips that it removes, is a put
pub faulty_stores : (fs gs : List Fault) (x y : Meaning) (p : Piece) → Put x p y → gs ≡ outlasting p fs → Put (faulty fs x) p (faulty gs y)
faulty_stores fs gs x y p put e = record {
  size = put.size;
  kept = put.kept;
  shown = λ b i k at off.
      ap (λ (hs : List Fault). faulted_all hs y.shown b i k) e
      ∙ faulted_outlasting fs p b i k off x.shown y.shown (put.shown b i k at off);
}
