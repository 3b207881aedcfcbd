-- What it says of a piece that it lies in a memory.
use Rattle.std.proofs.Common.{◌≡◌, ℕ, ◌+◌, ◌-◌, ◌<◌, ◌≤◌, Bool, true, false, cond, List, length, get_or, Ok, Err, Result, sym, refl, ap, ◌∙◌, arith, rules, MatchResult}
use Rattle.std.proofs.lemmas.Bool.{or_parts, or_from, and_parts, and_from, ltb-false, leb-false, eqb-false, le-ltb, lt-leb, ne_eqb, eqb-true, eq-eqb, leb-true, ltb-true, le-leb, lt-ltb, both_ways, cond-true, cond-false}
use Rattle.std.proofs.lemmas.List.{same_lists}
use Rattle.std.proofs.lemmas.List.FromFn.{length-map-range_with_len, get_or-map-range_with_len}
use Rattle.stack.specs.Refusals.{judged}
use Rattle.stack.specs.declared.refusal.Refusal.{Refusal}
use Rattle.stack.specs.Memory.{Contents, Place, Piece, Fits, outside, spans, covers, over, cells}

-- a piece lies in a memory exactly when it is not refused
pub fits : (size bank index from count : ℕ) → outside size bank index from count ≡ false → Fits size bank index from count
unfolding outside
fits size bank index from count e =
    let p = or_parts _ _ e in
    let q = or_parts _ _ p.1 in
    let r = or_parts _ _ q.1 in
    let low = ltb-false 71 bank p.0 in
    let nz = eqb-false count 0 r.0 in
    record {
      bank_real = omega arith;
      index_real = leb-false size index q.0;
      some = omega arith;
      room = ltb-false 64 (from + count) r.1;
    }

pub inside : {size bank index from count : ℕ} → Fits size bank index from count → outside size bank index from count ≡ false
unfolding outside
inside {size} {bank} {index} {from} {count} f =
    let h : bank ≤ 71 = omega (arith, f.bank_real) in
    or_from _ _ (le-ltb 71 bank h) (or_from _ _ (lt-leb size index f.index_real) (or_from _ _ (ne_eqb count 0 (λ e. omega (arith, f.some))) (le-ltb 64 (from + count) f.room)))

-- an accepted piece is not refused: for the exit of a `?` that is never taken
pub never_refused : {e : Refusal} {t : Bool} → Err e ≡ judged t → t ≡ false → ⊥
never_refused {e} {t} r f =
    let bad : Err e ≡ Ok tt = r ∙ ap judged f in
    let z : ◌≡◌ {A = ℕ} 0 1 = cc in
    omega arith

-- a call by what it answered: accepted or refused, as the piece lies
pub answered : {P Q : Type 0} (t : Bool) (r : Result (Unit {0}) Refusal) → r ≡ judged t → MatchResult r (λ _. P) (λ _. Q) → (t ≡ false → P) × (t ≡ true → Q)
answered true (Ok x) e c = let z : ◌≡◌ {A = ℕ} 0 1 = cc in absurd (omega arith)
answered true (Err x) e c = (λ f. absurd (both_ways true f refl), λ _. c)
answered false (Ok x) e c = (λ _. c, λ f. absurd (both_ways false refl f))
answered false (Err x) e c = let z : ◌≡◌ {A = ℕ} 0 1 = cc in absurd (omega arith)

-- what it says of a place that it is one of neighbouring bytes
pub record Within (bank index from count b i k : ℕ) : Type 0 where
  pub bank_is : bank ≡ b
  pub index_is : index ≡ i
  pub low : from ≤ k
  pub high : k < from + count

pub within : (bank index from count b i k : ℕ) → spans bank index from count b i k ≡ true → Within bank index from count b i k
unfolding spans
within bank index from count b i k e =
    let p = and_parts _ _ e in
    let q = and_parts _ _ p.0 in
    let r = and_parts _ _ p.1 in
    record {
      bank_is = eqb-true bank b q.0;
      index_is = eqb-true index i q.1;
      low = leb-true from k r.0;
      high = ltb-true k (from + count) r.1;
    }

pub spans_from : (bank index from count b i k : ℕ) → Within bank index from count b i k → spans bank index from count b i k ≡ true
unfolding spans
spans_from bank index from count b i k w =
    and_from _ _ (and_from _ _ (eq-eqb bank b w.bank_is) (eq-eqb index i w.index_is)) (and_from _ _ (le-leb from k w.low) (lt-ltb k (from + count) w.high))

pub covered_at : (p : Piece) (b i k : ℕ) → covers p b i k ≡ true → Within p.bank p.index p.from (length p.bytes) b i k
covered_at p b i k e = within p.bank p.index p.from (length p.bytes) b i k e

pub covers_from : (p : Piece) (b i k : ℕ) → Within p.bank p.index p.from (length p.bytes) b i k → covers p b i k ≡ true
covers_from p b i k w = spans_from p.bank p.index p.from (length p.bytes) b i k w

-- every place of a piece that lies in a memory is a place of the memory
pub fits_place : {size bank index from count : ℕ} (k : ℕ) → Fits size bank index from count → from ≤ k → k < from + count → Place size bank index k
fits_place k f low high = record {
  bank_real = f.bank_real;
  index_real = f.index_real;
  byte_real = omega (arith, f.room);
}

-- what stands at a place once a piece is written: the piece's byte, or what stood there
pub over_on : (m : Contents) (p : Piece) (b i k : ℕ) → covers p b i k ≡ true → over m p b i k ≡ get_or p.bytes (k - p.from) 0
unfolding over
over_on m p b i k e = cond-true _ _ _ e

pub over_off : (m : Contents) (p : Piece) (b i k : ℕ) → covers p b i k ≡ false → over m p b i k ≡ m b i k
unfolding over
over_off m p b i k e = cond-false _ _ _ e

-- it hangs on what stood at that place alone
pub over_at : (m n : Contents) (p : Piece) (b i k : ℕ) → m b i k ≡ n b i k → over m p b i k ≡ over n p b i k
unfolding over
over_at m n p b i k e = ap (λ (v : ℕ). cond (covers p b i k) (get_or p.bytes (k - p.from) 0) v) e

-- neighbouring bytes, by number
pub length_cells : (m : Contents) (bank index from count : ℕ) → length (cells m bank index from count) ≡ count
unfolding cells
length_cells m bank index from count = length-map-range_with_len (λ k. m bank index (from + k)) 0 count

pub getD_cells : (m : Contents) (bank index from count k d : ℕ) → k < count → get_or (cells m bank index from count) k d ≡ m bank index (from + k)
unfolding cells
getD_cells m bank index from count k d h = get_or-map-range_with_len (λ k. m bank index (from + k)) 0 count k k d h (omega arith)

-- a list is those bytes where it is so at each number
pub is_cells : (xs : List ℕ) (m : Contents) (bank index from count : ℕ) → length xs ≡ count → ((k d : ℕ) → k < count → get_or xs k d ≡ m bank index (from + k)) → xs ≡ cells m bank index from count
is_cells xs m bank index from count len at =
    same_lists _ _ (len ∙ sym (length_cells m bank index from count)) (λ k d h.
    let hk : k < count = omega arith in
    at k d hk ∙ sym (getD_cells m bank index from count k d hk))

pub cells_same : (m n : Contents) (bank index from count : ℕ) → ((k : ℕ) → from ≤ k → k < from + count → m bank index k ≡ n bank index k)
    → cells m bank index from count ≡ cells n bank index from count
cells_same m n bank index from count e =
    is_cells (cells m bank index from count) n bank index from count (length_cells m bank index from count)
    (λ k d h. getD_cells m bank index from count k d h ∙ e (from + k) (omega arith) (omega arith))

-- a piece that is accepted does not lie outside
pub accepted : (out : Bool) → judged out ≡ Ok tt → out ≡ false
accepted false e = refl
accepted true e = search rules
