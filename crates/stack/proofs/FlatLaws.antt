-- What a fetch from flat bytes gives, and what a put into them leaves.
use Rattle.std.proofs.Common.{◌≡◌, ℕ, ◌+◌, ◌-◌, ◌*◌, ◌/◌, ◌%◌, ◌<◌, ◌≤◌, true, false, ◌&&◌, eqb, leb, ◌⊎◌, List, length, get_or, take, drop, sym, ap, ◌∙◌, subst, inl, inr, ⊎_elim, arith, rules}
use Rattle.std.proofs.lemmas.Bool.{cond_both, cases_Bool, cases_lt, cases_order, both_ways}
use Rattle.std.proofs.lemmas.Nat.{div-mul-add, mod-mul-add}
use Rattle.std.proofs.lemmas.List.{length-take, length-drop, length-append, get_or-take, get_or-drop, get_or_default, places}
use Rattle.stack.specs.Memory.{Place, Piece, Put, covers, over, cells}
use Rattle.stack.specs.Flat.{size_of, place, flat, flat_means, written, Start}
use Rattle.stack.proofs.PieceLaws.{covered_at, covers_from, over_on, over_off, is_cells}

pub size_bytes : (n : ℕ) → size_of n * 4608 ≤ n
size_bytes n =
    cond_both (eqb (n % 4608) 0 && leb (n / 4608) 1024) (n / 4608) 0 (λ x. x * 4608 ≤ n) (λ e. omega arith) (λ e. omega arith)

-- two places of one number are one
row_same : (r b i b' i' : ℕ) → i < r → i' < r → b * r + i ≡ b' * r + i' → (b ≡ b') × (i ≡ i')
row_same r b i b' i' h h' e = (
  sym (div-mul-add b r i h) ∙ ap (λ x. x / r) e ∙ div-mul-add b' r i' h',
  sym (mod-mul-add b r i h) ∙ ap (λ x. x % r) e ∙ mod-mul-add b' r i' h',
)

-- a part of the bytes, copied
pub flat_cells : (xs ys : List ℕ) (b i from count at : ℕ) → Start (size_of (length xs)) b i from count at
    → ys ≡ take count (drop at xs) → ((k : ℕ) → get_or ys k 0 < 256) → length ys ≡ count → ys ≡ cells (flat xs) b i from count
unfolding flat
flat_cells xs ys b i from count at start e bytes len =
    is_cells ys (flat xs) b i from count len (λ k d h.
    let hk : k < length ys = omega arith in
    let byte : get_or ys k 0 < 256 = bytes k in
    let there : at + k ≡ place (size_of (length xs)) b i (from + k) = omega (arith, start.at_is) in
    let read : get_or ys k 0 ≡ get_or xs (place (size_of (length xs)) b i (from + k)) 0 =
    ap (λ (l : List ℕ). get_or l k 0) e ∙ get_or-take count (drop at xs) k 0 h ∙ get_or-drop at xs k 0 ∙ ap (λ (n : ℕ). get_or xs n 0) there in
    let one : get_or ys k 0 ≡ get_or xs (place (size_of (length xs)) b i (from + k)) 0 % 256 = omega (arith, read, byte) in
    get_or_default ys k d 0 hk ∙ one)

module _ (xs : List ℕ) (p : Piece) (at : ℕ) (start : Start (size_of (length xs)) p.bank p.index p.from (length p.bytes) at) where
  ends : at + length p.bytes ≤ length xs
  ends = omega (arith, start.ends, size_bytes (length xs))

  ends' : place (size_of (length xs)) p.bank p.index p.from + length p.bytes ≤ length xs
  ends' = omega (arith, ends, start.at_is)

  length_written : length (written xs p) ≡ length xs
  length_written = let e = ends' in simp (length-append, length-take, length-drop) (omega arith)

  written_below : (n : ℕ) → n < place (size_of (length xs)) p.bank p.index p.from → get_or (written xs p) n 0 ≡ get_or xs n 0
  written_below n h = let e = ends' in search (rules, places)

  written_at : (j : ℕ) → j < length p.bytes → get_or (written xs p) (place (size_of (length xs)) p.bank p.index p.from + j) 0 ≡ get_or p.bytes j 0
  written_at j h = let e = ends' in search (rules, places)

  written_above : (n : ℕ) → place (size_of (length xs)) p.bank p.index p.from + length p.bytes ≤ n → get_or (written xs p) n 0 ≡ get_or xs n 0
  written_above n h = let e = ends' in search (rules, places)

  -- a place of the memory that the piece does not cover lies before the piece or after it
  apart : (b i k : ℕ) → Place (size_of (length xs)) b i k → covers p b i k ≡ false
      → (place (size_of (length xs)) b i k < place (size_of (length xs)) p.bank p.index p.from)
      ⊎ (place (size_of (length xs)) p.bank p.index p.from + length p.bytes ≤ place (size_of (length xs)) b i k)
  apart b i k h e =
      let r = size_of (length xs) in
      let hk = h.byte_real in
      let hr = start.lies.room in
      ⊎_elim
      (λ (same : b * r + i ≡ p.bank * r + p.index).
      let at_row = row_same r b i p.bank p.index h.index_real start.lies.index_real same in
      ⊎_elim
      (λ (low : k < p.from). inl (omega (arith, same)))
      (λ (high : p.from ≤ k).
      inr (⊎_elim
      (λ (in' : k < p.from + length p.bytes).
      absurd (both_ways _ e (covers_from p b i k (record { bank_is = sym at_row.0; index_is = sym at_row.1; low = high; high = in' }))))
      (λ out. omega (arith, same))
      (cases_lt k (p.from + length p.bytes))))
      (cases_lt k p.from))
      (⊎_elim (λ (l : b * r + i < p.bank * r + p.index). inl (omega arith)) (λ (m : p.bank * r + p.index < b * r + i). inr (omega arith)))
      (cases_order (b * r + i) (p.bank * r + p.index))

  flat_written : (b i k : ℕ) → flat (written xs p) b i k ≡ get_or (written xs p) (place (size_of (length xs)) b i k) 0 % 256
  unfolding flat
  flat_written b i k = ap (λ (n : ℕ). get_or (written xs p) (place (size_of n) b i k) 0 % 256) length_written

  flat_put : ((k : ℕ) → get_or p.bytes k 0 < 256) → (b i k : ℕ) → Place (size_of (length xs)) b i k → flat (written xs p) b i k ≡ over (flat xs) p b i k
  unfolding flat
  flat_put bytes b i k real =
      let r = size_of (length xs) in
      ⊎_elim
      (λ (cov : covers p b i k ≡ true).
      let w = covered_at p b i k cov in
      let low = w.low in
      let high = w.high in
      let here : place r b i k ≡ place r p.bank p.index p.from + (k - p.from) = ap (λ x. (x * r + i) * 64 + k) (sym w.bank_is) ∙ ap (λ x. (p.bank * r + x) * 64 + k) (sym w.index_is) ∙ omega arith in
      let value : get_or (written xs p) (place r b i k) 0 ≡ get_or p.bytes (k - p.from) 0 = ap (λ n. get_or (written xs p) n 0) here ∙ written_at (k - p.from) (omega arith) in
      let byte : get_or p.bytes (k - p.from) 0 < 256 = bytes (k - p.from) in
      let whole : get_or (written xs p) (place r b i k) 0 % 256 ≡ get_or p.bytes (k - p.from) 0 = omega (arith, value, byte) in
      flat_written b i k ∙ whole ∙ sym (over_on (flat xs) p b i k cov))
      (λ (off : covers p b i k ≡ false).
      let same : get_or (written xs p) (place r b i k) 0 ≡ get_or xs (place r b i k) 0 =
      ⊎_elim (λ l. written_below (place r b i k) l) (λ m. written_above (place r b i k) m) (apart b i k real off) in
      flat_written b i k ∙ ap (λ n. n % 256) same ∙ sym (over_off (flat xs) p b i k off))
      (cases_Bool (covers p b i k))

  -- a piece written is a piece put
  pub flat_stores : (ys : List ℕ) → ((k : ℕ) → get_or p.bytes k 0 < 256) → ys ≡ written xs p → Put (flat_means xs) p (flat_means ys)
  flat_stores ys bytes e =
      subst (λ (zs : List ℕ). Put (flat_means xs) p (flat_means zs)) (sym e) (record {
        size = ap size_of length_written;
        kept = flat_put bytes;
        shown = λ b i k real off. flat_put bytes b i k real ∙ over_off (flat xs) p b i k off;
      })
