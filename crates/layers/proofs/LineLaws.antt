-- Laws of the lines that are buffered.
use Rattle.std.proofs.Common.{◌≡◌, ℕ, zero, suc, ◌+◌, ◌-◌, ◌%◌, ◌<◌, ◌≤◌, Bool, true, false, cond, not, ◌&&◌, eqb, List, [], ◌∷◌, ◌++◌, length, get_or, take, drop, set, Some, None, Option, sym, refl, ap, ap₂, ◌∙◌, subst, ⊎_elim, arith, rules, MatchOption}
use borrow.Rule.Slice.PartMut.{put_mid}
use lib.Seq.{paste}
use Rattle.std.proofs.lemmas.Bool.{cond-true, cond-false, and_parts, and_from, cases_Bool, eqb-true, eq-eqb, both_ways, not-true, not_from_false}
use Rattle.std.proofs.lemmas.List.Edits.{length-paste}
use Rattle.std.proofs.lemmas.List.{get_or-take, get_or-drop, get_or_default, length-set, places, take_at}
use Rattle.std.proofs.lemmas.Slice.{put_mid-paste}
use Rattle.stack.specs.Memory.{Contents, Piece, covers, cells}
use Rattle.std.specs.List.{position_from, refill}
use Rattle.stack.proofs.PieceLaws.{covered_at, is_cells}
use Rattle.layers.specs.Lines.{is_of, is_buffered, orderly, overlaid, with_piece, rewritten}
use Rattle.layers.specs.declared.line.BufferedLine.{BufferedLine}

-- the line of the piece stands at i
pub record FoundAt (ls : List BufferedLine) (p : Piece) (i : ℕ) : Type 0 where
  pub within : i < length ls
  pub is : is_buffered ls p.bank p.index ≡ true
  pub rewrites : (d : BufferedLine) → rewritten ls p ≡ set ls i (with_piece (get_or ls i d) p)
  pub shows : (d : BufferedLine) (m : Contents) (k : ℕ) → overlaid ls m p.bank p.index k ≡ get_or (get_or ls i d).bytes k 0 % 256

found : (ls : List BufferedLine) (p : Piece) (n j : ℕ) → position_from (λ l. is_of l p.bank p.index) n ls ≡ Some j → (i : ℕ) × (n + i ≡ j) × FoundAt ls p i
unfolding is_buffered rewritten overlaid
found [] p n j e = let z : ◌≡◌ {A = ℕ} 0 1 = cc in absurd (omega arith)
found (l ∷ ls) p n j e =
    ⊎_elim
    (λ (on : is_of l p.bank p.index ≡ true).
    let same : Some n ≡ Some j = sym (cond-true _ _ _ on) ∙ e in (
      0,
      grind arith,
      record {
        within = omega arith;
        is = cond-true _ _ _ on;
        rewrites = λ d. cond-true _ _ _ on;
        shows = λ d m k. cond-true _ _ _ on;
      },
    ))
    (λ (off : is_of l p.bank p.index ≡ false).
    let rest = found ls p (n + 1) j (sym (cond-false _ _ _ off) ∙ e) in
    let at = rest.2 in (
      suc rest.0,
      omega (arith, rest.1),
      record {
        within = omega (arith, at.within);
        is = cond-false _ _ _ off ∙ at.is;
        rewrites = λ d. cond-false _ _ _ off ∙ ap (λ (ms : List BufferedLine). l ∷ ms) (at.rewrites d);
        shows = λ d m k. cond-false _ _ _ off ∙ at.shows d m k;
      },
    ))
    (cases_Bool (is_of l p.bank p.index))

missing : (ls : List BufferedLine) (b i n : ℕ) → position_from (λ l. is_of l b i) n ls ≡ None → is_buffered ls b i ≡ false
unfolding is_buffered
missing [] b i n e = refl
missing (l ∷ ls) b i n e =
    ⊎_elim
    (λ (on : is_of l b i ≡ true).
    let same : Some n ≡ None = sym (cond-true _ _ _ on) ∙ e in
    let z : ◌≡◌ {A = ℕ} 0 1 = cc in absurd (omega arith))
    (λ (off : is_of l b i ≡ false). cond-false _ _ _ off ∙ missing ls b i (n + 1) (sym (cond-false _ _ _ off) ∙ e))
    (cases_Bool (is_of l b i))

-- what looking for a line tells
pub known : (ls : List BufferedLine) (b i : ℕ) (r : Option ℕ) → r ≡ position_from (λ l. is_of l b i) 0 ls → MatchOption r (is_buffered ls b i ≡ false) (λ j. j < length ls)
known ls b i None e = missing ls b i 0 (sym e)
known ls b i (Some j) e =
    let f = found ls (record { bank = b; index = i; from = 0; bytes = [] }) 0 j (sym e) in
    let w = f.2.within in
    omega (arith, f.1, w)

pub found_at : (ls : List BufferedLine) (p : Piece) (j : ℕ) → Some j ≡ position_from (λ l. is_of l p.bank p.index) 0 ls → FoundAt ls p j
found_at ls p j e =
    let f = found ls p 0 j (sym e) in
    let same : f.0 ≡ j = omega (arith, f.1) in
    subst (λ (i : ℕ). FoundAt ls p i) same f.2

-- a line that is not buffered is not rewritten, and hides nothing
pub rewritten_none : (ls : List BufferedLine) (p : Piece) → is_buffered ls p.bank p.index ≡ false → rewritten ls p ≡ ls
unfolding is_buffered rewritten
rewritten_none [] p e = refl
rewritten_none (l ∷ ls) p e =
    ⊎_elim
    (λ (on : is_of l p.bank p.index ≡ true). absurd (both_ways _ e (cond-true _ _ _ on)))
    (λ (off : is_of l p.bank p.index ≡ false). cond-false _ _ _ off ∙ ap (λ (ms : List BufferedLine). l ∷ ms) (rewritten_none ls p (sym (cond-false _ _ _ off) ∙ e)))
    (cases_Bool (is_of l p.bank p.index))

pub overlaid_none : (ls : List BufferedLine) (m : Contents) (b i k : ℕ) → is_buffered ls b i ≡ false → overlaid ls m b i k ≡ m b i k
unfolding is_buffered overlaid
overlaid_none [] m b i k e = refl
overlaid_none (l ∷ ls) m b i k e =
    ⊎_elim
    (λ (on : is_of l b i ≡ true). absurd (both_ways _ e (cond-true _ _ _ on)))
    (λ (off : is_of l b i ≡ false). cond-false _ _ _ off ∙ overlaid_none ls m b i k (sym (cond-false _ _ _ off) ∙ e))
    (cases_Bool (is_of l b i))

-- a line that is buffered hides what is below
pub hidden : (ls : List BufferedLine) (m n : Contents) (b i k : ℕ) → is_buffered ls b i ≡ true → overlaid ls m b i k ≡ overlaid ls n b i k
unfolding is_buffered overlaid
hidden [] m n b i k h = absurd (both_ways _ refl h)
hidden (l ∷ ls) m n b i k h =
    ⊎_elim
    (λ (on : is_of l b i ≡ true). cond-true _ _ _ on ∙ sym (cond-true _ _ _ on))
    (λ (off : is_of l b i ≡ false). cond-false _ _ _ off ∙ hidden ls m n b i k (sym (cond-false _ _ _ off) ∙ h) ∙ sym (cond-false _ _ _ off))
    (cases_Bool (is_of l b i))

-- contents that agree at a place do so under lines
pub overlaid_at : (ls : List BufferedLine) (m n : Contents) (b i k : ℕ) → m b i k ≡ n b i k → overlaid ls m b i k ≡ overlaid ls n b i k
unfolding overlaid
overlaid_at [] m n b i k e = e
overlaid_at (l ∷ ls) m n b i k e = ap (λ (v : ℕ). cond (is_of l b i) (get_or l.bytes k 0 % 256) v) (overlaid_at ls m n b i k e)

-- which lines are buffered does not change as one is rewritten
buffered_rewritten : (ls : List BufferedLine) (p : Piece) (b i : ℕ) → is_buffered (rewritten ls p) b i ≡ is_buffered ls b i
unfolding is_buffered rewritten
buffered_rewritten [] p b i = refl
buffered_rewritten (l ∷ ls) p b i =
    ⊎_elim
    (λ (on : is_of l p.bank p.index ≡ true). ap (λ (ms : List BufferedLine). is_buffered ms b i) (cond-true _ _ _ on))
    (λ (off : is_of l p.bank p.index ≡ false).
    ap (λ (ms : List BufferedLine). is_buffered ms b i) (cond-false _ _ _ off) ∙ ap (λ (t : Bool). cond (is_of l b i) true t) (buffered_rewritten ls p b i))
    (cases_Bool (is_of l p.bank p.index))

pub orderly_rewritten : (ls : List BufferedLine) (p : Piece) → p.from + length p.bytes ≤ 64 → orderly ls ≡ true → orderly (rewritten ls p) ≡ true
unfolding orderly rewritten
orderly_rewritten [] p h e = refl
orderly_rewritten (l ∷ ls) p h e =
    let a = and_parts _ _ e in
    let b = and_parts _ _ a.1 in
    let len : length l.bytes ≡ 64 = eqb-true (length l.bytes) 64 a.0 in
    ⊎_elim
    (λ (on : is_of l p.bank p.index ≡ true).
    ap orderly (cond-true _ _ _ on)
    ∙ and_from _ _ (eq-eqb _ _ (length-paste l.bytes p.from p.bytes (length p.bytes) (omega arith) (omega arith) ∙ len)) a.1)
    (λ (off : is_of l p.bank p.index ≡ false).
    ap orderly (cond-false _ _ _ off)
    ∙ and_from _ _ a.0 (and_from _ _ (ap not (buffered_rewritten ls p l.bank l.index) ∙ b.0) (orderly_rewritten ls p h b.1)))
    (cases_Bool (is_of l p.bank p.index))

pub of_from : (l : BufferedLine) (b i : ℕ) → l.bank ≡ b → l.index ≡ i → is_of l b i ≡ true
of_from l b i eb ei = and_from _ _ (eq-eqb l.bank b eb) (eq-eqb l.index i ei)

pub of_is : (l : BufferedLine) (b i : ℕ) → is_of l b i ≡ true → (l.bank ≡ b) × (l.index ≡ i)
of_is l b i e = let a = and_parts _ _ e in (eqb-true l.bank b a.0, eqb-true l.index i a.1)

of_swap : (l h : BufferedLine) → is_of h l.bank l.index ≡ false → is_of l h.bank h.index ≡ false
of_swap l h off =
    ⊎_elim
    (λ (on : is_of l h.bank h.index ≡ true).
    let a = of_is l h.bank h.index on in
    absurd (both_ways _ off (of_from h l.bank l.index (sym a.0) (sym a.1))))
    (λ no'. no')
    (cases_Bool (is_of l h.bank h.index))

-- one line more
buffered_push : (ls : List BufferedLine) (l : BufferedLine) (b i : ℕ) → is_buffered (ls ++ l ∷ []) b i ≡ cond (is_buffered ls b i) true (is_of l b i)
unfolding is_buffered
buffered_push [] l b i = ⊎_elim (λ on. cond-true _ _ _ on ∙ sym on) (λ off. cond-false _ _ _ off ∙ sym off) (cases_Bool (is_of l b i))
buffered_push (h ∷ ls) l b i =
    ⊎_elim
    (λ (on : is_of h b i ≡ true). cond-true _ _ _ on ∙ ap (λ (t : Bool). cond t true (is_of l b i)) (sym (cond-true (is_of h b i) true (is_buffered ls b i) on)))
    (λ (off : is_of h b i ≡ false). cond-false _ _ _ off ∙ buffered_push ls l b i ∙ ap (λ (t : Bool). cond t true (is_of l b i)) (sym (cond-false (is_of h b i) true (is_buffered ls b i) off)))
    (cases_Bool (is_of h b i))

pub orderly_push : (ls : List BufferedLine) (l : BufferedLine) → orderly ls ≡ true → is_buffered ls l.bank l.index ≡ false → length l.bytes ≡ 64 → orderly (ls ++ l ∷ []) ≡ true
unfolding orderly is_buffered
orderly_push [] l e off len = and_from _ _ (eq-eqb _ _ len) refl
orderly_push (h ∷ ls) l e off len =
    let a = and_parts _ _ e in
    let b = and_parts _ _ a.1 in
    ⊎_elim
    (λ (on : is_of h l.bank l.index ≡ true). absurd (both_ways _ off (cond-true _ _ _ on)))
    (λ (no' : is_of h l.bank l.index ≡ false).
    let none : is_buffered ls l.bank l.index ≡ false = sym (cond-false _ _ _ no') ∙ off in
    let other : is_of l h.bank h.index ≡ false = of_swap l h no' in
    let apart : is_buffered (ls ++ l ∷ []) h.bank h.index ≡ false =
    buffered_push ls l h.bank h.index ∙ cond-false _ _ _ (not-true _ b.0) ∙ other in
    and_from _ _ a.0 (and_from _ _ (not_from_false _ apart) (orderly_push ls l b.1 none len)))
    (cases_Bool (is_of h l.bank l.index))

pub orderly_drop : (ls : List BufferedLine) (j : ℕ) → orderly ls ≡ true → orderly (drop j ls) ≡ true
unfolding orderly
orderly_drop ls zero e = e
orderly_drop [] (suc j) e = refl
orderly_drop (l ∷ ls) (suc j) e =
    let a = and_parts (eqb (length l.bytes) 64) (not (is_buffered ls l.bank l.index) && orderly ls) e in
    let b = and_parts (not (is_buffered ls l.bank l.index)) (orderly ls) a.1 in
    orderly_drop ls j b.1

-- a part of a line that is buffered, copied
pub part_shown : (ls : List BufferedLine) (p : Piece) (j n : ℕ) (d : BufferedLine) (ys : List ℕ) → FoundAt ls p j → ys ≡ take n (drop p.from (get_or ls j d).bytes)
    → length ys ≡ n → ((k : ℕ) → get_or ys k 0 < 256) → ys ≡ cells (overlaid ls (λ _ _ _. 0)) p.bank p.index p.from n
part_shown ls p j n d ys at e len bytes =
    is_cells ys (overlaid ls (λ _ _ _. 0)) p.bank p.index p.from n len (λ k z hk.
    let h : k < length ys = omega arith in
    let byte : get_or ys k 0 < 256 = bytes k in
    let read : get_or ys k 0 ≡ get_or (get_or ls j d).bytes (p.from + k) 0 =
    ap (λ (l : List ℕ). get_or l k 0) e ∙ get_or-take n (drop p.from (get_or ls j d).bytes) k 0 hk ∙ get_or-drop p.from (get_or ls j d).bytes k 0 in
    let there = at.shows d (λ _ _ _. 0) (p.from + k) in
    let one : get_or ys k 0 ≡ overlaid ls (λ _ _ _. 0) p.bank p.index (p.from + k) = omega (arith, read, there, byte) in
    get_or_default ys k z 0 h ∙ one)

-- a line written in place: `count` of `xs` are buffered
pub part_written : (ls : List BufferedLine) (j k : ℕ) (d : BufferedLine) (p : Piece) (ys : List ℕ) → FoundAt ls p j → ys ≡ p.bytes → k ≡ length p.bytes
    → set ls j (record { bank = (get_or ls j d).bank; index = (get_or ls j d).index; bytes = put_mid p.from k (get_or ls j d).bytes ys }) ≡ rewritten ls p
part_written ls j k d p ys at ey ek =
    let e : ◌≡◌ {A = BufferedLine} (record { bank = (get_or ls j d).bank; index = (get_or ls j d).index; bytes = put_mid p.from k (get_or ls j d).bytes ys }) (with_piece (get_or ls j d) p) =
    ap (λ (bs : List ℕ). let l : BufferedLine = record { bank = (get_or ls j d).bank; index = (get_or ls j d).index; bytes = bs } in l) (put_mid-paste p.from k (get_or ls j d).bytes ys p.bytes (length p.bytes) ey (sym ek) refl) in
    ap (λ (l : BufferedLine). set ls j l) e ∙ sym (at.rewrites d)

-- a place of another bank or index is not covered
pub off_line : (p : Piece) (l : BufferedLine) (b i k : ℕ) → is_of l p.bank p.index ≡ true → is_of l b i ≡ false → covers p b i k ≡ false
off_line p l b i k on off =
    ⊎_elim
    (λ (cov : covers p b i k ≡ true).
    let c = covered_at p b i k cov in
    let h = of_is l p.bank p.index on in
    absurd (both_ways _ off (of_from l b i (h.0 ∙ c.bank_is) (h.1 ∙ c.index_is))))
    (λ no'. no')
    (cases_Bool (covers p b i k))

pub off_line' : (p : Piece) (l : BufferedLine) (b i k : ℕ) → is_of l p.bank p.index ≡ false → is_of l b i ≡ true → covers p b i k ≡ false
off_line' p l b i k off on =
    ⊎_elim
    (λ (cov : covers p b i k ≡ true).
    let c = covered_at p b i k cov in
    let h = of_is l b i on in
    absurd (both_ways _ off (of_from l p.bank p.index (h.0 ∙ sym c.bank_is) (h.1 ∙ sym c.index_is))))
    (λ no'. no')
    (cases_Bool (covers p b i k))

-- a byte of a line with a piece written into it
pub piece_byte : (xs : List ℕ) (p : Piece) (k : ℕ) → p.from + length p.bytes ≤ length xs → ((j : ℕ) → get_or p.bytes j 0 < 256) → p.from ≤ k → k < p.from + length p.bytes
    → get_or (paste xs p.from p.bytes (length p.bytes)) k 0 % 256 ≡ get_or p.bytes (k - p.from) 0
piece_byte xs p k fits bytes low high =
    let byte : get_or p.bytes (k - p.from) 0 < 256 = bytes (k - p.from) in
    let e : get_or (paste xs p.from p.bytes (length p.bytes)) k 0 ≡ get_or p.bytes (k - p.from) 0 = search (rules, places) in
    omega (arith, e, byte)

pub piece_below : (xs : List ℕ) (p : Piece) (k : ℕ) → p.from + length p.bytes ≤ length xs → k < p.from
    → get_or (paste xs p.from p.bytes (length p.bytes)) k 0 ≡ get_or xs k 0
piece_below xs p k fits low = search (rules, places)

pub piece_above : (xs : List ℕ) (p : Piece) (k : ℕ) → p.from + length p.bytes ≤ length xs → p.from + length p.bytes ≤ k
    → get_or (paste xs p.from p.bytes (length p.bytes)) k 0 ≡ get_or xs k 0
piece_above xs p k fits high = search (rules, places)

-- the same of a table's slice, which is lent and given back
pub refilled : (ls lent shown : List BufferedLine) (j k : ℕ) (d : BufferedLine) (p : Piece) (ys : List ℕ) → FoundAt ls p j → lent ≡ ls → shown ≡ ls → ys ≡ p.bytes → k ≡ length p.bytes
    → refill (length ls) ls (set lent j (record { bank = (get_or shown j d).bank; index = (get_or shown j d).index; bytes = put_mid p.from k (get_or shown j d).bytes ys })) ≡ rewritten ls p
refilled ls lent shown j k d p ys at el es ey ek =
    let now : List BufferedLine → List BufferedLine → List BufferedLine =
    λ ms ns. set ms j (record { bank = (get_or ns j d).bank; index = (get_or ns j d).index; bytes = put_mid p.from k (get_or ns j d).bytes ys }) in
    let same : now lent shown ≡ now ls ls = ap₂ now el es in
    let whole : length (now lent shown) ≡ length ls = ap length same ∙ length-set ls j _ in
    take_at (now lent shown) (drop (length (now lent shown)) ls) (length ls) whole ∙ same ∙ part_written ls j k d p ys at ey ek
