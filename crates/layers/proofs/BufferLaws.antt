-- What a put and a settle leave of a memory with lines buffered above it.
use Rattle.std.proofs.Common.{◌≡◌, ℕ, ◌+◌, ◌-◌, ◌%◌, ◌<◌, ◌≤◌, Bool, true, false, cond, not, ◌&&◌, eqb, ltb, leb, List, [], ◌∷◌, ◌++◌, map, length, get_or, take, drop, Some, None, Ok, Err, filter, Result, sym, refl, ap, ◌∙◌, subst, ⊎_elim, arith, MatchResult}
use Rattle.std.proofs.lemmas.Bool.{cond-true, cond-false, and_parts, cases_Bool, cases_lt, eqb-true, both_ways, not-true, leb-true, ltb-true, not_from_true, not_from_false}
use Rattle.std.proofs.lemmas.List.Elements.{filter_more}
use Rattle.std.proofs.lemmas.List.{map-append, append-nil, drop_more, drop_all, take_all}
use Rattle.stack.specs.Memory.{Contents, Meaning, Place, Piece, Put, Sound, covers, over, cells}
use Rattle.stack.specs.Pieces.{Accepted, Puts, done, InOrder}
use Rattle.stack.specs.Refusals.{judged, Stored, Fetched}
use Rattle.stack.specs.declared.refusal.Refusal.{Refusal}
use Rattle.stack.proofs.PieceLaws.{fits, inside, answered, covered_at, covers_from, over_on, over_off, over_at, cells_same}
use Rattle.stack.proofs.RunLaws.{puts_push}
use Rattle.layers.specs.Lines.{is_of, is_buffered, orderly, overlaid, buffering, rewritten, line_of, piece_of, has_room, absorbed, strays, drained}
use Rattle.layers.specs.declared.line.BufferedLine.{BufferedLine}
use Rattle.layers.specs.declared.buffer.LineTable.{LineTable}
use Rattle.layers.specs.declared.buffer.WriteBuffer.{WriteBuffer}
use Rattle.layers.proofs.LineLaws.{of_is, of_from, off_line, off_line', piece_byte, piece_below, piece_above, overlaid_none, overlaid_at, hidden, orderly_drop}

rewritten_over : (ls : List BufferedLine) (m : Contents) (p : Piece) (b i k : ℕ) → orderly ls ≡ true → is_buffered ls p.bank p.index ≡ true → p.from + length p.bytes ≤ 64
    → ((j : ℕ) → get_or p.bytes j 0 < 256) → overlaid (rewritten ls p) m b i k ≡ over (overlaid ls m) p b i k
unfolding orderly is_buffered overlaid rewritten
rewritten_over [] m p b i k o h fits bytes = absurd (both_ways _ refl h)
rewritten_over (l ∷ ls) m p b i k o h fits bytes =
    let a = and_parts (eqb (length l.bytes) 64) (not (is_buffered ls l.bank l.index) && orderly ls) o in
    let a' = and_parts (not (is_buffered ls l.bank l.index)) (orderly ls) a.1 in
    let len : length l.bytes ≡ 64 = eqb-true (length l.bytes) 64 a.0 in
    let long : p.from + length p.bytes ≤ length l.bytes = omega arith in
    ⊎_elim
    (λ (on : is_of l p.bank p.index ≡ true).
    ap (λ (ms : List BufferedLine). overlaid ms m b i k) (cond-true _ _ _ on)
    ∙ ⊎_elim
    (λ (same : is_of l b i ≡ true).
    let at = of_is l b i same in
    let at' = of_is l p.bank p.index on in
    let eb : p.bank ≡ b = sym at'.0 ∙ at.0 in
    let ei : p.index ≡ i = sym at'.1 ∙ at.1 in
    let old : cond (is_of l b i) (get_or l.bytes k 0 % 256) (overlaid ls m b i k) ≡ get_or l.bytes k 0 % 256 = cond-true _ _ _ same in
    cond-true _ _ _ same
    ∙ ⊎_elim
    (λ (cov : covers p b i k ≡ true).
    let c = covered_at p b i k cov in
    piece_byte l.bytes p k long bytes c.low c.high ∙ sym (over_on (overlaid (l ∷ ls) m) p b i k cov))
    (λ (off : covers p b i k ≡ false).
    ⊎_elim
    (λ (low : k < p.from). ap (λ (v : ℕ). v % 256) (piece_below l.bytes p k long low))
    (λ (from' : p.from ≤ k).
    ⊎_elim
    (λ (high : k < p.from + length p.bytes). absurd (both_ways _ off (covers_from p b i k (record { bank_is = eb; index_is = ei; low = from'; high = high }))))
    (λ (above : p.from + length p.bytes ≤ k). ap (λ (v : ℕ). v % 256) (piece_above l.bytes p k long above))
    (cases_lt k (p.from + length p.bytes)))
    (cases_lt k p.from)
    ∙ sym old ∙ sym (over_off (overlaid (l ∷ ls) m) p b i k off))
    (cases_Bool (covers p b i k)))
    (λ (other : is_of l b i ≡ false).
    cond-false _ _ _ other ∙ sym (cond-false _ _ _ other) ∙ sym (over_off (overlaid (l ∷ ls) m) p b i k (off_line p l b i k on other)))
    (cases_Bool (is_of l b i)))
    (λ (off : is_of l p.bank p.index ≡ false).
    ap (λ (ms : List BufferedLine). overlaid ms m b i k) (cond-false _ _ _ off)
    ∙ ⊎_elim
    (λ (same : is_of l b i ≡ true).
    cond-true _ _ _ same ∙ sym (cond-true _ _ _ same) ∙ sym (over_off (overlaid (l ∷ ls) m) p b i k (off_line' p l b i k off same)))
    (λ (other : is_of l b i ≡ false).
    cond-false _ _ _ other ∙ rewritten_over ls m p b i k a'.1 (sym (cond-false _ _ _ off) ∙ h) fits bytes
    ∙ over_at (overlaid ls m) (overlaid (l ∷ ls) m) p b i k (sym (cond-false _ _ _ other)))
    (cases_Bool (is_of l b i)))
    (cases_Bool (is_of l p.bank p.index))

pushed_over : (ls : List BufferedLine) (m : Contents) (p : Piece) (b i k : ℕ) → is_buffered ls p.bank p.index ≡ false → p.from ≡ 0 → length p.bytes ≡ 64 → k < 64
    → ((j : ℕ) → get_or p.bytes j 0 < 256) → overlaid (ls ++ line_of p ∷ []) m b i k ≡ over (overlaid ls m) p b i k
unfolding is_buffered overlaid
pushed_over [] m p b i k h z len low bytes =
    ⊎_elim
    (λ (same : is_of (line_of p) b i ≡ true).
    let at = of_is (line_of p) b i same in
    let e : get_or p.bytes k 0 ≡ get_or p.bytes (k - p.from) 0 = ap (λ (j : ℕ). get_or p.bytes j 0) (omega arith) in
    let byte : get_or p.bytes (k - p.from) 0 < 256 = bytes (k - p.from) in
    let v : get_or p.bytes k 0 % 256 ≡ get_or p.bytes (k - p.from) 0 = omega (arith, e, byte) in
    cond-true _ _ _ same ∙ v ∙ sym (over_on (overlaid [] m) p b i k (covers_from p b i k (record { bank_is = at.0; index_is = at.1; low = omega arith; high = omega arith }))))
    (λ (other : is_of (line_of p) b i ≡ false).
    cond-false _ _ _ other ∙ sym (over_off (overlaid [] m) p b i k (off_line p (line_of p) b i k (of_from (line_of p) p.bank p.index refl refl) other)))
    (cases_Bool (is_of (line_of p) b i))
pushed_over (l ∷ ls) m p b i k h z len low bytes =
    ⊎_elim
    (λ (on : is_of l p.bank p.index ≡ true). absurd (both_ways _ h (cond-true _ _ _ on)))
    (λ (off : is_of l p.bank p.index ≡ false).
    ⊎_elim
    (λ (same : is_of l b i ≡ true).
    cond-true _ _ _ same ∙ sym (cond-true _ _ _ same) ∙ sym (over_off (overlaid (l ∷ ls) m) p b i k (off_line' p l b i k off same)))
    (λ (other : is_of l b i ≡ false).
    cond-false _ _ _ other ∙ pushed_over ls m p b i k (sym (cond-false _ _ _ off) ∙ h) z len low bytes
    ∙ over_at (overlaid ls m) (overlaid (l ∷ ls) m) p b i k (sym (cond-false _ _ _ other)))
    (cases_Bool (is_of l b i)))
    (cases_Bool (is_of l p.bank p.index))

down_over : (ls : List BufferedLine) (m n : Contents) (p : Piece) (b i k : ℕ) → is_buffered ls p.bank p.index ≡ false → n b i k ≡ over m p b i k
    → overlaid ls n b i k ≡ over (overlaid ls m) p b i k
down_over ls m n p b i k h e =
    ⊎_elim
    (λ (cov : covers p b i k ≡ true).
    let c = covered_at p b i k cov in
    let none : is_buffered ls b i ≡ false = ap (λ (x : ℕ). is_buffered ls x i) (sym c.bank_is) ∙ ap (λ (x : ℕ). is_buffered ls p.bank x) (sym c.index_is) ∙ h in
    overlaid_none ls n b i k none ∙ e ∙ over_on m p b i k cov ∙ sym (over_on (overlaid ls m) p b i k cov))
    (λ (off : covers p b i k ≡ false).
    overlaid_at ls n m b i k (e ∙ over_off m p b i k off) ∙ sym (over_off (overlaid ls m) p b i k off))
    (cases_Bool (covers p b i k))

-- which way a put goes
pub absorbed_held : (ls : List BufferedLine) (p : Piece) → is_buffered ls p.bank p.index ≡ true → absorbed ls p ≡ Some (rewritten ls p)
unfolding absorbed
absorbed_held ls p h = cond-true _ _ _ h

pub absorbed_more : (ls : List BufferedLine) (p : Piece) → is_buffered ls p.bank p.index ≡ false → has_room ls p.bank (length p.bytes) ≡ true → absorbed ls p ≡ Some (ls ++ line_of p ∷ [])
unfolding absorbed
absorbed_more ls p h room = cond-false _ _ _ h ∙ cond-true _ _ _ room

pub absorbed_down : (ls : List BufferedLine) (p : Piece) → is_buffered ls p.bank p.index ≡ false → has_room ls p.bank (length p.bytes) ≡ false → absorbed ls p ≡ None
unfolding absorbed
absorbed_down ls p h room = cond-false _ _ _ h ∙ cond-false _ _ _ room

pub room_is : (ls : List BufferedLine) (bank count : ℕ) → has_room ls bank count ≡ true → (64 ≤ bank) × (count ≡ 64) × (length ls < 16)
room_is ls bank count e =
    let a = and_parts (leb 64 bank) (eqb count 64 && ltb (length ls) 16) e in
    let b = and_parts (eqb count 64) (ltb (length ls) 16) a.1 in
    (leb-true 64 bank a.0, eqb-true count 64 b.0, ltb-true (length ls) 16 b.1)

-- what each way leaves
by_over : (ls ms : List BufferedLine) (x : Meaning) (p : Piece) → ((m : Contents) (b i k : ℕ) → k < 64 → overlaid ms m b i k ≡ over (overlaid ls m) p b i k)
    → Put (buffering ls x) p (buffering ms x)
by_over ls ms x p e = record {
  size = refl;
  kept = λ b i k at. e x.kept b i k at.byte_real;
  shown = λ b i k at off. e x.shown b i k at.byte_real ∙ over_off (overlaid ls x.shown) p b i k off;
}

module _ (ls ms : List BufferedLine) (x : Meaning) (p : Piece) (bytes : (j : ℕ) → get_or p.bytes j 0 < 256) where
  pub stores_held : p.from + length p.bytes ≤ 64 → orderly ls ≡ true → is_buffered ls p.bank p.index ≡ true → ms ≡ rewritten ls p → Put (buffering ls x) p (buffering ms x)
  stores_held room o h e =
      subst (λ (ms : List BufferedLine). Put (buffering ls x) p (buffering ms x)) (sym e) (by_over ls (rewritten ls p) x p (λ m b i k _. rewritten_over ls m p b i k o h room bytes))

  pub stores_more : p.from + length p.bytes ≤ 64 → is_buffered ls p.bank p.index ≡ false → length p.bytes ≡ 64 → ms ≡ ls ++ line_of p ∷ [] → Put (buffering ls x) p (buffering ms x)
  stores_more room h len e =
      let z : p.from ≡ 0 = omega arith in
      subst (λ (ms : List BufferedLine). Put (buffering ls x) p (buffering ms x)) (sym e) (by_over ls (ls ++ line_of p ∷ []) x p (λ m b i k low. pushed_over ls m p b i k h z len low bytes))

  pub stores_down : (y : Meaning) → is_buffered ls p.bank p.index ≡ false → Put x p y → ms ≡ ls → Put (buffering ls x) p (buffering ms y)
  stores_down y h put e =
      subst (λ (ms : List BufferedLine). Put (buffering ls x) p (buffering ms y)) (sym e) (record {
        size = put.size;
        kept = λ b i k at. down_over ls x.kept y.kept p b i k h (put.kept b i k at);
        shown = λ b i k at off. overlaid_at ls y.shown x.shown b i k (put.shown b i k at off);
      })

-- what a fetch of a buffered line gives, and of one that is not
pub cells_held : (ls : List BufferedLine) (m : Contents) (b i from count : ℕ) → is_buffered ls b i ≡ true → cells (overlaid ls (λ _ _ _. 0)) b i from count ≡ cells (overlaid ls m) b i from count
cells_held ls m b i from count h = cells_same (overlaid ls (λ _ _ _. 0)) (overlaid ls m) b i from count (λ k _ _. hidden ls (λ _ _ _. 0) m b i k h)

pub cells_free : (ls : List BufferedLine) (m : Contents) (b i from count : ℕ) → is_buffered ls b i ≡ false → cells m b i from count ≡ cells (overlaid ls m) b i from count
cells_free ls m b i from count h = cells_same m (overlaid ls m) b i from count (λ k _ _. sym (overlaid_none ls m b i k h))

-- the first of the lines put down: what is buffered over what is below stays
settled_over : (r : ℕ) (l : BufferedLine) (ls : List BufferedLine) (m n : Contents) (b i k : ℕ) → orderly (l ∷ ls) ≡ true → Place r b i k → n b i k < 256
    → (strays r l ≡ false → n b i k ≡ over m (piece_of l) b i k)
    → (strays r l ≡ true → n b i k ≡ m b i k)
    → overlaid ls n b i k ≡ overlaid (l ∷ ls) m b i k
unfolding overlaid orderly
settled_over r l ls m n b i k o real byte put refused =
    let a = and_parts (eqb (length l.bytes) 64) (not (is_buffered ls l.bank l.index) && orderly ls) o in
    let a' = and_parts (not (is_buffered ls l.bank l.index)) (orderly ls) a.1 in
    let len : length l.bytes ≡ 64 = eqb-true (length l.bytes) 64 a.0 in
    let p : Piece = piece_of l in
    let away : covers p b i k ≡ false → n b i k ≡ m b i k =
    λ off. ⊎_elim (λ out. refused out) (λ in'. put in' ∙ over_off m p b i k off) (cases_Bool (strays r l)) in
    ⊎_elim
    (λ (same : is_of l b i ≡ true).
    let at = of_is l b i same in
    let eb = at.0 in
    let ei = at.1 in
    let none : is_buffered ls b i ≡ false = ap (λ (x : ℕ). is_buffered ls x i) (sym eb) ∙ ap (λ (x : ℕ). is_buffered ls l.bank x) (sym ei) ∙ not-true _ a'.0 in
    let lies : strays r l ≡ false = inside (record { bank_real = omega (arith, real.bank_real); index_real = omega (arith, real.index_real); some = omega arith; room = omega arith }) in
    let cov : covers p b i k ≡ true = covers_from p b i k (record { bank_is = eb; index_is = ei; low = omega arith; high = omega (arith, real.byte_real) }) in
    let value : n b i k ≡ get_or l.bytes (k - 0) 0 = put lies ∙ over_on m p b i k cov in
    let at_k : get_or l.bytes (k - 0) 0 ≡ get_or l.bytes k 0 = ap (λ (x : ℕ). get_or l.bytes x 0) (omega arith) in
    let whole : n b i k ≡ get_or l.bytes k 0 % 256 = omega (arith, value, at_k, byte) in
    overlaid_none ls n b i k none ∙ whole ∙ sym (cond-true _ _ _ same))
    (λ (other : is_of l b i ≡ false).
    overlaid_at ls n m b i k (away (off_line p l b i k (of_from l l.bank l.index refl refl) other)) ∙ sym (cond-false _ _ _ other))
    (cases_Bool (is_of l b i))

-- one line more is put down
drained_more : (r : ℕ) (ls : List BufferedLine) (j : ℕ) (d : BufferedLine) → j < length ls
    → drained r (take (j + 1) ls) ≡ drained r (take j ls) ++ cond (strays r (get_or ls j d)) [] (piece_of (get_or ls j d) ∷ [])
unfolding drained
drained_more r ls j d h =
    let test : BufferedLine → Bool = λ l. not (strays r l) in
    let l = get_or ls j d in
    ap (λ (ms : List BufferedLine). map piece_of ms) (filter_more test ls j d h)
    ∙ map-append piece_of (filter test (take j ls)) (cond (test l) (l ∷ []) [])
    ∙ ap (λ (ps : List Piece). map piece_of (filter test (take j ls)) ++ ps)
    (⊎_elim
    (λ (out : strays r (get_or ls j d) ≡ true).
    ap (λ (ms : List BufferedLine). map piece_of ms) (cond-false _ _ _ (not_from_true _ out)) ∙ sym (cond-true _ _ _ out))
    (λ (in' : strays r (get_or ls j d) ≡ false).
    ap (λ (ms : List BufferedLine). map piece_of ms) (cond-true _ _ _ (not_from_false _ in')) ∙ sym (cond-false _ _ _ in'))
    (cases_Bool (strays r (get_or ls j d))))

puts_more : {X : Type 0} {puts : X → Piece → X → Type 0} (r : ℕ) (ls : List BufferedLine) (j : ℕ) (d : BufferedLine) (x y z : X) → j < length ls → Puts puts x (drained r (take j ls)) y
    → (strays r (get_or ls j d) ≡ false → puts y (piece_of (get_or ls j d)) z)
    → (strays r (get_or ls j d) ≡ true → z ≡ y)
    → Puts puts x (drained r (take (j + 1) ls)) z
puts_more {X} {puts} r ls j d x y z h so put refused =
    let l = get_or ls j d in
    let so_far = drained r (take j ls) in
    let F : List Piece → Type 0 = λ ps. Puts puts x ps z in
    ⊎_elim
    (λ (out : strays r (get_or ls j d) ≡ true).
    let e : drained r (take (j + 1) ls) ≡ drained r (take j ls) = drained_more r ls j d h ∙ ap (λ (ps : List Piece). so_far ++ ps) (cond-true _ _ _ out) ∙ append-nil so_far in
    subst F (sym e) (subst (λ (w : X). Puts puts x (drained r (take j ls)) w) (sym (refused out)) so))
    (λ (in' : strays r (get_or ls j d) ≡ false).
    let e : drained r (take (j + 1) ls) ≡ drained r (take j ls) ++ piece_of l ∷ [] = drained_more r ls j d h ∙ ap (λ (ps : List Piece). so_far ++ ps) (cond-false _ _ _ in') in
    subst F (sym e) (puts_push so (put in')))
    (cases_Bool (strays r (get_or ls j d)))

-- a settle that has put down the first j lines: x as it began, y by now
pub record Draining {X : Type 0} (means : X → Meaning) (puts : X → Piece → X → Type 0) (ls : List BufferedLine) (j : ℕ) (x y : X) : Type 0 where
  pub size : (means y).size ≡ (means x).size
  pub kept : (b i k : ℕ) → Place (means x).size b i k → overlaid (drop j ls) (means y).kept b i k ≡ overlaid ls (means x).kept b i k
  pub run : InOrder means puts x (drained (means x).size (take j ls)) y

module _ {X : Type 0} {means : X → Meaning} {puts : X → Piece → X → Type 0} where
  pub draining_none : (ls : List BufferedLine) (x : X) → Draining means puts ls 0 x x
  unfolding drained
  draining_none ls x = record { size = refl; kept = λ b i k at. refl; run = done }

  -- one turn: y before it, z after it
  pub draining_more : ((x : X) → Sound (means x)) → (ls : List BufferedLine) (j : ℕ) (l : BufferedLine) (x y z : X) (res : Result (Unit {0}) Refusal)
      → orderly ls ≡ true → j < length ls → l ≡ get_or ls j l → Draining means puts ls j x y
      → res ≡ judged (strays (means y).size l) → Stored res means puts y (piece_of l) z
      → Draining means puts ls (j + 1) x z
  draining_more sound ls j l x y z res o h read so refuses stores =
      let r = (means x).size in
      let e : res ≡ judged (strays (means x).size l) = refuses ∙ ap (λ (q : ℕ). judged (strays q l)) so.size in
      let st = answered {P = Accepted means puts y (piece_of l) z} {Q = z ≡ y} (strays r l) res e stores in
      let split : drop j ls ≡ l ∷ drop (j + 1) ls = drop_more ls j l h ∙ ap (λ (q : BufferedLine). q ∷ drop (j + 1) ls) (sym read) in
      let rest : orderly (l ∷ drop (j + 1) ls) ≡ true = ap orderly (sym split) ∙ orderly_drop ls j o in
      let size : (means z).size ≡ (means x).size = ⊎_elim (λ out. ap (λ (w : X). (means w).size) (st.1 out) ∙ so.size) (λ in'. (st.0 in').stores.size ∙ so.size) (cases_Bool (strays r l)) in
      let F : BufferedLine → Type 0 = λ q. strays r q ≡ false → Accepted means puts y (piece_of q) z in
      let G : BufferedLine → Type 0 = λ q. strays r q ≡ true → z ≡ y in
      record {
        size = size;
        kept = λ b i k at.
            settled_over r l (drop (j + 1) ls) (means y).kept (means z).kept b i k rest at
            ((sound z).kept_byte b i k (subst (λ (q : ℕ). Place q b i k) (sym size) at))
            (λ in'. (st.0 in').stores.kept b i k (subst (λ (q : ℕ). Place q b i k) (sym so.size) at))
            (λ out. ap (λ (w : X). (means w).kept b i k) (st.1 out))
            ∙ ap (λ (ms : List BufferedLine). overlaid ms (means y).kept b i k) (sym split)
            ∙ so.kept b i k at;
        run = puts_more r ls j l x y z h so.run (subst F read st.0) (subst G read st.1);
      }

  -- every line is put down
  pub draining_all : (ls : List BufferedLine) (j : ℕ) (x y : X) → length ls ≤ j → Draining means puts ls j x y
      → ((b i k : ℕ) → Place (means x).size b i k → (means y).kept b i k ≡ overlaid ls (means x).kept b i k) × InOrder means puts x (drained (means x).size ls) y
  unfolding overlaid
  draining_all ls j x y h so = (
    (λ b i k at. ap (λ (ms : List BufferedLine). overlaid ms (means y).kept b i k) (sym (drop_all j ls h)) ∙ so.kept b i k at),
    subst (λ (ms : List BufferedLine). InOrder means puts x (drained (means x).size ms) y) (take_all j ls h) so.run,
  )

-- a fetch that goes down, by its answer
pub fetched_down : (ls : List BufferedLine) (m : Contents) (b i from : ℕ) (xs ys zs : List ℕ) (r : Result (Unit {0}) Refusal) → is_buffered ls b i ≡ false → ys ≡ xs
    → Fetched r m b i from ys zs → Fetched r (overlaid ls m) b i from xs zs
fetched_down ls m b i from xs ys zs (Ok x) h e f = f ∙ ap (λ (ws : List ℕ). cells m b i from (length ws)) e ∙ cells_free ls m b i from (length xs) h
fetched_down ls m b i from xs ys zs (Err x) h e f = f ∙ e

-- a put by its answer
pub stored_by : {P Q P' Q' : Type 0} (r : Result (Unit {0}) Refusal) → MatchResult r (λ _. P) (λ _. Q) → (P → P') → (Q → Q') → MatchResult r (λ _. P') (λ _. Q')
stored_by (Ok x) c f g = f c
stored_by (Err x) c f g = g c

-- a buffer is as it was where its parts are
pub same_buffer : {X : Type 0} {b b' : X} {t t' : LineTable} → b ≡ b' → t ≡ t' → ◌≡◌ {A = WriteBuffer X} (record { below = b; table = t }) (record { below = b'; table = t' })
same_buffer p q = cc
