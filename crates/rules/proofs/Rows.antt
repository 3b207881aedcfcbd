-- The rows that the code builds from lines in a work buffer.
use Rattle.std.proofs.Common.{◌≡◌, ℕ, zero, suc, ◌+◌, ◌-◌, ◌*◌, ◌/◌, ◌%◌, ◌<◌, ◌≤◌, false, cond, eqb, ◌⊎◌, List, [], ◌∷◌, ◌++◌, map, length, get_or, take, drop, Some, None, Option, sym, refl, ap, ◌∙◌, ap₂, inl, inr, mul-le-mul_right, add-mul, one-mul, zero-add, add-one-le, one-add, arith}
use lib.Bits.{bit_xor, xor_zero_r}
use Rattle.std.specs.List.{range_with_len}
use Rattle.std.proofs.lemmas.Bool.{cases_eq, cases_lt, eq-eqb, ne_eqb, or_from, or_parts}
use Rattle.rules.proofs.Laying.{elsewhere}
use Rattle.codec.proofs.Distance.{distance_same, distance_differ}
use borrow.Rule.Slice.PartMut.{put_mid, post_of}
use Rattle.std.proofs.lemmas.List.{drop_more, length-append, length-drop, length-take-le, get_or_append_left, get_or-append_right, get_or-take}
use Rattle.std.proofs.lemmas.List.FromFn.{fill_by_all, length-map-range_with_len, get_or-map-range_with_len}
use Rattle.rules.proofs.Xor.{each_map, xor_cong}
use Rattle.rules.proofs.Geometry.{Real, Member, each_member}
use Rattle.rules.proofs.Gathering.{counting_split, xor_append}
use Rattle.codec.specs.Check.{check}
use Rattle.codec.specs.Word.{distance}
use Rattle.rules.specs.Places.{group_count, group_start, image_by, members, xor_over}
use Rattle.rules.specs.Rules.{Part, along, along_banks, otherwise, otherwise_part, piece_at, row}
use Rattle.rules.specs.Work.{slot, slots}
use Rattle.rules.specs.declared.roles.Role.TheVariants.{Fifth, First, Line, Parity, Retired, Second}
use Rattle.stack.specs.Memory.{Contents, Piece, covers, piece}
use Rattle.stack.specs.Pieces.{covered}

group_members : (ms : List ℕ) (q : ℕ) → range_with_len (group_start ms (32 * q)) (group_count ms) ≡ members ms q
group_members [] q = let e : 32 * (32 * q / 32) ≡ 32 * q = omega arith in ap (λ n. range_with_len n 32) e
group_members (m ∷ ms) q = refl

-- a bank's row, by what it holds
slots_at : (w : List ℕ) (j x : ℕ) → x < 64 → slot w x ≡ slots w (64 * j + x)
slots_at w j x h = let e : x ≡ (64 * j + x) % 64 = omega arith in ap (slot w) e

module _ (ms : List ℕ) (w : List ℕ) (j k : ℕ) (h : k < 64) where
  pub row_line : (b v : ℕ) → Real ms (Line b) → v ≡ get_or (slot w b) k 0 → v ≡ image_by ms (slots w) j k (Line b)
  unfolding image_by
  row_line b v s e = e ∙ ap (λ l. get_or l k 0) (slots_at w j b s)

  pub row_first : (q v : ℕ) → Real ms (First q) → v ≡ get_or (check (slot w (16 * q + k / 4))) (0 + k % 4) 0 → v ≡ image_by ms (slots w) j k (First q)
  unfolding image_by
  row_first q v s e =
      let z : 0 + k % 4 ≡ k % 4 = omega arith in
      e ∙ ap₂ (λ l n. get_or (check l) n 0) (slots_at w j (16 * q + k / 4) (omega arith)) z

  pub row_second : (q v : ℕ) → Real ms (Second q) → v ≡ get_or (check (slot w (32 * q + k / 2))) (4 + k % 2) 0 → v ≡ image_by ms (slots w) j k (Second q)
  unfolding image_by
  row_second q v s e =
      let low = s.0 in
      e ∙ ap (λ l. get_or (check l) (4 + k % 2) 0) (slots_at w j (32 * q + k / 2) (omega arith))

  pub row_fifth : (v : ℕ) → v ≡ get_or (check (slot w (0 + k / 1))) (4 + k % 1) 0 → v ≡ image_by ms (slots w) j k Fifth
  unfolding image_by
  row_fifth v e =
      let x : 0 + k / 1 ≡ k = omega arith in
      let n : 4 + k % 1 ≡ 4 = omega arith in
      e ∙ ap₂ (λ y z. get_or (check (slot w y)) z 0) x n ∙ ap (λ l. get_or (check l) 4 0) (slots_at w j k h)

  pub row_parity : (q v : ℕ) → Real ms (Parity q) → v ≡ xor_over (λ b. get_or (slot w b) k 0) (range_with_len (group_start ms (32 * q)) (group_count ms))
      → v ≡ image_by ms (slots w) j k (Parity q)
  unfolding image_by
  row_parity q v s e =
      e ∙ ap (xor_over (λ b. get_or (slot w b) k 0)) (group_members ms q)
      ∙ xor_cong (λ b. get_or (slot w b) k 0) (λ b. get_or (slots w (64 * j + b)) k 0) (members ms q)
      (each_map (Member ms q) (λ b. get_or (slot w b) k 0 ≡ get_or (slots w (64 * j + b)) k 0) (members ms q)
      (λ x m. ap (λ l. get_or l k 0) (slots_at w j x m.low)) (each_member ms q s))

  pub row_retired : (v : ℕ) → v ≡ 0 → v ≡ image_by ms (slots w) j k Retired
  unfolding image_by
  row_retired v e = e

-- one line more in a sum
pub xor_more : (f : ℕ → ℕ) (lo n : ℕ) → xor_over f (range_with_len lo (n + 1)) ≡ bit_xor (xor_over f (range_with_len lo n)) (f (lo + n))
xor_more f lo n =
    ap (xor_over f) (counting_split lo n 1) ∙ xor_append f (range_with_len lo n) (range_with_len (lo + n) 1)
    ∙ ap (bit_xor (xor_over f (range_with_len lo n))) (xor_zero_r (f (lo + n)))

-- how many bytes differ, one after the other
pub distance_more : (xs ys : List ℕ) (i : ℕ) → i < length xs → i < length ys
    → distance (drop i xs) (drop i ys) ≡ cond (eqb (get_or xs i 0) (get_or ys i 0)) 0 1 + distance (drop (i + 1) xs) (drop (i + 1) ys)
distance_more xs ys i hx hy =
    let x : ℕ = get_or xs i 0 in
    let y : ℕ = get_or ys i 0 in
    let d : ℕ = distance (drop (i + 1) xs) (drop (i + 1) ys) in
    ap₂ distance (drop_more xs i 0 hx) (drop_more ys i 0 hy)
    ∙ elim (cases_eq x y) [
      | inl e ↦ distance_same x y (drop (i + 1) xs) (drop (i + 1) ys) e ∙ rw (eq-eqb x y e) (sym (zero-add d))
      | inr n ↦ distance_differ x y (drop (i + 1) xs) (drop (i + 1) ys) n ∙ rw (ne_eqb x y n) (sym (one-add d))
    ]

-- bank after bank: what was shown otherwise, what is not covered
pub otherwise_more : (shown : Contents) (j : ℕ) (p : ℕ → Option Part) (a n : ℕ)
    → otherwise shown j p (range_with_len a (suc n)) ≡ otherwise shown j p (range_with_len a n) + otherwise_part shown j (a + n) (p (a + n))
unfolding otherwise
otherwise_more shown j p a zero =
    let e : a ≡ a + 0 = omega arith in
    ap (λ x. otherwise_part shown j x (p x) + 0) e ∙ omega arith
otherwise_more shown j p a (suc n) =
    let e : a + 1 + n ≡ a + suc n = omega arith in
    let P : ℕ = otherwise_part shown j a (p a) in
    let Q : ℕ = otherwise shown j p (range_with_len (a + 1) n) in
    ap (λ x. P + x) (otherwise_more shown j p (a + 1) n ∙ ap (λ x. Q + otherwise_part shown j x (p x)) e)
    ∙ omega arith

pub otherwise_none : (shown : Contents) (j : ℕ) (p : ℕ → Option Part) → 0 ≡ otherwise shown j p (range_with_len 0 0)
unfolding otherwise
otherwise_none shown j p = refl

pub otherwise_cong : (shown : Contents) (j : ℕ) (p q : ℕ → Option Part) (a n : ℕ) → ((b : ℕ) → a ≤ b → b < a + n → p b ≡ q b)
    → otherwise shown j p (range_with_len a n) ≡ otherwise shown j q (range_with_len a n)
unfolding otherwise
otherwise_cong shown j p q a zero h = refl
otherwise_cong shown j p q a (suc n) h =
    ap₂ (λ o r. otherwise_part shown j a o + r) (h a (omega arith) (omega arith))
    (otherwise_cong shown j p q (a + 1) n (λ b l u. h b (omega arith) (omega arith)))

pub banks_cong : (j : ℕ) (p q : ℕ → Option Part) (a n : ℕ) → ((b : ℕ) → a ≤ b → b < a + n → p b ≡ q b)
    → along_banks p j (range_with_len a n) ≡ along_banks q j (range_with_len a n)
unfolding along_banks
banks_cong j p q a zero h = refl
banks_cong j p q a (suc n) h =
    ap₂ (λ o r. piece_at o j a r) (h a (omega arith) (omega arith)) (banks_cong j p q (a + 1) n (λ b l u. h b (omega arith) (omega arith)))

piece_out : (o : Option Part) (j b : ℕ) (rest : List Piece) (c i k : ℕ) → (b ≡ c → ⊥) ⊎ (j ≡ i → ⊥) → covered rest c i k ≡ false → covered (piece_at o j b rest) c i k ≡ false
unfolding covered
piece_out None j b rest c i k n u = u
piece_out (Some p) j b rest c i k (inl n) u = or_from _ _ (elsewhere (piece b j p.from p.bytes) c i k (λ w. n w.bank_is)) u
piece_out (Some p) j b rest c i k (inr n) u = or_from _ _ (elsewhere (piece b j p.from p.bytes) c i k (λ w. n w.index_is)) u

pub banks_out : (p : ℕ → Option Part) (j a n c i k : ℕ) → (a + n ≤ c) ⊎ (j ≡ i → ⊥) → covered (along_banks p j (range_with_len a n)) c i k ≡ false
unfolding along_banks covered
banks_out p j a zero c i k n = refl
banks_out p j a (suc n) c i k (inl l) =
    piece_out (p a) j a (along_banks p j (range_with_len (a + 1) n)) c i k (inl (λ e. omega arith)) (banks_out p j (a + 1) n c i k (inl (omega arith)))
banks_out p j a (suc n) c i k (inr l) =
    piece_out (p a) j a (along_banks p j (range_with_len (a + 1) n)) c i k (inr l) (banks_out p j (a + 1) n c i k (inr l))

append_out : (ps qs : List Piece) (c i k : ℕ) → covered ps c i k ≡ false → covered qs c i k ≡ false → covered (ps ++ qs) c i k ≡ false
unfolding covered
append_out [] qs c i k u v = v
append_out (p ∷ ps) qs c i k u v =
    let w = or_parts (covers p c i k) (covered ps c i k) u in
    or_from _ _ w.0 (append_out ps qs c i k w.1 v)

pub along_out : (p : ℕ → ℕ → Option Part) (a n c i k : ℕ) → a + n ≤ i → covered (along p (range_with_len a n)) c i k ≡ false
unfolding along covered
along_out p a zero c i k h = refl
along_out p a (suc n) c i k h =
    append_out (along_banks (p a) a (range_with_len 0 72)) (along p (range_with_len (a + 1) n)) c i k
    (banks_out (p a) a 0 72 c i k (inr (λ e. omega arith))) (along_out p (a + 1) n c i k (omega arith))

-- two functions that agree below n give one list
pub map_same : (f g : ℕ → ℕ) (n : ℕ) → ((k : ℕ) → k < n → f k ≡ g k) → map f (range_with_len 0 n) ≡ map g (range_with_len 0 n)
map_same f g n h =
    fill_by_all g (map f (range_with_len 0 n)) n 0 (length-map-range_with_len f 0 n)
    (λ k l. get_or-map-range_with_len f 0 n k k 0 l (omega arith) ∙ h k l)

-- a row filled piece after piece, each of the same length
pub chunk_room : (n lines per : ℕ) → n < lines → lines * per ≡ 64 → n * per + per ≤ 64
chunk_room n lines per h e = omega (arith, mul-le-mul_right per (add-one-le h), add-mul n 1 per, one-mul per)

pub length_chunk : (a k : ℕ) (xs ys : List ℕ) → a + k ≤ length xs → length ys ≡ k → length (put_mid a k xs ys) ≡ length xs
length_chunk a k xs ys h l =
    let post : List ℕ = post_of a k xs in
    omega (arith, length-append (take a xs) (ys ++ post), length-append ys post, length-take-le a xs (omega arith), length-drop k (drop a xs), length-drop a xs)

pub chunk_more : (f : ℕ → ℕ) (row piece : List ℕ) (n per m : ℕ) → n * per + per ≤ length row → length piece ≡ per
    → ((k : ℕ) → k < n * per → get_or row k 0 ≡ f k) → ((r : ℕ) → r < per → get_or piece r 0 ≡ f (n * per + r))
    → (k : ℕ) → k < (n + 1) * per → get_or (put_mid (n * per) m row piece) k 0 ≡ f k
chunk_more f row piece n per m room long old new k h =
    let a : ℕ = n * per in
    let lt : length (take a row) ≡ a = length-take-le a row (omega arith) in
    let all : (n + 1) * per ≡ a + per = add-mul n 1 per ∙ ap (λ x. a + x) (one-mul per) in
    elim (cases_lt k a) [
      | inl u ↦ get_or_append_left (take a row) (piece ++ post_of a m row) 0 k (omega arith) ∙ get_or-take a row k 0 u ∙ old k u
      | inr u ↦
          let e : a + (k - a) ≡ k = omega arith in
          get_or-append_right (take a row) (piece ++ post_of a m row) a k 0 lt u
          ∙ get_or_append_left piece (post_of a m row) 0 (k - a) (omega arith) ∙ new (k - a) (omega arith) ∙ ap f e
    ]
