-- What is kept after the pieces of a plan were put, index by index and bank by bank.
use Rattle.std.proofs.Common.{◌≡◌, ℕ, zero, suc, ◌+◌, ◌-◌, ◌<◌, ◌≤◌, Bool, false, cond, ◌&&◌, ltb, leb, ◌⊎◌, List, [], ◌∷◌, ◌++◌, length, get_or, Some, None, Option, sym, refl, ap, ◌∙◌, inl, inr, arith}
use Rattle.std.specs.List.{range_with_len}
use Rattle.std.proofs.lemmas.Bool.{cases_Bool, cases_eq, lt-ltb, le-ltb, le-leb, lt-leb, leb-true, ltb-true, both_ways, cond-true, cond-false, and_from, and_parts, and_left, and_right}
use Rattle.std.proofs.lemmas.List.{append-nil}
use Rattle.rules.specs.Rules.{Part, along, along_banks, part, piece_at}
use Rattle.stack.proofs.PieceLaws.{Within, covered_at, covers_from, over_off, over_on}
use Rattle.stack.proofs.RunLaws.{after_join}
use Rattle.stack.specs.Memory.{Contents, Piece, covers, over, piece}
use Rattle.stack.specs.Pieces.{after}

-- a byte number is one of n from another on
abbrev pub numbered : ℕ → ℕ → ℕ → Bool
numbered from n k = leb from k && ltb k (from + n)

-- one part over what was kept
abbrev pub lay : Option Part → ℕ → ℕ → ℕ
lay None k old = old
lay (Some p) k old = cond (numbered p.from (length p.bytes) k) (get_or p.bytes (k - p.from) 0) old

pub lay_in : (from : ℕ) (bytes : List ℕ) (k old : ℕ) → from ≤ k → k < from + length bytes → lay (part from bytes) k old ≡ get_or bytes (k - from) 0
lay_in from bytes k old l u =
    cond-true (numbered from (length bytes) k) _ old (and_from (leb from k) (ltb k (from + length bytes)) (le-leb from k l) (lt-ltb k (from + length bytes) u))

pub lay_out : (from : ℕ) (bytes : List ℕ) (k old : ℕ) → (k < from) ⊎ (from + length bytes ≤ k) → lay (part from bytes) k old ≡ old
lay_out from bytes k old (inl l) =
    cond-false (numbered from (length bytes) k) _ old (and_left (leb from k) (ltb k (from + length bytes)) (lt-leb from k l))
lay_out from bytes k old (inr u) =
    cond-false (numbered from (length bytes) k) _ old (and_right (leb from k) (ltb k (from + length bytes)) (le-ltb k (from + length bytes) u))

-- one bank of one index put
abbrev put_one : Option Part → ℕ → ℕ → Contents → Contents
put_one None j b f = f
put_one (Some p) j b f = over f (piece b j p.from p.bytes)

after_piece : (o : Option Part) (f : Contents) (j b : ℕ) (rest : List Piece) (c i k : ℕ)
    → after f (piece_at o j b rest) c i k ≡ after (put_one o j b f) rest c i k
unfolding after
after_piece None f j b rest c i k = refl
after_piece (Some p) f j b rest c i k = refl

-- a piece does not lie on a place of another bank, index or byte
pub elsewhere : (p : Piece) (b i k : ℕ) → (Within p.bank p.index p.from (length p.bytes) b i k → ⊥) → covers p b i k ≡ false
elsewhere p b i k off = elim (cases_Bool (covers p b i k)) [ inl t ↦ absurd (off (covered_at p b i k t)) | inr f ↦ f ]

put_here : (o : Option Part) (f : Contents) (i b k : ℕ) → put_one o i b f b i k ≡ lay o k (f b i k)
put_here None f i b k = refl
put_here (Some p) f i b k =
    let P : Piece = piece b i p.from p.bytes in
    let n : ℕ = length p.bytes in
    elim (cases_Bool (numbered p.from n k)) [
      | inl t ↦
          let w = and_parts (leb p.from k) (ltb k (p.from + n)) t in
          over_on f P b i k (covers_from P b i k (record { bank_is = refl; index_is = refl; low = leb-true p.from k w.0; high = ltb-true k (p.from + n) w.1 }))
          ∙ sym (cond-true (numbered p.from n k) _ _ t)
      | inr t ↦
          over_off f P b i k (elsewhere P b i k (λ w. both_ways (numbered p.from n k) t (and_from _ _ (le-leb p.from k w.low) (lt-ltb k (p.from + n) w.high))))
          ∙ sym (cond-false (numbered p.from n k) _ _ t)
    ]

put_bank : (o : Option Part) (f : Contents) (j b c i k : ℕ) → (c ≡ b → ⊥) → put_one o j b f c i k ≡ f c i k
put_bank None f j b c i k n = refl
put_bank (Some p) f j b c i k n = let P : Piece = piece b j p.from p.bytes in over_off f P c i k (elsewhere P c i k (λ w. n (sym w.bank_is)))

put_index : (o : Option Part) (f : Contents) (j b c i k : ℕ) → (i ≡ j → ⊥) → put_one o j b f c i k ≡ f c i k
put_index None f j b c i k n = refl
put_index (Some p) f j b c i k n = let P : Piece = piece b j p.from p.bytes in over_off f P c i k (elsewhere P c i k (λ w. n (sym w.index_is)))

pub after_none : (f : Contents) (c i k : ℕ) → after f [] c i k ≡ f c i k
unfolding after
after_none f c i k = refl

banks_index : (p : ℕ → Option Part) (f : Contents) (j : ℕ) (bs : List ℕ) (c i k : ℕ) → (i ≡ j → ⊥) → after f (along_banks p j bs) c i k ≡ f c i k
unfolding along_banks
banks_index p f j [] c i k n = after_none f c i k
banks_index p f j (b ∷ bs) c i k n =
    after_piece (p b) f j b (along_banks p j bs) c i k
    ∙ banks_index p (put_one (p b) j b f) j bs c i k n ∙ put_index (p b) f j b c i k n

banks_below : (p : ℕ → Option Part) (f : Contents) (j a n c i k : ℕ) → c < a → after f (along_banks p j (range_with_len a n)) c i k ≡ f c i k
unfolding along_banks
banks_below p f j a zero c i k h = after_none f c i k
banks_below p f j a (suc n) c i k h =
    after_piece (p a) f j a (along_banks p j (range_with_len (a + 1) n)) c i k
    ∙ banks_below p (put_one (p a) j a f) j (a + 1) n c i k (omega arith) ∙ put_bank (p a) f j a c i k (λ e. omega arith)

banks_here : (p : ℕ → Option Part) (f : Contents) (a n c i k : ℕ) → a ≤ c → c < a + n
    → after f (along_banks p i (range_with_len a n)) c i k ≡ lay (p c) k (f c i k)
unfolding along_banks
banks_here p f a zero c i k l u = absurd (omega arith)
banks_here p f a (suc n) c i k l u =
    after_piece (p a) f i a (along_banks p i (range_with_len (a + 1) n)) c i k
    ∙ elim (cases_eq a c) [
      | inl e ↦ banks_below p (put_one (p a) i a f) i (a + 1) n c i k (omega arith)
          ∙ rw e (put_here (p c) f i c k)
      | inr ne ↦ banks_here p (put_one (p a) i a f) (a + 1) n c i k (omega arith) (omega arith)
          ∙ ap (lay (p c) k) (put_bank (p a) f i a c i k (λ e. ne (sym e)))
    ]

along_below : (p : ℕ → ℕ → Option Part) (f : Contents) (a n c i k : ℕ) → i < a → after f (along p (range_with_len a n)) c i k ≡ f c i k
unfolding along
along_below p f a zero c i k h = after_none f c i k
along_below p f a (suc n) c i k h =
    after_join (along_banks (p a) a (range_with_len 0 72)) (along p (range_with_len (a + 1) n)) f c i k
    ∙ along_below p (after f (along_banks (p a) a (range_with_len 0 72))) (a + 1) n c i k (omega arith)
    ∙ banks_index (p a) f a (range_with_len 0 72) c i k (λ e. omega arith)

pub along_here : (p : ℕ → ℕ → Option Part) (f : Contents) (a n c i k : ℕ) → a ≤ i → i < a + n → c < 72
    → after f (along p (range_with_len a n)) c i k ≡ lay (p i c) k (f c i k)
unfolding along
along_here p f a zero c i k l u h = absurd (omega arith)
along_here p f a (suc n) c i k l u h =
    after_join (along_banks (p a) a (range_with_len 0 72)) (along p (range_with_len (a + 1) n)) f c i k
    ∙ elim (cases_eq a i) [
      | inl e ↦ along_below p (after f (along_banks (p a) a (range_with_len 0 72))) (a + 1) n c i k (omega arith)
          ∙ rw e (banks_here (p i) f 0 72 c i k (omega arith) (omega arith))
      | inr ne ↦ along_here p (after f (along_banks (p a) a (range_with_len 0 72))) (a + 1) n c i k (omega arith) (omega arith) h
          ∙ ap (lay (p i c) k) (banks_index (p a) f a (range_with_len 0 72) c i k (λ e. ne (sym e)))
    ]

piece_append : (o : Option Part) (j b : ℕ) (ps qs : List Piece) → piece_at o j b (ps ++ qs) ≡ piece_at o j b ps ++ qs
piece_append None j b ps qs = refl
piece_append (Some p) j b ps qs = refl

-- one bank more
pub along_banks_more : (p : ℕ → Option Part) (j a n : ℕ)
    → along_banks p j (range_with_len a (suc n)) ≡ along_banks p j (range_with_len a n) ++ piece_at (p (a + n)) j (a + n) []
unfolding along_banks
along_banks_more p j a zero = ap (λ x. piece_at (p x) j x []) (omega arith)
along_banks_more p j a (suc n) =
    ap (piece_at (p a) j a) (along_banks_more p j (a + 1) n ∙ ap (λ x. along_banks p j (range_with_len (a + 1) n) ++ piece_at (p x) j x []) (omega arith))
    ∙ piece_append (p a) j a (along_banks p j (range_with_len (a + 1) n)) (piece_at (p (a + suc n)) j (a + suc n) [])

-- a plan that puts at one index alone
no_banks : (p : ℕ → Option Part) (j : ℕ) (bs : List ℕ) → ((b : ℕ) → p b ≡ None) → along_banks p j bs ≡ []
unfolding along_banks
no_banks p j [] h = refl
no_banks p j (b ∷ bs) h = ap (λ o. piece_at o j b (along_banks p j bs)) (h b) ∙ no_banks p j bs h

-- a plan that puts nothing
pub along_nothing : (p : ℕ → ℕ → Option Part) (js : List ℕ) → ((j b : ℕ) → p j b ≡ None) → along p js ≡ []
unfolding along
along_nothing p [] h = refl
along_nothing p (j ∷ js) h = ap (λ ps. ps ++ along p js) (no_banks (p j) j (range_with_len 0 72) (h j)) ∙ along_nothing p js h

no_index : (p : ℕ → ℕ → Option Part) (i a n : ℕ) → i < a → ((j b : ℕ) → (j ≡ i → ⊥) → p j b ≡ None) → along p (range_with_len a n) ≡ []
unfolding along
no_index p i a zero h e = refl
no_index p i a (suc n) h e =
    ap (λ ps. ps ++ along p (range_with_len (a + 1) n)) (no_banks (p a) a (range_with_len 0 72) (λ b. e a b (λ q. omega arith)))
    ∙ no_index p i (a + 1) n (omega arith) e

pub along_one : (p : ℕ → ℕ → Option Part) (i a n : ℕ) → a ≤ i → i < a + n → ((j b : ℕ) → (j ≡ i → ⊥) → p j b ≡ None)
    → along p (range_with_len a n) ≡ along_banks (p i) i (range_with_len 0 72)
unfolding along
along_one p i a zero l u e = absurd (omega arith)
along_one p i a (suc n) l u e =
    elim (cases_eq a i) [
      | inl q ↦ ap (λ ps. along_banks (p a) a (range_with_len 0 72) ++ ps) (no_index p i (a + 1) n (omega arith) e)
          ∙ append-nil (along_banks (p a) a (range_with_len 0 72)) ∙ ap (λ x. along_banks (p x) x (range_with_len 0 72)) q
      | inr q ↦ ap (λ ps. ps ++ along p (range_with_len (a + 1) n)) (no_banks (p a) a (range_with_len 0 72) (λ b. e a b q))
          ∙ along_one p i (a + 1) n (omega arith) (omega arith) e
    ]
