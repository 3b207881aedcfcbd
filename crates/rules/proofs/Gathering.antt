-- The partners' words decoded, one after the other.
use Rattle.std.proofs.Common.{◌≡◌, ℕ, zero, suc, ◌+◌, ◌-◌, ◌*◌, ◌<◌, ◌≤◌, ◌⊎◌, List, [], ◌∷◌, ◌++◌, length, get_or, Some, None, Option, sym, refl, ap, ◌∙◌, ap₂, inl, inr, zero-add, arith}
use lib.Bits.{bit_xor, xor_assoc, xor_zero_l, xor_zero_r}
use Rattle.std.specs.List.{range_with_len}
use Rattle.std.proofs.lemmas.Bool.{cases_eq, eq-eqb, ne_eqb}
use Rattle.std.proofs.lemmas.List.{append-nil}
use Rattle.std.proofs.lemmas.List.FromFn.{fill_by_all}
use Rattle.codec.specs.Code.{Decoded, found, judging, uncorrectable}
use Rattle.codec.specs.declared.word.Finding.{Finding}
use Rattle.rules.specs.Places.{bank_of, check_in, group_count, group_start, index_of, parity_bank, without, xor_over}
use Rattle.rules.specs.Rules.{State, addresses, by_partner, decoded, denied, judged_or, line_decoded, lowest, partners, partners_byte, reading, rebuilding, step_lowest, step_reading, step_rebuilding, sum_line}
use Rattle.stack.proofs.PieceLaws.{getD_cells}
use Rattle.stack.specs.Memory.{cells}
use Rattle.stack.specs.declared.refusal.Refusal.{Refusal}
use Rattle.stack.specs.declared.refusal.Refusal.TheVariants.{PartnerUncorrectable}

-- the partners among the first n banks from lo on
abbrev pub front : ℕ → ℕ → ℕ → ℕ → List ℕ
front i b lo n = addresses i (without b (range_with_len lo n))

pub counting_split : (a m n : ℕ) → range_with_len a (m + n) ≡ range_with_len a m ++ range_with_len (a + m) n
counting_split a zero n = let e : a ≡ a + 0 = omega arith in ap₂ range_with_len e (zero-add n)
counting_split a (suc m) n =
    let e : suc m + n ≡ suc (m + n) = omega arith in
    ap (range_with_len a) e ∙ ap (λ xs. a ∷ xs) (let q : a + 1 + m ≡ a + suc m = omega arith in counting_split (a + 1) m n ∙ ap (λ x. range_with_len (a + 1) m ++ range_with_len x n) q)

without_append : (b : ℕ) (xs ys : List ℕ) → without b (xs ++ ys) ≡ without b xs ++ without b ys
without_append b [] ys = refl
without_append b (x ∷ xs) ys =
    elim (cases_eq x b) [
      | inl e ↦ rw (eq-eqb x b e) (without_append b xs ys)
      | inr n ↦ rw (ne_eqb x b n) (ap (λ zs. x ∷ zs) (without_append b xs ys))
    ]

pub addresses_append : (i : ℕ) (xs ys : List ℕ) → addresses i (xs ++ ys) ≡ addresses i xs ++ addresses i ys
addresses_append i [] ys = refl
addresses_append i (x ∷ xs) ys = ap (λ zs. (64 * i + x) ∷ zs) (addresses_append i xs ys)

front_split : (i b lo m n : ℕ) → front i b lo (m + n) ≡ front i b lo m ++ front i b (lo + m) n
front_split i b lo m n =
    ap (λ xs. addresses i (without b xs)) (counting_split lo m n) ∙ ap (addresses i) (without_append b (range_with_len lo m) (range_with_len (lo + m) n))
    ∙ addresses_append i (without b (range_with_len lo m)) (without b (range_with_len (lo + m) n))

front_own : (i b lo n : ℕ) → lo ≡ b → front i b lo (suc n) ≡ front i b (lo + 1) n
front_own i b lo n e = rw (eq-eqb lo b e) refl

front_other : (i b lo n : ℕ) → (lo ≡ b → ⊥) → front i b lo (suc n) ≡ (64 * i + lo) ∷ front i b (lo + 1) n
front_other i b lo n ne = rw (ne_eqb lo b ne) refl

some_none : (x : ℕ) → Some x ≡ None → ⊥
some_none x e = let z : ◌≡◌ {A = ℕ} 0 1 = cc in omega arith

cases_decoded : (o : Decoded) → ((l : List ℕ) × (f : Finding) × (o ≡ found l f)) ⊎ (o ≡ uncorrectable)
cases_decoded (found l f) = inl (l, f, refl)
cases_decoded uncorrectable = inr refl

lowest_append : (s : State) (ps qs : List ℕ) → lowest s ps ≡ None → lowest s (ps ++ qs) ≡ lowest s qs
unfolding lowest
lowest_append s [] qs e = refl
lowest_append s (p ∷ ps) qs e =
    elim (cases_decoded (decoded s p)) [
      | inl q ↦ ap (λ z. step_lowest z p (lowest s (ps ++ qs))) q.2
          ∙ lowest_append s ps qs (sym (ap (λ z. step_lowest z p (lowest s ps)) q.2) ∙ e)
      | inr q ↦ absurd (some_none p (sym (ap (λ z. step_lowest z p (lowest s ps)) q) ∙ e))
    ]

pub xor_append : (f : ℕ → ℕ) (ps qs : List ℕ) → xor_over f (ps ++ qs) ≡ bit_xor (xor_over f ps) (xor_over f qs)
xor_append f [] qs = sym (xor_zero_l (xor_over f qs))
xor_append f (p ∷ ps) qs = ap (bit_xor (f p)) (xor_append f ps qs) ∙ sym (xor_assoc (f p) (xor_over f ps) (xor_over f qs))

-- what a sum has once the partners below lo + n were taken in, none of them uncorrectable
pub record Gathered (s : State) (i b lo n : ℕ) (was sum : List ℕ) : Type 0 where
  pub none : lowest s (front i b lo n) ≡ None
  pub sums : (k : ℕ) → k < 64 → get_or sum k 0 ≡ bit_xor (get_or was k 0) (xor_over (λ p. get_or (line_decoded (decoded s p)) k 0) (front i b lo n))

module _ (s : State) (i b lo : ℕ) (was : List ℕ) where
  pub gather_start : Gathered s i b lo 0 was was
  unfolding lowest
  gather_start = record { none = refl; sums = λ k h. sym (xor_zero_r (get_or was k 0)) }

  more_front : (n : ℕ) → front i b lo (n + 1) ≡ front i b lo n ++ front i b (lo + n) 1
  more_front n = front_split i b lo n 1

  pub gather_skip : (n : ℕ) (sum : List ℕ) → lo + n ≡ b → Gathered s i b lo n was sum → Gathered s i b lo (n + 1) was sum
  gather_skip n sum e h =
      let same : front i b lo (n + 1) ≡ front i b lo n = more_front n ∙ ap (λ xs. front i b lo n ++ xs) (front_own i b (lo + n) 0 e) ∙ append-nil (front i b lo n) in
      record {
        none = ap (lowest s) same ∙ h.none;
        sums = λ k l. h.sums k l ∙ ap (λ xs. bit_xor (get_or was k 0) (xor_over (λ p. get_or (line_decoded (decoded s p)) k 0) xs)) (sym same);
      }

  pub gather_more : (n : ℕ) (sum sum' line : List ℕ) (f : Finding) → (lo + n ≡ b → ⊥) → decoded s (64 * i + (lo + n)) ≡ found line f
      → ((k : ℕ) → k < 64 → get_or sum' k 0 ≡ bit_xor (get_or sum k 0) (get_or line k 0))
      → Gathered s i b lo n was sum → Gathered s i b lo (n + 1) was sum'
  unfolding lowest
  gather_more n sum sum' line f ne o x h =
      let p : ℕ = 64 * i + (lo + n) in
      let split : front i b lo (n + 1) ≡ front i b lo n ++ p ∷ [] = more_front n ∙ ap (λ xs. front i b lo n ++ xs) (front_other i b (lo + n) 0 ne) in
      record {
        none = ap (lowest s) split ∙ lowest_append s (front i b lo n) (p ∷ []) h.none ∙ ap (λ z. step_lowest z p None) o;
        sums = λ k l.
            let W = xor_over (λ p. get_or (line_decoded (decoded s p)) k 0) (front i b lo n) in
            x k l ∙ ap (λ z. bit_xor z (get_or line k 0)) (h.sums k l) ∙ xor_assoc (get_or was k 0) W (get_or line k 0)
            ∙ ap (bit_xor (get_or was k 0))
            (ap (bit_xor W) (sym (xor_zero_r (get_or line k 0)) ∙ ap (λ z. bit_xor (get_or (line_decoded z) k 0) 0) (sym o))
            ∙ sym (xor_append (λ p. get_or (line_decoded (decoded s p)) k 0) (front i b lo n) (p ∷ []))
            ∙ ap (xor_over (λ p. get_or (line_decoded (decoded s p)) k 0)) (sym split));
      }

  pub gather_uncorrectable : (n all : ℕ) (sum : List ℕ) → n < all → (lo + n ≡ b → ⊥) → decoded s (64 * i + (lo + n)) ≡ uncorrectable
      → Gathered s i b lo n was sum → lowest s (front i b lo all) ≡ Some (64 * i + (lo + n))
  unfolding lowest
  gather_uncorrectable n all sum l ne o h =
      let p : ℕ = 64 * i + (lo + n) in
      let r : ℕ = all - suc n in
      let e : all ≡ n + suc r = omega arith in
      ap (λ m. lowest s (front i b lo m)) e ∙ ap (lowest s) (front_split i b lo n (suc r))
      ∙ lowest_append s (front i b lo n) (front i b (lo + n) (suc r)) h.none
      ∙ ap (lowest s) (front_other i b (lo + n) r ne)
      ∙ ap (λ z. step_lowest z p (lowest s (front i b (lo + n + 1) r))) o

pub partners_are : (ms : List ℕ) (a : ℕ) → partners ms a ≡ front (index_of a) (bank_of a) (group_start ms (bank_of a)) (group_count ms)
partners_are [] a = refl
partners_are (m ∷ ms) a = refl

-- all of them taken in
pub gather_all : (s : State) (a : ℕ) (was sum : List ℕ)
    → Gathered s (index_of a) (bank_of a) (group_start s.marks (bank_of a)) (group_count s.marks) was sum
    → (lowest s (partners s.marks a) ≡ None) × ((k : ℕ) → k < 64 → get_or sum k 0 ≡ bit_xor (get_or was k 0) (partners_byte s a k))
unfolding partners_byte
gather_all s a was sum h = (
  ap (lowest s) (partners_are s.marks a) ∙ h.none,
  λ k l. h.sums k l ∙ ap (λ ps. bit_xor (get_or was k 0) (xor_over (λ p. get_or (line_decoded (decoded s p)) k 0) ps)) (sym (partners_are s.marks a)),
)

pub group_room : (ms : List ℕ) (b : ℕ) → b < 64 → group_start ms b + group_count ms ≤ 64
group_room [] b h = omega arith
group_room (m ∷ ms) b h = omega arith

-- an uncorrectable partner
pub gather_refused : (s : State) (a n : ℕ) (was sum : List ℕ) → n < group_count s.marks → (group_start s.marks (bank_of a) + n ≡ bank_of a → ⊥)
    → decoded s (64 * index_of a + (group_start s.marks (bank_of a) + n)) ≡ uncorrectable
    → Gathered s (index_of a) (bank_of a) (group_start s.marks (bank_of a)) n was sum
    → by_partner a (lowest s (partners s.marks a)) ≡ Some (PartnerUncorrectable a (64 * index_of a + (group_start s.marks (bank_of a) + n)))
gather_refused s a n was sum l ne o h =
    ap (λ ps. by_partner a (lowest s ps)) (partners_are s.marks a)
    ∙ ap (by_partner a) (gather_uncorrectable s (index_of a) (bank_of a) (group_start s.marks (bank_of a)) was n (group_count s.marks) sum l ne o h)

pub parity_real : (ms : List ℕ) (b : ℕ) → b < 64 → parity_bank ms b < 72
parity_real [] b h = omega arith
parity_real (m ∷ ms) b h = omega arith

-- the sum over the group, from the parity line and the partners
pub sum_made : (s : State) (a : ℕ) (was sum : List ℕ) → was ≡ cells s.shown (parity_bank s.marks (bank_of a)) (index_of a) 0 64 → length sum ≡ 64
    → ((k : ℕ) → k < 64 → get_or sum k 0 ≡ bit_xor (get_or was k 0) (partners_byte s a k)) → sum ≡ sum_line s a
sum_made s a was sum e l h =
    let f : ℕ → ℕ = λ k. bit_xor (s.shown (parity_bank s.marks (bank_of a)) (index_of a) k) (partners_byte s a k) in
    fill_by_all f sum 64 0 l
    (λ k u. h k u ∙ ap (λ x. bit_xor x (partners_byte s a k))
    (ap (λ x. get_or x k 0) e ∙ getD_cells s.shown (parity_bank s.marks (bank_of a)) (index_of a) 0 64 k 0 u
    ∙ ap (s.shown (parity_bank s.marks (bank_of a)) (index_of a)) (zero-add k)))

refused_go : (s : State) (a : ℕ) (e : Refusal) (o : Option ℕ) → by_partner a o ≡ Some e → step_rebuilding o s a ≡ denied e
refused_go s a e (Some p) h = let q : PartnerUncorrectable a p ≡ e = cc in ap denied q
refused_go s a e None h = let z : ◌≡◌ {A = ℕ} 0 1 = cc in absurd (omega arith)

pub rebuilding_refused : (s : State) (a : ℕ) (e : Refusal) → by_partner a (lowest s (partners s.marks a)) ≡ Some e → rebuilding s a ≡ denied e
unfolding rebuilding
rebuilding_refused s a e h = refused_go s a e (lowest s (partners s.marks a)) h

pub rebuilding_made : (s : State) (a : ℕ) (l : List ℕ) (o : Decoded) → lowest s (partners s.marks a) ≡ None → l ≡ sum_line s a
    → judging (l ++ check_in s.marks s.shown a) ≡ o → rebuilding s a ≡ judged_or o a
unfolding rebuilding
rebuilding_made s a l o n e q =
    ap (λ z. step_rebuilding z s a) n
    ∙ ap (λ z. judged_or (judging (z ++ check_in s.marks s.shown a)) a) (sym e) ∙ ap (λ z. judged_or z a) q

pub reading_made : (s : State) (a : ℕ) (o : Decoded) → decoded s a ≡ o → reading s a ≡ step_reading o s a
unfolding reading
reading_made s a o q = ap (λ z. step_reading z s a) q
