-- Tallies of banks, and the highest of them.
use Rattle.std.proofs.Common.{◌≡◌, ℕ, zero, suc, ◌+◌, ◌<◌, ◌≤◌, ltb, List, [], ◌∷◌, length, Some, None, Option, Bor, sym, refl, ap, ◌∙◌, subst, ⊎_elim, add-one, add-zero, arith}
use Rattle.std.proofs.iter.Yields.{nat_range_steps}
use Rattle.std.proofs.lemmas.Iterator.{YieldsList, items_from_drains}
use Rattle.std.proofs.lemmas.Bool.Decides.{nat_tests}
use Rattle.std.specs.Fn.{CalledAt}
use Rattle.std.specs.Iterator.{KeyTurn, PicksMinByKey}
use Rattle.std.specs.List.{FoldsTo, range_with_len}
use Rattle.std.specs.Ordering.{nat_cmp, min_by_ordering}
use Rattle.std.specs.declared.cmp.Ordering.{Ordering}
use Rattle.std.specs.declared.cmp.Ordering.TheVariants.{Less, Equal, Greater}
use Rattle.std.specs.declared.cmp.Reverse.{Reverse}
use Rattle.std.specs.declared.ops.Range.{Range}
use Rattle.std.proofs.lemmas.List.{map-id}
use denote.Param.Members.{Mut}
use Rattle.std.proofs.lemmas.Bool.{cases_lt, cond-true, cond-false, lt-ltb, le-ltb}
use Rattle.error_log.specs.declared.note.Note.{Note}
use Rattle.error_log.specs.Notes.{tally_of, highest, worst_of, Worst}

-- one bank more
pub higher : (ns : List Note) (k : ℕ) → tally_of (highest ns k) ns < tally_of (suc k) ns → highest ns (suc k) ≡ suc k
unfolding highest
higher ns k h = cond-true (ltb (tally_of (highest ns k) ns) (tally_of (suc k) ns)) (suc k) (highest ns k) (lt-ltb _ _ h)

pub no_higher : (ns : List Note) (k : ℕ) → tally_of (suc k) ns ≤ tally_of (highest ns k) ns → highest ns (suc k) ≡ highest ns k
unfolding highest
no_higher ns k h = cond-false (ltb (tally_of (highest ns k) ns) (tally_of (suc k) ns)) (suc k) (highest ns k) (le-ltb _ _ h)

pub first_bank : (ns : List Note) → highest ns 0 ≡ 0
unfolding highest
first_bank ns = refl

-- what the highest of the banks 0 to k is
pub record Highest (ns : List Note) (k b : ℕ) : Type 0 where
  pub among : b ≤ k
  pub most : (c : ℕ) → c ≤ k → tally_of c ns ≤ tally_of b ns
  pub lowest : (c : ℕ) → c < b → tally_of c ns < tally_of b ns

takes : (ns : List Note) (k b : ℕ) → Highest ns k b → tally_of b ns < tally_of (suc k) ns → Highest ns (suc k) (suc k)
takes ns k b i h = record {
  among = omega arith;
  most = λ c l.
      ⊎_elim (λ (m : c < suc k). omega (arith, i.most c (omega arith)))
      (λ (m : suc k ≤ c). let e : c ≡ suc k = omega arith in subst (λ n. tally_of n ns ≤ tally_of (suc k) ns) (sym e) (omega arith)) (cases_lt c (suc k));
  lowest = λ c l. omega (arith, i.most c (omega arith));
}

keeps : (ns : List Note) (k b : ℕ) → Highest ns k b → tally_of (suc k) ns ≤ tally_of b ns → Highest ns (suc k) b
keeps ns k b i h = record {
  among = (let a = i.among in omega arith);
  most = λ c l.
      ⊎_elim (λ (m : c < suc k). i.most c (omega arith))
      (λ (m : suc k ≤ c). let e : c ≡ suc k = omega arith in subst (λ n. tally_of n ns ≤ tally_of b ns) (sym e) h) (cases_lt c (suc k));
  lowest = i.lowest;
}

first_is : (ns : List Note) → Highest ns 0 0
first_is ns = record {
  among = omega arith;
  most = λ c h. (let e : c ≡ 0 = omega arith in subst (λ n. tally_of n ns ≤ tally_of 0 ns) (sym e) (omega arith));
  lowest = λ c h. absurd (omega arith);
}

pub highest_is : (ns : List Note) (k : ℕ) → Highest ns k (highest ns k)
highest_is ns zero = subst (Highest ns 0) (sym (first_bank ns)) (first_is ns)
highest_is ns (suc k) =
    let i = highest_is ns k in
    let b : ℕ = highest ns k in
    ⊎_elim
    (λ (h : tally_of b ns < tally_of (suc k) ns). subst (Highest ns (suc k)) (sym (higher ns k h)) (takes ns k b i h))
    (λ (h : tally_of (suc k) ns ≤ tally_of b ns). subst (Highest ns (suc k)) (sym (no_higher ns k h)) (keeps ns k b i h))
    (cases_lt (tally_of b ns) (tally_of (suc k) ns))

-- no two banks are
one_highest : (ns : List Note) (k b c : ℕ) → Highest ns k b → Highest ns k c → b ≡ c
one_highest ns k b c i j =
    ⊎_elim (λ (h : b < c). absurd (omega (arith, j.lowest b h, i.most c j.among)))
    (λ (h : c ≤ b). ⊎_elim (λ (l : c < b). absurd (omega (arith, i.lowest c l, j.most b i.among))) (λ (l : b ≤ c). omega arith) (cases_lt c b))
    (cases_lt b c)

-- the bank that is picked by a key, the greatest first, where keys of two banks are in the order of their tallies
by_order : (ns : List Note) (k b p q : ℕ) (o : Ordering) → nat_cmp q p ≡ o
    → (q ≤ p → tally_of (suc k) ns ≤ tally_of b ns) → (p < q → tally_of b ns < tally_of (suc k) ns) → Highest ns k b → Highest ns (suc k) (min_by_ordering o b (suc k))
by_order ns k b p q Less e low high i = keeps ns k b i (low (grind (arith, nat_tests)))
by_order ns k b p q Equal e low high i = keeps ns k b i (low (grind (arith, nat_tests)))
by_order ns k b p q Greater e low high i = takes ns k b i (high (grind (arith, nat_tests)))

module _ {F : Type 0} (g : Mut F (Bor ℕ × Unit {0}) (Reverse ℕ)) (f : F) where
  -- the key of a bank
  abbrev pub Keyed : ℕ → Reverse ℕ → Type 0
  Keyed b k = (q : F) × CalledAt g f b k q

  keyed_by_order : (b x : ℕ) (p k : Reverse ℕ) (o : Ordering) → Keyed b p → Keyed x k → Keyed (min_by_ordering o b x) (min_by_ordering o p k)
  keyed_by_order b x p k Less c d = c
  keyed_by_order b x p k Equal c d = c
  keyed_by_order b x p k Greater c d = d

  -- a later bank has the greater key only where it has the greater tally, and the other way round
  abbrev pub InOrder : List Note → Type 0
  InOrder ns = (b x : ℕ) (p k : Reverse ℕ) (q r : F) → b < x → x < 64 → CalledAt g f b p q → CalledAt g f x k r
      → (k.0 ≤ p.0 → tally_of x ns ≤ tally_of b ns) × (p.0 < k.0 → tally_of b ns < tally_of x ns)

module _ {F : Type 0} (g : Mut F (Bor ℕ × Unit {0}) (Reverse ℕ)) (f : F) (ns : List Note)
    (stays : (x : ℕ) (k : Reverse ℕ) (q : F) → CalledAt g f x k q → q ≡ f) (in_order : InOrder g f ns) where
  abbrev Turn : (F × Reverse ℕ) × ℕ → ℕ → (F × Reverse ℕ) × ℕ → Type 0
  Turn = KeyTurn min_by_ordering min_by_ordering g (λ x y. nat_cmp y.0 x.0)

  best : (m j : ℕ) (s t : (F × Reverse ℕ) × ℕ) → j + m < 64 → s.0.0 ≡ f → Keyed g f s.1 s.0.1 → Highest ns j s.1
      → FoldsTo Turn s (range_with_len (suc j) m) t → Highest ns (j + m) t.1
  best zero j s t few same key i turns =
      subst (λ n. Highest ns n t.1) (sym (add-zero j)) (subst (λ (u : (F × Reverse ℕ) × ℕ). Highest ns j u.1) turns i)
  best (suc m) j s t few same key i (u, turn, rest) =
      let k : Reverse ℕ = turn.0 in
      let o : Ordering = turn.1 in
      let called = subst (λ h. CalledAt g h (suc j) k u.0.0) same turn.2 in
      let among = i.among in
      let ord = in_order s.1 (suc j) s.0.1 k key.0 u.0.0 (omega arith) (omega arith) key.1 called in
      let next = subst (Highest ns (suc j)) (sym turn.5) (by_order ns j s.1 s.0.1.0 k.0 o turn.3 ord.0 ord.1 i) in
      let key_next : Keyed g f u.1 u.0.1 =
      subst (λ r. Keyed g f u.1 r) (sym turn.4) (subst (λ b. Keyed g f b (min_by_ordering o s.0.1 k)) (sym turn.5) (keyed_by_order g f s.1 (suc j) s.0.1 k o key (u.0.0, called))) in
      let on : suc j + m ≡ j + suc m = omega arith in
      subst (λ n. Highest ns n t.1) on
      (best m (suc j) u t (omega arith) (stays (suc j) k u.0.0 called) key_next next (subst (λ n. FoldsTo Turn u (range_with_len n m) t) (add-one (suc j)) rest))

pub picked : {F : Type 0} (g : Mut F (Bor ℕ × Unit {0}) (Reverse ℕ)) (f : F) (ns : List Note) (s : Range ℕ) (r : Option ℕ)
    → PicksMinByKey nat_range_steps g (λ x y. nat_cmp y.0 x.0) s f r → YieldsList nat_range_steps (λ x. x) s (range_with_len 0 64)
    → ((x : ℕ) (k : Reverse ℕ) (q : F) → CalledAt g f x k q → q ≡ f) → InOrder g f ns → r ≡ Some (highest ns 63)
picked g f ns s None drains road stays in_order =
    let items = items_from_drains [] (drains.1.0, drains.1.1, λ _. (drains.0, drains.1.2)) road in cc
picked g f ns s (Some y) (x, xs, k, f', q, drains, called, turns) road stays in_order =
    let items = items_from_drains (x ∷ xs) (drains.1.0, drains.1.1, λ _. (drains.0, drains.1.2)) road in
    let all : x ∷ xs ≡ range_with_len 0 64 = sym (map-id (x ∷ xs)) ∙ items in
    let first : x ≡ 0 = cc in
    let others : xs ≡ range_with_len 1 63 = cc in
    ap Some
    (one_highest ns 63 y (highest ns 63)
    (best g f ns stays in_order 63 0 ((f', k), x) (q, y) (omega arith) (stays x k f' called) (f', called) (subst (Highest ns 0) (sym first) (first_is ns))
    (subst (λ l. FoldsTo (Turn g f ns stays in_order) ((f', k), x) l (q, y)) others turns))
    (highest_is ns 63))

pub worst_some : (ns : List Note) → 0 < length ns → Some (highest ns 63) ≡ worst_of ns
worst_some [] h = absurd (omega arith)
worst_some (n ∷ ns) h = refl

pub worst_is : (ns : List Note) → Worst ns (Some (highest ns 63))
worst_is ns = let i = highest_is ns 63 in (let a = i.among in omega arith, λ c h. i.most c (omega arith), i.lowest)

pub no_notes : (ns : List Note) → length ns ≡ 0 → (None ≡ worst_of ns) × (ns ≡ [])
no_notes [] h = (refl, refl)
no_notes (n ∷ ns) h = absurd (omega arith)
