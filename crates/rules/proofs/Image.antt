-- The bytes of a bank follow the lines of its group, and only those.
use Rattle.std.proofs.Common.{◌≡◌, ℕ, ◌+◌, ◌-◌, ◌*◌, ◌/◌, ◌%◌, ◌<◌, true, false, cond, eqb, List, [], ◌∷◌, length, get_or, take, drop, replicate, sym, refl, ap, ◌∙◌, ap₂, inl, inr, arith}
use lib.Bits.{bit_xor, xor_zero_l}
use Rattle.std.proofs.lemmas.Bool.{cases_eq, cases_lt, eq-eqb, ne_eqb, eqb-true, cond-true, cond-false, true≢false, false≢true}
use Rattle.std.proofs.lemmas.List.{get_or-replicate, get_or-take, get_or-drop, length-take, length-drop, get_or_past}
use Rattle.rules.proofs.Xor.{each_map, xor_cong}
use Rattle.rules.proofs.Geometry.{Real, Member, each_member}
use Rattle.rules.proofs.Laying.{lay, lay_in, lay_out}
use Rattle.codec.proofs.CodeLaws.{laws}
use Rattle.codec.specs.Check.{check}
use Rattle.codec.specs.Code.{zero_line}
use Rattle.rules.specs.Places.{bank_of, group_of, image_by, index_of, members, short, xor_over}
use Rattle.rules.specs.Rules.{of_group, store_part, when}
use Rattle.rules.specs.declared.roles.Role.{Role}
use Rattle.rules.specs.declared.roles.Role.TheVariants.{Fifth, First, Line, Parity, Retired, Second}

-- a bank with that role holds something of the group of x
abbrev pub Touches : List ℕ → Role → ℕ → Type 0
Touches ms (Line b) x = group_of ms x ≡ group_of ms b
Touches ms (First q) x = group_of ms x ≡ group_of ms (16 * q)
Touches ms (Second q) x = group_of ms x ≡ group_of ms (32 * q)
Touches ms Fifth x = group_of ms x ≡ 0
Touches ms (Parity g) x = group_of ms x ≡ g
Touches ms Retired x = ⊥

first_group : (ms : List ℕ) (q k : ℕ) → k < 64 → group_of ms (16 * q + k / 4) ≡ group_of ms (16 * q)
first_group [] q k h = omega arith
first_group (m ∷ ms) q k h = refl

second_group : (ms : List ℕ) (q k : ℕ) → k < 64 → group_of ms (32 * q + k / 2) ≡ group_of ms (32 * q)
second_group [] q k h = omega arith
second_group (m ∷ ms) q k h = refl

fifth_group : (ms : List ℕ) → short ms ≡ true → (k : ℕ) → group_of ms k ≡ 0
fifth_group [] e k = absurd (false≢true e)
fifth_group (m ∷ ms) e k = refl

pub image_cong : (ms : List ℕ) (f g : ℕ → List ℕ) (j k : ℕ) (r : Role) → Real ms r → k < 64
    → ((x : ℕ) → x < 64 → Touches ms r x → f (64 * j + x) ≡ g (64 * j + x))
    → image_by ms f j k r ≡ image_by ms g j k r
unfolding image_by
image_cong ms f g j k (Line b) s h e = ap (λ l. get_or l k 0) (e b s refl)
image_cong ms f g j k (First q) s h e =
    ap (λ l. get_or (check l) (k % 4) 0) (e (16 * q + k / 4) (omega arith) (first_group ms q k h))
image_cong ms f g j k (Second q) s h e =
    let q2 = s.0 in ap (λ l. get_or (check l) (4 + k % 2) 0) (e (32 * q + k / 2) (omega arith) (second_group ms q k h))
image_cong ms f g j k Fifth s h e = ap (λ l. get_or (check l) 4 0) (e k h (fifth_group ms s k))
image_cong ms f g j k (Parity p) s h e =
    xor_cong (λ b. get_or (f (64 * j + b)) k 0) (λ b. get_or (g (64 * j + b)) k 0) (members ms p)
    (each_map (Member ms p) (λ b. get_or (f (64 * j + b)) k 0 ≡ get_or (g (64 * j + b)) k 0) (members ms p)
    (λ x m. ap (λ l. get_or l k 0) (e x m.low m.group)) (each_member ms p s))
image_cong ms f g j k Retired s h e = refl

-- a bank of the group, or of another one
pub outside_of : (ms : List ℕ) (g x : ℕ) (r : Role) → of_group ms g r ≡ false → Touches ms r x → group_of ms x ≡ g → ⊥
outside_of ms g x (Line b) o c e = true≢false (sym (eq-eqb (group_of ms b) g (sym c ∙ e)) ∙ o)
outside_of ms g x (First q) o c e = true≢false (sym (eq-eqb (group_of ms (16 * q)) g (sym c ∙ e)) ∙ o)
outside_of ms g x (Second q) o c e = true≢false (sym (eq-eqb (group_of ms (32 * q)) g (sym c ∙ e)) ∙ o)
outside_of ms g x Fifth o c e = true≢false o
outside_of ms g x (Parity p) o c e = true≢false (sym (eq-eqb p g (sym c ∙ e)) ∙ o)
outside_of ms g x Retired o c e = c

pub inside_of : (ms : List ℕ) (b x : ℕ) (r : Role) → Real ms r → of_group ms (group_of ms b) r ≡ true → Touches ms r x → group_of ms x ≡ group_of ms b
inside_of ms b x (Line y) s o c = c ∙ eqb-true _ _ o
inside_of ms b x (First q) s o c = c ∙ eqb-true _ _ o
inside_of ms b x (Second q) s o c = c ∙ eqb-true _ _ o
inside_of ms b x Fifth s o c = c ∙ sym (fifth_group ms s b)
inside_of ms b x (Parity p) s o c = c ∙ eqb-true _ _ o
inside_of ms b x Retired s o c = absurd c

-- where all lines are zero, so are all bytes
pub zero_byte : (k : ℕ) → get_or zero_line k 0 ≡ 0
zero_byte k =
    elim (cases_lt k 64) [
      | inl l ↦ get_or-replicate 64 k 0 0 l
      | inr u ↦ get_or_past zero_line k 0 u
    ]

zero_check_byte : (k : ℕ) → get_or (check zero_line) k 0 ≡ 0
zero_check_byte k =
    rw laws.zero_check (elim (cases_lt k 6) [ inl l ↦ get_or-replicate 6 k 0 0 l | inr u ↦ get_or_past (replicate 6 0) k 0 u ])

xor_zero : (f : ℕ → ℕ) (xs : List ℕ) → ((x : ℕ) → f x ≡ 0) → xor_over f xs ≡ 0
xor_zero f [] e = refl
xor_zero f (x ∷ xs) e = ap₂ bit_xor (e x) (xor_zero f xs e) ∙ xor_zero_l 0

pub image_zero : (ms : List ℕ) (j k : ℕ) (r : Role) → image_by ms (λ a. zero_line) j k r ≡ 0
unfolding image_by
image_zero ms j k (Line b) = zero_byte k
image_zero ms j k (First q) = zero_check_byte (k % 4)
image_zero ms j k (Second q) = zero_check_byte (4 + k % 2)
image_zero ms j k Fifth = zero_check_byte 4
image_zero ms j k (Parity g) = xor_zero (λ b. get_or zero_line k 0) (members ms g) (λ x. zero_byte k)
image_zero ms j k Retired = refl

-- a line, its check and its group's parity put at an address
module _ (ms : List ℕ) (lines : ℕ → List ℕ) (a : ℕ) (new par : List ℕ)
    (line_long : length new ≡ 64) (check_long : length (check new) ≡ 6) (parity_long : length par ≡ 64) where
  abbrev entered : ℕ → List ℕ
  entered x = cond (eqb x a) new (lines x)

  entered_same : (x : ℕ) → x ≡ a → entered x ≡ new
  entered_same x e = cond-true (eqb x a) new (lines x) (eq-eqb x a e)

  entered_other : (x : ℕ) → (x ≡ a → ⊥) → lines x ≡ entered x
  entered_other x n = sym (cond-false (eqb x a) new (lines x) (ne_eqb x a n))

  -- the index of the address
  here : (k old : ℕ) (r : Role) → Real ms r → k < 64 → old ≡ image_by ms lines (index_of a) k r
      → ((g : ℕ) → g ≡ group_of ms (bank_of a) → get_or par k 0 ≡ xor_over (λ b. get_or (entered (64 * index_of a + b)) k 0) (members ms g))
      → lay (store_part ms (bank_of a) new par r) k old ≡ image_by ms entered (index_of a) k r
  unfolding image_by
  here k old (Line x) s h o p =
      elim (cases_eq x (bank_of a)) [
        | inl e ↦ rw (eq-eqb x (bank_of a) e)
            (lay_in 0 new k old (omega arith) (omega arith) ∙ ap₂ (λ l n. get_or l n 0) (sym (entered_same (64 * index_of a + x) (omega arith))) (omega arith))
        | inr n ↦ rw (ne_eqb x (bank_of a) n) (o ∙ ap (λ l. get_or l k 0) (entered_other (64 * index_of a + x) (λ e. omega arith)))
      ]
  here k old (First q) s h o p =
      let b : ℕ = bank_of a in
      let lt = length-take 4 (check new) in
      elim (cases_eq q (b / 16)) [
        | inl e ↦ rw (eq-eqb q (b / 16) e)
            (elim (cases_eq (k / 4) (b % 16)) [
              | inl f ↦ lay_in (4 * (b % 16)) (take 4 (check new)) k old (omega arith) (omega arith)
                  ∙ get_or-take 4 (check new) (k - 4 * (b % 16)) 0 (omega arith)
                  ∙ ap₂ (λ l n. get_or (check l) n 0) (sym (entered_same (64 * index_of a + (16 * q + k / 4)) (omega arith))) (omega arith)
              | inr n ↦ lay_out (4 * (b % 16)) (take 4 (check new)) k old
                  (elim (cases_lt k (4 * (b % 16))) [ inl l ↦ inl l | inr u ↦ inr (omega arith) ])
                  ∙ o ∙ ap (λ l. get_or (check l) (k % 4) 0) (entered_other (64 * index_of a + (16 * q + k / 4)) (λ e. omega arith))
            ])
        | inr n ↦ rw (ne_eqb q (b / 16) n) (o ∙ ap (λ l. get_or (check l) (k % 4) 0) (entered_other (64 * index_of a + (16 * q + k / 4)) (λ e. omega arith)))
      ]
  here k old (Second q) s h o p =
      let b : ℕ = bank_of a in
      let q2 = s.0 in
      let ld = length-drop 4 (check new) in
      elim (cases_eq q (b / 32)) [
        | inl e ↦ rw (eq-eqb q (b / 32) e)
            (elim (cases_eq (k / 2) (b % 32)) [
              | inl f ↦ lay_in (2 * (b % 32)) (drop 4 (check new)) k old (omega arith) (omega arith)
                  ∙ get_or-drop 4 (check new) (k - 2 * (b % 32)) 0
                  ∙ ap₂ (λ l n. get_or (check l) n 0) (sym (entered_same (64 * index_of a + (32 * q + k / 2)) (omega arith))) (omega arith)
              | inr n ↦ lay_out (2 * (b % 32)) (drop 4 (check new)) k old
                  (elim (cases_lt k (2 * (b % 32))) [ inl l ↦ inl l | inr u ↦ inr (omega arith) ])
                  ∙ o ∙ ap (λ l. get_or (check l) (4 + k % 2) 0) (entered_other (64 * index_of a + (32 * q + k / 2)) (λ e. omega arith))
            ])
        | inr n ↦ rw (ne_eqb q (b / 32) n) (o ∙ ap (λ l. get_or (check l) (4 + k % 2) 0) (entered_other (64 * index_of a + (32 * q + k / 2)) (λ e. omega arith)))
      ]
  here k old Fifth s h o p =
      let b : ℕ = bank_of a in
      let ld = length-drop 4 (check new) in
      let lt = length-take 1 (drop 4 (check new)) in
      elim (cases_eq k b) [
        | inl e ↦ lay_in b (take 1 (drop 4 (check new))) k old (omega arith) (omega arith)
            ∙ get_or-take 1 (drop 4 (check new)) (k - b) 0 (omega arith)
            ∙ get_or-drop 4 (check new) (k - b) 0
            ∙ ap₂ (λ l n. get_or (check l) n 0) (sym (entered_same (64 * index_of a + k) (omega arith))) (omega arith)
        | inr n ↦ lay_out b (take 1 (drop 4 (check new))) k old
            (elim (cases_lt k b) [ inl l ↦ inl l | inr u ↦ inr (omega arith) ])
            ∙ o ∙ ap (λ l. get_or (check l) 4 0) (entered_other (64 * index_of a + k) (λ e. omega arith))
      ]
  here k old (Parity g) s h o p =
      elim (cases_eq g (group_of ms (bank_of a))) [
        | inl e ↦ rw (eq-eqb g (group_of ms (bank_of a)) e)
            (lay_in 0 par k old (omega arith) (omega arith) ∙ ap (λ n. get_or par n 0) (omega arith) ∙ p g e)
        | inr n ↦ rw (ne_eqb g (group_of ms (bank_of a)) n)
            (o ∙ xor_cong (λ b. get_or (lines (64 * index_of a + b)) k 0) (λ b. get_or (entered (64 * index_of a + b)) k 0) (members ms g)
            (each_map (Member ms g) (λ b. get_or (lines (64 * index_of a + b)) k 0 ≡ get_or (entered (64 * index_of a + b)) k 0) (members ms g)
            (λ x m.
            let lo = m.low in
            ap (λ l. get_or l k 0) (entered_other (64 * index_of a + x)
            (λ e. let q : x ≡ bank_of a = omega arith in n (sym m.group ∙ ap (group_of ms) q))))
            (each_member ms g s)))
      ]
  here k old Retired s h o p = o

  pub stored_image : (j k old : ℕ) (r : Role) → Real ms r → k < 64 → old ≡ image_by ms lines j k r
      → ((g : ℕ) → g ≡ group_of ms (bank_of a) → get_or par k 0 ≡ xor_over (λ b. get_or (entered (64 * index_of a + b)) k 0) (members ms g))
      → lay (when (eqb j (index_of a)) (store_part ms (bank_of a) new par r)) k old ≡ image_by ms entered j k r
  stored_image j k old r s h o p =
      elim (cases_eq j (index_of a)) [
        | inl e ↦ rw (eq-eqb j (index_of a) e, e) (here k old r s h (rw e at o) p)
        | inr n ↦ rw (ne_eqb j (index_of a) n)
            (o ∙ image_cong ms lines entered j k r s h (λ x l g. entered_other (64 * j + x) (λ e. omega arith)))
      ]
