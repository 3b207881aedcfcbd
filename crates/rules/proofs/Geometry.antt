-- What the banks of a word and of a group hold.
use Rattle.std.proofs.Common.{◌≡◌, ℕ, ◌+◌, ◌-◌, ◌*◌, ◌/◌, ◌<◌, ◌≤◌, true, false, eqb, ltb, List, [], ◌∷◌, refl, inl, inr, arith}
use lib.Bits.{bit_xor}
use Rattle.std.proofs.lemmas.Bool.{cases_eq, lt-ltb, ltb-true, ltb-false, eqb-false, cond-true, cond_both, true≢false, false≢true}
use Rattle.rules.proofs.Xor.{Each, each_counting, xor_split}
use Rattle.std.proofs.lemmas.Bool.Decides.{nat_tests}
use Rattle.rules.specs.Places.{InUse, group_of, line_bank, members, role, short, unmarked_role, without, xor_over}
use Rattle.rules.specs.declared.roles.Role.{Role}
use Rattle.rules.specs.declared.roles.Role.TheVariants.{Fifth, First, Line, Parity, Retired, Second}

-- marks that a board can have: at most two, of banks below 64, none twice
abbrev pub Valid : List ℕ → Type 0
Valid [] = Unit {0}
Valid (m ∷ []) = m < 64
Valid (m ∷ n ∷ []) = (m < 64) × (n < 64) × (n ≡ m → ⊥)
Valid (m ∷ n ∷ x ∷ xs) = ⊥

-- the same but for a bank marked twice
abbrev pub Low : List ℕ → Type 0
Low [] = Unit {0}
Low (m ∷ []) = m < 64
Low (m ∷ n ∷ []) = (m < 64) × (n < 64)
Low (m ∷ n ∷ x ∷ xs) = ⊥

valid_low : (ms : List ℕ) → Valid ms → Low ms
valid_low [] v = tt
valid_low (m ∷ []) v = v
valid_low (m ∷ n ∷ []) v = (v.0, v.1)
valid_low (m ∷ n ∷ x ∷ xs) v = v

abbrev pub groups : List ℕ → ℕ
groups [] = 2
groups (m ∷ ms) = 1

low : (b : ℕ) → b < 64 → unmarked_role b ≡ Line b
low b h = cond-true (ltb b 64) (Line b) _ (lt-ltb b 64 h)

pub role_line_bank : (ms : List ℕ) → Valid ms → (b : ℕ) → b < 64 → role ms (line_bank ms b) ≡ Line b
unfolding role
role_line_bank [] v b h = low b h
role_line_bank (m ∷ []) v b h = elim (cases_eq b m) [ inl e ↦ grind (arith, nat_tests) | inr n ↦ grind (arith, nat_tests, low b h) ]
role_line_bank (m ∷ n ∷ []) v b h = grind (arith, nat_tests, low b h)
role_line_bank (m ∷ n ∷ x ∷ xs) v b h = absurd v

pub role_first : (ms : List ℕ) → Valid ms → (q : ℕ) → q < 4 → role ms (64 + q) ≡ First q
unfolding role
role_first [] v q h = grind (arith, nat_tests)
role_first (m ∷ []) v q h = grind (arith, nat_tests)
role_first (m ∷ n ∷ []) v q h = grind (arith, nat_tests)
role_first (m ∷ n ∷ x ∷ xs) v q h = absurd v

pub role_second : (ms : List ℕ) → Valid ms → short ms ≡ false → (q : ℕ) → q < 2 → role ms (68 + q) ≡ Second q
unfolding role
role_second [] v s q h = grind (arith, nat_tests)
role_second (m ∷ []) v s q h = grind (arith, nat_tests)
role_second (m ∷ n ∷ ms) v s q h = absurd (true≢false s)

pub role_fifth : (ms : List ℕ) → Valid ms → short ms ≡ true → role ms 68 ≡ Fifth
unfolding role
role_fifth [] v s = absurd (false≢true s)
role_fifth (m ∷ []) v s = absurd (false≢true s)
role_fifth (m ∷ n ∷ []) v s = grind (arith, nat_tests)
role_fifth (m ∷ n ∷ x ∷ xs) v s = absurd v

pub role_parity : (ms : List ℕ) → Valid ms → (g : ℕ) → g < groups ms → role ms (70 + g) ≡ Parity g
unfolding role
role_parity [] v g h = grind (arith, nat_tests)
role_parity (m ∷ []) v g h = grind (arith, nat_tests)
role_parity (m ∷ n ∷ []) v g h = grind (arith, nat_tests)
role_parity (m ∷ n ∷ x ∷ xs) v g h = absurd v

-- they are in use
pub use_line_bank : (ms : List ℕ) → Valid ms → (b : ℕ) → b < 64 → InUse ms (line_bank ms b)
use_line_bank [] v b h = record { real = omega arith; free = tt }
use_line_bank (m ∷ []) v b h = record { real = grind (arith, nat_tests); free = ((λ e. grind (arith, nat_tests)), tt) }
use_line_bank (m ∷ n ∷ []) v b h =
    record { real = grind (arith, nat_tests); free = ((λ e. grind (arith, nat_tests)), ((λ e. grind (arith, nat_tests)), tt)) }
use_line_bank (m ∷ n ∷ x ∷ xs) v b h = absurd v

pub use_high : (ms : List ℕ) → Valid ms → (b : ℕ) → 64 ≤ b → b < 72 → InUse ms b
use_high [] v b l h = record { real = h; free = tt }
use_high (m ∷ []) v b l h = record { real = h; free = ((λ e. omega arith), tt) }
use_high (m ∷ n ∷ []) v b l h = record { real = h; free = ((λ e. omega arith), ((λ e. omega arith), tt)) }
use_high (m ∷ n ∷ x ∷ xs) v b l h = absurd v

pub group_fits : (ms : List ℕ) (b : ℕ) → b < 64 → group_of ms b < groups ms
group_fits [] b h = omega arith
group_fits (m ∷ ms) b h = omega arith

pub groups_two : (ms : List ℕ) → groups ms ≤ 2
groups_two [] = omega arith
groups_two (m ∷ ms) = omega arith

-- roles speak of banks that there are
abbrev pub Real : List ℕ → Role → Type 0
Real ms (Line b) = b < 64
Real ms (First q) = q < 4
Real ms (Second q) = (q < 2) × (short ms ≡ false)
Real ms Fifth = short ms ≡ true
Real ms (Parity g) = g < groups ms
Real ms Retired = Unit {0}

unmarked_sound : (ms : List ℕ) (b : ℕ) → b < 72 → (70 ≤ b → b < 70 + groups ms) → (68 ≤ b → b < 70 → short ms ≡ false) → Real ms (unmarked_role b)
unmarked_sound ms b h p s =
    cond_both (ltb b 64) (Line b) _ (Real ms) (λ e. ltb-true b 64 e)
    (λ e₁. cond_both (ltb b 68) (First (b - 64)) _ (Real ms) (λ e. omega (arith, ltb-true b 68 e, ltb-false b 64 e₁))
    (λ e₂. cond_both (ltb b 70) (Second (b - 68)) _ (Real ms)
    (λ e. (omega (arith, ltb-true b 70 e, ltb-false b 68 e₂), s (ltb-false b 68 e₂) (ltb-true b 70 e)))
    (λ e₃. let k : b < 70 + groups ms = p (ltb-false b 70 e₃) in omega (arith, ltb-false b 70 e₃, k))))

pub role_low : (ms : List ℕ) → Low ms → (b : ℕ) → b < 72 → Real ms (role ms b)
unfolding role
role_low [] v b h = unmarked_sound [] b h (λ _. omega arith) (λ _ _. refl)
role_low (m ∷ []) v b h =
    cond_both (eqb b m) Retired _ (Real (m ∷ [])) (λ e. tt)
    (λ e₁. cond_both (eqb b 71) (Line m) _ (Real (m ∷ [])) (λ e. v)
    (λ e₂. unmarked_sound (m ∷ []) b h (λ l. let n : b ≡ 71 → ⊥ = eqb-false b 71 e₂ in omega arith) (λ _ _. refl)))
role_low (m ∷ n ∷ []) v b h =
    cond_both (eqb b m) Retired _ (Real (m ∷ n ∷ [])) (λ e. tt)
    (λ e₁. cond_both (eqb b n) Retired _ (Real (m ∷ n ∷ [])) (λ e. tt)
    (λ e₂. cond_both (eqb b 71) (Line m) _ (Real (m ∷ n ∷ [])) (λ e. v.0)
    (λ e₃. cond_both (eqb b 69) (Line n) _ (Real (m ∷ n ∷ [])) (λ e. v.1)
    (λ e₄. cond_both (eqb b 68) Fifth _ (Real (m ∷ n ∷ [])) (λ e. refl)
    (λ e₅. unmarked_sound (m ∷ n ∷ []) b h
    (λ l. let k : b ≡ 71 → ⊥ = eqb-false b 71 e₃ in omega arith)
    (λ l u. let k : b ≡ 69 → ⊥ = eqb-false b 69 e₄ in let j : b ≡ 68 → ⊥ = eqb-false b 68 e₅ in absurd (omega arith)))))))
role_low (m ∷ n ∷ x ∷ xs) v b h = absurd v

pub role_sound : (ms : List ℕ) → Valid ms → (b : ℕ) → b < 72 → Real ms (role ms b)
role_sound ms v b h = role_low ms (valid_low ms v) b h

-- the banks of a group
pub record Member (ms : List ℕ) (g x : ℕ) : Type 0 where
  pub low : x < 64
  pub group : group_of ms x ≡ g

pub each_member : (ms : List ℕ) (g : ℕ) → g < groups ms → Each (Member ms g) (members ms g)
each_member [] g h = each_counting (Member [] g) (32 * g) 32 (λ x l u. record { low = omega arith; group = omega arith })
each_member (m ∷ ms) g h = each_counting (Member (m ∷ ms) g) 0 64 (λ x l u. record { low = omega arith; group = omega arith })

-- the XOR over a group, one of its banks apart
pub group_split : (f : ℕ → ℕ) (ms : List ℕ) (b : ℕ) → b < 64
    → xor_over f (members ms (group_of ms b)) ≡ bit_xor (f b) (xor_over f (without b (members ms (group_of ms b))))
group_split f [] b h = xor_split f b (32 * (b / 32)) 32 (omega arith) (omega arith)
group_split f (m ∷ ms) b h = xor_split f b 0 64 (omega arith) (omega arith)

pub line_bank_real : (ms : List ℕ) (b : ℕ) → b < 64 → line_bank ms b < 72
line_bank_real [] b h = omega arith
line_bank_real (m ∷ []) b h = cond_both (eqb b m) 71 b (λ x. x < 72) (λ _. omega arith) (λ _. omega arith)
line_bank_real (m ∷ n ∷ ms) b h =
    cond_both (eqb b m) 71 _ (λ x. x < 72) (λ _. omega arith) (λ _. cond_both (eqb b n) 69 b (λ x. x < 72) (λ _. omega arith) (λ _. omega arith))
