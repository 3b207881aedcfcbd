-- XOR as the addition of a group in which each number is its own inverse.
use Rattle.std.proofs.Common.{◌≡◌, ℕ, sym, ap, ◌∙◌}
use lib.Bits.{bit_xor, xor_assoc, xor_comm, xor_self, xor_zero_l, xor_zero_r}

pub xor_left_comm : (a b c : ℕ) → bit_xor a (bit_xor b c) ≡ bit_xor b (bit_xor a c)
xor_left_comm a b c = sym (xor_assoc a b c) ∙ ap (λ x. bit_xor x c) (xor_comm a b) ∙ xor_assoc b a c

pub xor_self_left : (a b : ℕ) → bit_xor a (bit_xor a b) ≡ b
xor_self_left a b = sym (xor_assoc a a b) ∙ ap (λ x. bit_xor x b) (xor_self a)

-- sums of four are sorted, and equal terms cancel
pub ruleset xors = (xor_assoc, xor_comm, xor_left_comm, xor_self, xor_self_left, xor_zero_l, xor_zero_r)

pub xor_swap : (a b c d : ℕ) → bit_xor (bit_xor a b) (bit_xor c d) ≡ bit_xor (bit_xor a c) (bit_xor b d)
xor_swap a b c d = simp xors

pub xor_eq : (a b : ℕ) → bit_xor a b ≡ 0 → a ≡ b
xor_eq a b h = sym (ap (λ x. bit_xor a x) h ∙ xor_zero_r a) ∙ xor_self_left a b

pub xor_cancel : (a b c : ℕ) → bit_xor a b ≡ bit_xor a c → b ≡ c
xor_cancel a b c h = sym (xor_self_left a b) ∙ ap (λ x. bit_xor a x) h ∙ xor_self_left a c
