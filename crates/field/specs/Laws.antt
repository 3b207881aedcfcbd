-- The laws of the field.
use Rattle.std.specs.Prelude.{◌≡◌, ℕ, ◌+◌, ◌<◌, ◌≢◌, bit_xor}
use Rattle.field.specs.Field.{mul, pow}

-- with XOR for the sum, `mul` for the product and `one` for the unit, the bytes are a field, and its elements but 0 the powers of α
pub record Laws (one : ℕ) : Type 0 where
  pub closed : (a b : ℕ) → mul a b < 256
  pub commutative : (a b : ℕ) → mul a b ≡ mul b a
  pub associative : (a b c : ℕ) → mul (mul a b) c ≡ mul a (mul b c)
  pub distributes : (a b c : ℕ) → mul a (bit_xor b c) ≡ bit_xor (mul a b) (mul a c)
  pub unit : (a : ℕ) → a < 256 → mul one a ≡ a
  pub inverses : (a : ℕ) → a < 256 → a ≢ 0 → (b : ℕ) × (b < 256) × (mul a b ≡ one)
  pub no_zero_divisors : (a b : ℕ) → a < 256 → b < 256 → a ≢ 0 → b ≢ 0 → mul a b ≢ 0
  pub powers_distinct : (i j : ℕ) → i < 255 → j < 255 → pow i ≡ pow j → i ≡ j
  pub powers_are_all : (a : ℕ) → a < 256 → a ≢ 0 → (k : ℕ) × (k < 255) × (pow k ≡ a)
  pub powers_add : (i j : ℕ) → mul (pow i) (pow j) ≡ pow (i + j)
