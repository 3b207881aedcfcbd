-- Bytes as polynomials over two elements: bit k stands for z^k, and bytes are added by XOR (`bit_xor`).
-- Their product is taken modulo z^8 + z^4 + z^3 + z^2 + 1, whose bits are 0x11D. α is the byte 02, which is z.
use Rattle.std.specs.Prelude.{◌≡◌, ℕ, zero, suc, ◌*◌, ◌/◌, ◌%◌, ◌<◌, cond, List, [], ◌∷◌, Some, None, Option, ◌==◌, bit_xor}

-- z times a byte: doubled, and the modulus added where z^8 came, which is where bit 7 was set
unfoldable pub times_z : ℕ → ℕ
times_z a = bit_xor (2 * a) (0x11D * (a / 128))

-- the sum of z^k times a over those k < n at which b has bit k
unfoldable pub times_low : ℕ → ℕ → ℕ → ℕ
times_low zero a b = 0
times_low (suc n) a b = bit_xor (cond (b % 2 == 0) 0 a) (times_low n (times_z a) (b / 2))

-- the product of two bytes (of two numbers: of their low bytes)
unfoldable pub mul : ℕ → ℕ → ℕ
mul a b = times_low 8 (a % 256) (b % 256)

-- α^k
unfoldable pub pow : ℕ → ℕ
pow zero = 1
pow (suc k) = times_z (pow k)

-- x^k
unfoldable pub raise : ℕ → ℕ → ℕ
raise x zero = 1
raise x (suc k) = mul x (raise x k)

-- the exponent of a byte: none at 0, else the k below 255 with α^k equal to it
abbrev pub Exponent : ℕ → Option ℕ → Type 0
Exponent a None = a ≡ 0
Exponent a (Some k) = (k < 255) × (pow k ≡ a)

-- a times the powers 0 to 5 of α^t
unfoldable pub terms : ℕ → ℕ → List ℕ
terms a t = mul a (raise (pow t) 0) ∷ mul a (raise (pow t) 1) ∷ mul a (raise (pow t) 2) ∷ mul a (raise (pow t) 3) ∷ mul a (raise (pow t) 4) ∷ mul a (raise (pow t) 5) ∷ []
