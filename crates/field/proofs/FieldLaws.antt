-- The laws of the field of bytes.
use Rattle.std.proofs.Common.{◌≡◌, ℕ, zero, suc, ◌+◌, ◌-◌, ◌*◌, ◌/◌, ◌%◌, ◌<◌, Bool, true, false, cond, T, eqb, ltb, ◌≢◌, List, [], ◌∷◌, get_or, sym, refl, ap, ◌∙◌, subst, add-zero, add_assoc, add-suc, mod-eq_of_lt, add_comm, suc-add, zero-add, arith, lit<, eqb→eq, ltb→lt}
use native.Mathlib.Nat.{mod-mod}
use native.Mathlib.Nat as nat
use lib.Bits.{bit_xor, xor_lt, xor_shr, xor_mod, xor_block, xor_self}
use Rattle.field.specs.Field.{times_z, times_low, mul, pow, raise}
use Rattle.field.specs.Laws.{Laws}
use Rattle.field.proofs.Every.{every, at, same}
use Rattle.field.proofs.Xor.{xor_swap, xor_eq}

-- z times a sum
double_xor : (a b : ℕ) → 2 * bit_xor a b ≡ bit_xor (2 * a) (2 * b)
double_xor a b =
    let e = xor_block 1 a b 0 0 (lit< tt) (lit< tt) in
    rw (nat.mul_comm 2 (bit_xor a b), nat.mul_comm 2 a, nat.mul_comm 2 b) (sym (simp add-zero at e))

modulus_xor : (x y : ℕ) → x < 2 → y < 2 → 0x11D * bit_xor x y ≡ bit_xor (0x11D * x) (0x11D * y)
modulus_xor zero y hx hy = refl
modulus_xor (suc zero) zero hx hy = refl
modulus_xor (suc zero) (suc zero) hx hy = refl
modulus_xor (suc zero) (suc (suc y)) hx hy = absurd (omega arith)
modulus_xor (suc (suc x)) y hx hy = absurd (omega arith)

pub times_z_xor : (a b : ℕ) → a < 256 → b < 256 → times_z (bit_xor a b) ≡ bit_xor (times_z a) (times_z b)
unfolding times_z
times_z_xor a b ha hb =
    let la : a / 128 < 2 = omega arith in
    let lb : b / 128 < 2 = omega arith in
    let e : 0x11D * (bit_xor a b / 128) ≡ bit_xor (0x11D * (a / 128)) (0x11D * (b / 128)) = ap (λ n. 0x11D * n) (xor_shr a b 7) ∙ modulus_xor (a / 128) (b / 128) la lb in
    rw (double_xor a b, e) (xor_swap (2 * a) (2 * b) (0x11D * (a / 128)) (0x11D * (b / 128)))

pub times_z_lt : (a : ℕ) → a < 256 → times_z a < 256
unfolding times_z every
times_z_lt a h = ltb→lt (times_z a) 256 (at (λ k. ltb (times_z k) 256) 256 tt a h)

-- z times a byte is 0 only at 0
zero_test : T (every (λ k. cond (eqb (times_z k) 0) (eqb k 0) true) 256)
unfolding times_z every
zero_test = tt

pub times_z_zero : (a : ℕ) → a < 256 → times_z a ≡ 0 → a ≡ 0
times_z_zero a h e =
    eqb→eq a 0 (subst (λ n. T (cond (eqb n 0) (eqb a 0) true)) e (at (λ k. cond (eqb (times_z k) 0) (eqb k 0) true) 256 zero_test a h))

-- a bit of b picks a or 0
pick_lt : (t : Bool) (a : ℕ) → a < 256 → cond t 0 a < 256
pick_lt true a h = lit< tt
pick_lt false a h = h

pick_zero : (t : Bool) → cond {A = ℕ} t 0 0 ≡ 0
pick_zero true = refl
pick_zero false = refl

pick_xor : (t : Bool) (a b : ℕ) → cond t 0 (bit_xor a b) ≡ bit_xor (cond t 0 a) (cond t 0 b)
pick_xor true a b = refl
pick_xor false a b = refl

pick_times_z : (t : Bool) (a : ℕ) → cond t 0 (times_z a) ≡ times_z (cond t 0 a)
unfolding times_z
pick_times_z true a = refl
pick_times_z false a = refl

times_low_lt : (n a b : ℕ) → a < 256 → times_low n a b < 256
unfolding times_low
times_low_lt zero a b h = lit< tt
times_low_lt (suc n) a b h = xor_lt 8 (cond (eqb (b % 2) 0) 0 a) (times_low n (times_z a) (b / 2)) (pick_lt (eqb (b % 2) 0) a h) (times_low_lt n (times_z a) (b / 2) (times_z_lt a h))

times_low_xor : (n a c b : ℕ) → a < 256 → c < 256 → times_low n (bit_xor a c) b ≡ bit_xor (times_low n a b) (times_low n c b)
unfolding times_low
times_low_xor zero a c b ha hc = refl
times_low_xor (suc n) a c b ha hc =
    rw (pick_xor (eqb (b % 2) 0) a c, times_z_xor a c ha hc, times_low_xor n (times_z a) (times_z c) (b / 2) (times_z_lt a ha) (times_z_lt c hc))
    (xor_swap (cond (eqb (b % 2) 0) 0 a) (cond (eqb (b % 2) 0) 0 c) (times_low n (times_z a) (b / 2)) (times_low n (times_z c) (b / 2)))

times_low_times_z : (n a b : ℕ) → a < 256 → times_low n (times_z a) b ≡ times_z (times_low n a b)
unfolding times_low
times_low_times_z zero a b h = unfold times_z in refl
times_low_times_z (suc n) a b h =
    rw (pick_times_z (eqb (b % 2) 0) a, times_low_times_z n (times_z a) (b / 2) (times_z_lt a h))
    (sym (times_z_xor (cond (eqb (b % 2) 0) 0 a) (times_low n (times_z a) (b / 2)) (pick_lt (eqb (b % 2) 0) a h) (times_low_lt n (times_z a) (b / 2) (times_z_lt a h))))

times_low_zero : (n b : ℕ) → times_low n 0 b ≡ 0
unfolding times_low times_z
times_low_zero zero b = refl
times_low_zero (suc n) b = rw (pick_zero (eqb (b % 2) 0)) (times_low_zero n (b / 2))

times_low_none : (n a : ℕ) → times_low n a 0 ≡ 0
unfolding times_low
times_low_none zero a = refl
times_low_none (suc n) a = times_low_none n (times_z a)

-- ---- powers of α

-- z^k times b
z_times : ℕ → ℕ → ℕ
z_times zero b = b
z_times (suc k) b = times_z (z_times k b)

z_times_lt : (k b : ℕ) → b < 256 → z_times k b < 256
unfolding z_times
z_times_lt zero b h = h
z_times_lt (suc k) b h = times_z_lt (z_times k b) (z_times_lt k b h)

z_times_pow : (k j : ℕ) → z_times k (pow j) ≡ pow (k + j)
unfolding z_times pow
z_times_pow zero j = ap pow (sym (zero-add j))
z_times_pow (suc k) j = ap times_z (z_times_pow k j) ∙ ap pow (sym (suc-add k j))

pow_0 : pow 0 ≡ 1
unfolding pow
pow_0 = refl

pub pow_lt : (k : ℕ) → pow k < 256
unfolding pow
pow_lt zero = lit< tt
pow_lt (suc k) = times_z_lt (pow k) (pow_lt k)

pub pow_nonzero : (k : ℕ) → pow k ≢ 0
unfolding pow
pow_nonzero zero e = omega arith
pow_nonzero (suc k) e = pow_nonzero k (times_z_zero (pow k) (pow_lt k) e)

one_test : T (every (λ k. eqb (times_low 8 1 k) k) 256)
unfolding times_z times_low every
one_test = tt

low_one : (b : ℕ) → b < 256 → times_low 8 1 b ≡ b
low_one = same (λ k. times_low 8 1 k) (λ k. k) 256 one_test

low_pow : (k b : ℕ) → b < 256 → times_low 8 (pow k) b ≡ z_times k b
unfolding pow z_times
low_pow zero b h = low_one b h
low_pow (suc k) b h = times_low_times_z 8 (pow k) b (pow_lt k) ∙ ap times_z (low_pow k b h)

-- on bytes the product is the sum over the bits
mul_low : (a b : ℕ) → a < 256 → b < 256 → mul a b ≡ times_low 8 a b
unfolding mul
mul_low a b ha hb = rw (mod-eq_of_lt ha, mod-eq_of_lt hb)

pub mul_pow : (i j : ℕ) → mul (pow i) (pow j) ≡ pow (i + j)
mul_pow i j = mul_low (pow i) (pow j) (pow_lt i) (pow_lt j) ∙ low_pow i (pow j) (pow_lt j) ∙ z_times_pow i j

-- ---- logarithms

-- the place of a in a list, or the list's length
unfoldable pub index : ℕ → List ℕ → ℕ
index a [] = 0
index a (x ∷ xs) = let r = index a xs in cond (eqb x a) 0 (suc r)

-- n numbers, each z times the one before
unfoldable pub run : ℕ → ℕ → List ℕ
run zero x = []
run (suc n) x = x ∷ run n (times_z x)

z_times_first : (k x : ℕ) → z_times k (times_z x) ≡ times_z (z_times k x)
unfolding z_times
z_times_first zero x = refl
z_times_first (suc k) x = ap times_z (z_times_first k x)

run_at : (n x k : ℕ) → k < n → get_or (run n x) k 0 ≡ z_times k x
unfolding run z_times
run_at zero x k h = absurd (omega arith)
run_at (suc n) x zero h = refl
run_at (suc n) x (suc k) h = run_at n (times_z x) k (omega arith) ∙ z_times_first k x

pub run_pow : (n k : ℕ) → k < n → get_or (run n 1) k 0 ≡ pow k
run_pow n k h = run_at n 1 k h ∙ ap (z_times k) (sym pow_0) ∙ z_times_pow k 0 ∙ ap pow (add-zero k)

-- the powers of α from α^0 on
unfoldable pub powers : List ℕ
powers = run 255 1

unfoldable pub log : ℕ → ℕ
log a = index a powers

-- the values of f from i on
unfoldable pub tabled : (ℕ → ℕ) → ℕ → ℕ → List ℕ
tabled f zero i = []
tabled f (suc n) i = f i ∷ tabled f n (suc i)

pub tabled_at : (f : ℕ → ℕ) (n i k : ℕ) → k < n → get_or (tabled f n i) k 0 ≡ f (i + k)
unfolding tabled
tabled_at f zero i k h = absurd (omega arith)
tabled_at f (suc n) i zero h = ap f (sym (add-zero i))
tabled_at f (suc n) i (suc k) h = tabled_at f n (suc i) k (omega arith) ∙ ap f (suc-add i k ∙ sym (add-suc i k))

pow_log_test : T (every (λ k. eqb (pow (log (suc k))) (suc k)) 255)
unfolding every log powers run index pow times_z
pow_log_test = tt

log_lt_test : T (every (λ k. ltb (log (suc k)) 255) 255)
unfolding every log powers run index times_z
log_lt_test = tt

log_pow_test : T (every (λ k. eqb (log (pow k)) k) 255)
unfolding every log powers run index pow times_z
log_pow_test = tt

pub pow_log : (a : ℕ) → a < 256 → a ≢ 0 → pow (log a) ≡ a
pow_log zero h ne = absurd (ne refl)
pow_log (suc a) h ne = same (λ k. pow (log (suc k))) suc 255 pow_log_test a (omega arith)

pub log_lt : (a : ℕ) → a < 256 → a ≢ 0 → log a < 255
log_lt zero h ne = absurd (ne refl)
log_lt (suc a) h ne = ltb→lt (log (suc a)) 255 (at (λ k. ltb (log (suc k)) 255) 255 log_lt_test a (omega arith))

pub log_pow : (k : ℕ) → k < 255 → log (pow k) ≡ k
log_pow = same (λ k. log (pow k)) (λ k. k) 255 log_pow_test

-- the first 255 powers are distinct
pub pow_distinct : (i j : ℕ) → i < 255 → j < 255 → pow i ≡ pow j → i ≡ j
pow_distinct i j hi hj e = sym (log_pow i hi) ∙ ap log e ∙ log_pow j hj

pub pow_255 : pow 255 ≡ 1
unfolding pow times_z
pow_255 = refl

pub pow_turn : (k : ℕ) → pow (k + 255) ≡ pow k
pow_turn k = sym (mul_pow k 255) ∙ ap (mul (pow k)) pow_255 ∙ mul_low (pow k) 1 (pow_lt k) (lit< tt) ∙ low_pow k 1 (lit< tt) ∙ ap (z_times k) (sym pow_0) ∙ z_times_pow k 0 ∙ ap pow (add-zero k)

pow_turns : (q r : ℕ) → pow (r + q * 255) ≡ pow r
pow_turns zero r = ap pow (omega arith)
pow_turns (suc q) r = let e : r + suc q * 255 ≡ r + q * 255 + 255 = omega arith in ap pow e ∙ pow_turn (r + q * 255) ∙ pow_turns q r

-- exponents count modulo 255
pub pow_mod : (n : ℕ) → pow (n % 255) ≡ pow n
pow_mod n = sym (pow_turns (n / 255) (n % 255)) ∙ ap pow (nat.mod-add-div' n 255)

-- ---- the laws of the product

pub mul_lt : (a b : ℕ) → mul a b < 256
unfolding mul
mul_lt a b = times_low_lt 8 (a % 256) (b % 256) (omega arith)

pub mul_bytes : (a b : ℕ) → mul a b ≡ mul (a % 256) (b % 256)
unfolding mul
mul_bytes a b = rw (mod-mod a 256, mod-mod b 256)

pub mul_zero_l : (b : ℕ) → mul 0 b ≡ 0
unfolding mul
mul_zero_l b = times_low_zero 8 (b % 256)

pub mul_zero_r : (a : ℕ) → mul a 0 ≡ 0
unfolding mul
mul_zero_r a = times_low_none 8 (a % 256)

pub mul_one_l : (b : ℕ) → b < 256 → mul 1 b ≡ b
mul_one_l b h = mul_low 1 b (lit< tt) h ∙ low_one b h

-- a byte is 0 or a power of α
data Known : ℕ → Type 0 where
  none : Known 0
  power : (k : ℕ) → Known (pow k)

known : (a : ℕ) → a < 256 → Known a
known zero h = none
known (suc a) h = subst Known (pow_log (suc a) h (λ e. omega arith)) (power (log (suc a)))

comm_known : {a b : ℕ} → Known a → Known b → mul a b ≡ mul b a
comm_known none none = refl
comm_known none (power k) = mul_zero_l (pow k) ∙ sym (mul_zero_r (pow k))
comm_known (power k) none = mul_zero_r (pow k) ∙ sym (mul_zero_l (pow k))
comm_known (power k) (power j) = mul_pow k j ∙ ap pow (add_comm k j) ∙ sym (mul_pow j k)

byte : (a : ℕ) → a % 256 < 256
byte a = omega arith

pub mul_comm : (a b : ℕ) → mul a b ≡ mul b a
mul_comm a b = mul_bytes a b ∙ comm_known (known (a % 256) (byte a)) (known (b % 256) (byte b)) ∙ sym (mul_bytes b a)

assoc_known : {a b c : ℕ} → Known a → Known b → Known c → mul (mul a b) c ≡ mul a (mul b c)
assoc_known {b = b} {c = c} none h k = rw (mul_zero_l b, mul_zero_l c, mul_zero_l (mul b c))
assoc_known {c = c} (power i) none k = rw (mul_zero_r (pow i), mul_zero_l c) (sym (mul_zero_r (pow i)))
assoc_known (power i) (power j) none = rw (mul_zero_r (pow j), mul_zero_r (mul (pow i) (pow j))) (sym (mul_zero_r (pow i)))
assoc_known (power i) (power j) (power k) = rw (mul_pow i j, mul_pow j k, mul_pow (i + j) k, mul_pow i (j + k)) (ap pow (add_assoc i j k))

pub mul_byte_l : (a b : ℕ) → mul (a % 256) b ≡ mul a b
unfolding mul
mul_byte_l a b = rw (mod-mod a 256)

pub mul_byte_r : (a b : ℕ) → mul a (b % 256) ≡ mul a b
unfolding mul
mul_byte_r a b = rw (mod-mod b 256)

pub mul_assoc : (a b c : ℕ) → mul (mul a b) c ≡ mul a (mul b c)
mul_assoc a b c =
    let e = assoc_known (known (a % 256) (byte a)) (known (b % 256) (byte b)) (known (c % 256) (byte c)) in
    simp (mul_byte_l, mul_byte_r) at e

pub mul_xor_l : (a b c : ℕ) → mul (bit_xor a b) c ≡ bit_xor (mul a c) (mul b c)
unfolding mul
mul_xor_l a b c = rw (xor_mod a b 8) (times_low_xor 8 (a % 256) (b % 256) (c % 256) (byte a) (byte b))

pub mul_xor_r : (a b c : ℕ) → mul a (bit_xor b c) ≡ bit_xor (mul a b) (mul a c)
mul_xor_r a b c = rw (mul_comm a (bit_xor b c), mul_comm a b, mul_comm a c) (mul_xor_l b c a)

pub mul_left_comm : (a b c : ℕ) → mul a (mul b c) ≡ mul b (mul a c)
mul_left_comm a b c = sym (mul_assoc a b c) ∙ ap (λ x. mul x c) (mul_comm a b) ∙ mul_assoc b a c

pub mul_one_r : (a : ℕ) → a < 256 → mul a 1 ≡ a
mul_one_r a h = mul_comm a 1 ∙ mul_one_l a h

-- ---- inverses, and no divisors of zero

pub inverse : ℕ → ℕ
inverse a = pow (255 - log a)

inverse_lt : (a : ℕ) → inverse a < 256
unfolding inverse
inverse_lt a = pow_lt (255 - log a)

pub mul_inverse : (a : ℕ) → a < 256 → a ≢ 0 → mul a (inverse a) ≡ 1
unfolding inverse
mul_inverse a h ne =
    let l : log a < 255 = log_lt a h ne in
    let s : log a + (255 - log a) ≡ 255 = omega arith in
    ap (λ x. mul x (pow (255 - log a))) (sym (pow_log a h ne)) ∙ mul_pow (log a) (255 - log a) ∙ ap pow s ∙ pow_255

pub mul_cancel_zero : (a b : ℕ) → a < 256 → b < 256 → a ≢ 0 → mul a b ≡ 0 → b ≡ 0
mul_cancel_zero a b ha hb ne e =
    sym (mul_one_l b hb) ∙ ap (λ x. mul x b) (sym (mul_inverse a ha ne)) ∙ mul_assoc a (inverse a) b ∙ mul_left_comm a (inverse a) b
    ∙ ap (λ x. mul (inverse a) x) e ∙ mul_zero_r (inverse a)

pub mul_nonzero : (a b : ℕ) → a < 256 → b < 256 → a ≢ 0 → b ≢ 0 → mul a b ≢ 0
mul_nonzero a b ha hb na nb e = nb (mul_cancel_zero a b ha hb na e)

-- a common factor other than 0 can go
pub mul_cancel : (a b c : ℕ) → a < 256 → b < 256 → c < 256 → c ≢ 0 → mul a c ≡ mul b c → a ≡ b
mul_cancel a b c ha hb hc ne e =
    xor_eq a b
    (mul_cancel_zero c (bit_xor a b) hc (xor_lt 8 a b ha hb) ne
    (mul_comm c (bit_xor a b) ∙ mul_xor_l a b c ∙ ap (λ x. bit_xor x (mul b c)) e ∙ xor_self (mul b c)))

-- ---- powers of any byte

pub raise_lt : (x k : ℕ) → raise x k < 256
unfolding raise
raise_lt x zero = lit< tt
raise_lt x (suc k) = mul_lt x (raise x k)

pub raise_pow : (i k : ℕ) → raise (pow i) k ≡ pow (i * k)
unfolding raise
raise_pow i zero = rw (nat.mul-zero i) (unfold pow in refl)
raise_pow i (suc k) = rw (raise_pow i k, mul_pow i (i * k)) (ap pow (add_comm i (i * k) ∙ sym (nat.mul-suc i k)))

-- ---- all of them

pub laws : (one : ℕ) → one ≡ 1 → Laws one
laws one e =
    record {
      closed = mul_lt;
      commutative = mul_comm;
      associative = mul_assoc;
      distributes = mul_xor_r;
      unit = λ a h. ap (λ x. mul x a) e ∙ mul_one_l a h;
      inverses = λ a h ne. (inverse a, inverse_lt a, mul_inverse a h ne ∙ sym e);
      no_zero_divisors = mul_nonzero;
      powers_distinct = pow_distinct;
      powers_are_all = λ a h ne. (log a, log_lt a h ne, pow_log a h ne);
      powers_add = mul_pow;
    }
