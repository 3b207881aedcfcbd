-- Where the lines, their checks and the parity lines lie, and what every bank then holds.
-- `marks` has the marked banks in the order in which they were marked; its length is the stage.
use Rattle.std.specs.Prelude.{ℕ, ◌+◌, ◌-◌, ◌*◌, ◌/◌, ◌%◌, ◌<◌, Bool, true, false, cond, List, [], ◌∷◌, ◌++◌, ◌==◌, ◌≢◌, bit_xor, nat_lt, slice_index}
use Rattle.std.specs.List.{range_with_len}
use Rattle.codec.specs.Check.{check}
use Rattle.rules.specs.declared.roles.Role.{Role}
use Rattle.rules.specs.declared.roles.Role.TheVariants.{Fifth, First, Line, Parity, Retired, Second}
use Rattle.stack.specs.Memory.{Contents, cells}

-- the bank and the index that an address means
abbrev pub bank_of : ℕ → ℕ
bank_of a = a % 64

abbrev pub index_of : ℕ → ℕ
index_of a = a / 64

-- the bank where the line of b lies: b, or 71 if b was marked first, 69 if second
abbrev pub line_bank : List ℕ → ℕ → ℕ
line_bank [] b = b
line_bank (m ∷ []) b = cond (b == m) 71 b
line_bank (m ∷ n ∷ ms) b = cond (b == m) 71 (cond (b == n) 69 b)

-- words are short at stage 2
abbrev pub short : List ℕ → Bool
short [] = false
short (m ∷ []) = false
short (m ∷ n ∷ ms) = true

-- the group of b, and its banks in order
abbrev pub group_of : List ℕ → ℕ → ℕ
group_of [] b = b / 32
group_of (m ∷ ms) b = 0

abbrev pub members : List ℕ → ℕ → List ℕ
members [] g = range_with_len (32 * g) 32
members (m ∷ ms) g = range_with_len 0 64

-- its first bank, and how many it has
abbrev pub group_start : List ℕ → ℕ → ℕ
group_start [] b = 32 * (b / 32)
group_start (m ∷ ms) b = 0

abbrev pub group_count : List ℕ → ℕ
group_count [] = 32
group_count (m ∷ ms) = 64

-- a list without one number
abbrev pub without : ℕ → List ℕ → List ℕ
without b [] = []
without b (x ∷ xs) = cond (x == b) (without b xs) (x ∷ without b xs)

-- the XOR of f over a list
abbrev pub xor_over : (ℕ → ℕ) → List ℕ → ℕ
xor_over f [] = 0
xor_over f (x ∷ xs) = bit_xor (f x) (xor_over f xs)

-- the line symbols and the check symbols of a word, as a store has them
abbrev pub line_in : List ℕ → Contents → ℕ → List ℕ
line_in marks f a = cells f (line_bank marks (bank_of a)) (index_of a) 0 64

abbrev pub second_in : Bool → Contents → ℕ → List ℕ
second_in true f a = cells f 68 (index_of a) (bank_of a) 1
second_in false f a = cells f (68 + bank_of a / 32) (index_of a) (2 * (bank_of a % 32)) 2

abbrev pub check_in : List ℕ → Contents → ℕ → List ℕ
check_in marks f a = cells f (64 + bank_of a / 16) (index_of a) (4 * (bank_of a % 16)) 4 ++ second_in (short marks) f a

abbrev pub parity_bank : List ℕ → ℕ → ℕ
parity_bank marks b = 70 + group_of marks b

abbrev pub unmarked_role : ℕ → Role
unmarked_role bank =
    cond (nat_lt bank 64) (Line bank)
    (cond (nat_lt bank 68) (First (bank - 64)) (cond (nat_lt bank 70) (Second (bank - 68)) (Parity (bank - 70))))

unfoldable pub role : List ℕ → ℕ → Role
role [] bank = unmarked_role bank
role (m ∷ []) bank = cond (bank == m) Retired (cond (bank == 71) (Line m) (unmarked_role bank))
role (m ∷ n ∷ ms) bank =
    cond (bank == m) Retired
    (cond (bank == n) Retired
    (cond (bank == 71) (Line m) (cond (bank == 69) (Line n) (cond (bank == 68) Fifth (unmarked_role bank)))))

-- a bank is in use: one of the 72, and not marked
abbrev pub Unmarked : List ℕ → ℕ → Type 0
Unmarked [] bank = Unit {0}
Unmarked (m ∷ ms) bank = (bank ≢ m) × Unmarked ms bank

pub record InUse (marks : List ℕ) (bank : ℕ) : Type 0 where
  pub real : bank < 72
  pub free : Unmarked marks bank

-- byte k at index j of a bank with that role, where each address has the line that `lines` gives it
unfoldable pub image_by : List ℕ → (ℕ → List ℕ) → ℕ → ℕ → Role → ℕ
image_by marks lines j k (Line b) = slice_index (lines (64 * j + b)) k
image_by marks lines j k (First q) = slice_index (check (lines (64 * j + (16 * q + k / 4)))) (k % 4)
image_by marks lines j k (Second q) = slice_index (check (lines (64 * j + (32 * q + k / 2)))) (4 + k % 2)
image_by marks lines j k Fifth = slice_index (check (lines (64 * j + k))) 4
image_by marks lines j k (Parity g) = xor_over (λ b. slice_index (lines (64 * j + b)) k) (members marks g)
image_by marks lines j k Retired = 0

abbrev pub image : List ℕ → (ℕ → List ℕ) → Contents
image marks lines bank j k = image_by marks lines j k (role marks bank)
