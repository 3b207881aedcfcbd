-- What single fields spell.
use Rattle.std.specs.Prelude.{ℕ, ◌+◌, ◌-◌, ◌*◌, Bool, cond, ◌&&◌, List, [], ◌∷◌, length, Some, None, Option, ◌==◌, nat_le}
use Rattle.layers.specs.declared.fault.FaultKind.{FaultKind}
use Rattle.layers.specs.declared.fault.FaultKind.TheVariants.{Flip, StuckAtOne, StuckAtZero}

-- from a to b
abbrev pub among : ℕ → ℕ → ℕ → Bool
among a b x = nat_le a x && nat_le x b

-- the value of a decimal digit, and of a hexadecimal one in capitals
abbrev pub digit_value : ℕ → Option ℕ
digit_value x = cond (among 48 57 x) (Some (x - 48)) None

abbrev pub hex_value : ℕ → Option ℕ
hex_value x = cond (among 48 57 x) (Some (x - 48)) (cond (among 65 70 x) (Some (x - 55)) None)

-- a number with one more digit
abbrev pub with_digit : ℕ → Option ℕ → Option ℕ
with_digit n None = None
with_digit n (Some d) = Some (10 * n + d)

abbrev pub one_more : Option ℕ → ℕ → Option ℕ
one_more None x = None
one_more (Some n) x = with_digit n (digit_value x)

-- a number with more digits, in their order
unfoldable pub more_digits : Option ℕ → List ℕ → Option ℕ
more_digits n [] = n
more_digits n (x ∷ xs) = more_digits (one_more n x) xs

-- one to five digits
abbrev pub number_in : List ℕ → Option ℕ
number_in field = cond (among 1 5 (length field)) (more_digits (Some 0) field) None

-- a number up to 255
abbrev pub up_to_255 : Option ℕ → Option ℕ
up_to_255 None = None
up_to_255 (Some n) = cond (nat_le n 255) (Some n) None

abbrev pub delay_in : List ℕ → Option ℕ
delay_in field = up_to_255 (number_in field)

-- two hexadecimal digits, the higher one first
abbrev pub joined : Option ℕ → Option ℕ → Option ℕ
joined None l = None
joined (Some h) None = None
joined (Some h) (Some l) = Some (16 * h + l)

abbrev pub byte_in : List ℕ → Option ℕ
byte_in [] = None
byte_in (h ∷ []) = None
byte_in (h ∷ l ∷ []) = joined (hex_value h) (hex_value l)
byte_in (h ∷ l ∷ x ∷ xs) = None

-- one letter: F, O or Z
abbrev pub kind_of : ℕ → Option FaultKind
kind_of x = cond (x == 70) (Some Flip) (cond (x == 79) (Some StuckAtOne) (cond (x == 90) (Some StuckAtZero) None))

abbrev pub kind_in : List ℕ → Option FaultKind
kind_in [] = None
kind_in (x ∷ []) = kind_of x
kind_in (x ∷ y ∷ ys) = None
