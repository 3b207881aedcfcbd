-- What input lines say.
use Rattle.std.specs.Prelude.{◌≡◌, ℕ, ◌+◌, ◌-◌, ◌*◌, ◌<◌, Bool, true, cond, ◌&&◌, ◌≢◌, List, length, is_some, Some, None, Ok, Err, Option, Result, ◌==◌, nat_le, nat_lt, slice_index}
use Rattle.codeword.specs.declared.input.Problem.{Problem}
use Rattle.codeword.specs.declared.input.Problem.TheVariants.{Length, NoByte, Form, Range}

-- from a to b
abbrev pub among : ℕ → ℕ → ℕ → Bool
among a b x = nat_le a x && nat_le x b

-- the value of a hexadecimal digit: 0 to 9, A to F, a to f
abbrev pub hex : ℕ → Option ℕ
hex b = cond (among 48 57 b) (Some (b - 48)) (cond (among 65 70 b) (Some (b - 55)) (cond (among 97 102 b) (Some (b - 87)) None))

abbrev pub joined : Option ℕ → Option ℕ → Option ℕ
joined None l = None
joined (Some h) None = None
joined (Some h) (Some l) = Some (16 * h + l)

-- the byte that two hexadecimal digits spell
abbrev pub hex_byte : ℕ → ℕ → Option ℕ
hex_byte h l = joined (hex h) (hex l)

-- the value of a decimal digit
abbrev pub decimal : ℕ → Option ℕ
decimal b = cond (among 48 57 b) (Some (b - 48)) None

-- byte k of a text of hexadecimal digits
abbrev pub byte_at : List ℕ → ℕ → Option ℕ
byte_at text k = hex_byte (slice_index text (2 * k)) (slice_index text (2 * k + 1))

-- 64 bytes are read from 128 digits; another length, or the first pair that spells no byte, is named
abbrev pub LineRead : List ℕ → Result (List ℕ) Problem → Type 0
LineRead text (Ok line) = (length text ≡ 128) × ((k : ℕ) → k < 64 → byte_at text k ≡ Some (slice_index line k))
LineRead text (Err (Length n)) = (n ≡ length text) × (n ≢ 128)
LineRead text (Err (NoByte c)) = (k : ℕ) × (k < 64) × (c ≡ 2 * k + 1) × (byte_at text k ≡ None) × ((j : ℕ) → j < k → is_some (byte_at text j) ≡ true)
LineRead text (Err Form) = ⊥
LineRead text (Err Range) = ⊥

-- a symbol's number from two digits, and what is added to it
abbrev pub change_of : Option ℕ → Option ℕ → Option ℕ → Result (ℕ × ℕ) Problem
change_of None o x = Err Form
change_of (Some t) None x = Err Form
change_of (Some t) (Some o) None = Err Form
change_of (Some t) (Some o) (Some x) = cond (nat_lt 69 (10 * t + o)) (Err Range) (Ok (10 * t + o, x))

-- the change in a text: one or two digits, a blank (20) and two hexadecimal digits
abbrev pub change_in : List ℕ → Result (ℕ × ℕ) Problem
change_in text =
    cond (length text == 4 && slice_index text 1 == 0x20)
    (change_of (decimal 0x30) (decimal (slice_index text 0)) (hex_byte (slice_index text 2) (slice_index text 3)))
    (cond (length text == 5 && slice_index text 2 == 0x20)
    (change_of (decimal (slice_index text 0)) (decimal (slice_index text 1)) (hex_byte (slice_index text 3) (slice_index text 4)))
    (Err Form))
