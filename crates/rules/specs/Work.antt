-- What the code of the calls puts and loads, in words of its own.
use Rattle.std.specs.Prelude.{◌≡◌, ℕ, ◌+◌, ◌*◌, ◌<◌, ◌≤◌, not, List, [], ◌∷◌, ◌++◌, map, length, take, drop, replicate, Some, None, Option, Result, MatchResult, bit_xor, nat_lt, slice_index}
use Rattle.std.specs.List.{range_with_len}
use Rattle.codec.specs.Code.{zero_line}
use Rattle.rules.specs.Places.{bank_of, group_of, role}
use Rattle.rules.specs.Rules.{Outcome, Part, State, addresses, among, by_partner, filled, first_denied, for_mark, line_of, lowest, of_group, part, partners, partners_byte, reading, row, shown_parity, store_part, sum_line, unless, when}
use Rattle.stack.specs.declared.refusal.Refusal.{Refusal}
use Rattle.stack.specs.declared.refusal.Refusal.TheVariants.{BankAlreadyMarked, NoSpareLeft}

-- a line, its check and the parity line, by bank
abbrev pub storing : List ℕ → ℕ → List ℕ → List ℕ → ℕ → Option Part
storing marks b new par bank = store_part marks b new par (role marks bank)

-- zeros everywhere
abbrev pub formatting : ℕ → Option Part
formatting bank = part 0 zero_line

-- the line of bank x in a work buffer, and the lines of all addresses of an index
abbrev pub slot : List ℕ → ℕ → List ℕ
slot w x = take 64 (drop (64 * x) w)

abbrev pub slots : List ℕ → ℕ → List ℕ
slots w a = slot w (bank_of a)

-- the banks of the group of b, made anew from lines
abbrev pub scrubbing : List ℕ → ℕ → (ℕ → List ℕ) → ℕ → ℕ → Option Part
scrubbing marks b lines j bank = when (of_group marks (group_of marks b) (role marks bank)) (part 0 (row marks lines j bank))

-- the banks that a mark fills, from lines
abbrev pub filling : List ℕ → ℕ → (ℕ → List ℕ) → ℕ → ℕ → Option Part
filling marks b lines j bank = when (filled marks bank) (part 0 (row (marks ++ b ∷ []) lines j bank))

-- the line of an address, rebuilt if its bank is to be retired, else read
abbrev pub taken : State → Option ℕ → ℕ → Outcome
taken s (Some b) a = for_mark s b a
taken s None a = reading s a

-- the lines of banks lo to lo + n - 1 of an index lie in a work buffer, and none was denied
pub record Loaded (g : ℕ → Outcome) (i lo n : ℕ) (w : List ℕ) : Type 0 where
  pub none : first_denied g (addresses i (range_with_len lo n)) ≡ None
  pub lines : (x : ℕ) → lo ≤ x → x < lo + n → slot w x ≡ line_of (g (64 * i + x))

-- a work buffer after a call, by what the argument checks say
abbrev pub left_over : Option Refusal → List ℕ → List ℕ
left_over None w = replicate 4096 0 ++ drop 4096 w
left_over (Some e) w = w

-- the lower of the two banks that a mark fills; the other is the spare
abbrev pub lower : List ℕ → ℕ
lower [] = 70
lower (m ∷ ms) = 68

-- the middle argument checks of a mark
abbrev pub markable : ℕ → List ℕ → Option Refusal
markable b marks = unless (not (among b marks)) BankAlreadyMarked (unless (nat_lt (length marks) 2) NoSpareLeft None)

-- the parity line to be put with a line that takes an old one's place
abbrev pub parity_after : State → ℕ → List ℕ → List ℕ → List ℕ
parity_after s a old new = map (λ k. bit_xor (bit_xor (shown_parity s a k) (slice_index old k)) (slice_index new k)) (range_with_len 0 64)

-- RESULTS OF INNER FUNCTIONS

-- a partner of an address is uncorrectable
abbrev pub Blocked : State → ℕ → Refusal → Type 0
Blocked s a e = by_partner a (lowest s (partners s.marks a)) ≡ Some e

-- all partners of an address were decoded, and XORed into a line
pub record Summed (s : State) (a : ℕ) (was sum : List ℕ) : Type 0 where
  pub none : lowest s (partners s.marks a) ≡ None
  pub sums : (k : ℕ) → k < 64 → slice_index sum k ≡ bit_xor (slice_index was k) (partners_byte s a k)

abbrev pub Sums : State → ℕ → Result (Unit {0}) Refusal → List ℕ → List ℕ → Type 0
Sums s a r was sum = MatchResult r (λ _. Summed s a was sum) (Blocked s a)

-- the line of an address as its group has it
abbrev pub SumsGroup : State → ℕ → Result (Unit {0}) Refusal → List ℕ → Type 0
SumsGroup s a r l = MatchResult r (λ _. (lowest s (partners s.marks a) ≡ None) × (l ≡ sum_line s a)) (Blocked s a)

-- lines loaded into a work buffer, or the first refusal among them
abbrev pub Loads : (ℕ → Outcome) → ℕ → ℕ → ℕ → Result (Unit {0}) Refusal → List ℕ → Type 0
Loads g i lo n r w = MatchResult r (λ _. Loaded g i lo n w) (λ e. first_denied g (addresses i (range_with_len lo n)) ≡ Some e)

-- the refusal of the lowest address that a mark of bank b cannot obtain
abbrev pub lowest_denied : State → ℕ → Option Refusal
lowest_denied s b = first_denied (for_mark s b) (range_with_len 0 (64 * s.size))

abbrev pub Surveys : State → ℕ → Result (Unit {0}) Refusal → Type 0
Surveys s b r = MatchResult r (λ _. lowest_denied s b ≡ None) (λ e. lowest_denied s b ≡ Some e)
