-- The state of a board, and what a call does to a board.
use Rattle.std.specs.Prelude.{◌≡◌, ◌≢◌, ℕ, ◌+◌, ◌*◌, ◌/◌, ◌%◌, ◌<◌, ◌≤◌, ◌⊎◌, List, [], ◌++◌, length, None, Option, Result, MatchResult, slice_index, slice_index_or}
use Rattle.std.specs.List.{range_with_len}
use Rattle.std.specs.Borrow.{Bor}
use Rattle.codec.specs.Check.{check}
use Rattle.stack.specs.Memory.{Piece, cells}
use Rattle.stack.specs.Pieces.{InOrder}
use Rattle.stack.specs.declared.memory.Stack.{Ghosts}
use Rattle.stack.specs.declared.refusal.Refusal.{Refusal}
use Rattle.stack.specs.declared.refusal.Refusal.TheVariants.{AddressOutOfRange, LineLength}
use Rattle.rules.specs.Answers.{Answer}
use Rattle.rules.specs.Rules.{State, HostCall, Part, addresses, along, along_banks, answer, argument_check, clearing, first_denied, for_mark, line_of, otherwise, otherwise_part, piece_at, puts}
use Rattle.rules.specs.Work.{filling, formatting, left_over, scrubbing, slots, storing}
use Rattle.rules.specs.Places.{line_in, check_in}
use Rattle.rules.specs.History.{marks_after}
use Rattle.rules.specs.Boards.{board}
use Rattle.board.specs.declared.board.Board.{Board}
use Rattle.board.specs.Marks.{listed}

-- a board over a stack, as the rules see it
abbrev pub state : {X : Type 0} → Ghosts X → Board X → State
state G b = board (G.means b.stack) (listed b.marks)

-- the line symbols and the check symbols that an address shows
abbrev pub shown_line : {X : Type 0} → Ghosts X → Board X → ℕ → List ℕ
shown_line G b a = line_in (listed b.marks) (G.means b.stack).shown a

abbrev pub shown_check : {X : Type 0} → Ghosts X → Board X → ℕ → List ℕ
shown_check G b a = check_in (listed b.marks) (G.means b.stack).shown a

-- the first check that an address shows, and so many bytes shown from a place on
abbrev pub first_then : {X : Type 0} → Ghosts X → Board X → ℕ → ℕ → ℕ → ℕ → ℕ → List ℕ
first_then G b a bank index byte n =
    cells (G.means b.stack).shown (64 + a % 64 / 16) (a / 64) (4 * (a % 64 % 16)) 4 ++ cells (G.means b.stack).shown bank index byte n

-- the stack went through these pieces, in order, and through nothing else; the marks stayed
pub record Ran {X : Type 0} (G : Ghosts X) (b : Board X) (pieces : List Piece) (t : Board X) : Type 0 where
  pub run : InOrder G.means G.puts b.stack pieces t.stack
  pub marks : t.marks ≡ b.marks

-- the stack went through the pieces of a call, in order, and through nothing else
abbrev pub PutsOf : {X : Type 0} → Ghosts X → Board X → HostCall → Board X → Type 0
PutsOf G b c t = InOrder G.means G.puts b.stack (puts (state G b) c) t.stack

-- the answer is that of the rules
abbrev pub Answers : {X : Type 0} → Ghosts X → Board X → HostCall → Answer → Type 0
Answers G b c r = r ≡ answer (state G b) c

-- the marks are those after a call
abbrev pub MarksOf : {X : Type 0} → Ghosts X → Board X → HostCall → Board X → Type 0
MarksOf G b c t = listed t.marks ≡ marks_after (state G b) c

-- there is no such address
pub record NoSuchAddress (size a : ℕ) (e : Refusal) : Type 0 where
  pub past : size ≤ a / 64
  pub says : e ≡ AddressOutOfRange

-- whether there is such an address
abbrev pub TellsAddress : ℕ → ℕ → Result (Unit {0}) Refusal → Type 0
TellsAddress size a r = MatchResult r (λ _. a / 64 < size) (NoSuchAddress size a)

-- a line can be stored at an address, and it is this one
pub record Storable (size a : ℕ) (line : List ℕ) (new : Bor (List ℕ)) : Type 0 where
  pub in_range : a / 64 < size
  pub long : length line ≡ 64
  pub same : new.now ≡ line

-- why it cannot
abbrev pub Unstorable : ℕ → ℕ → List ℕ → Refusal → Type 0
Unstorable size a line e = NoSuchAddress size a e ⊎ ((a / 64 < size) × (length line ≢ 64) × (e ≡ LineLength))

-- whether it can
abbrev pub TellsStorable : ℕ → ℕ → List ℕ → Result (Bor (List ℕ)) Refusal → Type 0
TellsStorable size a line r = MatchResult r (Storable size a line) (Unstorable size a line)

-- the pieces of a line stored with its check and the parity line: all of them, and those of one bank
abbrev pub stored_piece : {X : Type 0} → Board X → ℕ → List ℕ → List ℕ → ℕ → List Piece
stored_piece b a new par bank = piece_at (storing (listed b.marks) (a % 64) new par bank) (a / 64) bank []

abbrev pub stored_pieces : {X : Type 0} → Board X → ℕ → List ℕ → List ℕ → List Piece
stored_pieces b a new par = along_banks (storing (listed b.marks) (a % 64) new par) (a / 64) (range_with_len 0 72)

-- they were put, and nothing else
abbrev pub Stores : {X : Type 0} → Ghosts X → Board X → ℕ → List ℕ → List ℕ → Board X → Type 0
Stores G b a new par t = Ran G b (stored_pieces b a new par) t

abbrev pub StoresBank : {X : Type 0} → Ghosts X → Board X → ℕ → List ℕ → List ℕ → ℕ → Board X → Type 0
StoresBank G b a new par bank t = Ran G b (stored_piece b a new par bank) t

-- zeros in the banks of the group of a bank
abbrev pub cleared_pieces : {X : Type 0} → Board X → ℕ → ℕ → List Piece
cleared_pieces b bank index = along_banks (clearing (listed b.marks) bank) index (range_with_len 0 72)

-- zeros were put everywhere, and nothing else
abbrev pub Zeroed : {X : Type 0} → Ghosts X → X → X → Type 0
Zeroed G x y = InOrder G.means G.puts x (along (λ _. formatting) (range_with_len 0 (G.means x).size)) y

-- and then the stack was settled
abbrev pub FormatRun : {X : Type 0} → Ghosts X → X → X → Type 0
FormatRun {X} G x z = (y : X) × (Zeroed G x y) × (G.settles y z)

-- the line of a bank in a list of lines
abbrev pub line_at : List (List ℕ) → ℕ → List ℕ
line_at lines b = slice_index_or lines b []

-- of each line in turn, so many symbols of its check from one on
abbrev pub HasChecks : List (List ℕ) → ℕ → ℕ → List ℕ → Type 0
HasChecks lines from per row = (k : ℕ) → k < 64 → slice_index row k ≡ slice_index (check (line_at lines (k / per))) (from + k % per)

-- what a scrub of the group of a bank puts at an index, from the lines in a work buffer, and how many bytes of it were shown otherwise
abbrev pub scrubbed_part : {X : Type 0} → Board X → ℕ → ℕ → List ℕ → ℕ → Option Part
scrubbed_part b bank index work = scrubbing (listed b.marks) bank (slots work) index

abbrev pub scrubbed_piece : {X : Type 0} → Board X → ℕ → ℕ → List ℕ → ℕ → List Piece
scrubbed_piece b bank index work at = piece_at (scrubbed_part b bank index work at) index at []

abbrev pub scrubbed_pieces : {X : Type 0} → Board X → ℕ → ℕ → List ℕ → List Piece
scrubbed_pieces b bank index work = along_banks (scrubbed_part b bank index work) index (range_with_len 0 72)

abbrev pub scrubbed_count : {X : Type 0} → Ghosts X → Board X → ℕ → ℕ → List ℕ → ℕ → ℕ
scrubbed_count G b bank index work at = otherwise_part (G.means b.stack).shown index at (scrubbed_part b bank index work at)

abbrev pub scrubbed_total : {X : Type 0} → Ghosts X → Board X → ℕ → ℕ → List ℕ → ℕ
scrubbed_total G b bank index work = otherwise (G.means b.stack).shown index (scrubbed_part b bank index work) (range_with_len 0 72)

abbrev pub Scrubs : {X : Type 0} → Ghosts X → Board X → ℕ → ℕ → List ℕ → Board X → Type 0
Scrubs G b bank index work t = Ran G b (scrubbed_pieces b bank index work) t

abbrev pub ScrubsBank : {X : Type 0} → Ghosts X → Board X → ℕ → ℕ → List ℕ → ℕ → Board X → Type 0
ScrubsBank G b bank index work at t = Ran G b (scrubbed_piece b bank index work at) t

-- what a mark of a bank puts, at an index and everywhere
abbrev pub retired_parts : {X : Type 0} → Ghosts X → Board X → ℕ → ℕ → ℕ → Option Part
retired_parts G b bank = filling (listed b.marks) bank (λ a. line_of (for_mark (state G b) bank a))

abbrev pub retired_pieces : {X : Type 0} → Ghosts X → Board X → ℕ → ℕ → List Piece
retired_pieces G b bank index = along_banks (retired_parts G b bank index) index (range_with_len 0 72)

abbrev pub all_retired_pieces : {X : Type 0} → Ghosts X → Board X → ℕ → List Piece
all_retired_pieces G b bank = along (retired_parts G b bank) (range_with_len 0 (G.means b.stack).size)

-- a mark of a bank can obtain all lines of an index
abbrev pub Obtainable : {X : Type 0} → Ghosts X → Board X → ℕ → ℕ → Type 0
Obtainable G b bank index = first_denied (for_mark (state G b) bank) (addresses index (range_with_len 0 64)) ≡ None

-- a call was done as the rules say
pub record Did {X : Type 0} (G : Ghosts X) (b : Board X) (c : HostCall) (r : Answer) (t : Board X) : Type 0 where
  pub answers : Answers G b c r
  pub puts : PutsOf G b c t
  pub marks : MarksOf G b c t

-- a work buffer before and after a call: the first 4,096 bytes are zero once it was accepted, the rest stays
abbrev pub WorkOf : {X : Type 0} → Ghosts X → Board X → (ℕ → HostCall) → List ℕ → List ℕ → Type 0
WorkOf G b call before after = after ≡ left_over (argument_check (G.means b.stack).size (listed b.marks) (call (length before))) before
