-- One call of a board, whole lists of them, and the ledger that a host would keep of them.
use Rattle.std.specs.Prelude.{◌≡◌, ℕ, ◌+◌, ◌*◌, ◌<◌, ◌≤◌, Bool, false, cond, ◌&&◌, ◌⊎◌, List, [], ◌∷◌, ◌++◌, ◌==◌, slice_index}
use Rattle.codec.specs.Code.{zero_line}
use Rattle.codec.specs.Word.{distance}
use Rattle.rules.specs.Places.{bank_of, check_in, group_of, index_of, line_in, parity_bank}
use Rattle.rules.specs.Rules.{HostCall, State, accepted, answer, puts}
use Rattle.rules.specs.Answers.{Answer}
use Rattle.rules.specs.declared.calls.Call.TheVariants.{Clear, Mark, Pass, Read, Renew, Scrub, Settle, Write}
use Rattle.stack.specs.Memory.{Place}
use Rattle.stack.specs.Pieces.{after, covered}

-- THE LEDGER: the line that each address last accepted, and the marked banks

pub record Ledger : Type 0 where
  pub lines : ℕ → List ℕ
  pub marks : List ℕ

abbrev pub blank : Ledger
blank = record { lines = λ a. zero_line; marks = [] }

abbrev pub same_group : List ℕ → ℕ → ℕ → Bool
same_group marks a x = index_of x == index_of a && group_of marks (bank_of x) == group_of marks (bank_of a)

-- an accepted call
abbrev pub enter : Ledger → HostCall → Ledger
enter B (Read a n) = B
enter B (Write a l) = record { lines = λ x. cond (x == a) l (B.lines x); marks = B.marks }
enter B (Renew a l) = record { lines = λ x. cond (x == a) l (B.lines x); marks = B.marks }
enter B (Clear a) = record { lines = λ x. cond (same_group B.marks a x) zero_line (B.lines x); marks = B.marks }
enter B (Scrub a w) = B
enter B (Mark b w) = record { lines = B.lines; marks = B.marks ++ b ∷ [] }
enter B Settle = B
enter B Pass = B

-- calls and their answers, the latest first
pub record Event : Type 0 where
  pub call : HostCall
  pub answer : Answer

unfoldable pub ledger : List Event → Ledger
ledger [] = blank
ledger (e ∷ es) = cond (accepted e.answer) (enter (ledger es) e.call) (ledger es)

-- DAMAGE: a symbol is wrong when its place shows another byte than it keeps

abbrev pub wrong_line : State → ℕ → ℕ
wrong_line s a = distance (line_in s.marks s.kept a) (line_in s.marks s.shown a)

abbrev pub wrong_check : State → ℕ → ℕ
wrong_check s a = distance (check_in s.marks s.kept a) (check_in s.marks s.shown a)

abbrev pub wrong : State → ℕ → ℕ
wrong s a = wrong_line s a + wrong_check s a

-- the bank that a mark is about to retire, if any
abbrev pub Named : HostCall → ℕ → Type 0
Named (Read a n) b = ⊥
Named (Write a l) b = ⊥
Named (Renew a l) b = ⊥
Named (Clear a) b = ⊥
Named (Scrub a w) b = ⊥
Named (Mark m w) b = b ≡ m
Named Settle b = ⊥
Named Pass b = ⊥

-- two addresses of one group
pub record Grouped (marks : List ℕ) (a x : ℕ) : Type 0 where
  pub index : index_of a ≡ index_of x
  pub group : group_of marks (bank_of a) ≡ group_of marks (bank_of x)

-- Damage is tolerable before a call: in each group at most one word has more than one wrong symbol, and that at most four, one of
-- them in its check at most, and the parity line none. `N` says which bank the call is about to retire, if any: its words are
-- the one word of their groups that may have more than one wrong symbol, and their lines are not counted.
pub record Tolerable (N : ℕ → Type 0) (s : State) : Type 0 where
  pub one : (a x : ℕ) → a < 64 * s.size → x < 64 * s.size → Grouped s.marks a x
      → N (bank_of a) ⊎ (1 < wrong s a) → N (bank_of x) ⊎ (1 < wrong s x) → a ≡ x
  pub four : (a : ℕ) → a < 64 * s.size → N (bank_of a) ⊎ (wrong s a ≤ 4)
  pub check : (a : ℕ) → a < 64 * s.size → wrong_check s a ≤ 1
  pub parity : (a k : ℕ) → a < 64 * s.size → k < 64
      → s.shown (parity_bank s.marks (bank_of a)) (index_of a) k ≡ s.kept (parity_bank s.marks (bank_of a)) (index_of a) k

-- no bank
abbrev pub NoneNamed : ℕ → Type 0
NoneNamed b = ⊥

-- ONE CALL

abbrev pub marks_after : State → HostCall → List ℕ
marks_after s (Read a n) = s.marks
marks_after s (Write a l) = s.marks
marks_after s (Renew a l) = s.marks
marks_after s (Clear a) = s.marks
marks_after s (Scrub a w) = s.marks
marks_after s (Mark b w) = cond (accepted (answer s (Mark b w))) (s.marks ++ b ∷ []) s.marks
marks_after s Settle = s.marks
marks_after s Pass = s.marks

-- what is given as a line consists of bytes
abbrev pub Given : HostCall → Type 0
Given (Read a n) = Unit {0}
Given (Write a l) = (k : ℕ) → slice_index l k < 256
Given (Renew a l) = (k : ℕ) → slice_index l k < 256
Given (Clear a) = Unit {0}
Given (Scrub a w) = Unit {0}
Given (Mark b w) = Unit {0}
Given Settle = Unit {0}
Given Pass = Unit {0}

-- settle and pass may change what is shown anywhere
abbrev pub LeavesShown : HostCall → Type 0
LeavesShown (Read a n) = Unit {0}
LeavesShown (Write a l) = Unit {0}
LeavesShown (Renew a l) = Unit {0}
LeavesShown (Clear a) = Unit {0}
LeavesShown (Scrub a w) = Unit {0}
LeavesShown (Mark b w) = Unit {0}
LeavesShown Settle = ⊥
LeavesShown Pass = ⊥

pub record Step (s : State) (c : HostCall) (r : Answer) (t : State) : Type 0 where
  pub given : Given c
  pub says : r ≡ answer s c
  pub size : t.size ≡ s.size
  pub marks : t.marks ≡ marks_after s c
  pub kept : (b i k : ℕ) → Place s.size b i k → t.kept b i k ≡ after s.kept (puts s c) b i k
  pub shown : LeavesShown c → (b i k : ℕ) → Place s.size b i k → covered (puts s c) b i k ≡ false → t.shown b i k ≡ s.shown b i k
  pub bytes : (b i k : ℕ) → Place t.size b i k → t.shown b i k < 256

-- LISTS OF CALLS

pub record Formatted (s : State) : Type 0 where
  pub stage : s.marks ≡ []
  pub zero : (b i k : ℕ) → Place s.size b i k → s.kept b i k ≡ 0
  pub bytes : (b i k : ℕ) → Place s.size b i k → s.shown b i k < 256

-- a board newly formatted and then led on by calls and nothing else, the damage tolerable before each
pub data History : State → List Event → Type 0 where
  fresh : {s : State} → Formatted s → History s []
  next : {s t : State} {es : List Event} {c : HostCall} {r : Answer}
      → History s es → Tolerable (Named c) s → Step s c r t → History t (record { call = c; answer = r } ∷ es)
