-- The marked banks as the board has them, as a list.
use Rattle.std.specs.Prelude.{◌≡◌, ℕ, ◌<◌, Bool, List, [], ◌∷◌, ◌++◌, Some, None, Option, Result, MatchResult, nat_lt}
use Rattle.stack.specs.declared.refusal.Refusal.{Refusal}
use Rattle.stack.specs.declared.refusal.Refusal.TheVariants.{BankOutOfRange}
use Rattle.rules.specs.declared.roles.Role.{Role}
use Rattle.rules.specs.declared.roles.Role.TheVariants.{Fifth, First, Line, Parity, Retired, Second}
use Rattle.rules.specs.Places.{role, group_of}
use Rattle.rules.specs.Rules.{of_group, unless}
use Rattle.rules.specs.Work.{markable}
use Rattle.board.specs.declared.bank.Bank.{Bank}
use Rattle.board.specs.declared.marks.Marks.{Marks}
use Rattle.board.specs.declared.marks.Marks.TheVariants.{Zero, One, Two}

abbrev pub listed : Marks → List ℕ
listed Zero = []
listed (One m) = m.number ∷ []
listed (Two m n) = m.number ∷ n.number ∷ []

-- a role speaks of a bank or a group that there is
abbrev pub IsReal : Role → Type 0
IsReal (Line b) = b < 64
IsReal (First q) = q < 4
IsReal (Second q) = q < 2
IsReal Fifth = Unit {0}
IsReal (Parity g) = g < 2
IsReal Retired = Unit {0}

-- a bank that may be marked, added
pub record Added (before : Marks) (bank : Bank) (after : Marks) : Type 0 where
  pub allowed : markable bank.number (listed before) ≡ None
  pub list : listed after ≡ listed before ++ bank.number ∷ []

-- the marks with one more bank, or why there are none
abbrev pub Adds : Marks → Bank → Result Marks Refusal → Type 0
Adds before bank r = MatchResult r (Added before bank) (λ e. markable bank.number (listed before) ≡ Some e)

-- a bank holds lines, checks or the parity of the group of b
abbrev pub holds_of_group : List ℕ → ℕ → ℕ → Bool
holds_of_group marks b bank = of_group marks (group_of marks b) (role marks bank)

-- why a bank of that number cannot be marked, if it cannot
abbrev pub unmarkable : List ℕ → ℕ → Option Refusal
unmarkable marks b = unless (nat_lt b 64) BankOutOfRange (markable b marks)

-- a bank given by its number, added, or why it is not
pub record Grown (before : Marks) (b : ℕ) (after : Marks) : Type 0 where
  pub allowed : unmarkable (listed before) b ≡ None
  pub list : listed after ≡ listed before ++ b ∷ []

abbrev pub Grows : Marks → ℕ → Result Marks Refusal → Type 0
Grows before b r = MatchResult r (Grown before b) (λ e. unmarkable (listed before) b ≡ Some e)
