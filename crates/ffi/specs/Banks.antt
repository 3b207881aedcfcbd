-- The marked banks as a host keeps them between calls.
use Rattle.std.specs.Prelude.{◌≡◌, ℕ, cond, List, [], ◌∷◌, take, Some, None, Option, ◌==◌}
use Rattle.stack.specs.declared.refusal.Refusal.{Refusal}
use Rattle.stack.specs.declared.refusal.Refusal.TheVariants.{NoSpareLeft}
use Rattle.board.specs.Marks.{listed, unmarkable}
use Rattle.board.specs.declared.marks.Marks.{Marks}
use Rattle.ffi.specs.declared.banks.MarkedBanks.{MarkedBanks}

abbrev pub no_banks : MarkedBanks
no_banks = record { count = 0; first = 0; second = 0 }

-- the list that is meant
abbrev pub banks_of : MarkedBanks → List ℕ
banks_of k = take k.count (k.first ∷ k.second ∷ [])

-- the first refusal of two
abbrev pub first_of : Option Refusal → Option Refusal → Option Refusal
first_of (Some e) o = Some e
first_of None o = o

-- why a board cannot have these marks, if it cannot: each bank as if it were marked now, after those before it
abbrev pub misgiven : MarkedBanks → Option Refusal
misgiven k =
    cond (k.count == 0) None
    (cond (k.count == 1) (unmarkable [] k.first)
    (cond (k.count == 2) (first_of (unmarkable [] k.first) (unmarkable (k.first ∷ []) k.second)) (Some NoSpareLeft)))

-- marks that are given so
pub record Given (k : MarkedBanks) (m : Marks) : Type 0 where
  pub allowed : misgiven k ≡ None
  pub list : listed m ≡ banks_of k

-- with one bank more
abbrev pub one_more : MarkedBanks → ℕ → MarkedBanks
one_more k b =
    cond (k.count == 0) (record { count = 1; first = b; second = k.second }) (record { count = 2; first = k.first; second = b })
