-- Pieces put one after the other.
use Rattle.std.specs.Prelude.{ℕ, Bool, false, ◌||◌, List, [], ◌∷◌}
use Rattle.stack.specs.Memory.{Contents, Meaning, Piece, Put, Rest, covers, over}

-- one accepted put: what it means on every memory, and what it does exactly on this one
pub record Accepted {X : Type 0} (means : X → Meaning) (puts : X → Piece → X → Type 0) (x : X) (p : Piece) (y : X) : Type 0 where
  pub stores : Put (means x) p (means y)
  pub exactly : puts x p y

-- a settle or a pass, likewise
pub record Rested {X : Type 0} (means : X → Meaning) (rests : X → X → Type 0) (x y : X) : Type 0 where
  pub keeps : Rest (means x) (means y)
  pub exactly : rests x y

-- the memories that follow one another as the pieces are put, each step as `puts` has it
pub data Puts {X : Type 0} (puts : X → Piece → X → Type 0) : X → List Piece → X → Type 0 where
  done : {x : X} → Puts puts x [] x
  more : {x y z : X} {p : Piece} {ps : List Piece} → puts x p y → Puts puts y ps z → Puts puts x (p ∷ ps) z

-- the pieces are accepted, in order
abbrev pub InOrder : {X : Type 0} → (X → Meaning) → (X → Piece → X → Type 0) → X → List Piece → X → Type 0
InOrder means puts x ps y = Puts (Accepted means puts) x ps y

-- the contents with the pieces written into them, in order
unfoldable pub after : Contents → List Piece → Contents
after m [] b i k = m b i k
after m (p ∷ ps) b i k = after (over m p) ps b i k

-- some piece lies on that place
unfoldable pub covered : List Piece → ℕ → ℕ → ℕ → Bool
covered [] b i k = false
covered (p ∷ ps) b i k = covers p b i k || covered ps b i k
