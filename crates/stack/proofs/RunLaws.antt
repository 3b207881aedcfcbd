-- What a run of puts leaves.
use Rattle.std.proofs.Common.{◌≡◌, ℕ, false, List, [], ◌∷◌, ◌++◌, sym, refl, ◌∙◌, subst}
use Rattle.std.proofs.lemmas.Bool.{or_parts}
use Rattle.stack.specs.Memory.{Contents, Place, Meaning, Piece, covers, over}
use Rattle.stack.specs.Pieces.{Puts, done, more, InOrder, after, covered}
use Rattle.stack.proofs.PieceLaws.{over_at}

-- two runs, one after the other
pub puts_join : {X : Type 0} {puts : X → Piece → X → Type 0} {x y z : X} {ps qs : List Piece} → Puts puts x ps y → Puts puts y qs z → Puts puts x (ps ++ qs) z
puts_join done q = q
puts_join (more s p) q = more s (puts_join p q)

-- one put more at the end
pub puts_push : {X : Type 0} {puts : X → Piece → X → Type 0} {x y z : X} {ps : List Piece} {p : Piece} → Puts puts x ps y → puts y p z → Puts puts x (ps ++ p ∷ []) z
puts_push r s = puts_join r (more s done)

-- a run of one relation is a run of any that follows from it
pub puts_weaker : {X : Type 0} {puts weaker : X → Piece → X → Type 0} → ((x : X) (p : Piece) (y : X) → puts x p y → weaker x p y) → {x y : X} {ps : List Piece} → Puts puts x ps y → Puts weaker x ps y
puts_weaker f done = done
puts_weaker f (more {x} {y} {z} {p} {ps} s r) = more (f x p y s) (puts_weaker f r)

-- what pieces leave at a place hangs on what stood there alone
pub after_at : (ps : List Piece) (m n : Contents) (b i k : ℕ) → m b i k ≡ n b i k → after m ps b i k ≡ after n ps b i k
unfolding after
after_at [] m n b i k e = e
after_at (p ∷ ps) m n b i k e = after_at ps (over m p) (over n p) b i k (over_at m n p b i k e)

pub after_join : (ps qs : List Piece) (m : Contents) (b i k : ℕ) → after m (ps ++ qs) b i k ≡ after (after m ps) qs b i k
unfolding after
after_join [] qs m b i k = after_at qs m (after m []) b i k refl
after_join (p ∷ ps) qs m b i k = after_join ps qs (over m p) b i k ∙ after_at qs (after (over m p) ps) (after m (p ∷ ps)) b i k refl

module _ {X : Type 0} {means : X → Meaning} {puts : X → Piece → X → Type 0} where
  -- the size stays
  pub run_size : {x y : X} {ps : List Piece} → InOrder means puts x ps y → (means y).size ≡ (means x).size
  run_size done = refl
  run_size (more s r) = run_size r ∙ s.stores.size

  -- every memory keeps what was put, in order
  pub run_kept : {x z : X} {ps : List Piece} → InOrder means puts x ps z → (b i k : ℕ) → Place (means x).size b i k → (means z).kept b i k ≡ after (means x).kept ps b i k
  unfolding after
  run_kept done b i k at = refl
  run_kept {x} (more {y = y} {p = p} {ps = qs} s r) b i k at =
      let at' = subst (λ (n : ℕ). Place n b i k) (sym s.stores.size) at in
      run_kept r b i k at' ∙ after_at qs (means y).kept (over (means x).kept p) b i k (s.stores.kept b i k at)

  -- a place that no piece covers shows what it did
  pub run_shown : {x z : X} {ps : List Piece} → InOrder means puts x ps z → (b i k : ℕ) → Place (means x).size b i k → covered ps b i k ≡ false → (means z).shown b i k ≡ (means x).shown b i k
  unfolding covered
  run_shown done b i k at off = refl
  run_shown {x} (more {y = y} {p = p} {ps = qs} s r) b i k at off =
      let parts = or_parts (covers p b i k) (covered qs b i k) off in
      let at' = subst (λ (n : ℕ). Place n b i k) (sym s.stores.size) at in
      run_shown r b i k at' parts.1 ∙ s.stores.shown b i k at parts.0
