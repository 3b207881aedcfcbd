-- Pieces put in bank after bank.
use Rattle.std.proofs.Common.{◌≡◌, ℕ, zero, suc, ◌+◌, ◌-◌, ◌<◌, ◌≤◌, List, [], ◌++◌, None, Option, sym, ap, ◌∙◌, subst, append_assoc, append-nil, zero-add, add-one, arith}
use Rattle.std.specs.List.{range_with_len}
use Rattle.rules.proofs.Laying.{along_banks_more}
use Rattle.rules.specs.Rules.{Part, along_banks, part, piece_at}
use Rattle.stack.proofs.RunLaws.{puts_join}
use Rattle.stack.specs.Memory.{Piece}
use Rattle.stack.specs.Pieces.{Puts, done, more}

module _ {X : Type 0} (step : X → Piece → X → Type 0) (p : ℕ → Option Part) (i : ℕ) where
  -- from a bank on
  pub from_none : (a : ℕ) (x : X) → Puts step x (along_banks p i (range_with_len a 0)) x
  unfolding along_banks
  from_none a x = done

  from_list : (a n : ℕ) → along_banks p i (range_with_len a (n + 1)) ≡ along_banks p i (range_with_len a n) ++ piece_at (p (a + n)) i (a + n) []
  from_list a n = ap (λ m. along_banks p i (range_with_len a m)) (add-one n) ∙ along_banks_more p i a n

  pub from_more : (a n : ℕ) (x y z : X) → Puts step x (along_banks p i (range_with_len a n)) y → Puts step y (piece_at (p (a + n)) i (a + n) []) z
      → Puts step x (along_banks p i (range_with_len a (n + 1))) z
  from_more a n x y z c d = subst (λ ps. Puts step x ps z) (sym (from_list a n)) (puts_join c d)

  -- from the first bank on
  pub banks_none : (x : X) → Puts step x (along_banks p i (range_with_len 0 0)) x
  banks_none x = from_none 0 x

  more_list : (n : ℕ) → along_banks p i (range_with_len 0 (n + 1)) ≡ along_banks p i (range_with_len 0 n) ++ piece_at (p n) i n []
  more_list n = from_list 0 n ∙ ap (λ m. along_banks p i (range_with_len 0 n) ++ piece_at (p m) i m []) (zero-add n)

  pub banks_put : (n from : ℕ) (bytes : List ℕ) (x y z : X) → p n ≡ part from bytes → Puts step x (along_banks p i (range_with_len 0 n)) y
      → step y (record { bank = n; index = i; from = from; bytes = bytes }) z → Puts step x (along_banks p i (range_with_len 0 (n + 1))) z
  banks_put n from bytes x y z e c s =
      subst (λ ps. Puts step x ps z) (sym (more_list n ∙ ap (λ o. along_banks p i (range_with_len 0 n) ++ piece_at o i n []) e))
      (puts_join c (more s done))

  pub banks_skip : (n : ℕ) (x y : X) → p n ≡ None → Puts step x (along_banks p i (range_with_len 0 n)) y
      → Puts step x (along_banks p i (range_with_len 0 (n + 1))) y
  banks_skip n x y e c =
      subst (λ ps. Puts step x ps y) (sym (more_list n ∙ ap (λ o. along_banks p i (range_with_len 0 n) ++ piece_at o i n []) e))
      (puts_join c done)

  -- one bank more, whatever it puts
  pub banks_more : (n : ℕ) (x y z : X) → Puts step x (along_banks p i (range_with_len 0 n)) y → Puts step y (piece_at (p n) i n []) z
      → Puts step x (along_banks p i (range_with_len 0 (n + 1))) z
  banks_more n x y z c d = subst (λ ps. Puts step x ps z) (sym (more_list n)) (puts_join c d)

  pass_over : (n d : ℕ) (x y : X) → ((b : ℕ) → n ≤ b → b < n + d → p b ≡ None) → Puts step x (along_banks p i (range_with_len 0 n)) y
      → Puts step x (along_banks p i (range_with_len 0 (n + d))) y
  pass_over n zero x y h c = let e : n ≡ n + 0 = omega arith in subst (λ m. Puts step x (along_banks p i (range_with_len 0 m)) y) e c
  pass_over n (suc d) x y h c =
      let e : (n + d) + 1 ≡ n + suc d = omega arith in
      subst (λ m. Puts step x (along_banks p i (range_with_len 0 m)) y) e
      (banks_skip (n + d) x y (h (n + d) (omega arith) (omega arith)) (pass_over n d x y (λ b l u. h b l (omega arith)) c))

  -- banks that put nothing
  pub banks_pass : (n m : ℕ) (x y : X) → n ≤ m → ((b : ℕ) → n ≤ b → b < m → p b ≡ None) → Puts step x (along_banks p i (range_with_len 0 n)) y
      → Puts step x (along_banks p i (range_with_len 0 m)) y
  banks_pass n m x y l h c =
      let e : n + (m - n) ≡ m = omega arith in
      subst (λ k. Puts step x (along_banks p i (range_with_len 0 k)) y) e (pass_over n (m - n) x y (λ b low high. h b low (omega arith)) c)

  parts : (n d : ℕ) → along_banks p i (range_with_len 0 (n + d)) ≡ along_banks p i (range_with_len 0 n) ++ along_banks p i (range_with_len n d)
  unfolding along_banks
  parts n zero =
      let e : n + 0 ≡ n = omega arith in
      ap (λ m. along_banks p i (range_with_len 0 m)) e ∙ sym (append-nil (along_banks p i (range_with_len 0 n)))
  parts n (suc d) =
      let e : n + suc d ≡ (n + d) + 1 = omega arith in
      ap (λ m. along_banks p i (range_with_len 0 m)) e ∙ more_list (n + d) ∙ ap (λ ps. ps ++ piece_at (p (n + d)) i (n + d) []) (parts n d)
      ∙ append_assoc (along_banks p i (range_with_len 0 n)) (along_banks p i (range_with_len n d)) (piece_at (p (n + d)) i (n + d) [])
      ∙ ap (λ ps. along_banks p i (range_with_len 0 n) ++ ps) (sym (along_banks_more p i n d))

  -- the banks below n, and d banks from n on
  pub banks_join : (n d : ℕ) (x y z : X) → Puts step x (along_banks p i (range_with_len 0 n)) y → Puts step y (along_banks p i (range_with_len n d)) z
      → Puts step x (along_banks p i (range_with_len 0 (n + d))) z
  banks_join n d x y z c e = subst (λ ps. Puts step x ps z) (sym (parts n d)) (puts_join c e)
