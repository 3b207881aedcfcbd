-- The step of a clear.
use Rattle.std.proofs.Common.{◌≡◌, ℕ, ◌*◌, ◌<◌, ◌≤◌, List, [], None, sym, refl, ap, ◌∙◌, subst, arith, Ok, Err}
use Rattle.std.specs.List.{range_with_len}
use Rattle.std.proofs.lemmas.Bool.{cond-true, cond-false, lt-ltb, le-ltb, eq-eqb, ne_eqb}
use Rattle.rules.proofs.Laying.{along_one}
use Rattle.rules.proofs.Chain.{shown_small, step_by_puts}
use Rattle.rules.specs.Boards.{board}
use Rattle.rules.specs.History.{Step}
use Rattle.rules.specs.Places.{bank_of, index_of}
use Rattle.rules.specs.Rules.{accepted, along_banks, answer, clearing, or_refused, plan, puts, unless, when}
use Rattle.rules.specs.declared.calls.Outcome.TheVariants.{Cleared}
use Rattle.rules.specs.declared.calls.Call.TheVariants.{Clear}
use Rattle.stack.specs.Memory.{Meaning}
use Rattle.stack.specs.Pieces.{InOrder, done}
use Rattle.stack.specs.declared.memory.Stack.{Ghosts}
use Rattle.stack.specs.declared.refusal.Refusal.TheVariants.{AddressOutOfRange}

clear_accepted : (m : Meaning) (marks : List ℕ) (a : ℕ) → index_of a < m.size → answer (board m marks) (Clear a) ≡ Ok Cleared
clear_accepted m marks a h = ap (λ t. or_refused (unless t AddressOutOfRange None) (Ok Cleared)) (lt-ltb a (64 * m.size) (omega arith))

pub clear_puts : (m : Meaning) (marks : List ℕ) (a : ℕ) → index_of a < m.size
    → puts (board m marks) (Clear a) ≡ along_banks (clearing marks (bank_of a)) (index_of a) (range_with_len 0 72)
clear_puts m marks a h =
    cond-true (accepted (answer (board m marks) (Clear a))) _ [] (ap accepted (clear_accepted m marks a h))
    ∙ along_one (plan (board m marks) (Clear a)) (index_of a) 0 m.size (omega arith) (omega arith)
    (λ j b n. ap (λ t. when t (clearing marks (bank_of a) b)) (ne_eqb j (index_of a) n))
    ∙ ap (λ t. along_banks (λ b. when t (clearing marks (bank_of a) b)) (index_of a) (range_with_len 0 72)) (eq-eqb (index_of a) (index_of a) refl)

module _ {X : Type 0} (G : Ghosts X) where
  pub clear_done : (x y : X) (marks marks' : List ℕ) (a : ℕ) → index_of a < (G.means x).size → marks' ≡ marks
      → InOrder G.means G.puts x (along_banks (clearing marks (bank_of a)) (index_of a) (range_with_len 0 72)) y
      → Step (board (G.means x) marks) (Clear a) (Ok Cleared) (board (G.means y) marks') × InOrder G.means G.puts x (puts (board (G.means x) marks) (Clear a)) y
  clear_done x y marks marks' a h m c =
      let ch : InOrder G.means G.puts x (puts (board (G.means x) marks) (Clear a)) y = subst (λ ps. InOrder G.means G.puts x ps y) (sym (clear_puts (G.means x) marks a h)) c in
      (step_by_puts G x y marks marks' (Clear a) (Ok Cleared) tt (sym (clear_accepted (G.means x) marks a h)) m ch (shown_small G y), ch)

  pub clear_refused : (x : X) (marks : List ℕ) (a : ℕ) → (G.means x).size ≤ index_of a
      → Step (board (G.means x) marks) (Clear a) (Err AddressOutOfRange) (board (G.means x) marks) × InOrder G.means G.puts x (puts (board (G.means x) marks) (Clear a)) x
  clear_refused x marks a h =
      let e : answer (board (G.means x) marks) (Clear a) ≡ Err AddressOutOfRange = ap (λ t. or_refused (unless t AddressOutOfRange None) (Ok Cleared)) (le-ltb a (64 * (G.means x).size) (omega arith)) in
      let ch : InOrder G.means G.puts x (puts (board (G.means x) marks) (Clear a)) x =
      subst (λ ps. InOrder G.means G.puts x ps x) (sym (cond-false (accepted (answer (board (G.means x) marks) (Clear a))) _ [] (ap accepted e))) done in
      (step_by_puts G x x marks marks (Clear a) (Err AddressOutOfRange) tt (sym e) refl ch (shown_small G x), ch)
