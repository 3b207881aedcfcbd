-- A call's pieces, put one after the other, make its step.
use Rattle.std.proofs.Common.{◌≡◌, ℕ, ◌*◌, ◌<◌, ◌≤◌, true, List, [], None, sym, refl, ap, ◌∙◌, inl, inr, arith, Ok, Err}
use Rattle.std.specs.List.{range_with_len}
use Rattle.std.proofs.lemmas.Bool.{cond-false, cond-true, cases_Bool, le-ltb, lt-ltb, eq-eqb, ne_eqb}
use Rattle.rules.proofs.Laying.{lay, along_here, after_none}
use Rattle.rules.specs.Boards.{board}
use Rattle.rules.specs.History.{Given, Step, marks_after}
use Rattle.rules.specs.Places.{index_of}
use Rattle.rules.specs.Rules.{HostCall, Outcome, State, accepted, along, answer, plan, puts, read_answer, reading}
use Rattle.rules.specs.Answers.{Answer}
use Rattle.rules.specs.declared.calls.Outcome.TheVariants.{Done}
use Rattle.rules.specs.declared.calls.Call.TheVariants.{Pass, Read, Settle}
use Rattle.stack.proofs.RunLaws.{run_kept, run_shown, run_size}
use Rattle.stack.specs.Memory.{Meaning, Place, Rest}
use Rattle.stack.specs.Pieces.{InOrder, after}
use Rattle.stack.specs.declared.memory.Stack.{Ghosts}
use Rattle.stack.specs.declared.refusal.Refusal.TheVariants.{AddressOutOfRange, LineLength}

-- what a stack shows is bytes
pub shown_small : {X : Type 0} (G : Ghosts X) (x : X) (b i k : ℕ) → Place (G.means x).size b i k → (G.means x).shown b i k < 256
shown_small G x b i k p = (G.sound x).shown_byte b i k p

module _ {X : Type 0} (G : Ghosts X) where
  -- the step of a call, from its pieces
  pub step_by_puts : (x y : X) (marks marks' : List ℕ) (c : HostCall) (r : Answer)
      → Given c → r ≡ answer (board (G.means x) marks) c → marks' ≡ marks_after (board (G.means x) marks) c
      → InOrder G.means G.puts x (puts (board (G.means x) marks) c) y
      → ((b i k : ℕ) → Place (G.means y).size b i k → (G.means y).shown b i k < 256)
      → Step (board (G.means x) marks) c r (board (G.means y) marks')
  step_by_puts x y marks marks' c r g e m ch by =
      record {
        given = g;
        says = e;
        size = run_size ch;
        marks = m;
        kept = run_kept ch;
        shown = λ _. run_shown ch;
        bytes = by;
      }

-- settle and pass, from the stack's
rest_kept : (m m' : Meaning) (marks : List ℕ) (c : HostCall) → ((i b : ℕ) → plan (board m marks) c i b ≡ None) → accepted (answer (board m marks) c) ≡ true
    → Rest m m' → (b i k : ℕ) → Place m.size b i k → m'.kept b i k ≡ after m.kept (puts (board m marks) c) b i k
rest_kept m m' marks c none ok rest b i k p =
    let l = p.index_real in
    rest.kept b i k p
    ∙ sym (ap (λ ps. after m.kept ps b i k) (cond-true (accepted (answer (board m marks) c)) (along (plan (board m marks) c) (range_with_len 0 m.size)) [] ok)
    ∙ along_here (plan (board m marks) c) m.kept 0 m.size b i k (omega arith) (omega arith) p.bank_real
    ∙ ap (λ o. lay o k (m.kept b i k)) (none i b))

pub pass_step : (m m' : Meaning) (marks : List ℕ) → Rest m m' → ((b i k : ℕ) → Place m'.size b i k → m'.shown b i k < 256)
    → Step (board m marks) Pass (Ok Done) (board m' marks)
pass_step m m' marks rest by =
    record { given = tt; says = refl; size = rest.size; marks = refl; kept = rest_kept m m' marks Pass (λ i b. refl) refl rest; shown = λ e. absurd e; bytes = by }

pub settle_step : (m m' : Meaning) (marks : List ℕ) → Rest m m' → ((b i k : ℕ) → Place m'.size b i k → m'.shown b i k < 256)
    → Step (board m marks) Settle (Ok Done) (board m' marks)
settle_step m m' marks rest by =
    record { given = tt; says = refl; size = rest.size; marks = refl; kept = rest_kept m m' marks Settle (λ i b. refl) refl rest; shown = λ e. absurd e; bytes = by }

-- a call that puts nothing and marks nothing, at a board that stays
pub read_step : (m : Meaning) (marks : List ℕ) (a n : ℕ) (r : Answer) → ((b i k : ℕ) → Place m.size b i k → m.shown b i k < 256)
    → r ≡ answer (board m marks) (Read a n) → Step (board m marks) (Read a n) r (board m marks)
read_step m marks a n r by e =
    record {
      given = tt;
      says = e;
      size = refl;
      marks = refl;
      kept = λ b i k p. elim (cases_Bool (accepted (answer (board m marks) (Read a n)))) [
        | inl t ↦ rest_kept m m marks (Read a n) (λ i b. refl) t (record { size = refl; kept = λ b i k p. refl }) b i k p
        | inr t ↦ sym (ap (λ ps. after m.kept ps b i k) (cond-false (accepted (answer (board m marks) (Read a n))) _ [] t) ∙ after_none m.kept b i k)
      ];
      shown = λ _ b i k p u. refl;
      bytes = by;
    }

-- what a read answers
module _ (s : State) (a n : ℕ) where
  pub read_address : s.size ≤ index_of a → answer s (Read a n) ≡ Err AddressOutOfRange
  read_address h = rw (le-ltb a (64 * s.size) (omega arith)) refl

  pub read_buffer : index_of a < s.size → (n ≡ 64 → ⊥) → answer s (Read a n) ≡ Err LineLength
  read_buffer h ne = rw (lt-ltb a (64 * s.size) (omega arith), ne_eqb n 64 ne) refl

  pub read_past : index_of a < s.size → n ≡ 64 → (o : Outcome) → reading s a ≡ o → answer s (Read a n) ≡ read_answer o
  read_past h e o q = rw (lt-ltb a (64 * s.size) (omega arith), eq-eqb n 64 e) (ap read_answer q)
