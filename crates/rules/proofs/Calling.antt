-- The step of any call, with its chain of puts: refused, or accepted.
use Rattle.std.proofs.Common.{◌≡◌, ℕ, zero, suc, ◌+◌, ◌-◌, ◌*◌, ◌<◌, ◌≤◌, true, false, List, [], ◌∷◌, ◌++◌, map, length, get_or, Some, None, Option, sym, refl, ap, ◌∙◌, subst, zero-add, add-one, arith, Ok, Err}
use lib.Bits.{bit_xor}
use Rattle.std.specs.List.{range_with_len}
use Rattle.std.proofs.lemmas.List.{append-nil, append_assoc}
use Rattle.rules.proofs.Image.{zero_byte}
use Rattle.std.proofs.lemmas.Bool.{cond-true, cond-false, lt-ltb, le-ltb, eq-eqb, ne_eqb}
use Rattle.rules.proofs.Laying.{along_one, along_here, lay_in}
use Rattle.rules.proofs.Chain.{shown_small, step_by_puts}
use Rattle.codec.specs.Code.{zero_line}
use Rattle.codec.specs.declared.word.Finding.{Finding}
use Rattle.rules.specs.Boards.{board}
use Rattle.rules.specs.History.{Formatted, Given, Step, marks_after}
use Rattle.rules.specs.Places.{bank_of, index_of, role}
use Rattle.rules.specs.Rules.{HostCall, Part, State, accepted, along, along_banks, answer, argument_check, by_partner, denied, line_of, lowest, obtained, or_refused, partners, partners_byte, plan, puts, reading, shown_parity, store_part, when, write_answer}
use Rattle.rules.specs.Work.{formatting, storing}
use Rattle.rules.specs.Answers.{Answer}
use Rattle.rules.specs.declared.calls.Outcome.TheVariants.{Renewed, Written}
use Rattle.rules.specs.declared.calls.Call.TheVariants.{Clear, Mark, Pass, Read, Renew, Scrub, Settle, Write}
use Rattle.stack.proofs.RunLaws.{puts_join, run_kept, run_size}
use Rattle.stack.specs.Memory.{Meaning, Piece, Rest}
use Rattle.stack.specs.Pieces.{InOrder, Puts, done}
use Rattle.stack.specs.declared.memory.Stack.{Ghosts}
use Rattle.stack.specs.declared.refusal.Refusal.{Refusal}
use Rattle.stack.specs.declared.refusal.Refusal.TheVariants.{AddressOutOfRange, LineLength}

-- a refused call leaves the marks
marks_stay : (s : State) (c : HostCall) → accepted (answer s c) ≡ false → s.marks ≡ marks_after s c
marks_stay s (Read a n) e = refl
marks_stay s (Write a l) e = refl
marks_stay s (Renew a l) e = refl
marks_stay s (Clear a) e = refl
marks_stay s (Scrub a w) e = refl
marks_stay s (Mark b w) e = sym (cond-false (accepted (answer s (Mark b w))) (s.marks ++ b ∷ []) s.marks e)
marks_stay s Settle e = refl
marks_stay s Pass e = refl

module _ {X : Type 0} (G : Ghosts X) where
  pub call_refused : (x : X) (ms : List ℕ) (c : HostCall) (e : Refusal) → Given c → answer (board (G.means x) ms) c ≡ Err e
      → Step (board (G.means x) ms) c (Err e) (board (G.means x) ms) × InOrder G.means G.puts x (puts (board (G.means x) ms) c) x
  call_refused x ms c e g q =
      let no : accepted (answer (board (G.means x) ms) c) ≡ false = ap accepted q in
      let chain : InOrder G.means G.puts x (puts (board (G.means x) ms) c) x =
      subst (λ ps. InOrder G.means G.puts x ps x) (sym (cond-false (accepted (answer (board (G.means x) ms) c)) _ [] no)) done in
      (step_by_puts G x x ms ms c (Err e) g (sym q) (marks_stay (board (G.means x) ms) c no) chain (shown_small G x), chain)

  pub call_done : (x y : X) (ms ms' : List ℕ) (c : HostCall) (r : Answer) → Given c → answer (board (G.means x) ms) c ≡ r → accepted r ≡ true
      → ms' ≡ marks_after (board (G.means x) ms) c
      → InOrder G.means G.puts x (along (plan (board (G.means x) ms) c) (range_with_len 0 (G.means x).size)) y
      → Step (board (G.means x) ms) c r (board (G.means y) ms') × InOrder G.means G.puts x (puts (board (G.means x) ms) c) y
  call_done x y ms ms' c r g q ok m ch =
      let yes : accepted (answer (board (G.means x) ms) c) ≡ true = ap accepted q ∙ ok in
      let chain : InOrder G.means G.puts x (puts (board (G.means x) ms) c) y =
      subst (λ ps. InOrder G.means G.puts x ps y) (sym (cond-true (accepted (answer (board (G.means x) ms) c)) _ [] yes)) ch in
      (step_by_puts G x y ms ms' c r g (sym q) m chain (shown_small G y), chain)

  -- a write whose old line was got
  pub write_done : (x y : X) (ms ms' : List ℕ) (a : ℕ) (l old par : List ℕ) (f : Finding) → index_of a < (G.means x).size → length l ≡ 64
      → ((k : ℕ) → get_or l k 0 < 256) → reading (board (G.means x) ms) a ≡ obtained old f
      → par ≡ map (λ k. bit_xor (bit_xor (shown_parity (board (G.means x) ms) a k) (get_or old k 0)) (get_or l k 0)) (range_with_len 0 64)
      → ms' ≡ ms → InOrder G.means G.puts x (along_banks (storing ms (bank_of a) l par) (index_of a) (range_with_len 0 72)) y
      → Step (board (G.means x) ms) (Write a l) (Ok (Written f)) (board (G.means y) ms') × InOrder G.means G.puts x (puts (board (G.means x) ms) (Write a l)) y
  write_done x y ms ms' a l old par f h n by q p m ch =
      let s : State = board (G.means x) ms in
      let passed : argument_check (G.means x).size ms (Write a l) ≡ None = rw (lt-ltb a (64 * (G.means x).size) (omega arith), eq-eqb (length l) 64 n) refl in
      let full : List ℕ → List ℕ = λ o. map (λ k. bit_xor (bit_xor (shown_parity s a k) (get_or o k 0)) (get_or l k 0)) (range_with_len 0 64) in
      let same : along (plan s (Write a l)) (range_with_len 0 (G.means x).size) ≡ along_banks (storing ms (bank_of a) l par) (index_of a) (range_with_len 0 72) =
      along_one (plan s (Write a l)) (index_of a) 0 (G.means x).size (omega arith) (omega arith)
      (λ j b ne. ap (λ t. when t (store_part ms (bank_of a) l (full (line_of (reading s a))) (role ms b))) (ne_eqb j (index_of a) ne))
      ∙ ap (λ t. along_banks (λ b. when t (store_part ms (bank_of a) l (full (line_of (reading s a))) (role ms b))) (index_of a) (range_with_len 0 72)) (eq-eqb (index_of a) (index_of a) refl)
      ∙ ap (λ o. along_banks (storing ms (bank_of a) l o) (index_of a) (range_with_len 0 72)) (ap (λ o. full (line_of o)) q ∙ sym p) in
      call_done x y ms ms' (Write a l) (Ok (Written f)) by
      (ap (λ o. or_refused o (write_answer (reading s a))) passed ∙ ap write_answer q) refl m
      (subst (λ ps. InOrder G.means G.puts x ps y) (sym same) ch)

  pub renew_done : (x y : X) (ms ms' : List ℕ) (a : ℕ) (l par : List ℕ) → index_of a < (G.means x).size → length l ≡ 64
      → ((k : ℕ) → get_or l k 0 < 256) → lowest (board (G.means x) ms) (partners ms a) ≡ None
      → par ≡ map (λ k. bit_xor (get_or l k 0) (partners_byte (board (G.means x) ms) a k)) (range_with_len 0 64)
      → ms' ≡ ms → InOrder G.means G.puts x (along_banks (storing ms (bank_of a) l par) (index_of a) (range_with_len 0 72)) y
      → Step (board (G.means x) ms) (Renew a l) (Ok Renewed) (board (G.means y) ms') × InOrder G.means G.puts x (puts (board (G.means x) ms) (Renew a l)) y
  renew_done x y ms ms' a l par h n by q p m ch =
      let s : State = board (G.means x) ms in
      let passed : argument_check (G.means x).size ms (Renew a l) ≡ None = rw (lt-ltb a (64 * (G.means x).size) (omega arith), eq-eqb (length l) 64 n) refl in
      let full : List ℕ = map (λ k. bit_xor (get_or l k 0) (partners_byte s a k)) (range_with_len 0 64) in
      let same : along (plan s (Renew a l)) (range_with_len 0 (G.means x).size) ≡ along_banks (storing ms (bank_of a) l par) (index_of a) (range_with_len 0 72) =
      along_one (plan s (Renew a l)) (index_of a) 0 (G.means x).size (omega arith) (omega arith)
      (λ j b ne. ap (λ t. when t (store_part ms (bank_of a) l full (role ms b))) (ne_eqb j (index_of a) ne))
      ∙ ap (λ t. along_banks (λ b. when t (store_part ms (bank_of a) l full (role ms b))) (index_of a) (range_with_len 0 72)) (eq-eqb (index_of a) (index_of a) refl)
      ∙ ap (λ o. along_banks (storing ms (bank_of a) l o) (index_of a) (range_with_len 0 72)) (sym p) in
      call_done x y ms ms' (Renew a l) (Ok Renewed) by
      (ap (λ o. or_refused o (or_refused (by_partner a (lowest s (partners ms a))) (Ok Renewed))) passed ∙ ap (λ o. or_refused (by_partner a o) (Ok Renewed)) q) refl m
      (subst (λ ps. InOrder G.means G.puts x ps y) (sym same) ch)

-- refusals of write and renew, by their argument checks and past them
module _ (m : Meaning) (ms : List ℕ) (a : ℕ) (l : List ℕ) where
  pub write_address : m.size ≤ index_of a → answer (board m ms) (Write a l) ≡ Err AddressOutOfRange
  write_address h = rw (le-ltb a (64 * m.size) (omega arith)) refl

  pub write_buffer : index_of a < m.size → (length l ≡ 64 → ⊥) → answer (board m ms) (Write a l) ≡ Err LineLength
  write_buffer h n = rw (lt-ltb a (64 * m.size) (omega arith), ne_eqb (length l) 64 n) refl

  pub write_denied : (e : Refusal) → index_of a < m.size → length l ≡ 64 → reading (board m ms) a ≡ denied e → answer (board m ms) (Write a l) ≡ Err e
  write_denied e h n q = rw (lt-ltb a (64 * m.size) (omega arith), eq-eqb (length l) 64 n) (ap write_answer q)

  pub renew_address : m.size ≤ index_of a → answer (board m ms) (Renew a l) ≡ Err AddressOutOfRange
  renew_address h = rw (le-ltb a (64 * m.size) (omega arith)) refl

  pub renew_buffer : index_of a < m.size → (length l ≡ 64 → ⊥) → answer (board m ms) (Renew a l) ≡ Err LineLength
  renew_buffer h n = rw (lt-ltb a (64 * m.size) (omega arith), ne_eqb (length l) 64 n) refl

  pub renew_denied : (e : Refusal) → index_of a < m.size → length l ≡ 64 → by_partner a (lowest (board m ms) (partners ms a)) ≡ Some e
      → answer (board m ms) (Renew a l) ≡ Err e
  renew_denied e h n q = rw (lt-ltb a (64 * m.size) (omega arith), eq-eqb (length l) 64 n) (ap (λ o. or_refused o (Ok Renewed)) q)

-- FORMAT, AND INDEX AFTER INDEX

along_more : (p : ℕ → ℕ → Option Part) (a n : ℕ)
    → along p (range_with_len a (suc n)) ≡ along p (range_with_len a n) ++ along_banks (p (a + n)) (a + n) (range_with_len 0 72)
unfolding along
along_more p a zero =
    append-nil (along_banks (p a) a (range_with_len 0 72)) ∙ ap (λ x. along_banks (p x) x (range_with_len 0 72)) (omega arith)
along_more p a (suc n) =
    ap (λ ps. along_banks (p a) a (range_with_len 0 72) ++ ps)
    (along_more p (a + 1) n ∙ ap (λ x. along p (range_with_len (a + 1) n) ++ along_banks (p x) x (range_with_len 0 72)) (omega arith))
    ∙ sym (append_assoc (along_banks (p a) a (range_with_len 0 72)) (along p (range_with_len (a + 1) n)) (along_banks (p (a + suc n)) (a + suc n) (range_with_len 0 72)))

module _ {X : Type 0} (step : X → Piece → X → Type 0) (p : ℕ → ℕ → Option Part) where
  pub index_none : (x : X) → Puts step x (along p (range_with_len 0 0)) x
  unfolding along
  index_none x = done

  pub index_more : (n : ℕ) (x y z : X) → Puts step x (along p (range_with_len 0 n)) y → Puts step y (along_banks (p n) n (range_with_len 0 72)) z
      → Puts step x (along p (range_with_len 0 (n + 1))) z
  index_more n x y z c d =
      subst (λ ps. Puts step x ps z)
      (sym (ap (λ m. along p (range_with_len 0 m)) (add-one n) ∙ along_more p 0 n
      ∙ ap (λ m. along p (range_with_len 0 n) ++ along_banks (p m) m (range_with_len 0 72)) (zero-add n)))
      (puts_join c d)

module _ {X : Type 0} (G : Ghosts X) where
  pub format_size : (x y z : X) → InOrder G.means G.puts x (along (λ j. formatting) (range_with_len 0 (G.means x).size)) y → Rest (G.means y) (G.means z) → (G.means z).size ≡ (G.means x).size
  format_size x y z ch rest = rest.size ∙ run_size ch

  pub format_done : (x y z : X) → InOrder G.means G.puts x (along (λ j. formatting) (range_with_len 0 (G.means x).size)) y → Rest (G.means y) (G.means z)
      → Formatted (board (G.means z) [])
  format_done x y z ch rest =
      let sz = format_size x y z ch rest in
      record {
        stage = refl;
        zero = λ b i k q.
            let l : i < (G.means x).size = subst (λ n. i < n) sz q.index_real in
            let u = q.byte_real in
            rest.kept b i k (record { bank_real = q.bank_real; index_real = subst (λ n. i < n) rest.size q.index_real; byte_real = u })
            ∙ run_kept ch b i k (record { bank_real = q.bank_real; index_real = l; byte_real = u })
            ∙ along_here (λ j. formatting) (G.means x).kept 0 (G.means x).size b i k (omega arith) (omega arith) q.bank_real
            ∙ lay_in 0 zero_line k ((G.means x).kept b i k) (omega arith) (omega arith)
            ∙ zero_byte (k - 0);
        bytes = shown_small G z;
      }
