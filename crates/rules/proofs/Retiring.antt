-- The step of a mark.
use Rattle.std.proofs.Common.{◌≡◌, ℕ, zero, suc, ◌+◌, ◌-◌, ◌*◌, ◌%◌, ◌<◌, ◌≤◌, Bool, true, false, cond, not, eqb, ltb, leb, List, [], ◌∷◌, ◌++◌, length, Some, None, Option, sym, refl, ap, ◌∙◌, subst, ap₂, arith, Ok, Err}
use Rattle.std.specs.List.{range_with_len}
use Rattle.std.proofs.lemmas.Bool.{lt-ltb, le-ltb, le-leb, lt-leb, cond-true}
use Rattle.rules.proofs.Image.{image_cong}
use Rattle.rules.proofs.Local.{reading_local, rebuilding_local}
use Rattle.rules.proofs.Loading.{first_append, first_some, first_part}
use Rattle.rules.proofs.Gathering.{counting_split}
use Rattle.rules.proofs.Rows.{map_same, banks_cong, along_out}
use Rattle.rules.proofs.Geometry.{Low, role_low}
use Rattle.rules.proofs.Calling.{call_done, index_more}
use Rattle.rules.specs.Boards.{board}
use Rattle.rules.specs.History.{Step}
use Rattle.rules.specs.Places.{bank_of, image, index_of, role}
use Rattle.rules.specs.Rules.{Outcome, Part, accepted, addresses, along, along_banks, among, answer, argument_check, filled, first_denied, for_mark, line_of, or_refused, part, puts, row, spare_of, step_first, unless, when}
use Rattle.rules.specs.Work.{Loaded, filling, lower, markable, slot, slots}
use Rattle.rules.specs.declared.calls.Outcome.TheVariants.{Marked}
use Rattle.rules.specs.declared.calls.Call.TheVariants.{Mark}
use Rattle.stack.proofs.RunLaws.{run_shown}
use Rattle.stack.specs.Memory.{Meaning, Piece}
use Rattle.stack.specs.Pieces.{Accepted, InOrder, Puts, done, more}
use Rattle.stack.specs.declared.memory.Stack.{Ghosts}
use Rattle.stack.specs.declared.refusal.Refusal.{Refusal}
use Rattle.stack.specs.declared.refusal.Refusal.TheVariants.{BankAlreadyMarked, BankOutOfRange, NoSpareLeft, WorkBufferShort}

-- the two pieces of an index
pub two_pieces : (ms : List ℕ) (f : ℕ → List ℕ) (j : ℕ)
    → along_banks (λ bank. when (filled ms bank) (part 0 (f bank))) j (range_with_len 0 72)
    ≡ record { bank = lower ms; index = j; from = 0; bytes = f (lower ms) } ∷ record { bank = spare_of ms; index = j; from = 0; bytes = f (spare_of ms) } ∷ []
unfolding along_banks
two_pieces [] f j = refl
two_pieces (m ∷ ms) f j = refl

-- rows from lines that agree on the index
pub row_same : (nx : List ℕ) → Low nx → (f g : ℕ → List ℕ) (j bank : ℕ) → bank < 72 → ((x : ℕ) → x < 64 → f (64 * j + x) ≡ g (64 * j + x))
    → row nx f j bank ≡ row nx g j bank
row_same nx low f g j bank h same =
    map_same (λ k. image nx f bank j k) (λ k. image nx g bank j k) 64
    (λ k l. image_cong nx f g j k (role nx bank) (role_low nx low bank h) l (λ x u w. same x u))

pub row_loaded : (nx : List ℕ) → Low nx → (g : ℕ → Outcome) (j bank : ℕ) (w : List ℕ) → bank < 72 → Loaded g j 0 64 w
    → row nx (slots w) j bank ≡ row nx (λ x. line_of (g x)) j bank
row_loaded nx low g j bank w h load =
    row_same nx low (slots w) (λ x. line_of (g x)) j bank h
    (λ x u. let z : (64 * j + x) % 64 ≡ x = omega arith in ap (slot w) z ∙ load.lines x (omega arith) (omega arith))

-- the addresses of an index, and of the indexes before it
pub index_addresses : (i lo n : ℕ) → addresses i (range_with_len lo n) ≡ range_with_len (64 * i + lo) n
index_addresses i lo zero = refl
index_addresses i lo (suc n) =
    let e : 64 * i + (lo + 1) ≡ 64 * i + lo + 1 = omega arith in
    ap (λ xs. (64 * i + lo) ∷ xs) (index_addresses i (lo + 1) n ∙ ap (λ x. range_with_len x n) e)

here : (i : ℕ) → addresses i (range_with_len 0 64) ≡ range_with_len (64 * i) 64
here i = let e : 64 * i + 0 ≡ 64 * i = omega arith in index_addresses i 0 64 ∙ ap (λ x. range_with_len x 64) e

all_split : (i r : ℕ) → range_with_len 0 (64 * i + (64 + r)) ≡ range_with_len 0 (64 * i) ++ (addresses i (range_with_len 0 64) ++ range_with_len (64 * i + 64) r)
all_split i r =
    let e : 0 + 64 * i ≡ 64 * i = omega arith in
    counting_split 0 (64 * i) (64 + r) ∙ ap (λ x. range_with_len 0 (64 * i) ++ range_with_len x (64 + r)) e
    ∙ ap (λ xs. range_with_len 0 (64 * i) ++ xs) (counting_split (64 * i) 64 r ∙ ap (λ xs. xs ++ range_with_len (64 * i + 64) r) (sym (here i)))

module _ (g : ℕ → Outcome) where
  pub survey_none : first_denied g (range_with_len 0 (64 * 0)) ≡ None
  unfolding first_denied
  survey_none = refl

  pub survey_more : (i : ℕ) → first_denied g (range_with_len 0 (64 * i)) ≡ None → first_denied g (addresses i (range_with_len 0 64)) ≡ None
      → first_denied g (range_with_len 0 (64 * (i + 1))) ≡ None
  unfolding first_denied
  survey_more i p q =
      let e : 64 * (i + 1) ≡ 64 * i + (64 + 0) = omega arith in
      ap (λ n. first_denied g (range_with_len 0 n)) e ∙ ap (first_denied g) (all_split i 0)
      ∙ first_append g (range_with_len 0 (64 * i)) _ p ∙ first_append g (addresses i (range_with_len 0 64)) (range_with_len (64 * i + 64) 0) q

  pub survey_denied : (i size : ℕ) (r : Refusal) → i < size → first_denied g (range_with_len 0 (64 * i)) ≡ None
      → first_denied g (addresses i (range_with_len 0 64)) ≡ Some r → first_denied g (range_with_len 0 (64 * size)) ≡ Some r
  survey_denied i size r h p q =
      let z : ℕ = 64 * size - (64 * i + 64) in
      let e : 64 * size ≡ 64 * i + (64 + z) = omega arith in
      ap (λ n. first_denied g (range_with_len 0 n)) e ∙ ap (first_denied g) (all_split i z)
      ∙ first_append g (range_with_len 0 (64 * i)) _ p ∙ first_some g (addresses i (range_with_len 0 64)) (range_with_len (64 * i + 64) z) r q

  pub survey_at : (i size : ℕ) → i < size → first_denied g (range_with_len 0 (64 * size)) ≡ None → first_denied g (addresses i (range_with_len 0 64)) ≡ None
  survey_at i size h p =
      let z : ℕ = 64 * size - (64 * i + 64) in
      let e : 64 * size ≡ 64 * i + (64 + z) = omega arith in
      let q : first_denied g (range_with_len 0 (64 * i) ++ (addresses i (range_with_len 0 64) ++ range_with_len (64 * i + 64) z)) ≡ None =
      sym (ap (λ n. first_denied g (range_with_len 0 n)) e ∙ ap (first_denied g) (all_split i z)) ∙ p in
      let front = first_part g (range_with_len 0 (64 * i)) _ q in
      first_part g (addresses i (range_with_len 0 64)) (range_with_len (64 * i + 64) z) (sym (first_append g (range_with_len 0 (64 * i)) _ front) ∙ q)

-- what a mark gets at an index depends on that index alone
module _ (ms : List ℕ) (m m' : Meaning) (i : ℕ) (same : (b k : ℕ) → b < 72 → k < 64 → m.shown b i k ≡ m'.shown b i k) where
  pub for_mark_local : (b a : ℕ) → index_of a ≡ i → for_mark (board m ms) b a ≡ for_mark (board m' ms) b a
  for_mark_local b a e = ap₂ (cond (eqb (bank_of a) b)) (rebuilding_local ms m m' i same a e) (reading_local ms m m' i same a e)

  first_local : (b n lo : ℕ) → lo + n ≤ 64 → first_denied (for_mark (board m ms) b) (addresses i (range_with_len lo n)) ≡ first_denied (for_mark (board m' ms) b) (addresses i (range_with_len lo n))
  unfolding first_denied
  first_local b zero lo h = refl
  first_local b (suc n) lo h =
      ap₂ (λ o r. step_first o r) (for_mark_local b (64 * i + lo) (omega arith)) (first_local b n (lo + 1) (omega arith))

module _ {X : Type 0} (G : Ghosts X) where
  -- what the pieces of earlier indexes leave
  earlier : (x y : X) (p : ℕ → ℕ → Option Part) (i : ℕ) → i < (G.means x).size → InOrder G.means G.puts x (along p (range_with_len 0 i)) y
      → (b k : ℕ) → b < 72 → k < 64 → (G.means y).shown b i k ≡ (G.means x).shown b i k
  earlier x y p i h ch b k lb lk =
      run_shown ch b i k (record { bank_real = lb; index_real = h; byte_real = lk }) (along_out p 0 i b i k (omega arith))

  module _ (ms : List ℕ) (b : ℕ) (x y : X) (i : ℕ) (h : i < (G.means x).size)
      (ch : InOrder G.means G.puts x (along (filling ms b (λ a. line_of (for_mark (board (G.means x) ms) b a))) (range_with_len 0 i)) y) where
    pub retire_none : first_denied (for_mark (board (G.means x) ms) b) (range_with_len 0 (64 * (G.means x).size)) ≡ None
        → first_denied (for_mark (board (G.means y) ms) b) (addresses i (range_with_len 0 64)) ≡ None
    retire_none p =
        first_local ms (G.means y) (G.means x) i (earlier x y _ i h ch) b 64 0 (omega arith)
        ∙ survey_at (for_mark (board (G.means x) ms) b) i (G.means x).size h p

    pub retire_more : (z : X) → Low (ms ++ b ∷ [])
        → InOrder G.means G.puts y (along_banks (filling ms b (λ a. line_of (for_mark (board (G.means y) ms) b a)) i) i (range_with_len 0 72)) z
        → InOrder G.means G.puts x (along (filling ms b (λ a. line_of (for_mark (board (G.means x) ms) b a))) (range_with_len 0 (i + 1))) z
    retire_more z low d =
        index_more (Accepted G.means G.puts) (filling ms b (λ a. line_of (for_mark (board (G.means x) ms) b a))) i x y z ch
        (subst (λ ps. InOrder G.means G.puts y ps z)
        (banks_cong i (filling ms b (λ a. line_of (for_mark (board (G.means y) ms) b a)) i) (filling ms b (λ a. line_of (for_mark (board (G.means x) ms) b a)) i) 0 72
        (λ c _ u. ap (λ l. when (filled ms c) (part 0 l))
        (row_same (ms ++ b ∷ []) low (λ a. line_of (for_mark (board (G.means y) ms) b a)) (λ a. line_of (for_mark (board (G.means x) ms) b a)) i c (omega arith)
        (λ v l. ap line_of (for_mark_local ms (G.means y) (G.means x) i (earlier x y _ i h ch) b (64 * i + v) (omega arith))))))
        d)

-- the argument checks
markable_some : (t u : Bool) (z : Option Refusal) (e : Refusal) → unless t BankAlreadyMarked (unless u NoSpareLeft None) ≡ Some e → unless t BankAlreadyMarked (unless u NoSpareLeft z) ≡ Some e
markable_some true true z e q = let n : ◌≡◌ {A = ℕ} 0 1 = cc in absurd (omega arith)
markable_some true false z e q = q
markable_some false u z e q = q

markable_none : (t u : Bool) (z : Option Refusal) → unless t BankAlreadyMarked (unless u NoSpareLeft None) ≡ None → unless t BankAlreadyMarked (unless u NoSpareLeft z) ≡ z
markable_none true true z q = refl
markable_none true false z q = let n : ◌≡◌ {A = ℕ} 0 1 = cc in absurd (omega arith)
markable_none false u z q = let n : ◌≡◌ {A = ℕ} 0 1 = cc in absurd (omega arith)

module _ (m : Meaning) (ms : List ℕ) (b n : ℕ) where
  pub mark_bank : 64 ≤ b → argument_check m.size ms (Mark b n) ≡ Some BankOutOfRange
  mark_bank h = rw (le-ltb b 64 h) refl

  pub mark_middle : (e : Refusal) → b < 64 → markable b ms ≡ Some e → argument_check m.size ms (Mark b n) ≡ Some e
  mark_middle e h q = rw (lt-ltb b 64 h) (markable_some (not (among b ms)) (ltb (length ms) 2) (unless (leb 4096 n) WorkBufferShort None) e q)

  pub mark_work : b < 64 → markable b ms ≡ None → n < 4096 → argument_check m.size ms (Mark b n) ≡ Some WorkBufferShort
  mark_work h q l =
      rw (lt-ltb b 64 h) (markable_none (not (among b ms)) (ltb (length ms) 2) (unless (leb 4096 n) WorkBufferShort None) q ∙ ap (λ t. unless t WorkBufferShort None) (lt-leb 4096 n l))

  pub mark_open : b < 64 → markable b ms ≡ None → 4096 ≤ n → argument_check m.size ms (Mark b n) ≡ None
  mark_open h q l =
      rw (lt-ltb b 64 h) (markable_none (not (among b ms)) (ltb (length ms) 2) (unless (leb 4096 n) WorkBufferShort None) q ∙ ap (λ t. unless t WorkBufferShort None) (le-leb 4096 n l))

  pub mark_refused : (e : Refusal) → argument_check m.size ms (Mark b n) ≡ Some e → answer (board m ms) (Mark b n) ≡ Err e
  mark_refused e q = ap (λ o. or_refused o (or_refused (first_denied (for_mark (board m ms) b) (range_with_len 0 (64 * m.size))) (Ok (Marked (spare_of ms))))) q

  pub mark_answer : (o : Option Refusal) → argument_check m.size ms (Mark b n) ≡ None → first_denied (for_mark (board m ms) b) (range_with_len 0 (64 * m.size)) ≡ o
      → answer (board m ms) (Mark b n) ≡ or_refused o (Ok (Marked (spare_of ms)))
  mark_answer o d q =
      ap (λ z. or_refused z (or_refused (first_denied (for_mark (board m ms) b) (range_with_len 0 (64 * m.size))) (Ok (Marked (spare_of ms))))) d
      ∙ ap (λ z. or_refused z (Ok (Marked (spare_of ms)))) q

module _ {X : Type 0} (G : Ghosts X) where
  pub mark_done : (x y : X) (ms ms' : List ℕ) (b n : ℕ) → argument_check (G.means x).size ms (Mark b n) ≡ None
      → first_denied (for_mark (board (G.means x) ms) b) (range_with_len 0 (64 * (G.means x).size)) ≡ None → ms' ≡ ms ++ b ∷ []
      → InOrder G.means G.puts x (along (filling ms b (λ a. line_of (for_mark (board (G.means x) ms) b a))) (range_with_len 0 (G.means x).size)) y
      → Step (board (G.means x) ms) (Mark b n) (Ok (Marked (spare_of ms))) (board (G.means y) ms') × InOrder G.means G.puts x (puts (board (G.means x) ms) (Mark b n)) y
  mark_done x y ms ms' b n d q m ch =
      let says = mark_answer (G.means x) ms b n None d q in
      call_done G x y ms ms' (Mark b n) (Ok (Marked (spare_of ms))) tt says refl
      (m ∙ sym (cond-true (accepted (answer (board (G.means x) ms) (Mark b n))) (ms ++ b ∷ []) ms (ap accepted says))) ch

-- the two puts of an index
pub lower_real : (ms : List ℕ) → lower ms < 72
lower_real [] = omega arith
lower_real (m ∷ ms) = omega arith

pub spare_real : (ms : List ℕ) → spare_of ms < 72
spare_real [] = omega arith
spare_real (m ∷ ms) = omega arith

pub pieces_put : {X : Type 0} (step : X → Piece → X → Type 0) (ms : List ℕ) (f : ℕ → List ℕ) (j : ℕ) (x y z : X) (p q : ℕ) (r t : List ℕ)
    → p ≡ lower ms → q ≡ spare_of ms → r ≡ f (lower ms) → t ≡ f (spare_of ms)
    → step x (record { bank = p; index = j; from = 0; bytes = r }) y → step y (record { bank = q; index = j; from = 0; bytes = t }) z
    → Puts step x (along_banks (λ bank. when (filled ms bank) (part 0 (f bank))) j (range_with_len 0 72)) z
pieces_put step ms f j x y z p q r t ep eq er et u v =
    let P : ℕ → List ℕ → Piece = λ b l. record { bank = b; index = j; from = 0; bytes = l } in
    subst (λ ps. Puts step x ps z) (sym (two_pieces ms f j))
    (more (subst (λ c. step x c y) (ap₂ P ep er) u) (more (subst (λ c. step y c z) (ap₂ P eq et) v) done))
