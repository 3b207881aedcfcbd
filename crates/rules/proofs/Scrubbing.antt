-- The step of a scrub.
use Rattle.std.proofs.Common.{◌≡◌, ℕ, ◌+◌, ◌*◌, ◌%◌, ◌<◌, ◌≤◌, Bool, true, false, List, [], ◌∷◌, length, Some, None, Option, sym, refl, ap, ◌∙◌, subst, inl, inr, zero-add, add-one, arith, Ok, Err}
use Rattle.std.specs.List.{range_with_len}
use Rattle.std.proofs.lemmas.Bool.{cases_Bool, lt-ltb, le-ltb, le-leb, lt-leb, eq-eqb, ne_eqb}
use Rattle.std.proofs.lemmas.List.FromFn.{length-map-range_with_len}
use Rattle.rules.proofs.Laying.{along_one}
use Rattle.rules.proofs.Image.{image_cong, inside_of}
use Rattle.rules.proofs.Rows.{map_same, banks_cong, banks_out, otherwise_cong, otherwise_more}
use Rattle.rules.proofs.Geometry.{Low, role_low}
use Rattle.rules.proofs.Calling.{call_done}
use Rattle.codec.specs.Word.{distance}
use Rattle.rules.specs.Boards.{board}
use Rattle.rules.specs.History.{Step}
use Rattle.rules.specs.Places.{bank_of, group_count, group_of, group_start, image, index_of, members, role}
use Rattle.rules.specs.Rules.{Part, State, addresses, along, along_banks, answer, argument_check, first_denied, group, line_of, of_group, or_refused, otherwise, otherwise_part, part, plan, puts, reading, row, when}
use Rattle.rules.specs.Work.{Loaded, scrubbing, slot, slots}
use Rattle.rules.specs.declared.calls.Outcome.TheVariants.{Scrubbed}
use Rattle.rules.specs.declared.calls.Call.TheVariants.{Scrub}
use Rattle.stack.proofs.PieceLaws.{cells_same}
use Rattle.stack.proofs.RunLaws.{run_shown}
use Rattle.stack.specs.Memory.{Contents, Meaning}
use Rattle.stack.specs.Pieces.{InOrder}
use Rattle.stack.specs.declared.memory.Stack.{Ghosts}
use Rattle.stack.specs.declared.refusal.Refusal.{Refusal}
use Rattle.stack.specs.declared.refusal.Refusal.TheVariants.{AddressOutOfRange, WorkBufferShort}

group_is : (ms : List ℕ) (b : ℕ) → range_with_len (group_start ms b) (group_count ms) ≡ members ms (group_of ms b)
group_is [] b = refl
group_is (m ∷ ms) b = refl

in_range : (ms : List ℕ) (b x : ℕ) → x < 64 → group_of ms x ≡ group_of ms b → (group_start ms b ≤ x) × (x < group_start ms b + group_count ms)
in_range [] b x h e = (omega arith, omega arith)
in_range (m ∷ ms) b x h e = (omega arith, omega arith)

-- rows from lines that agree on the group
scrub_same : (ms : List ℕ) → Low ms → (f g : ℕ → List ℕ) (b j bank : ℕ) → bank < 72
    → ((x : ℕ) → x < 64 → group_of ms x ≡ group_of ms b → f (64 * j + x) ≡ g (64 * j + x))
    → scrubbing ms b f j bank ≡ scrubbing ms b g j bank
scrub_same ms low f g b j bank h same =
    let s = role_low ms low bank h in
    elim (cases_Bool (of_group ms (group_of ms b) (role ms bank))) [
      | inl t ↦ ap (λ z. when z (part 0 (row ms f j bank))) t
          ∙ ap (part 0) (map_same (λ k. image ms f bank j k) (λ k. image ms g bank j k) 64
          (λ k l. image_cong ms f g j k (role ms bank) s l (λ x u w. same x u (inside_of ms b x (role ms bank) s t w))))
          ∙ sym (ap (λ z. when z (part 0 (row ms g j bank))) t)
      | inr t ↦ ap (λ z. when z (part 0 (row ms f j bank))) t ∙ sym (ap (λ z. when z (part 0 (row ms g j bank))) t)
    ]

module _ (m : Meaning) (ms : List ℕ) (a n : ℕ) where
  pub scrub_open : index_of a < m.size → 4096 ≤ n → argument_check m.size ms (Scrub a n) ≡ None
  scrub_open h l = rw (lt-ltb a (64 * m.size) (omega arith), le-leb 4096 n l) refl

  pub scrub_address : m.size ≤ index_of a → argument_check m.size ms (Scrub a n) ≡ Some AddressOutOfRange
  scrub_address h = rw (le-ltb a (64 * m.size) (omega arith)) refl

  pub scrub_work : index_of a < m.size → n < 4096 → argument_check m.size ms (Scrub a n) ≡ Some WorkBufferShort
  scrub_work h l = rw (lt-ltb a (64 * m.size) (omega arith), lt-leb 4096 n l) refl

  pub scrub_refused : (e : Refusal) → argument_check m.size ms (Scrub a n) ≡ Some e → answer (board m ms) (Scrub a n) ≡ Err e
  scrub_refused e q =
      ap (λ o. or_refused o (or_refused (first_denied (reading (board m ms)) (group ms a))
      (Ok (Scrubbed (otherwise m.shown (index_of a) (plan (board m ms) (Scrub a n) (index_of a)) (range_with_len 0 72)))))) q

  pub scrub_denied : (e : Refusal) → index_of a < m.size → 4096 ≤ n
      → first_denied (reading (board m ms)) (addresses (index_of a) (range_with_len (group_start ms (bank_of a)) (group_count ms))) ≡ Some e
      → answer (board m ms) (Scrub a n) ≡ Err e
  scrub_denied e h l q =
      let R = Ok (Scrubbed (otherwise m.shown (index_of a) (plan (board m ms) (Scrub a n) (index_of a)) (range_with_len 0 72))) in
      ap (λ o. or_refused o (or_refused (first_denied (reading (board m ms)) (group ms a)) R)) (scrub_open h l)
      ∙ ap (λ xs. or_refused (first_denied (reading (board m ms)) (addresses (index_of a) xs)) R) (sym (group_is ms (bank_of a)))
      ∙ ap (λ o. or_refused o R) q

module _ {X : Type 0} (G : Ghosts X) where
  pub scrub_done : (x y : X) (ms ms' : List ℕ) (a n : ℕ) (w : List ℕ) (count : ℕ) → index_of a < (G.means x).size → 4096 ≤ n → Low ms
      → Loaded (reading (board (G.means x) ms)) (index_of a) (group_start ms (bank_of a)) (group_count ms) w → ms' ≡ ms
      → count ≡ otherwise (G.means x).shown (index_of a) (scrubbing ms (bank_of a) (slots w) (index_of a)) (range_with_len 0 72)
      → InOrder G.means G.puts x (along_banks (scrubbing ms (bank_of a) (slots w) (index_of a)) (index_of a) (range_with_len 0 72)) y
      → Step (board (G.means x) ms) (Scrub a n) (Ok (Scrubbed count)) (board (G.means y) ms') × InOrder G.means G.puts x (puts (board (G.means x) ms) (Scrub a n)) y
  scrub_done x y ms ms' a n w count h l low load m e ch =
      let s : State = board (G.means x) ms in
      let i : ℕ = index_of a in
      let R : ℕ → ℕ → Option Part = scrubbing ms (bank_of a) (λ v. line_of (reading s v)) in
      let same : (b : ℕ) → 0 ≤ b → b < 0 + 72 → scrubbing ms (bank_of a) (slots w) i b ≡ R i b =
      λ b _ u. scrub_same ms low (slots w) (λ v. line_of (reading s v)) (bank_of a) i b (omega arith)
      (λ v lv q. let r = in_range ms (bank_of a) v lv q in
      let z : (64 * i + v) % 64 ≡ v = omega arith in
      ap (slot w) z ∙ load.lines v r.0 r.1) in
      let here : along (plan s (Scrub a n)) (range_with_len 0 (G.means x).size) ≡ along_banks (scrubbing ms (bank_of a) (slots w) i) i (range_with_len 0 72) =
      along_one (plan s (Scrub a n)) i 0 (G.means x).size (omega arith) (omega arith)
      (λ j b ne. ap (λ t. when t (R j b)) (ne_eqb j i ne))
      ∙ ap (λ t. along_banks (λ b. when t (R i b)) i (range_with_len 0 72)) (eq-eqb i i refl)
      ∙ sym (banks_cong i (scrubbing ms (bank_of a) (slots w) i) (R i) 0 72 same) in
      let says : answer s (Scrub a n) ≡ Ok (Scrubbed count) =
      ap (λ o. or_refused o (or_refused (first_denied (reading s) (group ms a)) (Ok (Scrubbed (otherwise (G.means x).shown i (plan s (Scrub a n) i) (range_with_len 0 72)))))) (scrub_open (G.means x) ms a n h l)
      ∙ ap (λ xs. or_refused (first_denied (reading s) (addresses i xs)) (Ok (Scrubbed (otherwise (G.means x).shown i (plan s (Scrub a n) i) (range_with_len 0 72))))) (sym (group_is ms (bank_of a)))
      ∙ ap (λ o. or_refused o (Ok (Scrubbed (otherwise (G.means x).shown i (plan s (Scrub a n) i) (range_with_len 0 72))))) load.none
      ∙ ap (λ t. Ok (Scrubbed (otherwise (G.means x).shown i (λ b. when t (R i b)) (range_with_len 0 72)))) (eq-eqb i i refl)
      ∙ ap (λ n. Ok (Scrubbed n)) (sym (e ∙ otherwise_cong (G.means x).shown i (scrubbing ms (bank_of a) (slots w) i) (R i) 0 72 same)) in
      call_done G x y ms ms' (Scrub a n) (Ok (Scrubbed count)) tt says refl m (subst (λ ps. InOrder G.means G.puts x ps y) (sym here) ch)

-- bank after bank, the count is of what was shown at first
otherwise_local : (f g : Contents) (i n : ℕ) → ((k : ℕ) → k < 64 → f n i k ≡ g n i k) → (t : Bool) (l : List ℕ) → length l ≡ 64
    → otherwise_part f i n (when t (part 0 l)) ≡ otherwise_part g i n (when t (part 0 l))
otherwise_local f g i n h true l e =
    ap (λ xs. distance xs l) (cells_same f g n i 0 (length l) (λ k low u. h k (omega arith)))
otherwise_local f g i n h false l e = refl

pub total_more : (shown : Contents) (j : ℕ) (p : ℕ → Option Part) (n : ℕ)
    → otherwise shown j p (range_with_len 0 (n + 1)) ≡ otherwise shown j p (range_with_len 0 n) + otherwise_part shown j n (p n)
total_more shown j p n =
    ap (λ m. otherwise shown j p (range_with_len 0 m)) (add-one n) ∙ otherwise_more shown j p 0 n
    ∙ ap (λ m. otherwise shown j p (range_with_len 0 n) + otherwise_part shown j m (p m)) (zero-add n)

pub scrub_count : {X : Type 0} (G : Ghosts X) (x y : X) (ms : List ℕ) (b : ℕ) (lines : ℕ → List ℕ) (i n : ℕ)
    → i < (G.means x).size → n < 72 → InOrder G.means G.puts x (along_banks (scrubbing ms b lines i) i (range_with_len 0 n)) y
    → otherwise_part (G.means y).shown i n (scrubbing ms b lines i n) ≡ otherwise_part (G.means x).shown i n (scrubbing ms b lines i n)
scrub_count G x y ms b lines i n h l ch =
    otherwise_local (G.means y).shown (G.means x).shown i n
    (λ k u. run_shown ch n i k (record { bank_real = l; index_real = h; byte_real = u }) (banks_out (scrubbing ms b lines i) i 0 n n i k (inl (omega arith))))
    (of_group ms (group_of ms b) (role ms n)) (row ms lines i n) (length-map-range_with_len (λ k. image ms lines n i k) 0 64)
