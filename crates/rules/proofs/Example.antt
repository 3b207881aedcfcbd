-- A history with damage that is repaired: bank 5 fails and is retired, then bank 9.
use Rattle.std.proofs.Common.{◌≡◌, ℕ, ◌+◌, ◌*◌, ◌/◌, ◌%◌, ◌<◌, ◌≤◌, Bool, true, false, cond, ◌||◌, eqb, ◌⊎◌, List, [], ◌∷◌, ◌++◌, get_or, None, sym, refl, ap, ◌∙◌, ap₂, inl, inr, arith, Ok, Err}
use Rattle.std.proofs.lemmas.Bool.{cases_Bool, cond-true, cond-false, false≢true, true≢false, ne_eqb, eqb-true, or_from}
use Rattle.codec.proofs.DecodingLaws.{distance_none}
use Rattle.rules.proofs.Chain.{pass_step}
use Rattle.rules.proofs.Gathering.{parity_real}
use Rattle.rules.proofs.Geometry.{Valid, use_line_bank, use_high}
use Rattle.rules.proofs.Image.{image_zero}
use Rattle.rules.proofs.Main.{agrees, ruled_call}
use Rattle.rules.proofs.Rows.{distance_more}
use Rattle.rules.proofs.Stepping.{after_call, step_after}
use Rattle.codec.specs.Code.{zero_line}
use Rattle.codec.specs.Word.{distance}
use Rattle.rules.specs.History.{Event, History, Named, NoneNamed, Tolerable, enter, fresh, ledger, next, wrong, wrong_check, wrong_line}
use Rattle.rules.specs.Places.{InUse, bank_of, check_in, image, index_of, line_bank, line_in, parity_bank, role, second_in, short}
use Rattle.rules.specs.Rules.{State, accepted, answer, argument_check}
use Rattle.rules.specs.Theorem.{Repaired, either_refusal, refusal_in}
use Rattle.rules.specs.Answers.{Answer}
use Rattle.rules.specs.declared.calls.Outcome.TheVariants.{Done}
use Rattle.rules.specs.declared.calls.Call.TheVariants.{Mark, Pass}
use Rattle.stack.proofs.PieceLaws.{cells_same, getD_cells, length_cells}
use Rattle.stack.specs.Memory.{Contents, cells}

-- ones in the banks that f names, zeros elsewhere
abbrev ones : (ℕ → Bool) → Contents
ones f b i k = cond (f b) 1 0

ones_small : (f : ℕ → Bool) (b i k : ℕ) → ones f b i k < 256
ones_small f b i k = elim (cases_Bool (f b)) [ inl t ↦ rw t (omega arith) | inr t ↦ rw t (omega arith) ]

-- a board that keeps zeros in all banks in use, and shows ones in the banks that f names
pub record Zeros (f : ℕ → Bool) (s : State) : Type 0 where
  pub valid : Valid s.marks
  pub kept : (b i k : ℕ) → InUse s.marks b → i < s.size → k < 64 → s.kept b i k ≡ 0
  pub shown : (b i k : ℕ) → s.shown b i k ≡ ones f b i k
  pub high : (b : ℕ) → 64 ≤ b → f b ≡ false

module _ (f : ℕ → Bool) (s : State) (Z : Zeros f s) where
  same : (b i k : ℕ) → InUse s.marks b → i < s.size → k < 64 → f b ≡ false → s.kept b i k ≡ s.shown b i k
  same b i k u hi hk e = Z.kept b i k u hi hk ∙ sym (Z.shown b i k ∙ cond-false (f b) 1 0 e)

  same_high : (b i from n : ℕ) → 64 ≤ b → b < 72 → i < s.size → from + n ≤ 64 → cells s.kept b i from n ≡ cells s.shown b i from n
  same_high b i from n l h hi room =
      cells_same s.kept s.shown b i from n (λ k low up. same b i k (use_high s.marks Z.valid b l h) hi (omega arith) (Z.high b l))

  same_second : (z : Bool) (a : ℕ) → a < 64 * s.size → second_in z s.kept a ≡ second_in z s.shown a
  same_second true a h = same_high 68 (index_of a) (bank_of a) 1 (omega arith) (omega arith) (omega arith) (omega arith)
  same_second false a h = same_high (68 + bank_of a / 32) (index_of a) (2 * (bank_of a % 32)) 2 (omega arith) (omega arith) (omega arith) (omega arith)

  check_right : (a : ℕ) → a < 64 * s.size → wrong_check s a ≡ 0
  check_right a h =
      let e : check_in s.marks s.kept a ≡ check_in s.marks s.shown a =
      ap₂ (λ p q. p ++ q) (same_high (64 + bank_of a / 16) (index_of a) (4 * (bank_of a % 16)) 4 (omega arith) (omega arith) (omega arith) (omega arith)) (same_second (short s.marks) a h) in
      ap (distance (check_in s.marks s.kept a)) (sym e) ∙ distance_none (check_in s.marks s.kept a)

  line_right : (a : ℕ) → a < 64 * s.size → f (line_bank s.marks (bank_of a)) ≡ false → wrong_line s a ≡ 0
  line_right a h e =
      let b = line_bank s.marks (bank_of a) in
      let q : line_in s.marks s.kept a ≡ line_in s.marks s.shown a =
      cells_same s.kept s.shown b (index_of a) 0 64
      (λ k low up. same b (index_of a) k (use_line_bank s.marks Z.valid (bank_of a) (omega arith)) (omega arith) (omega arith) e) in
      ap (distance (line_in s.marks s.kept a)) (sym q) ∙ distance_none (line_in s.marks s.kept a)

  pub all_right : (a : ℕ) → a < 64 * s.size → f (line_bank s.marks (bank_of a)) ≡ false → wrong s a ≡ 0
  all_right a h e = ap₂ (λ p q. p + q) (line_right a h e) (check_right a h)

  module _ (N : ℕ → Type 0) (one : (b c : ℕ) → N b → N c → b ≡ c) (fails : (b : ℕ) → b < 64 → f (line_bank s.marks b) ≡ true → N b) where
    named : (a : ℕ) → a < 64 * s.size → N (bank_of a) ⊎ (1 < wrong s a) → N (bank_of a)
    named a h (inl n) = n
    named a h (inr w) =
        elim (cases_Bool (f (line_bank s.marks (bank_of a)))) [
          | inl t ↦ fails (bank_of a) (omega arith) t
          | inr t ↦ let z = all_right a h t in absurd (omega arith)
        ]

    pub zeros_tolerable : Tolerable N s
    zeros_tolerable =
        record {
          one = λ a x ha hx g p q.
              let e : bank_of a ≡ bank_of x = one (bank_of a) (bank_of x) (named a ha p) (named x hx q) in
              let i = g.index in
              omega arith;
          four = λ a h.
              elim (cases_Bool (f (line_bank s.marks (bank_of a)))) [
                | inl t ↦ inl (fails (bank_of a) (omega arith) t)
                | inr t ↦ let z = all_right a h t in inr (omega arith)
              ];
          check = λ a h. let z = check_right a h in omega arith;
          parity = λ a k h hk.
              let b = parity_bank s.marks (bank_of a) in
              sym (same b (index_of a) k (use_high s.marks Z.valid b (omega arith) (parity_real s.marks (bank_of a) (omega arith))) (omega arith) hk (Z.high b (omega arith)));
        }

-- an accepted call has no refusal, and the other way round
no_refusal : (r : Answer) → refusal_in r ≡ None → accepted r ≡ true
no_refusal (Err e) q = let z : ◌≡◌ {A = ℕ} 0 1 = cc in absurd (omega arith)
no_refusal (Ok o) q = refl

-- THE BOARDS, one index each

abbrev none_fails : ℕ → Bool
none_fails b = false

abbrev five : ℕ → Bool
five b = eqb b 5

abbrev both : ℕ → Bool
both b = eqb b 5 || eqb b 9

five_high : (b : ℕ) → 64 ≤ b → five b ≡ false
five_high b h = ne_eqb b 5 (λ e. omega arith)

both_high : (b : ℕ) → 64 ≤ b → both b ≡ false
both_high b h = or_from _ _ (five_high b h) (ne_eqb b 9 (λ e. omega arith))

-- newly formatted
abbrev start : State
start = record { size = 1; kept = λ b i k. 0; shown = ones none_fails; marks = [] }

started : History start []
started = fresh (record { stage = refl; zero = λ b i k p. refl; bytes = λ b i k p. ones_small none_fails b i k })

-- bank 5 has failed
abbrev broken : State
broken = record { size = 1; kept = λ b i k. 0; shown = ones five; marks = [] }

abbrev passing : Event
passing = record { call = Pass; answer = Ok Done }

failed : History broken (passing ∷ [])
failed =
    next started
    (zeros_tolerable none_fails start (record { valid = tt; kept = λ b i k u h l. refl; shown = λ b i k. refl; high = λ b h. refl }) (Named Pass) (λ b c n. absurd n) (λ b h e. absurd (false≢true e)))
    (pass_step (record { size = 1; kept = λ b i k. 0; shown = ones none_fails }) (record { size = 1; kept = λ b i k. 0; shown = ones five }) [] (record { size = refl; kept = λ b i k p. refl }) (λ b i k p. ones_small five b i k))

broken_zeros : Zeros five broken
broken_zeros = record { valid = tt; kept = λ b i k u h l. refl; shown = λ b i k. refl; high = five_high }

broken_tolerable : Tolerable (Named (Mark 5 4096)) broken
broken_tolerable = zeros_tolerable five broken broken_zeros (Named (Mark 5 4096)) (λ b c p q. p ∙ sym q) (λ b h e. eqb-true b 5 e)

-- and is retired
first_accepted : accepted (answer broken (Mark 5 4096)) ≡ true
first_accepted = no_refusal (answer broken (Mark 5 4096)) (ruled_call broken (ledger (passing ∷ [])) (agrees broken (passing ∷ []) failed) (Mark 5 4096) broken_tolerable)

abbrev once : State
once = after_call broken (Mark 5 4096)

abbrev once_events : List Event
once_events = record { call = Mark 5 4096; answer = answer broken (Mark 5 4096) } ∷ passing ∷ []

retired_once : History once once_events
retired_once = next failed broken_tolerable (step_after broken (Mark 5 4096) tt (λ b i k p. ones_small five b i k))

once_marks : once.marks ≡ 5 ∷ []
once_marks = cond-true (accepted (answer broken (Mark 5 4096))) _ _ first_accepted

once_lines : (ledger once_events).lines ≡ (λ a. zero_line)
unfolding ledger
once_lines = ap (λ t. (cond t (enter (ledger (passing ∷ [])) (Mark 5 4096)) (ledger (passing ∷ []))).lines) first_accepted

once_kept : (b i k : ℕ) → InUse once.marks b → i < 1 → k < 64 → once.kept b i k ≡ 0
once_kept b i k u h l =
    (agrees once once_events retired_once).kept b i k u h l ∙ ap (λ L. image once.marks L b i k) once_lines ∙ image_zero once.marks i k (role once.marks b)

once_zeros : Zeros five once
once_zeros = record { valid = (agrees once once_events retired_once).valid; kept = once_kept; shown = λ b i k. refl; high = five_high }

-- the retired bank holds no line any more
five_spared : (b : ℕ) → five (line_bank (5 ∷ []) b) ≡ false
five_spared b = elim (cases_Bool (eqb b 5)) [ inl t ↦ ap (λ z. eqb (cond z 71 b) 5) t | inr t ↦ ap (λ z. eqb (cond z 71 b) 5) t ∙ t ]

-- bank 9 fails
abbrev again : State
again = record { size = 1; kept = once.kept; shown = ones both; marks = once.marks }

abbrev again_events : List Event
again_events = passing ∷ once_events

failed_again : History again again_events
failed_again =
    next retired_once
    (zeros_tolerable five once once_zeros (Named Pass) (λ b c n. absurd n)
    (λ b h e. absurd (true≢false (sym e ∙ ap (λ ms. five (line_bank ms b)) once_marks ∙ five_spared b))))
    (pass_step (record { size = 1; kept = once.kept; shown = ones five }) (record { size = 1; kept = once.kept; shown = ones both }) once.marks (record { size = refl; kept = λ b i k p. refl }) (λ b i k p. ones_small both b i k))

again_zeros : Zeros both again
again_zeros = record { valid = once_zeros.valid; kept = once_kept; shown = λ b i k. refl; high = both_high }

only_nine : (b : ℕ) → both (line_bank (5 ∷ []) b) ≡ true → b ≡ 9
only_nine b e =
    elim (cases_Bool (eqb b 5)) [
      | inl t ↦ absurd (true≢false (sym e ∙ ap (λ z. both (cond z 71 b)) t))
      | inr t ↦ eqb-true b 9 (sym (ap (λ z. both (cond z 71 b)) t ∙ ap (λ z. z || eqb b 9) t) ∙ e)
    ]

again_tolerable : Tolerable (Named (Mark 9 4096)) again
again_tolerable =
    zeros_tolerable both again again_zeros (Named (Mark 9 4096)) (λ b c p q. p ∙ sym q)
    (λ b h e. only_nine b (sym (ap (λ ms. both (line_bank ms b)) once_marks) ∙ e))

second_accepted : accepted (answer again (Mark 9 4096)) ≡ true
second_accepted =
    no_refusal (answer again (Mark 9 4096))
    (ruled_call again (ledger again_events) (agrees again again_events failed_again) (Mark 9 4096) again_tolerable
    ∙ ap (λ ms. either_refusal (argument_check 1 ms (Mark 9 4096)) None) once_marks)

-- and is retired too
abbrev twice : State
twice = after_call again (Mark 9 4096)

abbrev twice_events : List Event
twice_events = record { call = Mark 9 4096; answer = answer again (Mark 9 4096) } ∷ again_events

retired_twice : History twice twice_events
retired_twice = next failed_again again_tolerable (step_after again (Mark 9 4096) tt (λ b i k p. ones_small both b i k))

twice_marks : twice.marks ≡ 5 ∷ 9 ∷ []
twice_marks = cond-true (accepted (answer again (Mark 9 4096))) _ _ second_accepted ∙ ap (λ ms. ms ++ 9 ∷ []) once_marks

twice_lines : (ledger twice_events).lines ≡ (λ a. zero_line)
unfolding ledger
twice_lines = ap (λ t. (cond t (enter (ledger again_events) (Mark 9 4096)) (ledger again_events)).lines) second_accepted ∙ once_lines

twice_kept : (b i k : ℕ) → InUse twice.marks b → i < 1 → k < 64 → twice.kept b i k ≡ 0
twice_kept b i k u h l =
    (agrees twice twice_events retired_twice).kept b i k u h l ∙ ap (λ L. image twice.marks L b i k) twice_lines ∙ image_zero twice.marks i k (role twice.marks b)

twice_zeros : Zeros both twice
twice_zeros = record { valid = (agrees twice twice_events retired_twice).valid; kept = twice_kept; shown = λ b i k. refl; high = both_high }

both_spared : (b : ℕ) → both (line_bank (5 ∷ 9 ∷ []) b) ≡ false
both_spared b =
    elim (cases_Bool (eqb b 5)) [
      | inl t ↦ ap (λ z. both (cond z 71 (cond (eqb b 9) 69 b))) t
      | inr t ↦ ap (λ z. both (cond z 71 (cond (eqb b 9) 69 b))) t
          ∙ elim (cases_Bool (eqb b 9)) [
            | inl u ↦ ap (λ z. both (cond z 69 b)) u
            | inr u ↦ ap (λ z. both (cond z 69 b)) u ∙ or_from _ _ t u
          ]
    ]

twice_spared : (b : ℕ) → both (line_bank twice.marks b) ≡ false
twice_spared b = ap (λ ms. both (line_bank ms b)) twice_marks ∙ both_spared b

-- the damage that the first mark met
first_two : 1 < wrong broken 5
first_two =
    let xs : List ℕ = line_in [] broken.kept 5 in
    let ys : List ℕ = line_in [] broken.shown 5 in
    let lx = length_cells broken.kept 5 0 0 64 in
    let ly = length_cells broken.shown 5 0 0 64 in
    let at : (k : ℕ) → k < 64 → ◌≡◌ {A = ℕ} (cond (eqb (get_or xs k 0) (get_or ys k 0)) 0 1) 1 =
    λ k h. ap₂ (λ p q. cond (eqb p q) 0 1) (getD_cells broken.kept 5 0 0 64 k 0 h) (getD_cells broken.shown 5 0 0 64 k 0 h) in
    let one = distance_more xs ys 0 (omega arith) (omega arith) in
    let two = distance_more xs ys 1 (omega arith) (omega arith) in
    omega (arith, one, two, at 0 (omega arith), at 1 (omega arith))

pub repaired : Repaired
repaired =
    record {
      broken = broken;
      early = passing ∷ [];
      started = failed;
      damage = first_two;
      end = twice;
      events = twice_events;
      ended = retired_twice;
      marks = sym (agrees twice twice_events retired_twice).marks ∙ twice_marks;
      lines = omega arith;
      right = λ a h. all_right both twice twice_zeros a h (twice_spared (bank_of a));
      tolerable = zeros_tolerable both twice twice_zeros NoneNamed (λ b c n. absurd n) (λ b h e. absurd (true≢false (sym e ∙ twice_spared b)));
    }
