-- The main theorem.
use Rattle.std.proofs.Common.{◌≡◌, ℕ, ◌+◌, ◌*◌, ◌<◌, ◌≤◌, Bool, true, false, ltb, leb, List, [], ◌∷◌, Some, None, Option, sym, refl, ap, ◌∙◌, subst, inl, inr, arith, Ok}
use Rattle.std.specs.List.{range_with_len}
use Rattle.std.proofs.lemmas.Bool.{cases_lt, lt-ltb, ltb-true, le-leb, lt-leb, cond-true, cond-false}
use Rattle.rules.proofs.Xor.{Each, each_map, each_counting, each_addresses}
use Rattle.rules.proofs.Geometry.{role_sound, Member, each_member, group_fits}
use Rattle.rules.proofs.Agree.{Agrees}
use Rattle.rules.proofs.Reading.{decoded_near, decoded_far, reading_right}
use Rattle.rules.proofs.Image.{image_cong}
use Rattle.rules.proofs.Keeping.{call_keeps, formatted, unless_open, for_mark_right, partners_in_range}
use Rattle.codec.specs.declared.word.Finding.{Finding}
use Rattle.rules.specs.History.{Event, History, Ledger, Named, NoneNamed, Tolerable, fresh, ledger, next, wrong}
use Rattle.rules.specs.Places.{InUse, bank_of, group_of, image, index_of, members, role}
use Rattle.rules.specs.Rules.{HostCall, Outcome, State, answer, argument_check, by_partner, first_denied, for_mark, group, lowest, obtained, or_refused, partners, past_checks, read_answer, reading, step_first, step_lowest, unless, write_answer}
use Rattle.rules.specs.Theorem.{ReadsBack, Ruled, Theorem, either_refusal, inside_refusal, line_handed, lowest_damaged, refusal_in, ruled_refusal}
use Rattle.rules.specs.Answers.{Answer}
use Rattle.rules.specs.declared.calls.Outcome.TheVariants.{HandedOut, Renewed}
use Rattle.rules.specs.declared.calls.Call.TheVariants.{Clear, Mark, Pass, Read, Renew, Scrub, Settle, Write}
use Rattle.stack.specs.declared.refusal.Refusal.{Refusal}
use Rattle.stack.specs.declared.refusal.Refusal.TheVariants.{AddressOutOfRange}

pub agrees : (s : State) (es : List Event) → History s es → Agrees s (ledger es)
unfolding ledger
agrees s _ (fresh f) = formatted s f
agrees t _ (next {s = s} {es = es} {c = c} {r = r} run tolerable st) = call_keeps s t (ledger es) (agrees s es run) c r tolerable st

module _ (s : State) (B : Ledger) (A : Agrees s B) where
  unless_let : (t : Bool) (n : Refusal) (rest : Option Refusal) → t ≡ true → rest ≡ None → unless t n rest ≡ None
  unless_let true n rest e q = q
  unless_let false n rest e q = absurd (let z : ◌≡◌ {A = ℕ} 0 1 = cc in omega arith)

  -- a read in range hands out the line in the ledger
  pub read_back : Tolerable NoneNamed s → (a : ℕ) → a < 64 * s.size → (f : Finding) × (answer s (Read a 64) ≡ Ok (HandedOut (B.lines a) f))
  read_back tolerable a h =
      let r = reading_right s B A NoneNamed tolerable a h (λ x. x) in (
        r.0,
        ap (λ o. or_refused o (read_answer (reading s a))) (unless_let (ltb a (64 * s.size)) AddressOutOfRange None (lt-ltb a (64 * s.size) h) refl)
            ∙ ap read_answer r.1,
      )

  none_denied : (g : ℕ → Outcome) (L : ℕ → List ℕ) (xs : List ℕ) → Each (λ x. (f : Finding) × (g x ≡ obtained (L x) f)) xs → first_denied g xs ≡ None
  unfolding first_denied
  none_denied g L [] e = refl
  none_denied g L (x ∷ xs) e = ap (λ o. step_first o (first_denied g xs)) e.0.1 ∙ none_denied g L xs e.1

  group_in_range : (a : ℕ) → a < 64 * s.size → Each (λ p. p < 64 * s.size) (group s.marks a)
  group_in_range a h =
      let ms = s.marks in
      let g = group_of ms (bank_of a) in
      each_addresses (λ p. p < 64 * s.size) (index_of a) (members ms g)
      (each_map (Member ms g) (λ x. 64 * index_of a + x < 64 * s.size) (members ms g) (λ x w. let lo = w.low in omega arith)
      (each_member ms g (group_fits ms (bank_of a) (omega arith))))

  -- under tolerable damage, uncorrectable means more than one wrong symbol
  lowest_is : (N : ℕ → Type 0) → Tolerable N s → ((b : ℕ) → N b → ⊥) → (ps : List ℕ) → Each (λ p. p < 64 * s.size) ps → lowest s ps ≡ lowest_damaged s ps
  unfolding lowest
  lowest_is N tolerable no_name [] h = refl
  lowest_is N tolerable no_name (p ∷ ps) h =
      elim (cases_lt 1 (wrong s p)) [
        | inl big ↦
            let four : wrong s p ≤ 4 = elim (tolerable.four p h.0) [ inl n ↦ absurd (no_name (bank_of p) n) | inr w ↦ w ] in
            ap (λ z. step_lowest z p (lowest s ps)) (decoded_far s B A p h.0 big four (tolerable.check p h.0))
            ∙ sym (cond-true (leb 2 (wrong s p)) (Some p) (lowest_damaged s ps) (le-leb 2 (wrong s p) big))
        | inr small ↦
            ap (λ z. step_lowest z p (lowest s ps)) (decoded_near s B A p h.0 small).1
            ∙ lowest_is N tolerable no_name ps h.1
            ∙ sym (cond-false (leb 2 (wrong s p)) (Some p) (lowest_damaged s ps) (lt-leb 2 (wrong s p) (omega arith)))
      ]

  refused_by : (o : Option Refusal) (r : Answer) → refusal_in r ≡ None → refusal_in (or_refused o r) ≡ o
  refused_by (Some e) r h = refl
  refused_by None r h = h

  -- past the argument checks
  ruled_inside : (c : HostCall) → Tolerable (Named c) s → argument_check s.size s.marks c ≡ None → refusal_in (past_checks s c) ≡ inside_refusal s c
  ruled_inside (Read a n) tolerable o =
      let h = ltb-true a (64 * s.size) (unless_open (ltb a (64 * s.size)) _ _ o).0 in
      ap (λ z. refusal_in (read_answer z)) (reading_right s B A (Named (Read a n)) tolerable a h (λ x. x)).1
  ruled_inside (Write a l) tolerable o =
      let h = ltb-true a (64 * s.size) (unless_open (ltb a (64 * s.size)) _ _ o).0 in
      ap (λ z. refusal_in (write_answer z)) (reading_right s B A (Named (Write a l)) tolerable a h (λ x. x)).1
  ruled_inside (Renew a l) tolerable o =
      let h = ltb-true a (64 * s.size) (unless_open (ltb a (64 * s.size)) _ _ o).0 in
      refused_by (by_partner a (lowest s (partners s.marks a))) (Ok Renewed) refl
      ∙ ap (by_partner a) (lowest_is (Named (Renew a l)) tolerable (λ b x. x) (partners s.marks a) (partners_in_range s s B A a h))
  ruled_inside (Clear a) tolerable o = refl
  ruled_inside (Scrub a w) tolerable o =
      let h = ltb-true a (64 * s.size) (unless_open (ltb a (64 * s.size)) _ _ o).0 in
      refused_by (first_denied (reading s) (group s.marks a)) _ refl
      ∙ none_denied (reading s) B.lines (group s.marks a)
      (each_map (λ p. p < 64 * s.size) (λ x. (f : Finding) × (reading s x ≡ obtained (B.lines x) f)) (group s.marks a)
      (λ x l. reading_right s B A (Named (Scrub a w)) tolerable x l (λ z. z)) (group_in_range a h))
  ruled_inside (Mark b w) tolerable o =
      refused_by (first_denied (for_mark s b) (range_with_len 0 (64 * s.size))) _ refl
      ∙ none_denied (for_mark s b) B.lines (range_with_len 0 (64 * s.size))
      (each_counting (λ x. (f : Finding) × (for_mark s b x ≡ obtained (B.lines x) f)) 0 (64 * s.size)
      (λ x l u. for_mark_right s s B A b w x tolerable (omega arith)))
  ruled_inside Settle tolerable o = refl
  ruled_inside Pass tolerable o = refl

  by_checks : (c : HostCall) (o : Option Refusal) → (o ≡ None → refusal_in (past_checks s c) ≡ inside_refusal s c)
      → refusal_in (or_refused o (past_checks s c)) ≡ either_refusal o (inside_refusal s c)
  by_checks c (Some e) h = refl
  by_checks c None h = h refl

  pub ruled_call : (c : HostCall) → Tolerable (Named c) s → refusal_in (answer s c) ≡ ruled_refusal s c
  ruled_call c tolerable = by_checks c (argument_check s.size s.marks c) (ruled_inside c tolerable)

pub ruled : (s : State) (es : List Event) (run : History s es) → Ruled run
ruled s _ (fresh f) = tt
ruled t _ (next {s = s} {es = es} {c = c} {r = r} run tolerable st) =
    (ap refusal_in st.says ∙ ruled_call s (ledger es) (agrees s es run) c tolerable, ruled s es run)

some_same : (x y : List ℕ) → Some x ≡ Some y → x ≡ y
some_same x y e = cc

pub main : (s t : State) → Theorem s t
main s t es fs run_s run_t z m bs bt =
    let A = agrees s es run_s in
    let A' = agrees t fs run_t in
    let back : ReadsBack s es = read_back s (ledger es) A bs in
    let back' : ReadsBack t fs = read_back t (ledger fs) A' bt in
    let in_t : (a : ℕ) → a < 64 * s.size → a < 64 * t.size = λ a h. subst (λ n. a < 64 * n) z h in
    let marks_same : s.marks ≡ t.marks = A.marks ∙ m ∙ sym A'.marks in
    record {
      same_then = λ same. record {
        reads = λ a h. ap line_handed (back a h).1 ∙ ap Some (same a h) ∙ sym (ap line_handed (back' a (in_t a h)).1);
        bytes = λ b i k u q w.
            A.kept b i k u q w
            ∙ image_cong s.marks (ledger es).lines (ledger fs).lines i k (role s.marks b) (role_sound s.marks A.valid b u.real) w
            (λ x l c. same (64 * i + x) (omega arith))
            ∙ ap (λ ms. image ms (ledger fs).lines b i k) marks_same
            ∙ sym (A'.kept b i k (subst (λ ms. InUse ms b) marks_same u) (subst (λ n. i < n) z q) w);
      };
      equal_then = λ eq a h.
          some_same _ _ (sym (ap line_handed (back a h).1) ∙ eq.reads a h ∙ ap line_handed (back' a (in_t a h)).1);
      reads = back;
      reads' = back';
      ruled = ruled s es run_s;
      ruled' = ruled t fs run_t;
    }
