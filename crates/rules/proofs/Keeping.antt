-- Every call keeps the board in step with its ledger.
use Rattle.std.proofs.Common.{◌≡◌, ℕ, ◌+◌, ◌-◌, ◌*◌, ◌<◌, ◌≤◌, Bool, true, false, cond, not, eqb, ltb, List, [], ◌∷◌, ◌++◌, map, length, get_or, Some, None, Option, sym, refl, ap, ◌∙◌, subst, ap₂, inl, inr, arith}
use lib.Bits.{bit_xor, xor_comm, xor_assoc, xor_self, xor_zero_r}
use Rattle.std.specs.List.{range_with_len}
use Rattle.std.proofs.lemmas.Bool.{cases_eq, cases_lt, cases_Bool, eq-eqb, ne_eqb, eqb-true, ltb-true, cond-true, cond-false, cond_both, false≢true, and_from, and_left, and_right, not-true}
use Rattle.std.proofs.lemmas.List.FromFn.{length-map-range_with_len, get_or-map-range_with_len}
use Rattle.rules.proofs.Xor.{Each, each_map, each_without, each_addresses, xor_cong}
use Rattle.rules.proofs.Geometry.{Valid, Real, role_sound, Member, each_member, group_split, group_fits}
use Rattle.rules.proofs.Agree.{Agrees}
use Rattle.rules.proofs.Reading.{parity_at, decoded_near, decoded_far, partners_sum, rebuilding_right, reading_right, Seen}
use Rattle.rules.proofs.Laying.{after_none, along_here, lay, lay_in}
use Rattle.rules.proofs.Marking.{mark_valid, mark_use, mark_image}
use Rattle.rules.proofs.Image.{image_cong, image_zero, zero_byte, stored_image, outside_of, inside_of}
use Rattle.codec.proofs.CodeLaws.{laws}
use Rattle.codec.specs.Code.{Symbols, uncorrectable, zero_line}
use Rattle.codec.specs.declared.word.Finding.{Finding}
use Rattle.rules.specs.History.{Formatted, Ledger, Named, Step, Tolerable, blank, enter, same_group, wrong}
use Rattle.rules.specs.Places.{InUse, bank_of, group_of, image, index_of, members, parity_bank, role, without, xor_over}
use Rattle.rules.specs.Rules.{HostCall, State, accepted, along, among, answer, argument_check, by_partner, decoded, filled, for_mark, line_of, lowest, obtained, of_group, or_refused, part, partners, partners_byte, past_checks, plan, reading, row, step_lowest, unless, when}
use Rattle.rules.specs.Answers.{Answer}
use Rattle.rules.specs.declared.calls.Call.TheVariants.{Clear, Mark, Pass, Read, Renew, Scrub, Settle, Write}
use Rattle.stack.specs.Memory.{Place}
use Rattle.stack.specs.Pieces.{after}
use Rattle.stack.specs.declared.refusal.Refusal.{Refusal}
use Rattle.stack.specs.declared.refusal.Refusal.TheVariants.{PartnerUncorrectable}

-- ARGUMENT CHECKS

pub checks_passed : (o : Option Refusal) (r : Answer) → accepted (or_refused o r) ≡ true → o ≡ None
checks_passed (Some e) r h = absurd (false≢true h)
checks_passed None r h = refl

pub past_passed : (o : Option Refusal) (r : Answer) → o ≡ None → accepted (or_refused o r) ≡ true → accepted r ≡ true
past_passed (Some e) r q h = absurd (false≢true h)
past_passed None r q h = h

some_none : {X : Type 0} (x : X) → Some x ≡ None → ⊥
some_none x e = let z : ◌≡◌ {A = ℕ} 0 1 = cc in omega arith

pub unless_open : (t : Bool) (e : Refusal) (rest : Option Refusal) → unless t e rest ≡ None → (t ≡ true) × (rest ≡ None)
unless_open true e rest h = (refl, h)
unless_open false e rest h = absurd (some_none e h)

-- AN INVARIANT MADE AGAIN

less_none : (k : ℕ) → k - 0 ≡ k
less_none k = omega arith

bank_back : (i x : ℕ) → x < 64 → x ≡ bank_of (64 * i + x)
bank_back i x l = omega arith

make : (s t : State) (B : Ledger) (ms : List ℕ) → t.size ≡ s.size → t.marks ≡ ms → Valid ms → B.marks ≡ ms
    → ((a : ℕ) → Symbols 64 (B.lines a))
    → ((b i k : ℕ) → InUse ms b → i < s.size → k < 64 → t.kept b i k ≡ image ms B.lines b i k)
    → ((b i k : ℕ) → Place t.size b i k → t.shown b i k < 256) → Agrees t B
make s t B ms z m v n l h y =
    record {
      marks = m ∙ sym n;
      valid = subst Valid (sym m) v;
      lines = l;
      kept = λ b i k u q r.
          h b i k (subst (λ x. InUse x b) m u) (subst (λ x. i < x) z q) r ∙ ap (λ x. image x B.lines b i k) (sym m);
      bytes = y;
    }

module _ (s t : State) (B : Ledger) (A : Agrees s B) where
  -- a call that puts nothing and marks nothing
  module _ (c : HostCall) (r : Answer) (st : Step s c r t) where
    idle : t.marks ≡ s.marks → ((b i k : ℕ) → Place s.size b i k → t.kept b i k ≡ s.kept b i k) → Agrees t B
    idle m h =
        make s t B s.marks st.size m A.valid (sym A.marks) A.lines
        (λ b i k u q l. h b i k (record { bank_real = u.real; index_real = q; byte_real = l }) ∙ A.kept b i k u q l) st.bytes

    nothing_put : accepted (answer s c) ≡ false → (b i k : ℕ) → Place s.size b i k → t.kept b i k ≡ s.kept b i k
    nothing_put e b i k p = st.kept b i k p ∙ ap (λ ps. after s.kept ps b i k) (cond-false (accepted (answer s c)) _ [] e) ∙ after_none s.kept b i k

    -- what an accepted call puts
    laid : accepted (answer s c) ≡ true → (b i k : ℕ) → Place s.size b i k
        → t.kept b i k ≡ lay (plan s c i b) k (s.kept b i k)
    laid e b i k p =
        let h = p.bank_real in
        let l = p.index_real in
        st.kept b i k p
        ∙ ap (λ ps. after s.kept ps b i k) (cond-true (accepted (answer s c)) (along (plan s c) (range_with_len 0 s.size)) [] e)
        ∙ along_here (plan s c) s.kept 0 s.size b i k (omega arith) (omega arith) h

  refused_keeps : (c : HostCall) (r : Answer) → Step s c r t → accepted (answer s c) ≡ false → Agrees t B
  refused_keeps (Read a n) r st e = idle (Read a n) r st st.marks (nothing_put (Read a n) r st e)
  refused_keeps (Write a l) r st e = idle (Write a l) r st st.marks (nothing_put (Write a l) r st e)
  refused_keeps (Renew a l) r st e = idle (Renew a l) r st st.marks (nothing_put (Renew a l) r st e)
  refused_keeps (Clear a) r st e = idle (Clear a) r st st.marks (nothing_put (Clear a) r st e)
  refused_keeps (Scrub a w) r st e = idle (Scrub a w) r st st.marks (nothing_put (Scrub a w) r st e)
  refused_keeps (Mark m w) r st e =
      idle (Mark m w) r st (st.marks ∙ cond-false (accepted (answer s (Mark m w))) _ s.marks e) (nothing_put (Mark m w) r st e)
  refused_keeps Settle r st e = idle Settle r st st.marks (nothing_put Settle r st e)
  refused_keeps Pass r st e = idle Pass r st st.marks (nothing_put Pass r st e)

  read_keeps : (a n : ℕ) (r : Answer) → Step s (Read a n) r t → accepted (answer s (Read a n)) ≡ true → Agrees t B
  read_keeps a n r st e = idle (Read a n) r st st.marks (laid (Read a n) r st e)

  settle_keeps : (r : Answer) → Step s Settle r t → Agrees t B
  settle_keeps r st = idle Settle r st st.marks (laid Settle r st refl)

  pass_keeps : (r : Answer) → Step s Pass r t → Agrees t B
  pass_keeps r st = idle Pass r st st.marks (laid Pass r st refl)

  -- WRITE AND RENEW

  entered_bytes : (a : ℕ) (l : List ℕ) → length l ≡ 64 → ((k : ℕ) → get_or l k 0 < 256) → (x : ℕ) → Symbols 64 (cond (eqb x a) l (B.lines x))
  entered_bytes a l n y x =
      cond_both (eqb x a) l (B.lines x) (Symbols 64) (λ _. record { count = n; small = y }) (λ _. A.lines x)

  -- the parity over the new lines, from the new line and the old partners
  new_parity : (a k : ℕ) (l : List ℕ)
      → bit_xor (get_or l k 0) (xor_over (λ b. get_or (B.lines (64 * index_of a + b)) k 0) (without (bank_of a) (members s.marks (group_of s.marks (bank_of a)))))
      ≡ xor_over (λ b. get_or (cond (eqb (64 * index_of a + b) a) l (B.lines (64 * index_of a + b))) k 0) (members s.marks (group_of s.marks (bank_of a)))
  new_parity a k l =
      let ms = s.marks in
      let g = group_of ms (bank_of a) in
      let f : ℕ → ℕ = λ b. get_or (cond (eqb (64 * index_of a + b) a) l (B.lines (64 * index_of a + b))) k 0 in
      let old : ℕ → ℕ = λ b. get_or (B.lines (64 * index_of a + b)) k 0 in
      let rest = without (bank_of a) (members ms g) in
      let own_byte : f (bank_of a) ≡ get_or l k 0 = ap (λ x. get_or x k 0) (cond-true (eqb (64 * index_of a + bank_of a) a) l _ (eq-eqb (64 * index_of a + bank_of a) a (omega arith))) in
      let others_same : xor_over old rest ≡ xor_over f rest =
      xor_cong old f rest
      (each_map (λ x. Member ms g x × (x ≡ bank_of a → ⊥)) (λ x. old x ≡ f x) rest
      (λ x w. let lo = w.0.low in let ne = w.1 in
      ap (λ z. get_or z k 0) (sym (cond-false (eqb (64 * index_of a + x) a) l _ (ne_eqb (64 * index_of a + x) a (λ e. omega arith)))))
      (each_without (Member ms g) (bank_of a) (members ms g) (each_member ms g (group_fits ms (bank_of a) (omega arith))))) in
      ap₂ bit_xor (sym own_byte) others_same ∙ sym (group_split f ms (bank_of a) (omega arith))

  -- a line put at an address
  store_keeps : (c : HostCall) (r : Answer) (a : ℕ) (l par : List ℕ) (st : Step s c r t)
      → t.marks ≡ s.marks
      → length l ≡ 64 → ((k : ℕ) → get_or l k 0 < 256) → length par ≡ 64
      → ((b i k : ℕ) → Place s.size b i k → t.kept b i k
      ≡ lay (when (eqb i (index_of a)) (Rattle.rules.specs.Rules.store_part s.marks (bank_of a) l par (role s.marks b))) k (s.kept b i k))
      → ((k : ℕ) → k < 64 → get_or par k 0
      ≡ bit_xor (get_or l k 0) (xor_over (λ b. get_or (B.lines (64 * index_of a + b)) k 0) (without (bank_of a) (members s.marks (group_of s.marks (bank_of a))))))
      → Agrees t (record { lines = λ x. cond (eqb x a) l (B.lines x); marks = B.marks })
  store_keeps c r a l par st m n y pn h p =
      make s t _ s.marks st.size m A.valid (sym A.marks) (entered_bytes a l n y)
      (λ b i k u q w.
      h b i k (record { bank_real = u.real; index_real = q; byte_real = w })
      ∙ stored_image s.marks B.lines a l par n (laws.six l n) pn i k (s.kept b i k) (role s.marks b)
      (role_sound s.marks A.valid b u.real) w (A.kept b i k u q w)
      (λ g e. p k w ∙ new_parity a k l
      ∙ ap (λ z. xor_over (λ b. get_or (cond (eqb (64 * index_of a + b) a) l (B.lines (64 * index_of a + b))) k 0) (members s.marks z)) (sym e)))
      st.bytes

  write_keeps : (a : ℕ) (l : List ℕ) (r : Answer) → Tolerable (Named (Write a l)) s → Step s (Write a l) r t → accepted (answer s (Write a l)) ≡ true
      → Agrees t (enter B (Write a l))
  write_keeps a l r tolerable st e =
      let d = unless_open (ltb a (64 * s.size)) _ _ (checks_passed _ _ e) in
      let ha : a < 64 * s.size = ltb-true a (64 * s.size) d.0 in
      let d2 = unless_open (eqb (length l) 64) _ None d.1 in
      let n : length l ≡ 64 = eqb-true (length l) 64 d2.0 in
      let obtained_line = reading_right s B A (Named (Write a l)) tolerable a ha (λ x. x) in
      let f : ℕ → ℕ = λ k. bit_xor (bit_xor (s.shown (parity_bank s.marks (bank_of a)) (index_of a) k) (get_or (line_of (reading s a)) k 0)) (get_or l k 0) in
      store_keeps (Write a l) r a l (map f (range_with_len 0 64)) st st.marks n st.given (length-map-range_with_len f 0 64)
      (laid (Write a l) r st e)
      (λ k w.
      let g : ℕ → ℕ = λ b. get_or (B.lines (64 * index_of a + b)) k 0 in
      let W = xor_over g (without (bank_of a) (members s.marks (group_of s.marks (bank_of a)))) in
      let x = g (bank_of a) in
      let old : get_or (line_of (reading s a)) k 0 ≡ x = ap (λ o. get_or (line_of o) k 0) obtained_line.1 ∙ ap (λ z. get_or (B.lines z) k 0) (omega arith) in
      let par : s.shown (parity_bank s.marks (bank_of a)) (index_of a) k ≡ bit_xor x W =
      tolerable.parity a k ha w ∙ parity_at s B A a k ha w ∙ group_split g s.marks (bank_of a) (omega arith) in
      get_or-map-range_with_len f 0 64 k k 0 w (omega arith)
      ∙ ap₂ (λ p o. bit_xor (bit_xor p o) (get_or l k 0)) par old
      ∙ ap (λ z. bit_xor z (get_or l k 0)) (ap (λ z. bit_xor z x) (xor_comm x W) ∙ xor_assoc W x x ∙ ap (bit_xor W) (xor_self x) ∙ xor_zero_r W)
      ∙ xor_comm W (get_or l k 0))

  -- a renewal that is accepted: decoding gives every partner's line
  seen_all : (N : ℕ → Type 0) → Tolerable N s → ((b : ℕ) → N b → ⊥) → (ps : List ℕ) → Each (λ p. p < 64 * s.size) ps → lowest s ps ≡ None
      → Each (Seen s B A) ps
  unfolding lowest
  seen_all N tolerable no_name [] h e = tt
  seen_all N tolerable no_name (p ∷ ps) h e =
      elim (cases_lt 1 (wrong s p)) [
        | inl big ↦
            let four : wrong s p ≤ 4 = elim (tolerable.four p h.0) [ inl n ↦ absurd (no_name (bank_of p) n) | inr w ↦ w ] in
            let o : decoded s p ≡ uncorrectable = decoded_far s B A p h.0 big four (tolerable.check p h.0) in
            absurd (some_none p (sym (ap (λ z. step_lowest z p (lowest s ps)) o) ∙ e))
        | inr small ↦
            let w = decoded_near s B A p h.0 small in
            (w, seen_all N tolerable no_name ps h.1 (sym (ap (λ z. step_lowest z p (lowest s ps)) w.1) ∙ e))
      ]

  by_partner_none : (a : ℕ) (o : Option ℕ) → by_partner a o ≡ None → o ≡ None
  by_partner_none a (Some p) e = absurd (some_none (PartnerUncorrectable a p) e)
  by_partner_none a None e = refl

  pub partners_in_range : (a : ℕ) → a < 64 * s.size → Each (λ p. p < 64 * s.size) (partners s.marks a)
  partners_in_range a h =
      let ms = s.marks in
      let g = group_of ms (bank_of a) in
      each_addresses (λ p. p < 64 * s.size) (index_of a) (without (bank_of a) (members ms g))
      (each_map (λ x. Member ms g x × (x ≡ bank_of a → ⊥)) (λ x. 64 * index_of a + x < 64 * s.size) (without (bank_of a) (members ms g))
      (λ x w. let lo = w.0.low in omega arith)
      (each_without (Member ms g) (bank_of a) (members ms g) (each_member ms g (group_fits ms (bank_of a) (omega arith)))))

  renew_keeps : (a : ℕ) (l : List ℕ) (r : Answer) → Tolerable (Named (Renew a l)) s → Step s (Renew a l) r t → accepted (answer s (Renew a l)) ≡ true
      → Agrees t (enter B (Renew a l))
  renew_keeps a l r tolerable st e =
      let o = checks_passed (argument_check s.size s.marks (Renew a l)) (past_checks s (Renew a l)) e in
      let d = unless_open (ltb a (64 * s.size)) _ _ o in
      let ha : a < 64 * s.size = ltb-true a (64 * s.size) d.0 in
      let d2 = unless_open (eqb (length l) 64) _ None d.1 in
      let n : length l ≡ 64 = eqb-true (length l) 64 d2.0 in
      let low : lowest s (partners s.marks a) ≡ None =
      by_partner_none a _ (checks_passed _ _ (past_passed (argument_check s.size s.marks (Renew a l)) (past_checks s (Renew a l)) o e)) in
      let seen = seen_all (Named (Renew a l)) tolerable (λ b x. x) (partners s.marks a) (partners_in_range a ha) low in
      let f : ℕ → ℕ = λ k. bit_xor (get_or l k 0) (partners_byte s a k) in
      store_keeps (Renew a l) r a l (map f (range_with_len 0 64)) st st.marks n st.given (length-map-range_with_len f 0 64)
      (laid (Renew a l) r st e)
      (λ k w. get_or-map-range_with_len f 0 64 k k 0 w (omega arith) ∙ ap (bit_xor (get_or l k 0)) (partners_sum s B A a k seen))

  -- CLEAR AND SCRUB

  -- whole rows of the banks of one group, each from lines that the ledger then has
  rows_keep : (c : HostCall) (r : Answer) (a : ℕ) (st : Step s c r t) (L : ℕ → List ℕ) (bytes : ℕ → ℕ → List ℕ)
      → t.marks ≡ s.marks → ((x : ℕ) → Symbols 64 (L x))
      → ((i b : ℕ) → length (bytes i b) ≡ 64)
      → ((b i k : ℕ) → Place s.size b i k → t.kept b i k
      ≡ lay (when (eqb i (index_of a)) (when (of_group s.marks (group_of s.marks (bank_of a)) (role s.marks b)) (part 0 (bytes i b)))) k (s.kept b i k))
      → ((b i k : ℕ) → i ≡ index_of a → i < s.size → k < 64 → Real s.marks (role s.marks b)
      → of_group s.marks (group_of s.marks (bank_of a)) (role s.marks b) ≡ true → get_or (bytes i b) k 0 ≡ image s.marks L b i k)
      → ((x : ℕ) → same_group s.marks a x ≡ false → B.lines x ≡ L x)
      → Agrees t (record { lines = L; marks = B.marks })
  rows_keep c r a st L bytes m y long h in_group out_group =
      make s t _ s.marks st.size m A.valid (sym A.marks) y
      (λ b i k u q w.
      let ms = s.marks in
      let g = group_of ms (bank_of a) in
      let rs = role_sound ms A.valid b u.real in
      h b i k (record { bank_real = u.real; index_real = q; byte_real = w })
      ∙ elim (cases_eq i (index_of a)) [
        | inl e ↦ rw (eq-eqb i (index_of a) e)
            (elim (cases_Bool (of_group ms g (role ms b))) [
              | inl o ↦ rw o (lay_in 0 (bytes i b) k (s.kept b i k) (omega arith) (omega (arith, long i b)) ∙ ap (λ z. get_or (bytes i b) z 0) (omega arith)
                  ∙ in_group b i k e q w rs o)
              | inr o ↦ rw o (A.kept b i k u q w
                  ∙ image_cong ms B.lines L i k (role ms b) rs w
                  (λ x l gx. out_group (64 * i + x)
                  (and_right (eqb (index_of (64 * i + x)) (index_of a)) _
                  (ne_eqb _ _ (λ ge. outside_of ms g x (role ms b) o gx (ap (group_of ms) (bank_back i x l) ∙ ge))))))
            ])
        | inr ne ↦ rw (ne_eqb i (index_of a) ne)
            (A.kept b i k u q w
            ∙ image_cong ms B.lines L i k (role ms b) rs w
            (λ x l gx. out_group (64 * i + x) (and_left (eqb (index_of (64 * i + x)) (index_of a)) _ (ne_eqb _ _ (λ ge. omega arith)))))
      ])
      st.bytes

  zero_bytes : Symbols 64 zero_line
  zero_bytes = record { count = refl; small = λ k. rw (zero_byte k) (omega arith) }

  in_group_same : (a i x : ℕ) → i ≡ index_of a → x < 64 → group_of s.marks x ≡ group_of s.marks (bank_of a)
      → same_group s.marks a (64 * i + x) ≡ true
  in_group_same a i x e l g =
      and_from (eqb (index_of (64 * i + x)) (index_of a)) _ (eq-eqb _ _ (omega arith))
      (eq-eqb _ _ (ap (group_of s.marks) (sym (bank_back i x l)) ∙ g))

  clear_keeps : (a : ℕ) (r : Answer) → Step s (Clear a) r t → accepted (answer s (Clear a)) ≡ true → Agrees t (enter B (Clear a))
  clear_keeps a r st e =
      let o = checks_passed (argument_check s.size s.marks (Clear a)) (past_checks s (Clear a)) e in
      let d = unless_open (ltb a (64 * s.size)) _ None o in
      let ms = s.marks in
      let L : ℕ → List ℕ = λ x. cond (same_group ms a x) zero_line (B.lines x) in
      let kept_by = rows_keep (Clear a) r a st L (λ i b. zero_line) st.marks
      (λ x. cond_both (same_group ms a x) zero_line (B.lines x) (Symbols 64) (λ _. zero_bytes) (λ _. A.lines x))
      (λ i b. refl)
      (laid (Clear a) r st e)
      (λ b i k ei q w rs og.
      zero_byte k ∙ sym (image_zero ms i k (role ms b))
      ∙ image_cong ms (λ x. zero_line) L i k (role ms b) rs w
      (λ x l c. sym (cond-true (same_group ms a (64 * i + x)) zero_line _ (in_group_same a i x ei l (inside_of ms (bank_of a) x (role ms b) rs og c)))))
      (λ x f. sym (cond-false (same_group ms a x) zero_line (B.lines x) f)) in
      subst (λ (m : List ℕ). Agrees t (record { lines = λ x. cond (same_group m a x) zero_line (B.lines x); marks = B.marks })) A.marks kept_by

  scrub_keeps : (a w : ℕ) (r : Answer) → Tolerable (Named (Scrub a w)) s → Step s (Scrub a w) r t → accepted (answer s (Scrub a w)) ≡ true → Agrees t B
  scrub_keeps a w r tolerable st e =
      let ms = s.marks in
      rows_keep (Scrub a w) r a st B.lines (λ i b. row ms (λ x. line_of (reading s x)) i b) st.marks A.lines
      (λ i b. length-map-range_with_len (λ k. image ms (λ x. line_of (reading s x)) b i k) 0 64)
      (laid (Scrub a w) r st e)
      (λ b i k ei q v rs og.
      get_or-map-range_with_len (λ k. image ms (λ x. line_of (reading s x)) b i k) 0 64 k k 0 v (omega arith)
      ∙ image_cong ms (λ x. line_of (reading s x)) B.lines i k (role ms b) rs v
      (λ x l c. ap line_of (reading_right s B A (Named (Scrub a w)) tolerable (64 * i + x) (omega arith) (λ z. z)).1))
      (λ x f. refl)

  -- MARK

  pub for_mark_right : (b w a : ℕ) → Tolerable (Named (Mark b w)) s → a < 64 * s.size → (f : Finding) × (for_mark s b a ≡ obtained (B.lines a) f)
  for_mark_right b w a tolerable h =
      elim (cases_eq (bank_of a) b) [
        | inl e ↦ let r = rebuilding_right s B A (Named (Mark b w)) tolerable a h (inl e) in (r.0, cond-true (eqb (bank_of a) b) _ _ (eq-eqb _ _ e) ∙ r.1)
        | inr n ↦ let r = reading_right s B A (Named (Mark b w)) tolerable a h n in (r.0, cond-false (eqb (bank_of a) b) _ _ (ne_eqb _ _ n) ∙ r.1)
      ]

  mark_keeps : (b w : ℕ) (r : Answer) → Tolerable (Named (Mark b w)) s → Step s (Mark b w) r t → accepted (answer s (Mark b w)) ≡ true
      → Agrees t (enter B (Mark b w))
  mark_keeps b w r tolerable st e =
      let ms = s.marks in
      let ms' = s.marks ++ b ∷ [] in
      let o = checks_passed (argument_check s.size s.marks (Mark b w)) (past_checks s (Mark b w)) e in
      let d1 = unless_open (ltb b 64) _ _ o in
      let d2 = unless_open (not (among b ms)) _ _ d1.1 in
      let d3 = unless_open (ltb (length ms) 2) _ _ d2.1 in
      let hb : b < 64 = ltb-true b 64 d1.0 in
      let two : length ms < 2 = ltb-true (length ms) 2 d3.0 in
      let v' : Valid ms' = mark_valid ms b A.valid hb (not-true (among b ms) d2.0) two in
      let L : ℕ → List ℕ = λ x. line_of (for_mark s b x) in
      make s t _ ms' st.size (st.marks ∙ cond-true (accepted (answer s (Mark b w))) ms' s.marks e) v' (ap (λ x. x ++ b ∷ []) (sym A.marks)) A.lines
      (λ c i k u q v.
      laid (Mark b w) r st e c i k (record { bank_real = u.real; index_real = q; byte_real = v })
      ∙ elim (cases_Bool (filled ms c)) [
        | inl f ↦ rw f
            (lay_in 0 (row ms' L i c) k (s.kept c i k) (omega arith) (omega (arith, length-map-range_with_len (λ k. image ms' L c i k) 0 64))
            ∙ ap (λ z. get_or (row ms' L i c) z 0) (less_none k)
            ∙ get_or-map-range_with_len (λ k. image ms' L c i k) 0 64 k k 0 v (omega arith)
            ∙ image_cong ms' L B.lines i k (role ms' c) (role_sound ms' v' c u.real) v
            (λ x l tc. ap line_of (for_mark_right b w (64 * i + x) tolerable (omega arith)).1))
        | inr f ↦ rw f (A.kept c i k (mark_use ms b c two u) q v ∙ mark_image ms b two B.lines c i k u f)
      ])
      st.bytes

  -- EVERY CALL

  keeps : (c : HostCall) (r : Answer) → Tolerable (Named c) s → Step s c r t → accepted (answer s c) ≡ true → Agrees t (enter B c)
  keeps (Read a n) r tolerable st e = read_keeps a n r st e
  keeps (Write a l) r tolerable st e = write_keeps a l r tolerable st e
  keeps (Renew a l) r tolerable st e = renew_keeps a l r tolerable st e
  keeps (Clear a) r tolerable st e = clear_keeps a r st e
  keeps (Scrub a w) r tolerable st e = scrub_keeps a w r tolerable st e
  keeps (Mark b w) r tolerable st e = mark_keeps b w r tolerable st e
  keeps Settle r tolerable st e = settle_keeps r st
  keeps Pass r tolerable st e = pass_keeps r st

  pub call_keeps : (c : HostCall) (r : Answer) → Tolerable (Named c) s → Step s c r t → Agrees t (cond (accepted r) (enter B c) B)
  call_keeps c r tolerable st =
      elim (cases_Bool (accepted (answer s c))) [
        | inl e ↦ subst (Agrees t) (sym (cond-true (accepted r) (enter B c) B (ap accepted st.says ∙ e))) (keeps c r tolerable st e)
        | inr e ↦ subst (Agrees t) (sym (cond-false (accepted r) (enter B c) B (ap accepted st.says ∙ e))) (refused_keeps c r st e)
      ]

pub formatted : (s : State) → Formatted s → Agrees s blank
formatted s f =
    make s s blank [] refl f.stage tt refl (λ a. record { count = refl; small = λ k. rw (zero_byte k) (omega arith) })
    (λ b i k u q w. f.zero b i k (record { bank_real = u.real; index_real = q; byte_real = w }) ∙ sym (image_zero [] i k (role [] b))) f.bytes
