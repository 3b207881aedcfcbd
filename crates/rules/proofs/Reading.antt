-- Reads of a board that keeps what its ledger says, under tolerable damage.
use Rattle.std.proofs.Common.{◌≡◌, ℕ, ◌+◌, ◌-◌, ◌*◌, ◌/◌, ◌%◌, ◌<◌, ◌≤◌, Bool, true, false, ◌⊎◌, List, [], ◌∷◌, ◌++◌, length, get_or, take, None, sym, refl, ap, ◌∙◌, subst, ap₂, inl, inr, arith}
use lib.Bits.{bit_xor, xor_assoc, xor_self, xor_zero_r}
use Rattle.std.proofs.lemmas.Bool.{cases_lt}
use Rattle.std.proofs.lemmas.List.{ext_get_or, length-append, get_or_append_left, get_or-append_right, get_or_past, get_or-take, length-take}
use Rattle.std.proofs.lemmas.List.FromFn.{length-map-range_with_len, get_or-map-range_with_len}
use Rattle.rules.proofs.Xor.{Each, each_map, each_without, each_addresses, xor_cong, xor_addresses}
use Rattle.rules.proofs.Geometry.{groups, role_line_bank, role_first, role_second, role_fifth, role_parity, use_line_bank, use_high, group_fits, groups_two, Member, each_member, group_split}
use Rattle.rules.proofs.Agree.{Agrees}
use Rattle.codec.proofs.CodeLaws.{laws}
use Rattle.codec.specs.Check.{check}
use Rattle.codec.specs.Code.{Symbols, checked, checks, found, judging, uncorrectable}
use Rattle.codec.specs.Word.{distance}
use Rattle.codec.specs.declared.word.Finding.{Finding}
use Rattle.rules.specs.History.{Grouped, Ledger, Tolerable, wrong, wrong_check}
use Rattle.rules.specs.Places.{bank_of, check_in, group_of, image_by, index_of, line_bank, line_in, members, parity_bank, second_in, short, without, xor_over}
use Rattle.rules.specs.Rules.{State, decoded, judged_or, line_decoded, lowest, obtained, partners, partners_byte, reading, rebuilding, step_rebuilding, sum_line}
use Rattle.stack.proofs.PieceLaws.{getD_cells, length_cells}
use Rattle.stack.specs.Memory.{Contents, cells}

cells_bytes : (f : Contents) (b i from n : ℕ) → ((k : ℕ) → k < n → f b i (from + k) < 256) → Symbols n (cells f b i from n)
cells_bytes f b i from n h =
    record {
      count = length_cells f b i from n;
      small = λ k. elim (cases_lt k n) [
        | inl l ↦ rw (getD_cells f b i from n k 0 l) (h k l)
        | inr u ↦ let e : get_or (cells f b i from n) k 0 ≡ 0 = get_or_past (cells f b i from n) k 0 (rw (length_cells f b i from n) u) in omega arith
      ];
    }

bytes_append : (m n : ℕ) (xs ys : List ℕ) → Symbols m xs → Symbols n ys → Symbols (m + n) (xs ++ ys)
bytes_append m n xs ys p q =
    record {
      count = length-append xs ys ∙ ap₂ ◌+◌ p.count q.count;
      small = λ k. elim (cases_lt k m) [
        | inl l ↦ rw (get_or_append_left xs ys 0 k (rw p.count l)) (p.small k)
        | inr u ↦ rw (get_or-append_right xs ys m k 0 p.count u) (q.small (k - m))
      ];
    }

whole : (a : ℕ) → 64 * index_of a + bank_of a ≡ a
whole a = omega arith

index_fits : (a r : ℕ) → a < 64 * r → index_of a < r
index_fits a r h = omega arith

module _ (s : State) (B : Ledger) (A : Agrees s B) where
  kept_line : (a : ℕ) → a < 64 * s.size → line_in s.marks s.kept a ≡ B.lines a
  unfolding image_by
  kept_line a h =
      let b = bank_of a in
      let i = index_of a in
      ext_get_or 0 _ (B.lines a) (length_cells s.kept (line_bank s.marks b) i 0 64 ∙ sym (A.lines a).count)
      (λ k l.
      let l' : k < 64 = rw (length_cells s.kept (line_bank s.marks b) i 0 64) at l in
      getD_cells s.kept (line_bank s.marks b) i 0 64 k 0 l'
      ∙ A.kept (line_bank s.marks b) i (0 + k) (use_line_bank s.marks A.valid b (omega arith)) (index_fits a s.size h) (omega arith)
      ∙ ap (image_by s.marks B.lines i (0 + k)) (role_line_bank s.marks A.valid b (omega arith))
      ∙ ap₂ (λ x y. get_or (B.lines x) y 0) (whole a) (omega arith))

  first_at : (a k : ℕ) → a < 64 * s.size → k < 4
      → s.kept (64 + bank_of a / 16) (index_of a) (4 * (bank_of a % 16) + k) ≡ get_or (check (B.lines a)) k 0
  unfolding image_by
  first_at a k h l =
      let b = bank_of a in
      let i = index_of a in
      let n : ℕ = 4 * (bank_of a % 16) + k in
      A.kept (64 + b / 16) i n (use_high s.marks A.valid (64 + b / 16) (omega arith) (omega arith)) (index_fits a s.size h) (omega arith)
      ∙ ap (image_by s.marks B.lines i n) (role_first s.marks A.valid (b / 16) (omega arith))
      ∙ ap₂ (λ x y. get_or (check (B.lines x)) y 0) (omega arith) (omega arith)

  second_at : short s.marks ≡ false → (a k : ℕ) → a < 64 * s.size → k < 2
      → s.kept (68 + bank_of a / 32) (index_of a) (2 * (bank_of a % 32) + k) ≡ get_or (check (B.lines a)) (4 + k) 0
  unfolding image_by
  second_at e a k h l =
      let b = bank_of a in
      let i = index_of a in
      let n : ℕ = 2 * (bank_of a % 32) + k in
      A.kept (68 + b / 32) i n (use_high s.marks A.valid (68 + b / 32) (omega arith) (omega arith)) (index_fits a s.size h) (omega arith)
      ∙ ap (image_by s.marks B.lines i n) (role_second s.marks A.valid e (b / 32) (omega arith))
      ∙ ap₂ (λ x y. get_or (check (B.lines x)) y 0) (omega arith) (omega arith)

  fifth_at : short s.marks ≡ true → (a : ℕ) → a < 64 * s.size
      → s.kept 68 (index_of a) (bank_of a + 0) ≡ get_or (check (B.lines a)) 4 0
  unfolding image_by
  fifth_at e a h =
      let b = bank_of a in
      let i = index_of a in
      A.kept 68 i (b + 0) (use_high s.marks A.valid 68 (omega arith) (omega arith)) (index_fits a s.size h) (omega arith)
      ∙ ap (image_by s.marks B.lines i (b + 0)) (role_fifth s.marks A.valid e)
      ∙ ap (λ x. get_or (check (B.lines x)) 4 0) (omega arith)

  pub parity_at : (a k : ℕ) → a < 64 * s.size → k < 64
      → s.kept (parity_bank s.marks (bank_of a)) (index_of a) k
      ≡ xor_over (λ b. get_or (B.lines (64 * index_of a + b)) k 0) (members s.marks (group_of s.marks (bank_of a)))
  unfolding image_by
  parity_at a k h l =
      let b = bank_of a in
      let i = index_of a in
      let g = group_of s.marks b in
      let gf : g < groups s.marks = group_fits s.marks b (omega arith) in
      let gt = groups_two s.marks in
      A.kept (70 + g) i k (use_high s.marks A.valid (70 + g) (omega arith) (omega arith)) (index_fits a s.size h) l
      ∙ ap (image_by s.marks B.lines i k) (role_parity s.marks A.valid g gf)

  six_of : (a : ℕ) → length (check (B.lines a)) ≡ 6
  six_of a = laws.six (B.lines a) (A.lines a).count

  kept_check_by : (z : Bool) → short s.marks ≡ z → (a : ℕ) → a < 64 * s.size
      → cells s.kept (64 + bank_of a / 16) (index_of a) (4 * (bank_of a % 16)) 4 ++ second_in z s.kept a ≡ checked z (B.lines a)
  kept_check_by true e a h =
      let xs = cells s.kept (64 + bank_of a / 16) (index_of a) (4 * (bank_of a % 16)) 4 in
      let ys = cells s.kept 68 (index_of a) (bank_of a) 1 in
      let lx : length xs ≡ 4 = length_cells s.kept (64 + bank_of a / 16) (index_of a) (4 * (bank_of a % 16)) 4 in
      let ly : length ys ≡ 1 = length_cells s.kept 68 (index_of a) (bank_of a) 1 in
      let la = length-append xs ys in
      let l6 = six_of a in
      let lt = length-take 5 (check (B.lines a)) in
      ext_get_or 0 (xs ++ ys) (take 5 (check (B.lines a))) (omega arith)
      (λ k l. elim (cases_lt k 4) [
        | inl u ↦ get_or_append_left xs ys 0 k (omega arith)
            ∙ getD_cells s.kept (64 + bank_of a / 16) (index_of a) (4 * (bank_of a % 16)) 4 k 0 u
            ∙ first_at a k h u ∙ sym (get_or-take 5 (check (B.lines a)) k 0 (omega arith))
        | inr u ↦ get_or-append_right xs ys 4 k 0 lx u
            ∙ ap (λ x. get_or ys x 0) (omega arith)
            ∙ getD_cells s.kept 68 (index_of a) (bank_of a) 1 0 0 (omega arith)
            ∙ fifth_at e a h ∙ sym (get_or-take 5 (check (B.lines a)) 4 0 (omega arith))
            ∙ ap (λ x. get_or (take 5 (check (B.lines a))) x 0) (omega arith)
      ])
  kept_check_by false e a h =
      let xs = cells s.kept (64 + bank_of a / 16) (index_of a) (4 * (bank_of a % 16)) 4 in
      let ys = cells s.kept (68 + bank_of a / 32) (index_of a) (2 * (bank_of a % 32)) 2 in
      let lx : length xs ≡ 4 = length_cells s.kept (64 + bank_of a / 16) (index_of a) (4 * (bank_of a % 16)) 4 in
      let ly : length ys ≡ 2 = length_cells s.kept (68 + bank_of a / 32) (index_of a) (2 * (bank_of a % 32)) 2 in
      let la = length-append xs ys in
      let l6 = six_of a in
      ext_get_or 0 (xs ++ ys) (check (B.lines a)) (omega arith)
      (λ k l. elim (cases_lt k 4) [
        | inl u ↦ get_or_append_left xs ys 0 k (omega arith)
            ∙ getD_cells s.kept (64 + bank_of a / 16) (index_of a) (4 * (bank_of a % 16)) 4 k 0 u
            ∙ first_at a k h u
        | inr u ↦ get_or-append_right xs ys 4 k 0 lx u
            ∙ getD_cells s.kept (68 + bank_of a / 32) (index_of a) (2 * (bank_of a % 32)) 2 (k - 4) 0 (omega arith)
            ∙ second_at e a (k - 4) h (omega arith)
            ∙ ap (λ x. get_or (check (B.lines a)) x 0) (omega arith)
      ])

  kept_check : (a : ℕ) → a < 64 * s.size → check_in s.marks s.kept a ≡ checked (short s.marks) (B.lines a)
  kept_check a h = kept_check_by (short s.marks) refl a h

  shown_byte : (a bank k : ℕ) → a < 64 * s.size → bank < 72 → k < 64 → s.shown bank (index_of a) k < 256
  shown_byte a bank k h b l = A.bytes bank (index_of a) k (record { bank_real = b; index_real = index_fits a s.size h; byte_real = l })

  shown_line : (a : ℕ) → a < 64 * s.size → Symbols 64 (line_in s.marks s.shown a)
  shown_line a h =
      cells_bytes s.shown (line_bank s.marks (bank_of a)) (index_of a) 0 64
      (λ k l. shown_byte a (line_bank s.marks (bank_of a)) (0 + k) h (use_line_bank s.marks A.valid (bank_of a) (omega arith)).real (omega arith))

  shown_check_by : (z : Bool) (a : ℕ) → a < 64 * s.size
      → Symbols (checks z) (cells s.shown (64 + bank_of a / 16) (index_of a) (4 * (bank_of a % 16)) 4 ++ second_in z s.shown a)
  shown_check_by true a h =
      bytes_append 4 1 _ _ (cells_bytes s.shown _ _ _ 4 (λ k l. shown_byte a (64 + bank_of a / 16) (4 * (bank_of a % 16) + k) h (omega arith) (omega arith)))
      (cells_bytes s.shown _ _ _ 1 (λ k l. shown_byte a 68 (bank_of a + k) h (omega arith) (omega arith)))
  shown_check_by false a h =
      bytes_append 4 2 _ _ (cells_bytes s.shown _ _ _ 4 (λ k l. shown_byte a (64 + bank_of a / 16) (4 * (bank_of a % 16) + k) h (omega arith) (omega arith)))
      (cells_bytes s.shown _ _ _ 2 (λ k l. shown_byte a (68 + bank_of a / 32) (2 * (bank_of a % 32) + k) h (omega arith) (omega arith)))

  shown_check : (a : ℕ) → a < 64 * s.size → Symbols (checks (short s.marks)) (check_in s.marks s.shown a)
  shown_check a h = shown_check_by (short s.marks) a h

  wrong_is : (a : ℕ) → a < 64 * s.size → wrong s a
      ≡ distance (B.lines a) (line_in s.marks s.shown a) + distance (checked (short s.marks) (B.lines a)) (check_in s.marks s.shown a)
  wrong_is a h =
      ap₂ (λ x y. distance x (line_in s.marks s.shown a) + distance y (check_in s.marks s.shown a)) (kept_line a h) (kept_check a h)

  wrong_check_is : (a : ℕ) → a < 64 * s.size → wrong_check s a
      ≡ distance (checked (short s.marks) (B.lines a)) (check_in s.marks s.shown a)
  wrong_check_is a h = ap (λ y. distance y (check_in s.marks s.shown a)) (kept_check a h)

  -- decoding gives the line
  abbrev pub Seen : ℕ → Type 0
  Seen a = (f : Finding) × (decoded s a ≡ found (B.lines a) f)

  pub decoded_near : (a : ℕ) → a < 64 * s.size → wrong s a ≤ 1 → Seen a
  unfolding decoded
  decoded_near a h w =
      laws.near (short s.marks) (B.lines a) _ _ (A.lines a) (shown_line a h) (shown_check a h) (subst (λ n. n ≤ 1) (wrong_is a h) w)

  pub decoded_far : (a : ℕ) → a < 64 * s.size → 1 < wrong s a → wrong s a ≤ 4 → wrong_check s a ≤ 1 → decoded s a ≡ uncorrectable
  unfolding decoded
  decoded_far a h w v c =
      laws.far (short s.marks) (B.lines a) _ _ (A.lines a) (shown_line a h) (shown_check a h)
      (subst (λ n. 1 < n) (wrong_is a h) w) (subst (λ n. n ≤ 4) (wrong_is a h) v) (subst (λ n. n ≤ 1) (wrong_check_is a h) c)

  pub lowest_none : (ps : List ℕ) → Each Seen ps → lowest s ps ≡ None
  unfolding lowest
  lowest_none [] e = refl
  lowest_none (p ∷ ps) e = rw e.0.1 (lowest_none ps e.1)

  -- the banks of a's group but its own
  abbrev pub others : ℕ → List ℕ
  others a = without (bank_of a) (members s.marks (group_of s.marks (bank_of a)))

  -- what decoding the partners gives, byte by byte
  pub partners_sum : (a k : ℕ) → Each Seen (partners s.marks a)
      → partners_byte s a k ≡ xor_over (λ b. get_or (B.lines (64 * index_of a + b)) k 0) (others a)
  unfolding partners_byte
  partners_sum a k e =
      xor_cong (λ p. get_or (line_decoded (decoded s p)) k 0) (λ p. get_or (B.lines p) k 0) (partners s.marks a)
      (each_map Seen (λ p. get_or (line_decoded (decoded s p)) k 0 ≡ get_or (B.lines p) k 0) (partners s.marks a)
      (λ p w. ap (λ o. get_or (line_decoded o) k 0) w.1) e)
      ∙ xor_addresses (λ p. get_or (B.lines p) k 0) (index_of a) (others a)

  sum_right : (a : ℕ) → a < 64 * s.size → Each Seen (partners s.marks a)
      → ((k : ℕ) → k < 64 → s.shown (parity_bank s.marks (bank_of a)) (index_of a) k ≡ s.kept (parity_bank s.marks (bank_of a)) (index_of a) k)
      → sum_line s a ≡ B.lines a
  sum_right a h e p =
      let f : ℕ → ℕ = λ k. bit_xor (s.shown (parity_bank s.marks (bank_of a)) (index_of a) k) (partners_byte s a k) in
      let ls = length-map-range_with_len f 0 64 in
      let lb = (A.lines a).count in
      ext_get_or 0 (sum_line s a) (B.lines a) (omega arith)
      (λ k l.
      let l' : k < 64 = omega arith in
      let g : ℕ → ℕ = λ b. get_or (B.lines (64 * index_of a + b)) k 0 in
      let w = xor_over g (others a) in
      get_or-map-range_with_len f 0 64 k k 0 l' (omega arith)
      ∙ ap₂ bit_xor (p k l' ∙ parity_at a k h l' ∙ group_split g s.marks (bank_of a) (omega arith)) (partners_sum a k e)
      ∙ xor_assoc (g (bank_of a)) w w ∙ ap (bit_xor (g (bank_of a))) (xor_self w) ∙ xor_zero_r (g (bank_of a))
      ∙ ap (λ x. get_or (B.lines x) k 0) (whole a))

  pub rebuilt_right : (a : ℕ) → a < 64 * s.size → Each Seen (partners s.marks a) → wrong_check s a ≤ 1
      → ((k : ℕ) → k < 64 → s.shown (parity_bank s.marks (bank_of a)) (index_of a) k ≡ s.kept (parity_bank s.marks (bank_of a)) (index_of a) k)
      → (f : Finding) × (rebuilding s a ≡ obtained (B.lines a) f)
  unfolding rebuilding
  rebuilt_right a h e c p =
      let m = laws.rebuilt (short s.marks) (B.lines a) _ (A.lines a) (shown_check a h) (subst (λ n. n ≤ 1) (wrong_check_is a h) c) in (
        m.0,
        ap (λ o. step_rebuilding o s a) (lowest_none (partners s.marks a) e)
            ∙ ap (λ l. judged_or (judging (l ++ check_in s.marks s.shown a)) a) (sum_right a h e p)
            ∙ ap (λ o. judged_or o a) m.1,
      )

  -- tolerable damage, where the bank that N names is about to be retired
  module _ (N : ℕ → Type 0) (tolerable : Tolerable N s) where
    -- beside a word that is the one of its group, decoding gives every partner's line
    pub partners_seen : (a : ℕ) → a < 64 * s.size → N (bank_of a) ⊎ (1 < wrong s a) → Each Seen (partners s.marks a)
    partners_seen a h heavy =
        each_addresses Seen (index_of a) (others a)
        (each_map (λ x. Member s.marks (group_of s.marks (bank_of a)) x × (x ≡ bank_of a → ⊥)) (λ x. Seen (64 * index_of a + x)) (others a)
        (λ x w.
        let low = w.0.low in
        let grp = w.0.group in
        let ne = w.1 in
        let p : ℕ = 64 * index_of a + x in
        let hp : p < 64 * s.size = omega arith in
        let bp : bank_of p ≡ x = omega arith in
        let ip : index_of a ≡ index_of p = omega arith in
        let mates : Grouped s.marks a p = record { index = ip; group = sym grp ∙ ap (group_of s.marks) (sym bp) } in
        elim (cases_lt 1 (wrong s p)) [
          | inl big ↦ let e : a ≡ p = tolerable.one a p h hp mates heavy (inr big) in absurd (ne (sym bp ∙ ap bank_of (sym e)))
          | inr small ↦ decoded_near p hp small
        ])
        (each_without (Member s.marks (group_of s.marks (bank_of a))) (bank_of a) _
        (each_member s.marks (group_of s.marks (bank_of a)) (group_fits s.marks (bank_of a) (omega arith)))))

    pub rebuilding_right : (a : ℕ) → a < 64 * s.size → N (bank_of a) ⊎ (1 < wrong s a) → (f : Finding) × (rebuilding s a ≡ obtained (B.lines a) f)
    rebuilding_right a h heavy = rebuilt_right a h (partners_seen a h heavy) (tolerable.check a h) (λ k l. tolerable.parity a k h l)

    pub reading_right : (a : ℕ) → a < 64 * s.size → (N (bank_of a) → ⊥) → (f : Finding) × (reading s a ≡ obtained (B.lines a) f)
    unfolding reading
    reading_right a h unnamed =
        elim (cases_lt 1 (wrong s a)) [
          | inl big ↦
              let four : wrong s a ≤ 4 = elim (tolerable.four a h) [ inl n ↦ absurd (unnamed n) | inr w ↦ w ] in
              let r = rebuilding_right a h (inr big) in
              (r.0, rw (decoded_far a h big four (tolerable.check a h)) r.1)
          | inr small ↦ let w = decoded_near a h small in (w.0, rw w.1 refl)
        ]
