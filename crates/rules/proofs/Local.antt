-- What is read at an index depends on what is shown at that index alone. (A mark reads an index after it has put others.)
use Rattle.std.proofs.Common.{◌≡◌, ℕ, ◌+◌, ◌*◌, ◌/◌, ◌%◌, ◌<◌, Bool, true, false, List, [], ◌∷◌, ◌++◌, get_or, Some, None, Option, sym, refl, ap, ◌∙◌, ap₂, arith}
use lib.Bits.{bit_xor}
use Rattle.std.proofs.lemmas.List.{ext_get_or}
use Rattle.std.proofs.lemmas.List.FromFn.{length-map-range_with_len, get_or-map-range_with_len}
use Rattle.rules.proofs.Xor.{Each, each_map, each_without, each_addresses, xor_cong}
use Rattle.rules.proofs.Geometry.{line_bank_real, Member, each_member, group_fits, groups_two}
use Rattle.codec.specs.Code.{Decoded, decoding, found, judging, uncorrectable}
use Rattle.rules.specs.Boards.{board}
use Rattle.rules.specs.Places.{bank_of, check_in, group_of, index_of, line_bank, members, parity_bank, second_in, short, without}
use Rattle.rules.specs.Rules.{decoded, judged_or, line_decoded, lowest, partners, partners_byte, reading, rebuilding, step_lowest, step_reading, step_rebuilding, sum_line}
use Rattle.stack.proofs.PieceLaws.{cells_same}
use Rattle.stack.specs.Memory.{Contents, Meaning}

module _ (ms : List ℕ) (m m' : Meaning) (i : ℕ) (same : (b k : ℕ) → b < 72 → k < 64 → m.shown b i k ≡ m'.shown b i k) where
  second_local : (z : Bool) (a : ℕ) → index_of a ≡ i → second_in z m.shown a ≡ second_in z m'.shown a
  second_local true a e =
      cells_same m.shown m'.shown 68 (index_of a) (bank_of a) 1 (λ k l u. rw e (same 68 k (omega arith) (omega arith)))
  second_local false a e =
      cells_same m.shown m'.shown (68 + bank_of a / 32) (index_of a) (2 * (bank_of a % 32)) 2
      (λ k l u. rw e (same (68 + bank_of a / 32) k (omega arith) (omega arith)))

  check_local : (a : ℕ) → index_of a ≡ i → check_in ms m.shown a ≡ check_in ms m'.shown a
  check_local a e =
      ap₂ (λ p q. p ++ q)
      (cells_same m.shown m'.shown (64 + bank_of a / 16) (index_of a) (4 * (bank_of a % 16)) 4
      (λ k l u. rw e (same (64 + bank_of a / 16) k (omega arith) (omega arith))))
      (second_local (short ms) a e)

  pub decoded_local : (a : ℕ) → index_of a ≡ i → decoded (board m ms) a ≡ decoded (board m' ms) a
  unfolding decoded
  decoded_local a e =
      ap (decoding)
      (ap₂ (λ p q. p ++ q)
      (cells_same m.shown m'.shown (line_bank ms (bank_of a)) (index_of a) 0 64
      (λ k l u. rw e (same (line_bank ms (bank_of a)) k (line_bank_real ms (bank_of a) (omega arith)) (omega arith))))
      (check_local a e))

  lowest_local : (ps : List ℕ) → Each (λ p. index_of p ≡ i) ps → lowest (board m ms) ps ≡ lowest (board m' ms) ps
  unfolding lowest
  lowest_local [] h = refl
  lowest_local (p ∷ ps) h = ap₂ (λ o r. step_lowest o p r) (decoded_local p h.0) (lowest_local ps h.1)

  partners_at : (a : ℕ) → index_of a ≡ i → Each (λ p. index_of p ≡ i) (partners ms a)
  partners_at a e =
      let g = group_of ms (bank_of a) in
      each_addresses (λ p. index_of p ≡ i) (index_of a) (without (bank_of a) (members ms g))
      (each_map (λ x. Member ms g x × (x ≡ bank_of a → ⊥)) (λ x. index_of (64 * index_of a + x) ≡ i) (without (bank_of a) (members ms g))
      (λ x w. let lo = w.0.low in omega arith)
      (each_without (Member ms g) (bank_of a) (members ms g) (each_member ms g (group_fits ms (bank_of a) (omega arith)))))

  partners_byte_local : (a k : ℕ) → index_of a ≡ i → partners_byte (board m ms) a k ≡ partners_byte (board m' ms) a k
  unfolding partners_byte
  partners_byte_local a k e =
      xor_cong (λ p. get_or (line_decoded (decoded (board m ms) p)) k 0) (λ p. get_or (line_decoded (decoded (board m' ms) p)) k 0) (partners ms a)
      (each_map (λ p. index_of p ≡ i) (λ p. get_or (line_decoded (decoded (board m ms) p)) k 0 ≡ get_or (line_decoded (decoded (board m' ms) p)) k 0) (partners ms a)
      (λ p q. ap (λ o. get_or (line_decoded o) k 0) (decoded_local p q)) (partners_at a e))

  sum_local : (a : ℕ) → index_of a ≡ i → sum_line (board m ms) a ≡ sum_line (board m' ms) a
  sum_local a e =
      let f : Contents → (ℕ → ℕ) → ℕ → ℕ = λ st pb k. bit_xor (st (parity_bank ms (bank_of a)) (index_of a) k) (pb k) in
      let f1 = f m.shown (partners_byte (board m ms) a) in
      let f2 = f m'.shown (partners_byte (board m' ms) a) in
      let l1 = length-map-range_with_len f1 0 64 in
      let l2 = length-map-range_with_len f2 0 64 in
      let gf = group_fits ms (bank_of a) (omega arith) in
      let gt = groups_two ms in
      ext_get_or 0 (sum_line (board m ms) a) (sum_line (board m' ms) a) (l1 ∙ sym l2)
      (λ k l. let u : k < 64 = rw l1 at l in
      get_or-map-range_with_len f1 0 64 k k 0 u (omega arith)
      ∙ ap₂ bit_xor (rw e (same (parity_bank ms (bank_of a)) k (omega arith) u)) (partners_byte_local a k e)
      ∙ sym (get_or-map-range_with_len f2 0 64 k k 0 u (omega arith)))

  step_local : (a : ℕ) → index_of a ≡ i → (o : Option ℕ) → step_rebuilding o (board m ms) a ≡ step_rebuilding o (board m' ms) a
  step_local a e (Some p) = refl
  step_local a e None = ap₂ (λ p q. judged_or (judging (p ++ q)) a) (sum_local a e) (check_local a e)

  pub rebuilding_local : (a : ℕ) → index_of a ≡ i → rebuilding (board m ms) a ≡ rebuilding (board m' ms) a
  unfolding rebuilding
  rebuilding_local a e =
      ap (λ o. step_rebuilding o (board m ms) a) (lowest_local (partners ms a) (partners_at a e))
      ∙ step_local a e (lowest (board m' ms) (partners ms a))

  step_reading_local : (a : ℕ) → index_of a ≡ i → (o : Decoded) → step_reading o (board m ms) a ≡ step_reading o (board m' ms) a
  step_reading_local a e (found l f) = refl
  step_reading_local a e uncorrectable = rebuilding_local a e

  pub reading_local : (a : ℕ) → index_of a ≡ i → reading (board m ms) a ≡ reading (board m' ms) a
  unfolding reading
  reading_local a e = ap (λ o. step_reading o (board m ms) a) (decoded_local a e) ∙ step_reading_local a e (decoded (board m' ms) a)
