-- The two tests of a word by its line's check.
use Rattle.std.proofs.Common.{◌≡◌, ℕ, suc, ◌+◌, ◌<◌, ◌≤◌, Decides, Bool, true, false, cond, List, ◌++◌, length, get_or, take, drop, is_err, Some, None, Ok, Err, Option, Result, MatchOption, sym, refl, ap, ◌∙◌, subst, ap₂, ⊎_elim, arith, lit≤, length-append, length-take, take_at, drop_at}
use lib.Seq.{take-append-add}
use Rattle.std.proofs.lemmas.List.{take_all}
use Rattle.codec.specs.declared.word.Finding.{Finding}
use Rattle.codec.specs.declared.word.Uncorrectable.{Uncorrectable}
use Rattle.codec.specs.Shown.{told, Kept}
use Rattle.std.proofs.lemmas.Bool.{cases_lt, cond-true, cond-false, false≢true}
use Rattle.codec.specs.Word.{Bytes, distance, Codeword, Consistent}
use Rattle.codec.specs.Check.{check}
use Rattle.codec.specs.Finder.{single_error}
use Rattle.codec.specs.Code.{Decoded, found, uncorrectable, line_of, corrected_by, consistent, codeword, checked, checks, Symbols}
use Rattle.codec.specs.Packed.{Restores}
use Rattle.codec.proofs.Sums.{bytes_from}
use Rattle.codec.proofs.WordLaws.{near_first}
use Rattle.codec.proofs.DecodingLaws.{distance_common, consistent_codeword, consistent_front}
use Rattle.codec.proofs.CheckLaws.{check_six, check_bytes}
use Rattle.codec.proofs.CodeLaws.{laws, bytes_append, consistent_sound, consistent_whole, codeword_sound, codeword_whole}

pub five : (short : Bool) → 5 ≤ checks short
five true = lit≤ tt
five false = lit≤ tt

pub six : (short : Bool) → checks short ≤ 6
six true = lit≤ tt
six false = lit≤ tt

-- five symbols are a short word's check, and six a full word's
pub kind_of : (n : ℕ) → 5 ≤ n → n ≤ 6 → (short : Bool) × (n ≡ checks short)
kind_of n h k = ⊎_elim (λ (l : n < 6). (true, omega arith)) (λ (l : 6 ≤ n). (false, omega arith)) (cases_lt n 6)

module _ (line shown : List ℕ) (hl : Symbols 64 line) (bytes : (k : ℕ) → get_or shown k 0 < 256) (short : Bool) (long : length shown ≡ checks short) where
  w : List ℕ
  w = line ++ shown

  v : List ℕ
  v = line ++ check line

  long_w : 69 ≤ length w
  unfolding w
  long_w = let a = hl.count in omega (arith, length-append line shown, five short)

  long_v : 69 ≤ length v
  unfolding v
  long_v = let a = hl.count in omega (arith, length-append line (check line), check_six line)

  front : (xs : List ℕ) → take 68 (line ++ xs) ≡ line ++ take 4 xs
  front xs = ap (λ n. take (n + 4) (line ++ xs)) (sym hl.count) ∙ take-append-add line xs 4

  consistent_v : Consistent v
  unfolding v
  consistent_v = consistent_codeword v long_v (laws.fits false line hl)

  from_first : take 4 shown ≡ take 4 (check line) → Consistent w
  unfolding w v
  from_first e =
      consistent_front (line ++ shown) (line ++ check line) (let f = long_w in omega arith) (let f = long_v in omega arith)
      (front shown ∙ ap (λ xs. line ++ xs) e ∙ sym (front (check line))) consistent_v

  to_first : Consistent w → take 4 shown ≡ take 4 (check line)
  unfolding Consistent w v
  to_first q =
      let bw : Bytes (line ++ shown) = bytes_append line shown (bytes_from line hl.small) (bytes_from shown bytes) in
      let bv : Bytes (line ++ check line) = bytes_append line (check line) (bytes_from line hl.small) (check_bytes line) in
      let lw : 68 ≤ length (line ++ shown) = let f = long_w in omega arith in
      let lv : 68 ≤ length (line ++ check line) = let f = long_v in omega arith in
      let cw : take 64 (take 68 (line ++ shown)) ≡ line = ap (take 64) (front shown) ∙ take_at line (take 4 shown) 64 hl.count in
      let cv : take 64 (take 68 (line ++ check line)) ≡ line = ap (take 64) (front (check line)) ∙ take_at line (take 4 (check line)) 64 hl.count in
      let n : length (take 68 (line ++ shown)) ≡ 68 = simp length-take (omega arith) in
      let d : distance (take 68 (line ++ shown)) (take 68 (line ++ check line)) ≤ 4 =
      omega (arith, distance_common 64 (take 68 (line ++ shown)) (take 68 (line ++ check line)) (cw ∙ sym cv)) in
      let same : take 68 (line ++ shown) ≡ take 68 (line ++ check line) =
      near_first (line ++ shown) (line ++ check line) bw bv lw lv d
      (λ k h. q (suc k) (omega arith) (omega arith) ∙ sym (consistent_v (suc k) (omega arith) (omega arith))) in
      sym (drop_at line (take 4 shown) 64 hl.count) ∙ ap (drop 64) (sym (front shown) ∙ same ∙ front (check line)) ∙ drop_at line (take 4 (check line)) 64 hl.count

  -- a word is consistent where its first check is its line's
  pub consistent_test : Decides (consistent (line ++ shown)) (take 4 (check line) ≡ take 4 shown)
  unfolding w
  consistent_test =
      (λ t. sym (to_first (consistent_sound (line ++ shown) t)), λ e. consistent_whole (line ++ shown) (from_first (sym e)))

  first_of : (s : Bool) → take (checks s) (check line) ≡ checked s line
  first_of true = refl
  first_of false = take_all 6 (check line) (omega (arith, check_six line))

  check_all : take (length shown) (check line) ≡ checked short line
  check_all = ap (λ n. take n (check line)) long ∙ first_of short

  -- and a codeword where its check is its line's
  pub codeword_test : Decides (codeword (line ++ shown)) (take (length shown) (check line) ≡ take (length shown) shown)
  codeword_test =
      let all : take (length shown) shown ≡ shown = take_all (length shown) shown (omega arith) in (
        λ t. check_all ∙ sym (all ∙ laws.only short line shown hl (record { count = long; small = bytes }) (codeword_sound (line ++ shown) t)),
        λ e. codeword_whole (line ++ shown) (subst (λ xs. Codeword (line ++ xs)) (sym check_all ∙ e ∙ all) (laws.fits short line hl)),
      )

-- ---- what the tests decide

module _ (w : List ℕ) (whole : Finding) (how : ℕ × ℕ → Finding) (t : Bool) where
  abbrev gives : Decoded
  gives = cond t (found (line_of w) whole) (corrected_by how w (single_error w))

  -- a word that was restored gives its line and the finding by that name
  pub restored : (o : Option (ℕ × ℕ)) (f : Finding) (before after : List ℕ) → Restores t w (Ok o) before after
      → MatchOption o (f ≡ whole) (λ p. f ≡ how p) → found after f ≡ gives
  restored None f before after r m =
      ap₂ found r.1 m ∙ sym (cond-true t (found (line_of w) whole) (corrected_by how w (single_error w)) r.0)
  restored (Some p) f before after r m =
      ap₂ found r.2 m ∙ sym (ap (corrected_by how w) r.1) ∙ sym (cond-false t (found (line_of w) whole) (corrected_by how w (single_error w)) r.0)

  -- and one that was not gives nothing
  pub not_restored : (e : Uncorrectable) (before after : List ℕ) → Restores t w (Err e) before after → uncorrectable ≡ gives
  not_restored e before after r =
      sym (ap (corrected_by how w) r.1) ∙ sym (cond-false t (found (line_of w) whole) (corrected_by how w (single_error w)) r.0)

-- ---- the exit by `?`

pub told_err : (r : Result Finding Uncorrectable) (line : List ℕ) → is_err r ≡ true → told r line ≡ uncorrectable
told_err (Ok f) line e = absurd (false≢true e)
told_err (Err x) line e = refl

pub kept_err : (r : Result Finding Uncorrectable) (before after : List ℕ) → after ≡ before → Kept r before after
kept_err (Ok f) before after e = tt
kept_err (Err x) before after e = e

-- what holds by the calls for a value and for none holds by what the calls give
pub by_calls : (A B : Type 0) (P Q : (ℕ × ℕ) → Type 0) (o : Option (ℕ × ℕ)) → MatchOption o A P → (A → B) → ((p : ℕ × ℕ) → P p → Q p) → MatchOption o B Q
by_calls A B P Q None m f g = f m
by_calls A B P Q (Some p) m f g = g p m
