use Rattle.std.proofs.Common.{◌≡◌, ℕ, zero, suc, ◌+◌, ◌*◌, ◌/◌, ◌<◌, List, [], length, get_or, set, drop, is_some, Some, None, Ok, Err, Option, Result, sym, refl, ap, ap₂, subst, ◌∙◌, arith, lit<, length-set, get_or-set_other, get_or-set_same, below_more}
use Rattle.std.specs.Option.{ok_or}
use Rattle.std.specs.Result.{IsErrAnd}
use Rattle.std.proofs.lemmas.List.{get_or-take, get_or-drop}
use Rattle.std.specs.Simd.{first_chunks}
use Rattle.codeword.specs.declared.input.Problem.{Problem}
use Rattle.codeword.specs.declared.input.Problem.TheVariants.{NoByte}
use Rattle.codeword.specs.Input.{byte_at, hex_byte, LineRead}
use Rattle.codeword.proofs.input.read_line.Goals as goal

-- pair k of a text has its digits 2 k and 2 k + 1
pair_at : (n : ℕ) (xs : List ℕ) (k j : ℕ) (d : List ℕ) → k < n → j < 2 → get_or (get_or (first_chunks 2 n xs) k d) j 0 ≡ get_or xs (2 * k + j) 0
pair_at zero xs k j d h l = absurd (omega arith)
pair_at (suc n) xs zero j d h l = let e : j ≡ 2 * 0 + j = omega arith in get_or-take 2 xs j 0 l ∙ ap (λ i. get_or xs i 0) e
pair_at (suc n) xs (suc k) j d h l =
    let e : 2 + (2 * k + j) ≡ 2 * suc k + j = omega arith in
    pair_at n (drop 2 xs) k j d (omega arith) l ∙ get_or-drop 2 xs (2 * k + j) 0 ∙ ap (λ i. get_or xs i 0) e

-- one more byte read
read_more : (text line : List ℕ) (k b : ℕ) → k < length line → ((j : ℕ) → j < k → byte_at text j ≡ Some (get_or line j 0)) → byte_at text k ≡ Some b
    → (j : ℕ) → j < k + 1 → byte_at text j ≡ Some (get_or (set line k b) j 0)
read_more text line k b l h e =
    below_more _ _
    (λ j m. h j m ∙ ap Some (sym (get_or-set_other line k j b 0 (λ p. let q : ◌≡◌ {A = ℕ} j k = p in omega arith))))
    (e ∙ ap Some (sym (get_or-set_same line k b 0 l)))

ok_or_ok : (o : Option ℕ) (p : Problem) (b : ℕ) → ok_or o p ≡ Ok b → o ≡ Some b
ok_or_ok None p b e = absurd (cc)
ok_or_ok (Some x) p b e = cc

ok_or_err : (o : Option ℕ) (p q : Problem) → ok_or o p ≡ Err q → (o ≡ None) × (q ≡ p)
ok_or_err None p q e = (refl, cc)
ok_or_err (Some x) p q e = absurd (cc)

-- the pair spells the byte
spelled : (text : List ℕ) (pairs : List (List ℕ)) (k : ℕ) → length text ≡ 128 → pairs ≡ first_chunks 2 (length text / 2) text → k < 64
    → hex_byte (get_or (get_or pairs k []) 0 0) (get_or (get_or pairs k []) 1 0) ≡ byte_at text k
spelled text pairs k l e h =
    let f : pairs ≡ first_chunks 2 64 text = e ∙ ap (λ n. first_chunks 2 (n / 2) text) l in
    let z : 2 * k + 0 ≡ 2 * k = omega arith in
    ap₂ hex_byte (ap (λ ps. get_or (get_or ps k []) 0 0) f ∙ pair_at 64 text k 0 [] h (lit< tt) ∙ ap (λ i. get_or text i 0) z)
    (ap (λ ps. get_or (get_or ps k []) 1 0) f ∙ pair_at 64 text k 1 [] h (lit< tt))

-- the first pair that spells no byte is named
named : (text line : List ℕ) (k : ℕ) (q : Problem) (r : Result (List ℕ) Problem) → k < 64 → ((j : ℕ) → j < k → byte_at text j ≡ Some (get_or line j 0))
    → byte_at text k ≡ None → q ≡ NoByte (2 * k + 1) → IsErrAnd r (λ p. p ≡ q) → LineRead text r
named text line k q (Ok x) h before e m i = absurd i
named text line k q (Err p) h before e m i =
    subst (λ x. LineRead text (Err x)) (sym (i ∙ m)) (k, h, refl, e, λ j l. ap is_some (before j l))

pub loop-k-preserved : goal.loop-k-preserved
loop-k-preserved c =
    let line : List ℕ = c.loop-k.line in
    let k : ℕ = c.loop-k.k in
    let b : ℕ = c.in_ok-line.field-0 in
    let long = c.loop-k.invariant.long in
    let e : c.byte.result ≡ Some b = ok_or_ok c.byte.result (NoByte (2 * k + 1)) b (sym c.ok_or.ensures.value ∙ c.in_ok-line.was) in
    let t : c.byte.result ≡ byte_at c.args.text.now k = c.byte.ensures.is_the_byte ∙ spelled c.args.text.now c.as_chunks.result.0.now k c.if-text-ne128.false c.as_chunks.ensures.front (omega arith) in
    record { long = length-set line k b ∙ long; read = read_more c.args.text.now line k b (omega arith) c.loop-k.invariant.read (sym t ∙ e) }

pub returns-in_err-line : goal.returns-in_err-line
returns-in_err-line c =
    let k : ℕ = c.loop-k.k in
    let q : Problem = c.in_err-line.field-0.0 in
    let e = ok_or_err c.byte.result (NoByte (2 * k + 1)) q (sym c.ok_or.ensures.value ∙ c.in_err-line.was) in
    let t : c.byte.result ≡ byte_at c.args.text.now k = c.byte.ensures.is_the_byte ∙ spelled c.args.text.now c.as_chunks.result.0.now k c.if-text-ne128.false c.as_chunks.ensures.front (omega arith) in
    record {
      reads_every_byte_or_names_the_first_fault =
          named c.args.text.now c.loop-k.line k q c.from_residual.result (omega arith) c.loop-k.invariant.read (sym t ∙ e.0) e.1 c.from_residual.ensures.1;
    }
