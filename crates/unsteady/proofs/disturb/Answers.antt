use Rattle.std.proofs.Common.{◌≡◌, ℕ, ◌%◌, ◌<◌, ◌≤◌, List, ◌++◌, length, get_or, take, set, ap, ◌∙◌, append-nil, arith}
use lib.Bits.{bit_xor}
use Rattle.std.proofs.lemmas.Nat.{xor_lt}
use Rattle.std.proofs.lemmas.List.Edits.{map_over_more}
use Rattle.std.proofs.lemmas.List.{get_or_default, take_all, drop_all}
use Rattle.unsteady.specs.Noise.{disturbed, noisy}
use Rattle.unsteady.proofs.disturb.Goals as goal

pub loop-byte-preserved : goal.loop-byte-preserved
loop-byte-preserved c =
    let ys = c.loop-byte.into in
    let i = c.loop-byte.byte-index in
    let x = get_or c.loop-byte.into c.loop-byte.byte-index 0 in
    let h : i < length c.args.into.now = omega arith in
    let hy : i < length c.loop-byte.into = omega arith in
    let byte : x < 256 = omega arith in
    let e : bit_xor x c.args.noise ≡ bit_xor x c.args.noise % 256 = omega (arith, xor_lt 8 x c.args.noise (omega arith) (omega arith)) in
    ap (λ (v : ℕ). set ys i v) e ∙ map_over_more (disturbed c.args.noise) c.args.into.now ys i x h c.loop-byte.invariant (get_or_default ys i 0 x hy)

pub returns : goal.returns
returns c =
    let xs = c.args.into.now in
    let i = c.loop-byte.byte-index in
    let h : length c.args.into.now ≤ c.loop-byte.byte-index = omega arith in
    record {
      disturbs =
          c.loop-byte.invariant
          ∙ ap (λ (zs : List ℕ). noisy c.args.noise (take i xs) ++ zs) (drop_all i xs h)
          ∙ append-nil (noisy c.args.noise (take i xs))
          ∙ ap (λ (zs : List ℕ). noisy c.args.noise zs) (take_all i xs h);
    }
