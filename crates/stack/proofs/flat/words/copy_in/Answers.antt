use Rattle.std.proofs.Common.{◌≡◌, ℕ, ◌+◌, List, length, get_or, set, refl, ap, ◌∙◌, arith}
use lib.Seq.{paste}
use Rattle.std.proofs.lemmas.List.Edits.{paste_more, paste_none, paste_all}
use Rattle.stack.specs.Words.{bytes_of}
use Rattle.stack.proofs.WordLaws.{length_bytes_of}
use Rattle.stack.proofs.flat.words.copy_in.Goals as goal

pub loop-k-init : goal.loop-k-init
loop-k-init c = paste_none (bytes_of c.args.words.now) c.args.at c.args.bytes.now

pub loop-k-preserved : goal.loop-k-preserved
loop-k-preserved c =
    c.set_byte.ensures.writes
    ∙ ap (λ (xs : List ℕ). set xs (c.args.at + c.loop-k.k) (get_or c.args.bytes.now c.loop-k.k 0)) c.loop-k.invariant
    ∙ paste_more (bytes_of c.args.words.now) c.args.at c.args.bytes.now c.loop-k.k 0 (omega (arith, length_bytes_of c.args.words.now)) c.loop-k-test.true

pub returns : goal.returns
returns c =
    let xs = bytes_of c.args.words.now in
    let e : c.loop-k.k ≡ length c.args.bytes.now = omega arith in
    record {
      writes =
          c.loop-k.invariant
          ∙ ap (λ (n : ℕ). paste xs c.args.at c.args.bytes.now n) e
          ∙ paste_all xs c.args.at c.args.bytes.now (length c.args.bytes.now) refl;
    }
