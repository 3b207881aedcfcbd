use Rattle.std.proofs.Common.{◌≡◌, ℕ, ◌+◌, ◌*◌, ◌/◌, ◌%◌, List, get_or, sym, ap, ◌∙◌, arith}
use Rattle.stack.specs.Words.{bytes_of}
use Rattle.stack.proofs.WordLaws.{getD_bytes_of}
use Rattle.stack.proofs.flat.words.byte_at.Goals as goal

pub returns : goal.returns
returns c =
    let ws = c.args.words.now in
    let at = c.args.at in
    let e : 4 * (at / 4) + at % 4 ≡ at = omega arith in
    record {
      reads =
          ap (λ (bs : List ℕ). get_or bs (at % 4) 0) c.to_le_bytes-lanes.ensures
          ∙ sym (getD_bytes_of ws (at / 4) (at % 4) (omega arith) (omega arith))
          ∙ ap (λ (q : ℕ). get_or (bytes_of ws) q 0) e;
    }
