use Rattle.std.proofs.Common.{◌≡◌, ℕ, ◌+◌, ◌*◌, ◌/◌, ◌%◌, ◌<◌, List, get_or, set, ap, ◌∙◌, arith}
use Rattle.stack.specs.Words.{bytes_of}
use Rattle.stack.proofs.WordLaws.{set_bytes_of, lane_set}
use Rattle.stack.proofs.flat.words.set_byte.Goals as goal

pub returns : goal.returns
returns c =
    let ws = c.args.words.now in
    let at = c.args.at in
    let e : 4 * (at / 4) + at % 4 ≡ at = omega arith in
    let lanes = ap (λ (bs : List ℕ). set bs (at % 4) c.args.b) c.to_le_bytes-lanes.ensures in
    let byte : c.args.b < 256 = omega arith in
    record {
      writes =
          set_bytes_of ws (at / 4) (at % 4) c.from_le_bytes.result c.args.b (omega arith) (omega arith)
          (lane_set (get_or ws (at / 4) 0) (at % 4) c.args.b c.from_le_bytes.result _ (omega arith) byte lanes c.from_le_bytes.ensures)
          ∙ ap (λ (q : ℕ). set (bytes_of ws) q c.args.b) e;
    }
