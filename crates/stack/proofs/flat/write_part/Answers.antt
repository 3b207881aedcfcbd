use Rattle.std.proofs.Common.{length, refl, ◌∙◌, arith}
use Rattle.std.proofs.lemmas.List.Edits.{paste_all}
use Rattle.std.proofs.lemmas.Slice.{put_mid-paste}
use Rattle.stack.proofs.flat.write_part.Goals as goal

pub returns : goal.returns
returns c =
    let n = length c.args.part.now in
    record {
      writes =
          put_mid-paste c.args.at _ c.args.bytes.now c.copy_bytes.new.into c.args.part.now n c.copy_bytes.ensures.copies (omega arith) refl
          ∙ paste_all c.args.bytes.now c.args.at c.args.part.now n refl;
    }
