use Rattle.std.proofs.Common.{vec_items, arith}
use Rattle.stack.proofs.WordLaws.{length_bytes_of}
use Rattle.stack.proofs.flat.words.VecU32Entries.read_at.Goals as goal

pub copy_out-requires : goal.copy_out-requires
copy_out-requires c =
    let v = c.as_slice.ensures.len in
    let l = c.requires.lies in
    record { lies = omega (arith, length_bytes_of (vec_items c.args.self.now)) }
