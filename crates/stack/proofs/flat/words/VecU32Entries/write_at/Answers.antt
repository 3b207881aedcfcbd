use Rattle.std.proofs.Common.{vec_items, arith}
use Rattle.stack.proofs.WordLaws.{length_bytes_of}
use Rattle.stack.proofs.flat.words.VecU32Entries.write_at.Goals as goal

pub copy_in-requires : goal.copy_in-requires
copy_in-requires c =
    let v = c.as_mut_slice.ensures.len in
    let l = c.requires.lies in
    record { lies = omega (arith, length_bytes_of (vec_items c.args.self.now)) }
