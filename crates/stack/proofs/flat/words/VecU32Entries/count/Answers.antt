use Rattle.std.proofs.Common.{vec_items, rules}
use Rattle.stack.proofs.WordLaws.{length_bytes_of}
use Rattle.stack.proofs.flat.words.VecU32Entries.count.Goals as goal

pub returns : goal.returns
returns c = rw (length_bytes_of (vec_items c.args.self.now)) (search rules)
