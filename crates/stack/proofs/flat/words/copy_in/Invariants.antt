use Rattle.std.proofs.Common.{◌≡◌}
use lib.Seq.{paste}
use Rattle.stack.specs.Words.{bytes_of}
use Rattle.stack.proofs.flat.words.copy_in.Given as goal

abbrev pub invariant-loop-k : goal.invariant-loop-k
invariant-loop-k l = bytes_of l.words ≡ paste (bytes_of l.initial.words) l.at l.bytes l.k
