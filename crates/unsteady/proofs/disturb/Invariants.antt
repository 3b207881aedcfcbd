use Rattle.std.proofs.Common.{◌≡◌, ◌++◌, take, drop}
use Rattle.unsteady.specs.Noise.{noisy}
use Rattle.unsteady.proofs.disturb.Given as goal

abbrev pub invariant-loop-byte : goal.invariant-loop-byte
invariant-loop-byte l = l.into ≡ noisy l.noise (take l.byte-index l.initial.into) ++ drop l.byte-index l.initial.into
