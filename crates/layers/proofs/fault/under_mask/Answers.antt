use Rattle.std.proofs.Common.{◌≡◌, ◌-◌, ◌%◌, arith}
use lib.Bits.{bit_and, bit_or, bit_xor}
use Rattle.std.proofs.lemmas.Nat.{xor_lt, or_lt, and_le_l}
use Rattle.layers.specs.Faults.{masked}
use Rattle.layers.proofs.fault.under_mask.Goals as goal

pub returns-in-Flip : goal.returns-in-Flip
unfolding masked
returns-in-Flip c =
    let e : bit_xor c.args.v c.args.mask ≡ bit_xor c.args.v c.args.mask % 256 =
    omega (arith, xor_lt 8 c.args.v c.args.mask (omega arith) (omega arith)) in
    record { is_masked = rw c.in-Flip.is e }

pub returns-in-StuckAtOne : goal.returns-in-StuckAtOne
unfolding masked
returns-in-StuckAtOne c =
    let e : bit_or c.args.v c.args.mask ≡ bit_or c.args.v c.args.mask % 256 =
    omega (arith, or_lt 8 c.args.v c.args.mask (omega arith) (omega arith)) in
    record { is_masked = rw c.in-StuckAtOne.is e }

pub returns-in-StuckAtZero : goal.returns-in-StuckAtZero
unfolding masked
returns-in-StuckAtZero c =
    let e : bit_and c.args.v (255 - c.args.mask) ≡ bit_and c.args.v (255 - c.args.mask) % 256 =
    omega (arith, and_le_l c.args.v (255 - c.args.mask)) in
    record { is_masked = rw c.in-StuckAtZero.is e }
