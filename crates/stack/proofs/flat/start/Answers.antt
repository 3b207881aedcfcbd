use Rattle.std.proofs.Common.{ℕ, ◌+◌, ◌*◌, ◌<◌, arith}
use Rattle.std.proofs.lemmas.Nat.{mul-add-lt}
use Rattle.stack.specs.Memory.{Fits}
use Rattle.stack.proofs.PieceLaws.{fits}
use Rattle.stack.proofs.flat.start.Goals as goal

-- the indexes before the piece's, over all banks
indexes : {size bank index from count : ℕ} → Fits size bank index from count → bank * size + index < size * 72
indexes {size} {bank} {index} f = mul-add-lt bank size index 72 f.bank_real f.index_real

pub overflow_mul-result : goal.overflow_mul-result
overflow_mul-result c = let f = fits _ _ _ _ _ c.requires.lies in omega (arith, indexes f)

pub overflow_add-result : goal.overflow_add-result
overflow_add-result c = let f = fits _ _ _ _ _ c.requires.lies in omega (arith, indexes f)

pub overflow_mul-result-2 : goal.overflow_mul-result-2
overflow_mul-result-2 c = let f = fits _ _ _ _ _ c.requires.lies in omega (arith, indexes f)

pub overflow_add-result-2 : goal.overflow_add-result-2
overflow_add-result-2 c = let f = fits _ _ _ _ _ c.requires.lies in omega (arith, indexes f)

pub returns : goal.returns
returns c =
    let f = fits _ _ _ _ _ c.requires.lies in
    record { starts = record { lies = f; at_is = omega arith; ends = omega (arith, indexes f) } }
