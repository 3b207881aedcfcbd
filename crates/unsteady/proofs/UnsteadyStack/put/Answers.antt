use Rattle.std.proofs.Common.{sym, arith}
use Rattle.stack.proofs.PieceLaws.{accepted, fits}
use Rattle.unsteady.proofs.UnsteadyStack.put.Goals as goal

pub slice_bounds-put_both-end : goal.slice_bounds-put_both-end
slice_bounds-put_both-end c =
    let f = fits _ _ _ _ _ (accepted _ (sym c.in_ok-check.ensures.refuses_what_lies_outside)) in
    omega arith
