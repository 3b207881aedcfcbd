use Rattle.std.proofs.Common.{ℕ, ◌-◌, set, sym, ap, ◌∙◌, arith}
use Rattle.std.proofs.lemmas.Bool.{cond-true, cond-false}
use Rattle.layers.specs.Faults.{corrupted}
use Rattle.layers.proofs.FaultLaws.{acting}
use Rattle.layers.proofs.injector.calls.show.Goals as goal

pub overflow_sub-byte : goal.overflow_sub-byte
overflow_sub-byte c = let a = acting c.args.fault.now _ _ _ _ (sym c.if-acts_on.ensures.tells) in a.low

pub bounds-into-fault : goal.bounds-into-fault
bounds-into-fault c = let a = acting c.args.fault.now _ _ _ _ (sym c.if-acts_on.ensures.tells) in omega arith

pub returns-then-acts_on : goal.returns-then-acts_on
unfolding corrupted
returns-then-acts_on c = record {
  shows =
      ap (λ (v : ℕ). set c.args.into.now (c.args.fault.now.byte - c.args.at.byte) v) c.alter.ensures.is_altered
      ∙ sym (cond-true _ _ _ (sym c.if-acts_on.ensures.tells));
}

pub returns-else-acts_on : goal.returns-else-acts_on
unfolding corrupted
returns-else-acts_on c = record { shows = sym (cond-false _ _ _ (sym c.if-acts_on.ensures.tells)) }
