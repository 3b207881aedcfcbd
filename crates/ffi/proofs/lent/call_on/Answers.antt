use Rattle.std.proofs.Common.{◌≡◌, ℕ, List, sym, ap, ◌∙◌, rules}
use Rattle.rehearsal.specs.Events.{heard}
use Rattle.rules.specs.Rules.{puts}
use Rattle.ffi.specs.Banks.{banks_of}
use Rattle.ffi.specs.Lent.{all_written, lent_after, lent_state, unless_refused}
use Rattle.ffi.proofs.lent.call_on.Goals as goal

pub returns-clause-stores : goal.returns-clause-stores
returns-clause-stores c =
    let m : List ℕ = c.args.memory.now in
    let k = c.args.banks.now in
    let call = heard c.args.call.now in
    let ok = c.in_ok-marks.ensures.gives_marks_or_refuses in
    let after : c.perform_on.new.memory.bytes.now ≡ lent_after m k call =
    c.perform_on.ensures.performs.bytes ∙ ap (λ ms. all_written m (puts (lent_state m ms) call)) ok.list
    ∙ sym (ap (λ o. unless_refused o m (all_written m (puts (lent_state m (banks_of k)) call))) ok.allowed) in
    search rules
