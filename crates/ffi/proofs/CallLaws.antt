-- What reads and marks leave to a host that lends its memory.
use Rattle.std.proofs.Common.{◌≡◌, ℕ, Bool, true, false, cond, List, [], Some, None, Option, refl, ap, ◌∙◌}
use Rattle.std.specs.List.{range_with_len}
use Rattle.stack.specs.Memory.{Piece}
use Rattle.stack.specs.declared.refusal.Refusal.{Refusal}
use Rattle.rules.specs.Rules.{accepted, along, answer, plan}
use Rattle.rules.specs.declared.calls.Call.TheVariants.{Read}
use Rattle.rules.proofs.Laying.{along_nothing}
use Rattle.ffi.specs.Banks.{banks_of}
use Rattle.ffi.specs.Lent.{all_written, lent_after, lent_state, unless_refused, unusable}
use Rattle.ffi.specs.declared.banks.MarkedBanks.{MarkedBanks}

-- no pieces, whether accepted or not
nothing_either_way : (b : Bool) (ps : List Piece) → ps ≡ [] → cond b ps [] ≡ []
nothing_either_way true ps e = e
nothing_either_way false ps e = refl

unchanged : (o : Option Refusal) (bytes : List ℕ) → unless_refused o bytes bytes ≡ bytes
unchanged (Some e) bytes = refl
unchanged None bytes = refl

-- a read puts nothing
pub read_leaves : (bytes : List ℕ) (k : MarkedBanks) (a n : ℕ) → lent_after bytes k (Read a n) ≡ bytes
unfolding all_written
read_leaves bytes k a n =
    let s = lent_state bytes (banks_of k) in
    ap (λ ps. unless_refused (unusable bytes k) bytes (all_written bytes ps))
    (nothing_either_way (accepted (answer s (Read a n))) (along (plan s (Read a n)) (range_with_len 0 s.size)) (along_nothing (plan s (Read a n)) (range_with_len 0 s.size) (λ j b. refl)))
    ∙ unchanged (unusable bytes k) bytes
