-- The table is the list of the logarithms of all bytes: antt computes it.
use Rattle.std.proofs.Common.{◌≡◌, ℕ, ◌<◌, get_or, sym, ap, ◌∙◌, subst, zero-add, arith}
use Rattle.field.specs.Field.{times_z, pow}
use Rattle.field.proofs.FieldLaws.{run, powers, index, log, tabled, tabled_at, pow_log, log_lt}
use Rattle.field.proofs.arithmetic.exponent.Goals as goal

entry : (a : ℕ) → a < 256 → get_or (tabled log 256 0) a 0 ≡ log a
entry a h = tabled_at log 256 0 a h ∙ ap log (zero-add a)

fact : (a r : ℕ) → a < 256 → (a ≡ 0 → ⊥) → r ≡ log a → record { below_the_order : r < 255; its_power_is_the_byte : pow r ≡ a }
fact a r h ne e = record { below_the_order = subst (λ n. n < 255) (sym e) (log_lt a h ne); its_power_is_the_byte = ap pow e ∙ pow_log a h ne }

pub returns : goal.returns
unfolding tabled log index powers run times_z
returns c = let h : c.args.a < 256 = omega arith in fact c.args.a _ h c.requires.not_zero (entry c.args.a h)
