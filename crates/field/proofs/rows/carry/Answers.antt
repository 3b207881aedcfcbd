-- The table has α^40 times each byte: antt computes it.
use Rattle.std.proofs.Common.{◌≡◌, ℕ, ◌+◌, ◌*◌, ◌<◌, get_or, ap, ◌∙◌, zero-add, arith}
use Rattle.field.specs.Field.{times_z, times_low, mul, pow}
use Rattle.field.specs.Rows.{packed}
use Rattle.field.proofs.FieldLaws.{tabled, tabled_at, mul_lt}
use Rattle.field.proofs.rows.carry.Goals as goal

moved : ℕ → ℕ
moved f = mul f (pow 40) * 1099511627776

entry : (f : ℕ) → f < 256 → get_or (tabled moved 256 0) f 0 ≡ moved f
entry f h = tabled_at moved 256 0 f h ∙ ap moved (zero-add f)

bound : (e f x : ℕ) → e < 256 → x ≡ moved f → e * 4294967296 + x < 18446744073709551616
unfolding moved
bound e f x h p = omega (arith, mul_lt f (pow 40))

whole : (e f x : ℕ) → x ≡ moved f → e * 4294967296 + x ≡ packed 0 0 0 0 e (mul f (pow 40))
unfolding moved packed
whole e f x p = omega arith

pub overflow_add-result : goal.overflow_add-result
unfolding tabled moved mul times_low pow times_z
overflow_add-result c =
    let he : c.args.e < 256 = omega arith in
    let hf : c.args.f < 256 = omega arith in
    record { fits = bound c.args.e c.args.f _ he (entry c.args.f hf) }

pub returns : goal.returns
unfolding tabled moved mul times_low pow times_z
returns c = let hf : c.args.f < 256 = omega arith in record { is_moved_on = whole c.args.e c.args.f _ (entry c.args.f hf) }
