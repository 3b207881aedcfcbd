-- The table is the list of the parts: antt computes it.
use Rattle.std.proofs.Common.{◌≡◌, ℕ, ◌+◌, ◌*◌, ◌/◌, ◌%◌, ◌<◌, get_or, ap, ◌∙◌, ap₂, zero-add, arith}
use Rattle.field.specs.Field.{times_z, times_low, mul}
use Rattle.field.specs.Rows.{part, packed, share}
use Rattle.field.proofs.FieldLaws.{tabled, tabled_at}
use Rattle.field.proofs.rows.entry.Goals as goal

placed : ℕ → ℕ
placed i = part (i / 256) (i % 256)

entries : (j v : ℕ) → j < 8 → v < 256 → get_or (tabled placed 2048 0) (256 * j + v) 0 ≡ part j v
unfolding placed
entries j v hj hv =
    let i : ℕ = 256 * j + v in
    let q : (256 * j + v) / 256 ≡ j = omega arith in
    let r : (256 * j + v) % 256 ≡ v = omega arith in
    tabled_at placed 2048 0 i (omega arith) ∙ ap placed (zero-add i) ∙ ap₂ part q r

pub returns : goal.returns
unfolding tabled placed part packed share mul times_low times_z
returns c = let h : c.args.v < 256 = omega arith in record { is_the_part = entries c.args.j c.args.v c.requires.one_of_eight h }
