use Rattle.std.proofs.Common.{◌≡◌, ℕ, ◌/◌, List, [], length, ap, ◌∙◌, arith, rules}
use Rattle.std.specs.List.{fold}
use Rattle.std.specs.Simd.{first_chunks}
use Rattle.std.proofs.lemmas.Iterator.{YieldsList-from_slice}
use Rattle.std.proofs.lemmas.Iterator.Consumers.{fold_from_yields_List}
use Rattle.field.specs.Rows.{advanced}
use Rattle.codec.specs.Packed.{unpacked}
use Rattle.codec.proofs.RowLaws.{no_bytes}
use Rattle.codec.proofs.LineCheck.{rows_more, check_by_rows}
use Rattle.codec.proofs.code.packed_check.Goals as goal

pub returns : goal.returns
returns c =
    let line : List ℕ = c.args.line.now in
    let l : length line ≡ 64 = omega arith in
    let e : c.fold.result ≡ fold advanced 0 (first_chunks 8 8 line) =
    fold_from_yields_List _ advanced 0 c.fold.result c.fold.ensures.ran
    (YieldsList-from_slice (first_chunks 8 8 line) (c.iter.ensures.rest ∙ c.as_chunks.ensures.front ∙ ap (λ n. first_chunks 8 (n / 8) line) l)) (λ a x b q k. search rules) in
    record {
      has_the_check_in_its_bytes = ap unpacked e ∙ check_by_rows line _ (record { count = l; small = c.fits-line }) (rows_more 8 0 [] line l (omega arith) no_bytes);
    }
