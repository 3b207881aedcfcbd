-- The points, by one computation.
use Rattle.std.proofs.Common.{[], ◌∷◌, refl}
use Rattle.field.specs.Field.{times_z, times_low, mul, pow, raise}
use Rattle.codec.specs.Word.{locator, coeff, weighted, syndrome, corrected}
use Rattle.codec.specs.Finder.{value, explained, corrects_at, first_from, single_error}
use Rattle.codec.specs.Check.{turned, remainder, share, first_check, check}
use Rattle.codec.specs.Code.{consistent, decoding}
use Rattle.codec.specs.Points.{Points}

pub points : Points (0x1E ∷ 0xD8 ∷ 0xE7 ∷ 0x74 ∷ [])
unfolding times_z times_low mul pow raise locator coeff weighted syndrome corrected value explained corrects_at first_from single_error turned remainder share first_check check consistent decoding
points =
    record {
      zero_line_has_check_zero = refl;
      byte_63 = refl;
      byte_62 = refl;
      both_bytes = refl;
      symbol_0 = refl;
      second_check = refl;
      no_second_check = refl;
      symbol_67 = refl;
      two_symbols = refl;
    }
