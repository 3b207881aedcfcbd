use Rattle.std.proofs.Common.{sym, ap, ◌∙◌}
use Rattle.codec.specs.Code.{decoding}
use Rattle.rules.specs.Rules.{decoded}
use Rattle.board.proofs.board.Site.decode_word.Goals as goal

pub returns : goal.returns
unfolding decoded
returns g c =
    record {
      decodes = ap decoding (sym c.fetch_word-word.ensures.is_shown) ∙ sym c.decode.ensures.is_the_decoding;
      a_refusal_leaves_the_line = c.decode.ensures.an_uncorrectable_word_leaves_the_line;
    }
