use Rattle.std.proofs.Common.{◌≡◌, length, sym, ap, ◌∙◌, rules}
use Rattle.codec.specs.Code.{checks}
use Rattle.codec.specs.Shown.{check_of, is_short}
use Rattle.codec.proofs.word.Check.symbols.Goals as goal

pub returns-in-Full : goal.returns-in-Full
returns-in-Full c =
    let l : length c.in-Full.c ≡ 6 = search rules in
    record { are_those_held = sym (ap check_of c.in-Full.is); are_six_or_in_short_five = l ∙ sym (ap (λ x. checks (is_short x)) c.in-Full.is) }

pub returns-in-Short : goal.returns-in-Short
returns-in-Short c =
    let l : length c.in-Short.c ≡ 5 = search rules in
    record { are_those_held = sym (ap check_of c.in-Short.is); are_six_or_in_short_five = l ∙ sym (ap (λ x. checks (is_short x)) c.in-Short.is) }
