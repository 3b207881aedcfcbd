use Rattle.std.proofs.Common.{◌≡◌, ◌+◌, ◌∷◌, eqb, length, take, drop, true, false, sym, ap, ◌∙◌, add-one, arith, rules, false-eqb}
use Rattle.std.proofs.lemmas.Iterator.{IsFirst-from_position, YieldsList-from_slice}
use Rattle.std.proofs.lemmas.List.{take_rest}
use borrow.Author.Tests.{tests}
use Rattle.language.specs.Parts.{lines}
use Rattle.language.proofs.PartLaws.{line_ends_at, line_without_end}
use Rattle.language.proofs.parts.next_line.Goals as goal

pub returns-in-Some-clause-parts_the_first_line : goal.returns-in-Some-clause-parts_the_first_line
returns-in-Some-clause-parts_the_first_line c =
    let text = c.args.text.now in
    let first = IsFirst-from_position _ _ _ (λ b. eqb b 10 ≡ true) (λ b. eqb b 10 ≡ false) c.in-Some.ensures.ran (YieldsList-from_slice text cc) (λ x q k. search (rules, tests)) (λ x q k. search (rules, tests)) in
    line_ends_at text c.in-Some.end first.0 (λ k l. first.2 k 0 (omega arith) l) (first.1 0)
    ∙ ap (λ rest. take c.in-Some.end text ∷ lines rest) (ap (λ n. drop n text) (sym (add-one c.in-Some.end)) ∙ sym (take_rest text (c.in-Some.end + 1)))

pub returns-in-None-2-clause-parts_the_first_line : goal.returns-in-None-2-clause-parts_the_first_line
returns-in-None-2-clause-parts_the_first_line c =
    let text = c.args.text.now in
    let none = IsFirst-from_position _ _ _ (λ b. eqb b 10 ≡ true) (λ b. eqb b 10 ≡ false) c.in-None-2.ensures.ran (YieldsList-from_slice text cc) (λ x q k. search (rules, tests)) (λ x q k. search (rules, tests)) in
    line_without_end text (omega (arith, false-eqb (length text) 0 c.if-is_empty.ensures)) (λ k l. none k 0 (omega arith) l)
