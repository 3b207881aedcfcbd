use Rattle.std.proofs.Common.{◌≡◌, ◌++◌, ap, ◌∙◌, ap₂, arith, rules}
use Rattle.std.proofs.lemmas.Bool.Decides.{nat_tests}
use Rattle.std.proofs.lemmas.List.{take-append-drop}
use Rattle.ffi.proofs.words.word_of.Goals as goal
use Rattle.ffi.proofs.words.word_of.Goals.{in-6+in_ok-ok-in-6, in-5+in_ok-ok-in-5}

pub returns : goal.returns
returns c =
    let parts = c.in_ok-line.ensures.cases in
    let whole : c.in_ok-line.line.now ++ c.in_ok-line.rest.now ≡ c.args.symbols.now = ap₂ (λ xs ys. xs ++ ys) parts.0 parts.1 ∙ take-append-drop 64 c.args.symbols.now in
    elim c.match-rest.branch [
      | in-6+in_ok-ok-in-6 w ↦
          let same : w.in_ok-ok-in-6.field-0 ≡ c.in_ok-line.rest.now = search rules in
          rw w.check-is (record { has_the_symbols = (grind (arith, nat_tests, w.in-6.is, parts.2), ap (λ xs. c.in_ok-line.line.now ++ xs) same ∙ whole) })
      | in-5+in_ok-ok-in-5 w ↦
          let same : w.in_ok-ok-in-5.field-0 ≡ c.in_ok-line.rest.now = search rules in
          rw w.check-is (record { has_the_symbols = (grind (arith, nat_tests, w.in-5.is, parts.2), ap (λ xs. c.in_ok-line.line.now ++ xs) same ∙ whole) })
    ]
