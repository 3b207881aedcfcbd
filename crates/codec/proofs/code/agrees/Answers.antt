use Rattle.std.proofs.Common.{◌≡◌, ℕ, ◌<◌, Bool, Decides, List, ◌++◌, length, get_or, take, sym, subst, rules}
use Rattle.std.proofs.lemmas.Bool.Decides.{same_from_decides}
use Rattle.codec.specs.Check.{check}
use Rattle.codec.specs.Code.{Symbols, consistent, codeword}
use Rattle.codec.proofs.TestLaws.{kind_of, consistent_test, codeword_test}
use Rattle.codec.proofs.code.agrees.Goals as goal

pub returns : goal.returns
returns c =
    let line : List ℕ = c.args.line.now in
    let shown : List ℕ = c.args.shown.now in
    let e = c.check_of.ensures.is_the_check in
    let l : Symbols 64 line = record { count = c.told-line; small = c.fits-line } in
    let b : (k : ℕ) → get_or shown k 0 < 256 = search rules in
    let kind = kind_of (length shown) c.requires.at_least_five c.requires.at_most_six in
    let d : Decides c.starts_with.result (take c.args.count c.check_of.result ≡ take c.args.count shown) = search rules in
    let same : (t : Bool) (n : ℕ) → c.args.count ≡ n → Decides t (take n (check line) ≡ take n shown) → c.starts_with.result ≡ t =
    λ t n k h. same_from_decides c.starts_with.result t (subst (λ m. Decides c.starts_with.result (take m c.check_of.result ≡ take m shown)) k d) (subst (λ x. Decides t (take n x ≡ take n shown)) (sym e) h) in
    record {
      four_tell_whether_the_word_is_consistent = λ k. same (consistent (line ++ shown)) 4 k (consistent_test line shown l b kind.0 kind.1);
      all_tell_whether_it_is_a_codeword = λ k. same (codeword (line ++ shown)) (length shown) k (codeword_test line shown l b kind.0 kind.1);
    }
