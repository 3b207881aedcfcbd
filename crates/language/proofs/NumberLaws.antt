-- Numbers read digit by digit.
use Rattle.std.proofs.Common.{◌≡◌, ℕ, ◌+◌, ◌*◌, ◌^◌, ◌<◌, ◌≤◌, List, [], ◌∷◌, length, get_or, drop, Some, None, sym, refl, ap, ◌∙◌, pow-suc, add-one, arith}
use Rattle.std.proofs.lemmas.List.{drop_more, drop_all}
use Rattle.std.proofs.lemmas.Bool.Decides.{nat_tests}
use Rattle.language.specs.Spelling.{digit_value, more_digits, number_in, with_digit}

no_digits : (xs : List ℕ) → more_digits None xs ≡ None
unfolding more_digits
no_digits [] = refl
no_digits (x ∷ xs) = no_digits xs

digits_more : (n : ℕ) (xs : List ℕ) (i : ℕ) → i < length xs
    → more_digits (Some n) (drop i xs) ≡ more_digits (with_digit n (digit_value (get_or xs i 0))) (drop (i + 1) xs)
unfolding more_digits
digits_more n xs i h = ap (more_digits (Some n)) (drop_more xs i 0 h)

pub digit_more : (n d : ℕ) (xs : List ℕ) (i : ℕ) → i < length xs → Some d ≡ digit_value (get_or xs i 0)
    → more_digits (Some n) (drop i xs) ≡ more_digits (Some (10 * n + d)) (drop (i + 1) xs)
digit_more n d xs i h e = digits_more n xs i h ∙ ap (λ o. more_digits (with_digit n o) (drop (i + 1) xs)) (sym e)

pub digit_none : (n : ℕ) (xs : List ℕ) (i : ℕ) → i < length xs → None ≡ digit_value (get_or xs i 0) → more_digits (Some n) (drop i xs) ≡ None
digit_none n xs i h e = digits_more n xs i h ∙ ap (λ o. more_digits (with_digit n o) (drop (i + 1) xs)) (sym e) ∙ no_digits (drop (i + 1) xs)

pub digits_end : (n : ℕ) (xs : List ℕ) (i : ℕ) → length xs ≤ i → more_digits (Some n) (drop i xs) ≡ Some n
unfolding more_digits
digits_end n xs i h = ap (more_digits (Some n)) (drop_all i xs h)

pub power_more : (i n d : ℕ) → n < 10 ^ i → d < 10 → 10 * n + d < 10 ^ (i + 1)
power_more i n d h k = rw (add-one i, pow-suc 10 i) (omega arith)

pub few_digits : (xs : List ℕ) → (length xs ≡ 0 → ⊥) → length xs ≤ 5 → number_in xs ≡ more_digits (Some 0) xs
few_digits xs some few = grind (arith, nat_tests)
