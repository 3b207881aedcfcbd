-- The symbols of the shown word.
use Rattle.std.specs.Prelude.{ℕ, List, ◌++◌, take}
use Rattle.codeword.specs.declared.shown.ShownWord.{ShownWord}

abbrev pub symbols_in : ShownWord → List ℕ
symbols_in w = w.line ++ w.check

-- without symbol 69
abbrev pub short_in : ShownWord → List ℕ
short_in w = w.line ++ take 5 w.check
