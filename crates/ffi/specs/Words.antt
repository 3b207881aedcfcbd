-- Words as a host in C gives them, and what it is told of them.
use Rattle.std.specs.Prelude.{◌≡◌, ℕ, Bool, true, false, cond, ◌&&◌, ◌||◌, List, length, take, Option, Result, MatchOption, ◌==◌}
use Rattle.std.specs.Borrow.{Bor, MutBor}
use Rattle.codec.specs.Check.{check}
use Rattle.codec.specs.Code.{Decoded, found, uncorrectable}
use Rattle.codec.specs.Shown.{symbols, told as outcome}
use Rattle.codec.specs.declared.word.Finding.{Finding}
use Rattle.codec.specs.declared.word.Uncorrectable.{Uncorrectable}
use Rattle.codec.specs.declared.word.Word.{Word}
use Rattle.ffi.specs.Replies.{found_reply, refused_by}
use Rattle.ffi.specs.declared.replies.Reply.{Reply}

-- a full or a short word
abbrev pub a_word : List ℕ → Bool
a_word w = length w == 70 || length w == 69

-- the word that these symbols are, if they are one
abbrev pub Spelled : List ℕ → Option Word → Type 0
Spelled w r = MatchOption r (a_word w ≡ false) (λ v. (a_word w ≡ true) × (symbols v ≡ w))

-- a word, and a buffer for its line
abbrev pub word_fits : List ℕ → ℕ → Bool
word_fits w n = a_word w && n == 64

-- a line, and a buffer for its check
abbrev pub check_fits : List ℕ → ℕ → Bool
check_fits l n = length l == 64 && (n == 6 || n == 5)

-- what is answered, and what the buffer then holds
abbrev pub check_reply : List ℕ → List ℕ → ℕ
check_reply l old = cond (check_fits l (length old)) 0 2

abbrev pub check_stored : List ℕ → List ℕ → List ℕ
check_stored l old = cond (check_fits l (length old)) (take (length old) (check l)) old

-- a finding, or 255
abbrev pub decoded_reply : Decoded → Reply
decoded_reply (found l f) = found_reply f
decoded_reply uncorrectable = refused_by 255 0 0

-- the line handed out, or what the buffer held
abbrev pub handed_line : Decoded → List ℕ → List ℕ
handed_line (found l f) old = l
handed_line uncorrectable old = old

-- the same, where lengths are refused
abbrev pub word_reply : Bool → Decoded → Reply
word_reply true d = decoded_reply d
word_reply false d = refused_by 2 0 0

abbrev pub word_line : Bool → Decoded → List ℕ → List ℕ
word_line true d old = handed_line d old
word_line false d old = old

-- the same for a way of decoding, a word and the buffer for its line
abbrev pub reply_by : (List ℕ → Decoded) → List ℕ → List ℕ → Reply
reply_by f w old = word_reply (word_fits w (length old)) (f w)

abbrev pub line_by : (List ℕ → Decoded) → List ℕ → List ℕ → List ℕ
line_by f w old = word_line (word_fits w (length old)) (f w) old

-- what a way of finding a word's line answers, and leaves in the line's buffer, is what `d` gives for the word's symbols
abbrev pub Computes : (List ℕ → Decoded) → (Bor Word → MutBor (List ℕ) → Result Finding Uncorrectable → MutBor (List ℕ) → Type 0) → Type 0
Computes d post = (w : Bor Word) (before after : MutBor (List ℕ)) (r : Result Finding Uncorrectable) → post w before r after → outcome r after.now ≡ d (symbols w.now)
