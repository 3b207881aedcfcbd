-- Replies, and how they are written.
use Rattle.std.specs.Prelude.{ℕ, ◌+◌, ◌/◌, ◌%◌, cond, List, [], ◌∷◌, ◌++◌, Some, None, Ok, Err, decimal, Option, Result, nat_lt, slice_index}
use Rattle.codec.specs.Shown.{number_of}
use Rattle.stack.specs.Refusals.{numbered}
use Rattle.stack.specs.declared.refusal.Refusal.{Refusal}
use Rattle.stack.specs.declared.refusal.Refusal.TheVariants.{LineUnreadable}
use Rattle.rules.specs.Answers.{Answer}
use Rattle.rules.specs.declared.calls.Outcome.TheVariants.{Cleared, Done, HandedOut, Marked, Renewed, Scrubbed, Written}
use Rattle.language.specs.declared.reply.Reply.{Reply}

abbrev pub reply : ℕ → Option Refusal → Option ℕ → Option ℕ → Reply
reply letter refusal detail first = record { letter = letter; refusal = refusal; detail = detail; first = first }

abbrev pub refused : ℕ → Refusal → Reply
refused letter e = reply letter (Some e) None None

abbrev pub with_detail : ℕ → Option ℕ → Reply
with_detail letter detail = reply letter None detail None

-- to an unreadable line: the letter ? and refusal 14
abbrev pub unreadable : Reply
unreadable = refused 63 LineUnreadable

-- to a fault: the letter X
abbrev pub fault_reply : Result (Unit {0}) Refusal → Reply
fault_reply (Ok u) = with_detail 88 None
fault_reply (Err e) = refused 88 e

-- to a call: the finding of a read or a write, the count of a scrub, the spare of a mark, the first byte of the line read
abbrev pub call_reply : ℕ → Answer → Reply
call_reply letter (Err e) = refused letter e
call_reply letter (Ok (HandedOut l f)) = reply letter None (Some (number_of f)) (Some (slice_index l 0))
call_reply letter (Ok (Written f)) = with_detail letter (Some (number_of f))
call_reply letter (Ok Renewed) = with_detail letter None
call_reply letter (Ok Cleared) = with_detail letter None
call_reply letter (Ok (Scrubbed n)) = with_detail letter (Some n)
call_reply letter (Ok (Marked b)) = with_detail letter (Some b)
call_reply letter (Ok Done) = with_detail letter None

-- the number of a refusal; 0 where there is none
abbrev pub refusal_number : Option Refusal → ℕ
refusal_number None = 0
refusal_number (Some e) = numbered e

-- the hexadecimal digit of a value below 16, in capitals
abbrev pub hex_digit : ℕ → ℕ
hex_digit v = cond (nat_lt v 10) (48 + v) (55 + v)

-- a number in decimal, or a dash
abbrev pub detail_text : Option ℕ → List ℕ
detail_text None = 45 ∷ []
detail_text (Some n) = decimal n

-- a byte as two hexadecimal digits, or a dash
abbrev pub byte_text : Option ℕ → List ℕ
byte_text None = 45 ∷ []
byte_text (Some b) = hex_digit (b / 16) ∷ hex_digit (b % 16) ∷ []

-- a field and the byte that ends it
abbrev pub ended : List ℕ → ℕ → List ℕ
ended text end = text ++ end ∷ []

-- a row: the line's number, the letter, the refusal's number, the detail and the byte, each ended by a tab, the last by 0A
unfoldable pub row : ℕ → Reply → List ℕ
row number r =
    ended (decimal number) 9 ++ (ended (r.letter ∷ []) 9 ++ (ended (decimal (refusal_number r.refusal)) 9
    ++ (ended (detail_text r.detail) 9 ++ ended (byte_text r.first) 10)))
