-- The board's calls: what each answers, what it refuses, and what it puts where.
use Rattle.std.specs.Prelude.{ℕ, ◌+◌, ◌*◌, ◌/◌, ◌%◌, Bool, true, false, cond, not, ◌||◌, List, [], ◌∷◌, ◌++◌, map, length, take, drop, Some, None, Ok, Err, Option, ◌==◌, bit_xor, nat_le, nat_lt, slice_index}
use Rattle.std.specs.List.{range_with_len}
use Rattle.codec.specs.Check.{check}
use Rattle.codec.specs.Code.{Decoded, decoding, found, judging, uncorrectable, zero_line}
use Rattle.codec.specs.Word.{distance}
use Rattle.codec.specs.declared.word.Finding.{Finding}
use Rattle.rules.specs.Places.{bank_of, check_in, group_of, image, index_of, line_in, members, parity_bank, role, without, xor_over}
use Rattle.rules.specs.Answers.{Answer}
use Rattle.rules.specs.declared.calls.Outcome.TheVariants.{Cleared, Done, HandedOut, Marked, Renewed, Scrubbed, Written}
use Rattle.rules.specs.declared.calls.Call.{Call}
use Rattle.rules.specs.declared.calls.Call.TheVariants.{Clear, Mark, Pass, Read, Renew, Scrub, Settle, Write}
use Rattle.rules.specs.declared.roles.Role.{Role}
use Rattle.rules.specs.declared.roles.Role.TheVariants.{Fifth, First, Line, Parity, Retired, Second}
use Rattle.stack.specs.Memory.{Contents, Piece, cells}
use Rattle.stack.specs.declared.refusal.Refusal.{Refusal}
use Rattle.stack.specs.declared.refusal.Refusal.TheVariants.{AddressOutOfRange, BankAlreadyMarked, BankOutOfRange, LineLength, NoSpareLeft, PartnerUncorrectable, RebuildFailed, WorkBufferShort}

-- A board: the size of its stack, what the stack keeps and shows, and the marked banks in order.
pub record State : Type 0 where
  pub size : ℕ
  pub kept : Contents
  pub shown : Contents
  pub marks : List ℕ

-- a call as the rules see it: a line given is a list of bytes
abbrev pub HostCall : Type 0
HostCall = Call (List ℕ)

-- ARGUMENT CHECKS, in the order of their numbers

abbrev pub unless : Bool → Refusal → Option Refusal → Option Refusal
unless true e rest = rest
unless false e rest = Some e

abbrev pub among : ℕ → List ℕ → Bool
among b [] = false
among b (m ∷ ms) = b == m || among b ms

abbrev pub argument_check : ℕ → List ℕ → HostCall → Option Refusal
argument_check size marks (Read a n) = unless (nat_lt a (64 * size)) AddressOutOfRange (unless (n == 64) LineLength None)
argument_check size marks (Write a l) = unless (nat_lt a (64 * size)) AddressOutOfRange (unless (length l == 64) LineLength None)
argument_check size marks (Renew a l) = unless (nat_lt a (64 * size)) AddressOutOfRange (unless (length l == 64) LineLength None)
argument_check size marks (Clear a) = unless (nat_lt a (64 * size)) AddressOutOfRange None
argument_check size marks (Scrub a w) = unless (nat_lt a (64 * size)) AddressOutOfRange (unless (nat_le 4096 w) WorkBufferShort None)
argument_check size marks (Mark b w) =
    unless (nat_lt b 64) BankOutOfRange (unless (not (among b marks)) BankAlreadyMarked (unless (nat_lt (length marks) 2) NoSpareLeft (unless (nat_le 4096 w) WorkBufferShort None)))
argument_check size marks Settle = None
argument_check size marks Pass = None

-- READING

-- a line got, or a refusal
pub data Outcome : Type 0 where
  obtained : List ℕ → Finding → Outcome
  denied : Refusal → Outcome

abbrev pub line_of : Outcome → List ℕ
line_of (obtained l f) = l
line_of (denied e) = []

abbrev pub line_decoded : Decoded → List ℕ
line_decoded (found l f) = l
line_decoded uncorrectable = []

-- what decoding the shown word of an address gives
unfoldable pub decoded : State → ℕ → Decoded
decoded s a = decoding (line_in s.marks s.shown a ++ check_in s.marks s.shown a)

-- the addresses of one index whose banks a list has
abbrev pub addresses : ℕ → List ℕ → List ℕ
addresses i [] = []
addresses i (b ∷ bs) = (64 * i + b) ∷ addresses i bs

-- the addresses of a's group, and the partners of a: those but a
abbrev pub group : List ℕ → ℕ → List ℕ
group marks a = addresses (index_of a) (members marks (group_of marks (bank_of a)))

abbrev pub partners : List ℕ → ℕ → List ℕ
partners marks a = addresses (index_of a) (without (bank_of a) (members marks (group_of marks (bank_of a))))

-- the lowest address of a list whose word is uncorrectable
abbrev pub step_lowest : Decoded → ℕ → Option ℕ → Option ℕ
step_lowest (found l f) p rest = rest
step_lowest uncorrectable p rest = Some p

unfoldable pub lowest : State → List ℕ → Option ℕ
lowest s [] = None
lowest s (p ∷ ps) = step_lowest (decoded s p) p (lowest s ps)

-- byte k of the XOR of the partners' lines
unfoldable pub partners_byte : State → ℕ → ℕ → ℕ
partners_byte s a k = xor_over (λ p. slice_index (line_decoded (decoded s p)) k) (partners s.marks a)

abbrev pub shown_parity : State → ℕ → ℕ → ℕ
shown_parity s a k = s.shown (parity_bank s.marks (bank_of a)) (index_of a) k

-- the line of an address as its group has it
abbrev pub sum_line : State → ℕ → List ℕ
sum_line s a = map (λ k. bit_xor (shown_parity s a k) (partners_byte s a k)) (range_with_len 0 64)

abbrev pub judged_or : Decoded → ℕ → Outcome
judged_or (found l f) a = obtained l f
judged_or uncorrectable a = denied (RebuildFailed a)

abbrev pub step_rebuilding : Option ℕ → State → ℕ → Outcome
step_rebuilding (Some p) s a = denied (PartnerUncorrectable a p)
step_rebuilding None s a = judged_or (judging (sum_line s a ++ check_in s.marks s.shown a)) a

-- the line rebuilt from its group
unfoldable pub rebuilding : State → ℕ → Outcome
rebuilding s a = step_rebuilding (lowest s (partners s.marks a)) s a

abbrev pub step_reading : Decoded → State → ℕ → Outcome
step_reading (found l f) s a = obtained l f
step_reading uncorrectable s a = rebuilding s a

-- the line read
unfoldable pub reading : State → ℕ → Outcome
reading s a = step_reading (decoded s a) s a

-- the line as a mark of bank b gets it
abbrev pub for_mark : State → ℕ → ℕ → Outcome
for_mark s b a = cond (bank_of a == b) (rebuilding s a) (reading s a)

-- the refusal of the first address of a list that is refused
abbrev pub step_first : Outcome → Option Refusal → Option Refusal
step_first (obtained l f) rest = rest
step_first (denied e) rest = Some e

unfoldable pub first_denied : (ℕ → Outcome) → List ℕ → Option Refusal
first_denied g [] = None
first_denied g (a ∷ rest) = step_first (g a) (first_denied g rest)

-- WHAT A CALL PUTS, if it is accepted: for each index and bank one piece or none

-- neighbouring bytes from a byte number on
pub record Part : Type 0 where
  pub from : ℕ
  pub bytes : List ℕ

abbrev pub when : Bool → Option Part → Option Part
when true p = p
when false p = None

abbrev pub part : ℕ → List ℕ → Option Part
part n bytes = Some (record { from = n; bytes = bytes })

-- a line, its check, and the group's parity line
abbrev pub store_part : List ℕ → ℕ → List ℕ → List ℕ → Role → Option Part
store_part marks b new par (Line x) = when (x == b) (part 0 new)
store_part marks b new par (First q) = when (q == b / 16) (part (4 * (b % 16)) (take 4 (check new)))
store_part marks b new par (Second q) = when (q == b / 32) (part (2 * (b % 32)) (drop 4 (check new)))
store_part marks b new par Fifth = part b (take 1 (drop 4 (check new)))
store_part marks b new par (Parity g) = when (g == group_of marks b) (part 0 par)
store_part marks b new par Retired = None

-- a bank holds lines, checks or the parity of the group g
abbrev pub of_group : List ℕ → ℕ → Role → Bool
of_group marks g (Line x) = group_of marks x == g
of_group marks g (First q) = group_of marks (16 * q) == g
of_group marks g (Second q) = group_of marks (32 * q) == g
of_group marks g Fifth = true
of_group marks g (Parity h) = h == g
of_group marks g Retired = false

-- all 64 bytes of a bank at an index, for the lines given
abbrev pub row : List ℕ → (ℕ → List ℕ) → ℕ → ℕ → List ℕ
row marks lines j bank = map (λ k. image marks lines bank j k) (range_with_len 0 64)

-- the two banks that a mark fills
abbrev pub filled : List ℕ → ℕ → Bool
filled [] bank = bank == 70 || bank == 71
filled (m ∷ ms) bank = bank == 68 || bank == 69

-- zeros in the banks of the group of b
abbrev pub clearing : List ℕ → ℕ → ℕ → Option Part
clearing marks b bank = when (of_group marks (group_of marks b) (role marks bank)) (part 0 zero_line)

abbrev pub plan : State → HostCall → ℕ → ℕ → Option Part
plan s (Read a n) j bank = None
plan s (Write a l) j bank =
    when (j == index_of a)
    (store_part s.marks (bank_of a) l
    (map (λ k. bit_xor (bit_xor (shown_parity s a k) (slice_index (line_of (reading s a)) k)) (slice_index l k)) (range_with_len 0 64))
    (role s.marks bank))
plan s (Renew a l) j bank =
    when (j == index_of a)
    (store_part s.marks (bank_of a) l (map (λ k. bit_xor (slice_index l k) (partners_byte s a k)) (range_with_len 0 64))
    (role s.marks bank))
plan s (Clear a) j bank =
    when (j == index_of a) (clearing s.marks (bank_of a) bank)
plan s (Scrub a w) j bank =
    when (j == index_of a)
    (when (of_group s.marks (group_of s.marks (bank_of a)) (role s.marks bank))
    (part 0 (row s.marks (λ x. line_of (reading s x)) j bank)))
plan s (Mark b w) j bank =
    when (filled s.marks bank) (part 0 (row (s.marks ++ b ∷ []) (λ x. line_of (for_mark s b x)) j bank))
plan s Settle j bank = None
plan s Pass j bank = None

-- the pieces by index, then bank
abbrev pub piece_at : Option Part → ℕ → ℕ → List Piece → List Piece
piece_at None j bank rest = rest
piece_at (Some p) j bank rest = record { bank = bank; index = j; from = p.from; bytes = p.bytes } ∷ rest

unfoldable pub along_banks : (ℕ → Option Part) → ℕ → List ℕ → List Piece
along_banks p j [] = []
along_banks p j (b ∷ bs) = piece_at (p b) j b (along_banks p j bs)

unfoldable pub along : (ℕ → ℕ → Option Part) → List ℕ → List Piece
along p [] = []
along p (j ∷ js) = along_banks (p j) j (range_with_len 0 72) ++ along p js

-- ANSWERS

abbrev pub read_answer : Outcome → Answer
read_answer (obtained l f) = Ok (HandedOut l f)
read_answer (denied e) = Err e

abbrev pub write_answer : Outcome → Answer
write_answer (obtained l f) = Ok (Written f)
write_answer (denied e) = Err e

abbrev pub or_refused : Option Refusal → Answer → Answer
or_refused (Some e) r = Err e
or_refused None r = r

abbrev pub by_partner : ℕ → Option ℕ → Option Refusal
by_partner a (Some p) = Some (PartnerUncorrectable a p)
by_partner a None = None

-- how many bytes of a row of pieces were shown otherwise
abbrev pub otherwise_part : Contents → ℕ → ℕ → Option Part → ℕ
otherwise_part shown j bank None = 0
otherwise_part shown j bank (Some p) = distance (cells shown bank j p.from (length p.bytes)) p.bytes

unfoldable pub otherwise : Contents → ℕ → (ℕ → Option Part) → List ℕ → ℕ
otherwise shown j p [] = 0
otherwise shown j p (b ∷ bs) = otherwise_part shown j b (p b) + otherwise shown j p bs

abbrev pub spare_of : List ℕ → ℕ
spare_of [] = 71
spare_of (m ∷ ms) = 69

abbrev pub past_checks : State → HostCall → Answer
past_checks s (Read a n) = read_answer (reading s a)
past_checks s (Write a l) = write_answer (reading s a)
past_checks s (Renew a l) = or_refused (by_partner a (lowest s (partners s.marks a))) (Ok Renewed)
past_checks s (Clear a) = Ok Cleared
past_checks s (Scrub a w) =
    or_refused (first_denied (reading s) (group s.marks a))
    (Ok (Scrubbed (otherwise s.shown (index_of a) (plan s (Scrub a w) (index_of a)) (range_with_len 0 72))))
past_checks s (Mark b w) = or_refused (first_denied (for_mark s b) (range_with_len 0 (64 * s.size))) (Ok (Marked (spare_of s.marks)))
past_checks s Settle = Ok Done
past_checks s Pass = Ok Done

abbrev pub answer : State → HostCall → Answer
answer s c = or_refused (argument_check s.size s.marks c) (past_checks s c)

abbrev pub accepted : Answer → Bool
accepted (Err e) = false
accepted (Ok o) = true

abbrev pub puts : State → HostCall → List Piece
puts s c = cond (accepted (answer s c)) (along (plan s c) (range_with_len 0 s.size)) []
