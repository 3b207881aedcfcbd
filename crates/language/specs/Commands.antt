-- The command that a line spells.
use Rattle.std.specs.Prelude.{ℕ, cond, List, [], ◌∷◌, length, Some, None, Option, ◌==◌, slice_index_or}
use Rattle.layers.specs.declared.fault.Fault.{Fault}
use Rattle.layers.specs.declared.fault.FaultKind.{FaultKind}
use Rattle.rules.specs.declared.calls.Call.{Call}
use Rattle.rules.specs.declared.calls.Call.TheVariants.{Clear, Mark, Pass, Read, Renew, Scrub, Settle, Write}
use Rattle.language.specs.Parts.{fields}
use Rattle.language.specs.Spelling.{byte_in, delay_in, kind_in, number_in}
use Rattle.language.specs.declared.command.Command.{Command}
use Rattle.language.specs.declared.command.Command.TheVariants.{Inject, Do}

-- with what was given, if it was
abbrev pub given : {A B : Type 0} → Option A → (A → Option B) → Option B
given None f = None
given (Some x) f = f x

-- field k
abbrev pub nth : List (List ℕ) → ℕ → List ℕ
nth fs k = slice_index_or fs k []

-- so many fields, the letter's included
abbrev pub of_count : {A : Type 0} → ℕ → List (List ℕ) → Option A → Option A
of_count n fs x = cond (length fs == n) x None

abbrev pub lone_number : List (List ℕ) → Option ℕ
lone_number fs = of_count 2 fs (number_in (nth fs 1))

abbrev pub number_and_byte : List (List ℕ) → Option (ℕ × ℕ)
number_and_byte fs = of_count 3 fs (given (number_in (nth fs 1)) (λ n. given (byte_in (nth fs 2)) (λ b. Some (n, b))))

-- bank, index, byte, kind, mask and delay
abbrev pub fault_of : ℕ → ℕ → ℕ → FaultKind → ℕ → ℕ → Fault
fault_of bank index byte kind mask delay = record { bank = bank; index = index; byte = byte; kind = kind; mask = mask; delay = delay }

abbrev pub fault_in : List (List ℕ) → Option Fault
fault_in fs =
    of_count 7 fs
    (given (number_in (nth fs 1)) (λ b. given (number_in (nth fs 2)) (λ i. given (number_in (nth fs 3)) (λ k.
    given (kind_in (nth fs 4)) (λ kind. given (byte_in (nth fs 5)) (λ m. given (delay_in (nth fs 6)) (λ d. Some (fault_of b i k kind m d))))))))

-- the letters R, W, N, C, S, M, P, T; lines have 64 bytes, work buffers 4,096
abbrev pub call_in : ℕ → List (List ℕ) → Option (Call ℕ)
call_in letter fs =
    cond (letter == 82) (given (lone_number fs) (λ a. Some (Read a 64)))
    (cond (letter == 87) (given (number_and_byte fs) (λ p. Some (Write p.0 p.1)))
    (cond (letter == 78) (given (number_and_byte fs) (λ p. Some (Renew p.0 p.1)))
    (cond (letter == 67) (given (lone_number fs) (λ a. Some (Clear a)))
    (cond (letter == 83) (given (lone_number fs) (λ a. Some (Scrub a 4096)))
    (cond (letter == 77) (given (lone_number fs) (λ b. Some (Mark b 4096)))
    (cond (letter == 80) (of_count 1 fs (Some Pass))
    (cond (letter == 84) (of_count 1 fs (Some Settle)) None)))))))

-- the first field is one letter; X is a fault's
abbrev pub by_letter : List ℕ → List (List ℕ) → Option Command
by_letter [] fs = None
by_letter (x ∷ []) fs = cond (x == 88) (given (fault_in fs) (λ f. Some (Inject f))) (given (call_in x fs) (λ c. Some (Do c)))
by_letter (x ∷ y ∷ ys) fs = None

unfoldable pub command_in : List ℕ → Option Command
command_in line = by_letter (nth (fields line) 0) (fields line)

-- the letter of a call
abbrev pub letter_of_call : Call ℕ → ℕ
letter_of_call (Read a n) = 82
letter_of_call (Write a x) = 87
letter_of_call (Renew a x) = 78
letter_of_call (Clear a) = 67
letter_of_call (Scrub a w) = 83
letter_of_call (Mark b w) = 77
letter_of_call Settle = 84
letter_of_call Pass = 80
