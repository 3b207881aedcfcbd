-- The main theorem on boards.
use Rattle.std.specs.Prelude.{◌≡◌, ℕ, ◌*◌, ◌<◌, cond, List, [], ◌∷◌, Some, None, Ok, Err, Option, nat_le}
use Rattle.codec.specs.declared.word.Finding.{Finding}
use Rattle.rules.specs.History.{Event, Given, History, NoneNamed, Step, Tolerable, fresh, ledger, next, wrong}
use Rattle.rules.specs.Places.{InUse}
use Rattle.rules.specs.Rules.{HostCall, State, answer, argument_check, by_partner, partners}
use Rattle.rules.specs.Answers.{Answer}
use Rattle.rules.specs.declared.calls.Outcome.TheVariants.{Cleared, Done, HandedOut, Marked, Renewed, Scrubbed, Written}
use Rattle.rules.specs.declared.calls.Call.TheVariants.{Clear, Mark, Pass, Read, Renew, Scrub, Settle, Write}
use Rattle.stack.specs.Memory.{Place}
use Rattle.stack.specs.declared.refusal.Refusal.{Refusal}

-- the line that an answer hands out, and the refusal in one
abbrev pub line_handed : Answer → Option (List ℕ)
line_handed (Err e) = None
line_handed (Ok (HandedOut l f)) = Some l
line_handed (Ok (Written f)) = None
line_handed (Ok Renewed) = None
line_handed (Ok Cleared) = None
line_handed (Ok (Scrubbed n)) = None
line_handed (Ok (Marked b)) = None
line_handed (Ok Done) = None

abbrev pub refusal_in : Answer → Option Refusal
refusal_in (Err e) = Some e
refusal_in (Ok o) = None

-- Two boards are equal: in the lines that reads into 64 bytes hand out, and in the bytes kept in banks in use.
pub record Equal (s t : State) : Type 0 where
  pub reads : (a : ℕ) → a < 64 * s.size → line_handed (answer s (Read a 64)) ≡ line_handed (answer t (Read a 64))
  pub bytes : (b i k : ℕ) → InUse s.marks b → i < s.size → k < 64 → s.kept b i k ≡ t.kept b i k

-- Each address last accepted the same line.
abbrev pub SameLines : ℕ → List Event → List Event → Type 0
SameLines size es fs = (a : ℕ) → a < 64 * size → (ledger es).lines a ≡ (ledger fs).lines a

-- A read into 64 bytes refuses no address in range, and hands out the line that the address last accepted.
abbrev pub ReadsBack : State → List Event → Type 0
ReadsBack s es = (a : ℕ) → a < 64 * s.size → (f : Finding) × (answer s (Read a 64) ≡ Ok (HandedOut ((ledger es).lines a) f))

-- the lowest partner with more than one wrong symbol
abbrev pub lowest_damaged : State → List ℕ → Option ℕ
lowest_damaged s [] = None
lowest_damaged s (p ∷ ps) = cond (nat_le 2 (wrong s p)) (Some p) (lowest_damaged s ps)

-- What the rules refuse of a call that meets tolerable damage: what its argument checks refuse, and a renewal beside a partner
-- with more than one wrong symbol.
abbrev pub inside_refusal : State → HostCall → Option Refusal
inside_refusal s (Read a n) = None
inside_refusal s (Write a l) = None
inside_refusal s (Renew a l) = by_partner a (lowest_damaged s (partners s.marks a))
inside_refusal s (Clear a) = None
inside_refusal s (Scrub a w) = None
inside_refusal s (Mark b w) = None
inside_refusal s Settle = None
inside_refusal s Pass = None

abbrev pub either_refusal : Option Refusal → Option Refusal → Option Refusal
either_refusal (Some e) o = Some e
either_refusal None o = o

abbrev pub ruled_refusal : State → HostCall → Option Refusal
ruled_refusal s c = either_refusal (argument_check s.size s.marks c) (inside_refusal s c)

-- every answer of a run refuses exactly so
abbrev pub Ruled : {s : State} {es : List Event} → History s es → Type 0
Ruled (fresh f) = Unit {0}
Ruled (next {s = s} {c = c} {r = r} run tolerable st) = (refusal_in r ≡ ruled_refusal s c) × Ruled run

-- All of it, for two boards as any two lists of calls leave them.
pub record Holds (s t : State) (es fs : List Event) (run : History s es) (run' : History t fs) : Type 0 where
  pub same_then : SameLines s.size es fs → Equal s t
  pub equal_then : Equal s t → SameLines s.size es fs
  pub reads : ReadsBack s es
  pub reads' : ReadsBack t fs
  pub ruled : Ruled run
  pub ruled' : Ruled run'

abbrev pub Theorem : State → State → Type 0
Theorem s t = (es fs : List Event) (run : History s es) (run' : History t fs)
    → s.size ≡ t.size → (ledger es).marks ≡ (ledger fs).marks
    → Tolerable NoneNamed s → Tolerable NoneNamed t
    → Holds s t es fs run run'

-- What a call answers is determined.
abbrev pub UniqueAnswers : Type 0
UniqueAnswers = (s t u : State) (c : HostCall) (q r : Answer) → Step s c q t → Step s c r u → q ≡ r

-- Every call on a board has a step: no history ends for want of one.
abbrev pub AlwaysAStep : Type 0
AlwaysAStep = (s : State) (c : HostCall) → Given c → ((b i k : ℕ) → Place s.size b i k → s.shown b i k < 256) → (t : State) × Step s c (answer s c) t

-- A history in which a bank fails and is retired and then a second one, after which no symbol is wrong.
pub record Repaired : Type 0 where
  -- the board that the first mark meets
  pub broken : State
  pub early : List Event
  pub started : History broken early
  pub damage : 1 < wrong broken 5
  -- the board at the end
  pub end : State
  pub events : List Event
  pub ended : History end events
  pub marks : (ledger events).marks ≡ 5 ∷ 9 ∷ []
  pub lines : 0 < 64 * end.size
  pub right : (a : ℕ) → a < 64 * end.size → wrong end a ≡ 0
  pub tolerable : Tolerable NoneNamed end
