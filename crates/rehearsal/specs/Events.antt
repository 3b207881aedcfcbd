-- Lists of calls as a host gives them, with the answers that it got.
use Rattle.std.specs.Prelude.{◌≡◌, ℕ, zero, suc, min, List, [], ◌∷◌, length, drop, slice_index_or, Ok}
use Rattle.std.specs.Borrow.{Bor}
use Rattle.rules.specs.Rules.{HostCall}
use Rattle.rules.specs.History.{Event}
use Rattle.rules.specs.Answers.{Answer}
use Rattle.rules.specs.declared.calls.Outcome.TheVariants.{Done}
use Rattle.rules.specs.declared.calls.Call.{Call}
use Rattle.rules.specs.declared.calls.Call.TheVariants.{Read, Write, Renew, Clear, Scrub, Mark, Settle, Pass}

-- a call with a lent line, as the rules see it
abbrev pub heard : Call (Bor (List ℕ)) → HostCall
heard (Read a n) = Read a n
heard (Write a l) = Write a l.now
heard (Renew a l) = Renew a l.now
heard (Clear a) = Clear a
heard (Scrub a w) = Scrub a w
heard (Mark b w) = Mark b w
heard Settle = Settle
heard Pass = Pass

abbrev pub Calls : Type 0
Calls = List (Call (Bor (List ℕ)))

-- the first n calls and answers, the latest first
unfoldable pub first_events : Calls → List Answer → ℕ → List Event
first_events calls answers zero = []
first_events calls answers (suc n) = record { call = heard (slice_index_or calls n (Read 0 0)); answer = slice_index_or answers n (Ok Done) } ∷ first_events calls answers n

-- as many calls as there is room for answers
abbrev pub events : Calls → List Answer → List Event
events calls answers = first_events calls answers (min (length calls) (length answers))

-- answers that no call was left for stay
abbrev pub LeavesRest : Calls → List Answer → List Answer → Type 0
LeavesRest calls before after = drop (length calls) after ≡ drop (length calls) before
