-- Lines and checks fetched piece by piece.
use Rattle.std.proofs.Common.{◌≡◌, ℕ, ◌+◌, ◌*◌, ◌/◌, ◌%◌, ◌<◌, List, [], ◌++◌, length, drop, Result, ap, ◌∙◌, ap₂, arith}
use borrow.Rule.Slice.PartMut.{put_mid, post_of}
use Rattle.std.proofs.lemmas.List.{append-nil, length-append, length-drop, drop_all, take_at, drop-drop}
use Rattle.rules.proofs.Geometry.{line_bank_real}
use Rattle.rules.specs.Places.{bank_of, index_of, line_bank}
use Rattle.stack.proofs.PieceLaws.{answered, inside}
use Rattle.stack.specs.Memory.{Contents, Fits, cells, outside, piece}
use Rattle.stack.specs.Pieces.{Accepted}
use Rattle.stack.specs.Refusals.{Fetched, Stored, judged}
use Rattle.stack.specs.declared.memory.Stack.{Ghosts}
use Rattle.stack.specs.declared.refusal.Refusal.{Refusal}

-- a fetch that fits
pub fetched : (r : Result (Unit {0}) Refusal) (f : Contents) (size bank i from n : ℕ) (into out : List ℕ)
    → r ≡ judged (outside size bank i from (length into)) → Fetched r f bank i from into out
    → length into ≡ n → Fits size bank i from n → out ≡ cells f bank i from n
fetched r f size bank i from n into out e h l fit =
    (answered (outside size bank i from (length into)) r e h).0 (ap (outside size bank i from) l ∙ inside fit) ∙ ap (cells f bank i from) l

-- a put that fits
pub put_done : {X : Type 0} (G : Ghosts X) (r : Result (Unit {0}) Refusal) (x y : X) (bank i from : ℕ) (bytes : List ℕ)
    → r ≡ judged (outside (G.means x).size bank i from (length bytes)) → Stored r G.means G.puts x (piece bank i from bytes) y
    → Fits (G.means x).size bank i from (length bytes) → Accepted G.means G.puts x (piece bank i from bytes) y
put_done G r x y bank i from bytes e h fit = (answered (outside (G.means x).size bank i from (length bytes)) r e h).0 (inside fit)

-- the pieces of a word fit
pub line_fits : (ms : List ℕ) (size a : ℕ) → index_of a < size → Fits size (line_bank ms (bank_of a)) (index_of a) 0 64
line_fits ms size a h = record { bank_real = line_bank_real ms (bank_of a) (omega arith); index_real = h; some = omega arith; room = omega arith }

pub first_fits : (size a : ℕ) → index_of a < size → Fits size (64 + bank_of a / 16) (index_of a) (4 * (bank_of a % 16)) 4
first_fits size a h = record { bank_real = omega arith; index_real = h; some = omega arith; room = omega arith }

pub fifth_fits : (size a : ℕ) → index_of a < size → Fits size 68 (index_of a) (bank_of a) 1
fifth_fits size a h = record { bank_real = omega arith; index_real = h; some = omega arith; room = omega arith }

pub second_fits : (size a : ℕ) → index_of a < size → Fits size (68 + bank_of a / 32) (index_of a) (2 * (bank_of a % 32)) 2
second_fits size a h = record { bank_real = omega arith; index_real = h; some = omega arith; room = omega arith }

-- a check fetched in two pieces
pub two_parts : (w F S : List ℕ) (n : ℕ) → length w ≡ 4 + n → length F ≡ 4 → length S ≡ n → put_mid 4 n (F ++ post_of 0 4 w) S ≡ F ++ S
two_parts w F S n lw lF lS =
    let X = F ++ drop 4 w in
    let lX = length-append F (drop 4 w) in
    let ld = length-drop 4 w in
    let rest : drop n (drop 4 X) ≡ [] = drop-drop n 4 X ∙ drop_all (4 + n) X (omega arith) in
    ap₂ (λ p q. p ++ (S ++ q)) (take_at F (drop 4 w) 4 lF) rest ∙ ap (λ q. F ++ q) (append-nil S)
