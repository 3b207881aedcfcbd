-- The invariant: a board keeps what its ledger says.
use Rattle.std.proofs.Common.{◌≡◌, ℕ, ◌<◌}
use Rattle.rules.proofs.Geometry.{Valid}
use Rattle.codec.specs.Code.{Symbols}
use Rattle.rules.specs.History.{Ledger}
use Rattle.rules.specs.Places.{InUse, image}
use Rattle.rules.specs.Rules.{State}
use Rattle.stack.specs.Memory.{Place}

pub record Agrees (s : State) (B : Ledger) : Type 0 where
  pub marks : s.marks ≡ B.marks
  pub valid : Valid s.marks
  pub lines : (a : ℕ) → Symbols 64 (B.lines a)
  pub kept : (b i k : ℕ) → InUse s.marks b → i < s.size → k < 64 → s.kept b i k ≡ image s.marks B.lines b i k
  pub bytes : (b i k : ℕ) → Place s.size b i k → s.shown b i k < 256
