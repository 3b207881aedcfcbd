-- What a memory means that shows arbitrary bytes.
use Rattle.std.specs.Prelude.{ℕ, ◌%◌, ◌≤◌, Bool, true, false, cond, List, map, vec_items, ◌==◌, bit_xor}
use Rattle.std.proofs.Common.{arith}
use Rattle.std.proofs.lemmas.Bool.{cond_both}
use Rattle.stack.specs.Memory.{Meaning, Place, Sound}
use Rattle.unsteady.specs.declared.Unsteady.{Unsteady}
use Rattle.stack.specs.Flat.{flat_means, flat_sound}

-- a byte under a noise; both are bytes, so the remainder changes nothing
abbrev pub disturbed : ℕ → ℕ → ℕ
disturbed noise v = bit_xor v noise % 256

-- bytes under a noise
abbrev pub noisy : ℕ → List ℕ → List ℕ
noisy noise xs = map (disturbed noise) xs

-- one memory's bytes kept, another's shown under a noise; of size 0 where the two differ in size
abbrev pub unsteady : Meaning → Meaning → ℕ → Meaning
unsteady x y noise = record { size = cond (x.size == y.size) x.size 0; kept = x.kept; shown = λ b i k. disturbed noise (y.kept b i k) }

-- what the memory means
abbrev pub meaning : Unsteady → Meaning
meaning s = unsteady (flat_means (vec_items s.kept.bytes)) (flat_means (vec_items s.shown.bytes)) s.noise

-- its places are those of the memory that keeps
pub place_kept : (t : Bool) (n b i k : ℕ) → Place (cond t n 0) b i k → Place n b i k
place_kept true n b i k at = at
place_kept false n b i k at = absurd (omega (arith, at.index_real))

pub noisy_sound : (xs ys : List ℕ) (noise : ℕ) → Sound (unsteady (flat_means xs) (flat_means ys) noise)
noisy_sound xs ys noise = record {
  small = cond_both ((flat_means xs).size == (flat_means ys).size) (flat_means xs).size 0 (λ n. n ≤ 1024) (λ e. (flat_sound xs).small) (λ e. omega arith);
  kept_byte = λ b i k at. (flat_sound xs).kept_byte b i k (place_kept ((flat_means xs).size == (flat_means ys).size) (flat_means xs).size b i k at);
  shown_byte = λ b i k at. omega arith;
}
