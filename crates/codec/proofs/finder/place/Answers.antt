use Rattle.std.proofs.Common.{◌≡◌, ℕ, ◌+◌, ◌-◌, ◌<◌, ◌≤◌, ◌≢◌, ◌⊎◌, get_or, ◌∙◌, inl, inr, arith, lit<}
use Rattle.field.specs.Field.{mul, pow}
use Rattle.field.proofs.FieldLaws.{pow_nonzero}
use Rattle.codec.specs.Word.{coeff}
use Rattle.codec.proofs.PlaceLaws.{place_69, place_68, turn, turned_by}
use Rattle.codec.proofs.finder.place.Goals as goal
use Rattle.codec.proofs.finder.place.Goals.{then-a-b, else-a-b}

-- a power is not 0
other : (k x : ℕ) → pow k ≡ x → x ≢ 0
other k x e z = pow_nonzero k (e ∙ z)

pub returns-in_default : goal.returns-in_default
returns-in_default c =
    record {
      within = lit< tt;
      no_other =
          λ s e hs he ne ex ey.
          place_69 s e (get_or c.args.sums.now 0 0) (get_or c.args.sums.now 1 0) hs he ne ex ey c.in_default.ensures.is_the_exponent_and_none_at_zero;
    }

pub returns-in_default-log : goal.returns-in_default-log
returns-in_default-log c =
    let a = c.in-Some.ensures.is_the_exponent_and_none_at_zero in
    record {
      within = lit< tt;
      no_other =
          λ s e hs he ne ex ey.
          place_68 s e (get_or c.args.sums.now 0 0) (get_or c.args.sums.now 1 0) hs he ne ex ey (other c.in-Some.a _ a.1)
          c.in_default-log.ensures.is_the_exponent_and_none_at_zero;
    }

-- the difference of the logarithms is that of the place
module _ (x y a b d : ℕ) (pa : (a < 255) × (pow a ≡ x)) (pb : (b < 255) × (pow b ≡ y)) (way : ((a ≤ b) × (d ≡ b - a)) ⊎ ((b < a) × (d ≡ b + 255 - a))) where
  placed : (s e : ℕ) → s < 70 → e < 256 → e ≢ 0 → x ≡ mul e (coeff 0 s) → y ≡ mul e (coeff 1 s) → (s < 68) × (67 - s ≡ d)
  placed s e hs he ne ex ey =
      let t = turn s e x y hs he ne ex ey a b pa.0 pb.0 (other a x pa.1) (other b y pb.1) pa.1 pb.1 in
      (t.0, turned_by a b s d pa.0 pb.0 t.0 t.1 way)

pub returns-then-d-lt68 : goal.returns-then-d-lt68
returns-then-d-lt68 c =
    let way : ((c.in-Some.a ≤ c.in-Some-log.b) × (c.if-a-b.d ≡ c.in-Some-log.b - c.in-Some.a))
    ⊎ ((c.in-Some-log.b < c.in-Some.a) × (c.if-a-b.d ≡ c.in-Some-log.b + 255 - c.in-Some.a)) =
    elim c.if-a-b.branch [ then-a-b w ↦ inl (w.if-a-b.true, w.d-is) | else-a-b w ↦ inr (w.if-a-b.false, w.d-is) ] in
    record {
      within = omega arith;
      no_other =
          λ s e hs he ne ex ey.
          let p = placed _ _ c.in-Some.a c.in-Some-log.b c.if-a-b.d c.in-Some.ensures.is_the_exponent_and_none_at_zero
          c.in-Some-log.ensures.is_the_exponent_and_none_at_zero way s e hs he ne ex ey in
          let h : s < 68 = p.0 in
          let q : 67 - s ≡ c.if-a-b.d = p.1 in
          omega arith;
    }

pub returns-else-d-lt68 : goal.returns-else-d-lt68
returns-else-d-lt68 c =
    let way : ((c.in-Some.a ≤ c.in-Some-log.b) × (c.if-a-b.d ≡ c.in-Some-log.b - c.in-Some.a))
    ⊎ ((c.in-Some-log.b < c.in-Some.a) × (c.if-a-b.d ≡ c.in-Some-log.b + 255 - c.in-Some.a)) =
    elim c.if-a-b.branch [ then-a-b w ↦ inl (w.if-a-b.true, w.d-is) | else-a-b w ↦ inr (w.if-a-b.false, w.d-is) ] in
    record {
      within = lit< tt;
      no_other =
          λ s e hs he ne ex ey.
          let p = placed _ _ c.in-Some.a c.in-Some-log.b c.if-a-b.d c.in-Some.ensures.is_the_exponent_and_none_at_zero
          c.in-Some-log.ensures.is_the_exponent_and_none_at_zero way s e hs he ne ex ey in
          let h : s < 68 = p.0 in
          let q : 67 - s ≡ c.if-a-b.d = p.1 in
          let n : 68 ≤ c.if-a-b.d = c.if-d-lt68.false in
          absurd (omega arith);
    }
