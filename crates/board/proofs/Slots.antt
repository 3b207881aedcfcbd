-- The lines of a work buffer, as the slots of its bytes.
use Rattle.std.proofs.Common.{◌≡◌, ℕ, zero, suc, ◌+◌, ◌*◌, ◌<◌, ◌≤◌, List, [], ◌∷◌, ◌++◌, length, take, drop, set, get_or, sym, refl, ap, ◌∙◌, ap₂, arith}
use lib.Bits.{bit_xor}
use Rattle.std.specs.List.{concat, range_with_len}
use Rattle.std.proofs.lemmas.List.{take_at, drop_at, drop-drop, get_or-take, get_or-drop}
use Rattle.rules.specs.Places.{xor_over}
use Rattle.rules.specs.Work.{slot}
use Rattle.board.specs.State.{line_at}

-- each is of 64 bytes, as a line's type says
abbrev pub Long : List (List ℕ) → Type 0
Long ws = (i : ℕ) → i < length ws → length (get_or ws i []) ≡ 64

tail_long : (w : List ℕ) (ws : List (List ℕ)) → Long (w ∷ ws) → Long ws
tail_long w ws long i h = long (suc i) (omega arith)

slot_first : (w rest : List ℕ) → length w ≡ 64 → slot (w ++ rest) 0 ≡ w
slot_first w rest h = take_at w rest 64 h

slot_next : (w rest : List ℕ) (x : ℕ) → length w ≡ 64 → slot (w ++ rest) (suc x) ≡ slot rest x
slot_next w rest x h =
    let e : 64 * suc x ≡ 64 + 64 * x = omega arith in
    ap (λ n. take 64 (drop n (w ++ rest))) e ∙ ap (take 64) (sym (drop-drop (64 * x) 64 (w ++ rest)) ∙ ap (drop (64 * x)) (drop_at w rest 64 h))

pub slot_line : (ws : List (List ℕ)) (x : ℕ) → Long ws → x < length ws → slot (concat ws) x ≡ line_at ws x
slot_line [] x long h = absurd (omega arith)
slot_line (w ∷ ws) zero long h = slot_first w (concat ws) (long 0 (omega arith))
slot_line (w ∷ ws) (suc x) long h = slot_next w (concat ws) x (long 0 (omega arith)) ∙ slot_line ws x (tail_long w ws long) (omega arith)

-- one line written: it is that line, the others stay
pub slot_set_same : (ws : List (List ℕ)) (x : ℕ) (line : List ℕ) → Long ws → length line ≡ 64 → x < length ws → slot (concat (set ws x line)) x ≡ line
slot_set_same [] x line long l h = absurd (omega arith)
slot_set_same (w ∷ ws) zero line long l h = slot_first line (concat ws) l
slot_set_same (w ∷ ws) (suc x) line long l h =
    slot_next w (concat (set ws x line)) x (long 0 (omega arith)) ∙ slot_set_same ws x line (tail_long w ws long) l (omega arith)

pub slot_set_other : (ws : List (List ℕ)) (x y : ℕ) (line : List ℕ) → Long ws → length line ≡ 64 → (y ≡ x → ⊥) → slot (concat (set ws x line)) y ≡ slot (concat ws) y
slot_set_other [] x y line long l ne = refl
slot_set_other (w ∷ ws) zero zero line long l ne = absurd (ne refl)
slot_set_other (w ∷ ws) zero (suc y) line long l ne = slot_next line (concat ws) y l ∙ sym (slot_next w (concat ws) y (long 0 (omega arith)))
slot_set_other (w ∷ ws) (suc x) zero line long l ne =
    let h = long 0 (omega arith) in
    slot_first w (concat (set ws x line)) h ∙ sym (slot_first w (concat ws) h)
slot_set_other (w ∷ ws) (suc x) (suc y) line long l ne =
    let h = long 0 (omega arith) in
    slot_next w (concat (set ws x line)) y h ∙ slot_set_other ws x y line (tail_long w ws long) l (λ e. ne (ap (λ n. suc n) e)) ∙ sym (slot_next w (concat ws) y h)

-- a part of the lines
pub part_line : (ws : List (List ℕ)) (lo n x : ℕ) → Long ws → x < n → lo + x < length ws → line_at (take n (drop lo ws)) x ≡ slot (concat ws) (lo + x)
part_line ws lo n x long u h = get_or-take n (drop lo ws) x [] u ∙ get_or-drop lo ws x [] ∙ sym (slot_line ws (lo + x) long h)

xor_shift : (f g : ℕ → ℕ) (lo a n : ℕ) → ((x : ℕ) → a ≤ x → x < a + n → f x ≡ g (lo + x)) → xor_over f (range_with_len a n) ≡ xor_over g (range_with_len (lo + a) n)
xor_shift f g lo a zero h = refl
xor_shift f g lo a (suc n) h =
    let e : lo + (a + 1) ≡ lo + a + 1 = omega arith in
    ap₂ bit_xor (h a (omega arith) (omega arith))
    (xor_shift f g lo (a + 1) n (λ x l u. h x (omega arith) (omega arith)) ∙ ap (λ m. xor_over g (range_with_len m n)) e)

pub part_xor : (ws : List (List ℕ)) (lo n k : ℕ) → Long ws → lo + n ≤ length ws
    → xor_over (λ b. get_or (line_at (take n (drop lo ws)) b) k 0) (range_with_len 0 n) ≡ xor_over (λ b. get_or (slot (concat ws) b) k 0) (range_with_len lo n)
part_xor ws lo n k long h =
    let e : lo + 0 ≡ lo = omega arith in
    xor_shift (λ b. get_or (line_at (take n (drop lo ws)) b) k 0) (λ b. get_or (slot (concat ws) b) k 0) lo 0 n
    (λ x l u. ap (λ w. get_or w k 0) (part_line ws lo n x long (omega arith) (omega arith)))
    ∙ ap (λ m. xor_over (λ b. get_or (slot (concat ws) b) k 0) (range_with_len m n)) e

pub long_set : (ws : List (List ℕ)) (x : ℕ) (line : List ℕ) → Long ws → length line ≡ 64 → (i : ℕ) → i < length (set ws x line) → length (get_or (set ws x line) i []) ≡ 64
long_set [] x line long l i h = long i h
long_set (w ∷ ws) zero line long l zero h = l
long_set (w ∷ ws) zero line long l (suc i) h = long (suc i) h
long_set (w ∷ ws) (suc x) line long l zero h = long 0 (omega arith)
long_set (w ∷ ws) (suc x) line long l (suc i) h = long_set ws x line (tail_long w ws long) l i (omega arith)
