use Rattle.std.proofs.Common.{◌≡◌, ◌+◌, ◌-◌, ◌*◌, ◌/◌, ◌%◌, ◌<◌, length, get_or, take, drop, replicate, sym, refl, ap, ◌∙◌, subst, ap₂, arith}
use Rattle.std.proofs.lemmas.List.FromFn.{fill_by_all}
use Rattle.std.proofs.lemmas.List.{get_or-replicate, length-take, length-drop}
use Rattle.std.specs.List.{concat, range_with_len}
use Rattle.codec.specs.Check.{check}
use Rattle.rules.specs.Places.{group_count, group_start, image, image_by, xor_over}
use Rattle.rules.specs.declared.roles.Role.TheVariants.{Second, Parity}
use Rattle.rules.specs.Work.{slot, slots}
use Rattle.rules.proofs.Rows.{row_line, row_first, row_second, row_fifth, row_parity, row_retired}
use Rattle.rules.proofs.Gathering.{group_room}
use Rattle.board.specs.Marks.{listed}
use Rattle.board.specs.State.{line_at}
use Rattle.board.proofs.Seeing.{role_real}
use Rattle.board.proofs.Slots.{slot_line, part_line, part_xor}
use Rattle.board.proofs.marks.Marks.build_row.Goals as goal

pub returns-in-Line : goal.returns-in-Line
returns-in-Line c =
    let ms = listed c.args.self.now in
    let w = concat c.args.work.now in
    let b = c.in-Line.b in
    let s : b < 64 = c.in-Line.ensures.is_real in
    let u : b < length c.args.work.now = omega (arith, c.requires.every_line) in
    let is = slot_line c.args.work.now b c.told-work u in
    record {
      is_the_row = λ j. fill_by_all (λ k. image ms (slots w) c.args.bank j k) (line_at c.args.work.now b) 64 0 (c.told-work b u)
          (λ k h. subst (λ r. get_or (line_at c.args.work.now b) k 0 ≡ image_by ms (slots w) j k r) c.in-Line.ensures.is_its_role
          (row_line ms w j k h b _ s (ap (λ xs. get_or xs k 0) (sym is))));
    }

pub returns-in-First : goal.returns-in-First
returns-in-First c =
    let ms = listed c.args.self.now in
    let w = concat c.args.work.now in
    let q = c.in-First.q in
    let s : q < 4 = c.in-First.ensures.is_real in
    let full = c.requires.every_line in
    record {
      is_the_row = λ j. fill_by_all (λ k. image ms (slots w) c.args.bank j k) c.check_row.result 64 0 (omega arith)
          (λ k h. subst (λ r. get_or c.check_row.result k 0 ≡ image_by ms (slots w) j k r) c.in-First.ensures.is_its_role
          (row_first ms w j k h q _ s (c.check_row.ensures.has_the_checks k h
          ∙ ap (λ l. get_or (check l) (0 + k % 4) 0) (part_line c.args.work.now (16 * q) (16 * q + 16 - 16 * q) (k / 4) c.told-work (omega arith) (omega (arith, full))))));
    }

pub returns-in-Second : goal.returns-in-Second
returns-in-Second c =
    let ms = listed c.args.self.now in
    let w = concat c.args.work.now in
    let q = c.in-Second.q in
    let s : q < 2 = c.in-Second.ensures.is_real in
    let real = role_real c.args.self.now c.args.bank (Second q) c.requires.real_bank c.in-Second.ensures.is_its_role in
    let full = c.requires.every_line in
    record {
      is_the_row = λ j. fill_by_all (λ k. image ms (slots w) c.args.bank j k) c.check_row-in-Second.result 64 0 (omega arith)
          (λ k h. subst (λ r. get_or c.check_row-in-Second.result k 0 ≡ image_by ms (slots w) j k r) c.in-Second.ensures.is_its_role
          (row_second ms w j k h q _ real (c.check_row-in-Second.ensures.has_the_checks k h
          ∙ ap (λ l. get_or (check l) (4 + k % 2) 0) (part_line c.args.work.now (32 * q) (32 * q + 32 - 32 * q) (k / 2) c.told-work (omega arith) (omega (arith, full))))));
    }

pub returns-in-Fifth : goal.returns-in-Fifth
returns-in-Fifth c =
    let ms = listed c.args.self.now in
    let w = concat c.args.work.now in
    let full = c.requires.every_line in
    record {
      is_the_row = λ j. fill_by_all (λ k. image ms (slots w) c.args.bank j k) c.check_row-in-Fifth.result 64 0 (omega arith)
          (λ k h. subst (λ r. get_or c.check_row-in-Fifth.result k 0 ≡ image_by ms (slots w) j k r) c.in-Fifth.ensures.is_its_role
          (let e : k / 1 ≡ 0 + k / 1 = omega arith in
          row_fifth ms w j k h _ (c.check_row-in-Fifth.ensures.has_the_checks k h
          ∙ ap (λ l. get_or (check l) (4 + k % 1) 0) (sym (slot_line c.args.work.now (k / 1) c.told-work (omega (arith, full))) ∙ ap (slot w) e))));
    }

pub returns-in-Parity : goal.returns-in-Parity
returns-in-Parity c =
    let ms = listed c.args.self.now in
    let w = concat c.args.work.now in
    let q = c.in-Parity.g in
    let s : q < 2 = c.in-Parity.ensures.is_real in
    let real = role_real c.args.self.now c.args.bank (Parity q) c.requires.real_bank c.in-Parity.ensures.is_its_role in
    let ws = c.args.work.now in
    let lo = c.group-banks.result.start in
    let starts : lo ≡ group_start ms (32 * q) = c.group-banks.ensures.starts in
    let ends : c.group-banks.result.end ≡ group_start ms (32 * q) + group_count ms = c.group-banks.ensures.ends in
    let room = group_room ms (32 * q) (omega arith) in
    let full = c.requires.every_line in
    let n = c.group-banks.result.end - lo in
    let counts : n ≡ group_count ms = omega arith in
    let many : length (take n (drop lo ws)) ≡ n = simp (length-take, length-drop) (omega arith) in
    record {
      is_the_row = λ j. fill_by_all (λ k. image ms (slots w) c.args.bank j k) c.parity_row.result 64 0 (omega arith)
          (λ k h. subst (λ r. get_or c.parity_row.result k 0 ≡ image_by ms (slots w) j k r) c.in-Parity.ensures.is_its_role
          (row_parity ms w j k h q _ real
          (c.parity_row.ensures.is_their_xor k h
          ∙ ap (λ m. xor_over (λ b. get_or (line_at (take n (drop lo ws)) b) k 0) (range_with_len 0 m)) many
          ∙ part_xor ws lo n k c.told-work (omega arith)
          ∙ ap₂ (λ a m. xor_over (λ b. get_or (slot w b) k 0) (range_with_len a m)) starts counts)));
    }

pub returns-in-Retired : goal.returns-in-Retired
returns-in-Retired c =
    let ms = listed c.args.self.now in
    let w = concat c.args.work.now in
    record {
      is_the_row = λ j. fill_by_all (λ k. image ms (slots w) c.args.bank j k) (replicate 64 0) 64 0 refl
          (λ k h. subst (λ r. get_or (replicate 64 0) k 0 ≡ image_by ms (slots w) j k r) c.in-Retired.ensures.is_its_role
          (row_retired ms w j k h _ (get_or-replicate 64 k 0 0 h)));
    }
