use Rattle.std.proofs.Common.{◌≡◌, ◌<◌, ◌≢◌, length, take, drop, sym, ◌∙◌, arith, below_more}
use Rattle.std.proofs.lemmas.List.{get_or-set_same, get_or-set_other, same_lists, get_or_default, get_or-take, get_or-drop, length-take, length-drop}
use Rattle.stack.specs.Words.{bytes_of}
use Rattle.stack.proofs.WordLaws.{length_bytes_of}
use Rattle.stack.proofs.flat.words.copy_out.Goals as goal

pub loop-k-preserved : goal.loop-k-preserved
loop-k-preserved c =
    below_more _ _
    (λ j h. let ne : j ≢ c.loop-k.k = omega arith in rw get_or-set_other (c.loop-k.invariant j h))
    (let lt : c.loop-k.k < length c.loop-k.into = omega arith in rw get_or-set_same c.byte_at.ensures.reads)

pub returns : goal.returns
returns c =
    let xs = bytes_of c.args.words.now in
    let n = length c.args.into.now in
    let len : length c.loop-k.into ≡ n = c.loop-k.auto.into in
    let long : length (take n (drop c.args.at xs)) ≡ n = simp (length-take, length-drop) (omega (arith, length_bytes_of c.args.words.now)) in
    record {
      copies =
          same_lists _ _ (len ∙ sym long) (λ j d h.
          let hj : j < n = omega arith in
          get_or_default c.loop-k.into j d 0 h
          ∙ c.loop-k.invariant j (omega arith)
          ∙ sym (get_or_default (take n (drop c.args.at xs)) j d 0 (omega (arith, long)) ∙ get_or-take n (drop c.args.at xs) j 0 hj ∙ get_or-drop c.args.at xs j 0));
    }
