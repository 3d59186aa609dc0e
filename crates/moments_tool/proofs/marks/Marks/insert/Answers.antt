use Rattle.std.proofs.Common.{◌≡◌, length, take, ap, sym, subst, ◌∙◌, arith}
use lib.Seq.{length-take-le}
use Rattle.moments_tool.specs.Words.{SortedWords}
use Rattle.moments_tool.proofs.Sorting.{insert-sorted, turned_in}
use Rattle.moments_tool.proofs.marks.Marks.insert.Goals as goal

pub invariant_of-self : goal.invariant_of-self
invariant_of-self c =
    let s = c.self in
    let n = s.inside.len in
    let words = s.inside.words in
    let v : length c.args.self.now ≡ length (take n words) = sym (ap length s.view_is) in
    let k : length (take n words) ≡ n = length-take-le n words (omega arith) in
    let p = c.place-at.ensures in
    let e = turned_in words n c.place-at.result c.args.w (omega arith) (omega (arith, p.upper_bound)) _ c.rotate_right.ensures.after ∙ p.at_place in
    (omega arith, subst SortedWords (sym e) (insert-sorted c.args.w (take n words) s.invariant.1))

pub returns : goal.returns
returns c =
    let s = c.self in
    let n = s.inside.len in
    let words = s.inside.words in
    let v : length c.args.self.now ≡ length (take n words) = sym (ap length s.view_is) in
    let k : length (take n words) ≡ n = length-take-le n words (omega arith) in
    let p = c.place-at.ensures in
    rw (← s.view_is) (turned_in words n c.place-at.result c.args.w (omega arith) (omega (arith, p.upper_bound)) _ c.rotate_right.ensures.after ∙ p.at_place)
