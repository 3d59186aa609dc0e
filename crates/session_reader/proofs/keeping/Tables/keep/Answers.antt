use Rattle.std.proofs.Common.{◌+◌, ◌-◌, ◌*◌, List, ℕ, ◌∷◌, subst, arith}
use borrow.Rule.Slice.PartMut.{put_mid}
use Rattle.std.proofs.lemmas.Slice.{take-put_mid, drop-put_mid}
use Rattle.std.proofs.Math.ListN.{set, length-set}
use Rattle.text.specs.Append.{Appended}
use Rattle.text.proofs.Appending.{one, then}
use Rattle.session_reader.proofs.Standing.{keep_one}
use Rattle.session_reader.proofs.keeping.Tables.keep.Goals as goal

pub returns-clause-kept : goal.returns-clause-kept
returns-clause-kept c =
    let a = c.args.self.now in
    let kind = c.args.kind in
    let numbers = c.args.numbers.now in
    let F = a.forms.now in
    let put = c.copy_from_slice.new.self in
    let same = c.copy_from_slice.ensures.after in
    let size = length-set F (5 * a.f) kind in
    let first = one F (5 * a.f) kind (omega arith) in
    let after = put_mid (5 * a.f + 1) (5 * a.f + 5 - (5 * a.f + 1)) (set F (5 * a.f) kind) put in
    let rest : Appended (set F (5 * a.f) kind) after (5 * a.f + 1) (5 * (a.f + 1)) put = record {
      stored = record {
        words = take-put_mid (5 * a.f + 1) _ (set F (5 * a.f) kind) put (5 * (a.f + 1)) (omega (arith, c.copy_from_slice.ensures.len)) (omega (arith, size));
        next = omega (arith, c.copy_from_slice.ensures.len);
      };
      rest = drop-put_mid (5 * a.f + 1) _ (set F (5 * a.f) kind) put (5 * (a.f + 1)) (omega arith) (omega (arith, size)) (omega (arith, c.copy_from_slice.ensures.len));
    } in
    (keep_one F a.actions.now after a.f a.n (kind ∷ numbers) (omega arith) (omega arith) (omega arith) (subst (λ (x : List ℕ). Appended F after (5 * a.f) (5 * (a.f + 1)) (kind ∷ x)) same (then first rest)), omega arith)
