use Rattle.std.proofs.Common.{rules, refl, length, arith, ap, ◌∙◌, ◌++◌, take}
use Rattle.std.proofs.lemmas.Slice.{take-put_mid, drop-put_mid}
use Rattle.text.proofs.page.Page.put.Goals as goal

pub returns : goal.returns
returns c =
    let p = c.args.self.now in
    let text = c.copy_from_slice.new.self in
    let same = c.copy_from_slice.ensures.after in
    record {
      appended = record {
        stored = record {
          words = take-put_mid p.at _ p.bytes.now text _ (omega (arith, ap length same)) (omega arith) ∙ ap (λ t. take p.at p.bytes.now ++ t) same;
          next = refl;
        };
        rest = drop-put_mid p.at _ p.bytes.now text _ (omega arith) (omega arith) (omega (arith, ap length same));
      };
      size = search rules;
      same = refl;
    }
