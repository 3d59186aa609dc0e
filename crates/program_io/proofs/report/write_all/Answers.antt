use Rattle.std.proofs.Common.{◌≡◌, ℕ, ◌-◌, List, ◌++◌, Option, length, take, drop, sym, ap, ◌∙◌, subst, append_assoc, append-nil, take-append-drop}
use Rattle.std.proofs.lemmas.List.{take_rest}
use Rattle.std.specs.Io.KnownBytes.{Appends}
use Rattle.std.proofs.KnownBytes.{Appends-trans, Appends-kept}
use Rattle.std.proofs.Math.Seq.{take-append_seam}
use Rattle.program_io.proofs.report.write_all.Goals as goal
use Rattle.program_io.proofs.report.write_all.Goals.{in-Ok-eq0, in-Ok, in-Err}

-- a write that took some
moved : (all done rest : List ℕ) (n : ℕ) → all ≡ done ++ rest → all ≡ (done ++ take n rest) ++ take (length rest - n) (drop n rest)
moved all done rest n e =
    e ∙ ap (λ l. done ++ l) (sym (take-append-drop n rest)) ∙ sym (append_assoc done (take n rest) (drop n rest)) ∙ ap (λ l. (done ++ take n rest) ++ l) (sym (take_rest rest n))

-- one that took none
unmoved : (a b c : Option (List ℕ)) (done rest : List ℕ) (n : ℕ) → n ≡ 0 → Appends a b done → Appends b c (take n rest) → Appends a c done
unmoved a b c done rest n none before put =
    subst (Appends a c) (ap (λ k. done ++ take k rest) none ∙ append-nil done) (Appends-trans a b c done (take n rest) before put)

-- what was written so far is a part from the start
part : (a b : Option (List ℕ)) (all done rest : List ℕ) → all ≡ done ++ rest → Appends a b done → (k : ℕ) × Appends a b (take k all)
part a b all done rest e put =
    let front = ap (take (length done)) e ∙ take-append_seam done rest in
    (length done, subst (Appends a b) (sym front) put)

pub loop-rest-preserved : goal.loop-rest-preserved
loop-rest-preserved g c =
    let (done, split, appended) = c.loop-rest.invariant in
    let rest = c.loop-rest.rest.now in
    elim c.match-write.branch [
      | in-Ok-eq0 w ↦ (done, split ∙ ap (λ l. done ++ l) (sym (ap (λ r. r.now) w.rest-is)), unmoved _ _ _ done rest w.in-Ok-eq0.field-0 w.in-Ok-eq0.field-0-test appended w.in-Ok-eq0.ensures.bytes)
      | in-Ok w ↦ (done ++ take w.in-Ok.n rest, moved _ done rest w.in-Ok.n split ∙ ap (λ l. (done ++ take w.in-Ok.n rest) ++ l) (sym (ap (λ r. r.now) w.rest-is)), Appends-trans _ _ _ _ _ appended w.in-Ok.ensures.bytes)
      | in-Err w ↦ (done, split ∙ ap (λ l. done ++ l) (sym (ap (λ r. r.now) w.rest-is)), Appends-kept _ _ _ _ appended w.in-Err.ensures.bytes)
    ]

pub returns-then-left-eq0-clause-part : goal.returns-then-left-eq0-clause-part
returns-then-left-eq0-clause-part g c =
    let (done, split, appended) = c.loop-rest.invariant in
    let rest = c.loop-rest.rest.now in
    elim c.match-write.branch [
      | in-Ok-eq0 w ↦ part _ _ _ done rest split (unmoved _ _ _ done rest w.in-Ok-eq0.field-0 w.in-Ok-eq0.field-0-test appended w.in-Ok-eq0.ensures.bytes)
      | in-Ok w ↦ part _ _ _ (done ++ take w.in-Ok.n rest) _ (moved _ done rest w.in-Ok.n split) (Appends-trans _ _ _ _ _ appended w.in-Ok.ensures.bytes)
      | in-Err w ↦ part _ _ _ done rest split (Appends-kept _ _ _ _ appended w.in-Err.ensures.bytes)
    ]

pub returns-clause-part : goal.returns-clause-part
returns-clause-part g c =
    let (done, split, appended) = c.loop-rest.invariant in
    part _ _ _ done _ split appended
