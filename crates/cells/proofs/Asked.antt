-- What the entries of a fit state do, by what the code's questions answer.
use mathlib.Core.Path.{◌≡◌, refl, sym, ap, subst, ◌∙◌}
use mathlib.Core.Logic.{inl, inr}
use mathlib.Core.Bool.{Bool, true, false, ◌||◌, not, cond, false≢true}
use mathlib.Core.Option as Math
use mathlib.Core.Option.{none, some}
use mathlib.Core.List.{List, [], ◌∷◌}
use Prim.Native.Nat.{ℕ}
use native.Mathlib.Omega.{arith}
use lib.Dec.{eqb, ltb}
use lib.ListN.{get_or, set}
use Rattle.std.proofs.lemmas.List.{get_or-set_same}
use Rattle.std.specs.Prelude.{Option, Some, None, Ok, is_some}
use Rattle.figure_lines.specs.declared.Finished.{Finished}
use Rattle.figure_lines.specs.declared.Record.{Record}
use Rattle.figure_lines.specs.Basics.{option_of}
use Rattle.figure_lines.specs.Record.{idle, is_idle, record_at}
use Rattle.cells_spec.specs.declared.State.{State}
use Rattle.cells_spec.specs.Answers.{Refused, Acted, answered}
use Rattle.cells_spec.specs.Blocks.{unused, is_found}
use Rattle.cells_spec.specs.Drop.{drop_asks, call_withdrawn, dropped}
use Rattle.cells_spec.specs.Open.{After, leaving, unless}
use Rattle.cells_spec.specs.Questions.{refusal, fit, pool_step_questions}
use Rattle.cells_spec.specs.Begin.{with_record}
use Rattle.cells_spec.specs.Step.{current, with_blocks, with_counts, put_back, ran, step_asks, stepped}
use Rattle.cells_spec.specs.StoredCounts.{recounted, Countable}
use Rattle.cells_spec.specs.Turn.{Turned, turn}
use Rattle.cells_spec.proofs.CountsKept.{Arrays}
use Rattle.cells_spec.proofs.Dropping.{never_20}
use Rattle.cells_spec.proofs.Stepping.{Free, Acting, same_20, own_acting}
use Rattle.cells.proofs.Quiet.{renames, quiet}

pub refuses : (s : State) (p : List ℕ) (a : After) {o : Math.Option ℕ} {n : ℕ} → some n ≡ o → leaving s p (Refused n) ≡ unless o s p a
refuses s p a e = rw (← e)

module _ (s : State) (p : List ℕ) (t : ℕ) (fits : fit s p ≡ true) where
  abbrev own : Record
  own = record_at s.records t

  -- the questions that the code asks, by whether a block is found
  abbrev asked : Bool → Math.Option ℕ
  asked x = refusal ((6, true) ∷ pool_step_questions s.tasks own t x)

  -- A DROP needs no block

  drop_asked : asked true ≡ refusal (drop_asks s p t)
  drop_asked = rw fits (never_20 true (ltb t s.tasks) (not (is_idle own)) (eqb own.line 4))

  pub drop_refused : {n : ℕ} → some n ≡ asked true → leaving s p (Refused n) ≡ dropped s p t
  unfolding dropped
  drop_refused e = refuses s p (call_withdrawn s p t) (e ∙ drop_asked)

  pub drop_allowed : none ≡ asked true → refusal (drop_asks s p t) ≡ none
  drop_allowed e = sym (e ∙ drop_asked)

  -- A STEP is handed a block at line 4 alone
  module _ (f : Option ℕ) (e : option_of f ≡ cond (eqb own.line 4) (unused s) none) where
    pub handed : Free s own (option_of f)
    handed = go (eqb own.line 4) refl
      where
        go : (b : Bool) → eqb own.line 4 ≡ b → Free s own (option_of f)
        go true h = inl (e ∙ ap (λ b. cond b (unused s) none) h)
        go false h = inr (λ z. false≢true (sym (rw z at h)), e ∙ ap (λ b. cond b (unused s) none) h)

    found : (f : Option ℕ) → is_some f ≡ is_found (option_of f)
    found None = refl
    found (Some b) = refl

    module _ (x : Bool) (is : x ≡ is_some f) where
      step_asked : asked x ≡ refusal (step_asks s p t)
      step_asked = rw fits (ap (λ b. refusal ((6, true) ∷ (7, ltb t s.tasks) ∷ (11, not (is_idle own)) ∷ (20, b) ∷ []))
          (ap (λ b. not (eqb own.line 4) || b) (is ∙ found f) ∙ same_20 s own (option_of f) handed))

      pub step_refused : {n : ℕ} → some n ≡ asked x → leaving s p (Refused n) ≡ stepped s p t
      unfolding stepped
      step_refused h = refuses s p (ran s p t own) (h ∙ step_asked)

      pub step_acts : none ≡ asked x → Acting s p t own
      step_acts h = own_acting s p t (sym (h ∙ step_asked))

pub goes_on : (x : Option Finished) → is_some x ≡ false → answered (Ok x) ≡ Acted
goes_on None e = refl
goes_on (Some f) e = absurd (false≢true (sym e))

-- A STEP THAT ACTS, whose turn leaves u; the state's arrays have their lengths
module _ (s : State) (p : List ℕ) (t : ℕ) (f : Math.Option ℕ) where
  abbrev r : Record
  r = record_at s.records t

  abbrev c : ℕ
  c = current s r.cell

  module _ (free : Free s r f) (a : Acting s p t r) (long : Arrays s) (u : Turned) (e : u ≡ turn p t r c s.last f) where
    -- what is stored is what was handed over
    pub stored_record : record_at (set s.records t u.record) t ≡ u.record
    stored_record = get_or-set_same s.records t u.record idle (omega (arith, a.task, long.1))

    pub stored_block : get_or (set s.current r.cell u.current) r.cell 0 ≡ u.current
    stored_block = get_or-set_same s.current r.cell u.current 0 (omega (arith, a.cell, long.0))

    abbrev Counts : Turned → Type 0
    Counts u = Countable s.counts r u.record c u.current

    pub countable : Countable s.counts r (record_at (set s.records t u.record) t) c (get_or (set s.current r.cell u.current) r.cell 0)
    countable = rw (stored_record, stored_block) (subst Counts (sym e) (a.countable long f free))

    pub recounts : {k : List ℕ} → k ≡ recounted s.counts r (record_at (set s.records t u.record) t) c (get_or (set s.current r.cell u.current) r.cell 0) → k ≡ recounted s.counts r u.record c u.current
    recounts h = rw (stored_record, stored_block) at h

    abbrev Quiet : Turned → Type 0
    Quiet u = u.outcome ≡ Acted → s.counts ≡ recounted s.counts r u.record c u.current

    pub stays : renames r.line ≡ false → u.outcome ≡ Acted → s.counts ≡ recounted s.counts r u.record c u.current
    stays h = subst Quiet (sym e) (λ z. quiet p t r c s.last f a.line s.counts h z (a.countable long f free))

    pub moves : {k : List ℕ} → k ≡ recounted s.counts r u.record c u.current → leaving (with_counts (with_record (with_blocks s r.cell u.current u.last) t u.record) k) u.pool u.outcome ≡ stepped s p t
    moves h = ap (λ (k : List ℕ). leaving (with_counts (with_record (with_blocks s r.cell u.current u.last) t u.record) k) u.pool u.outcome) h ∙ (ap (put_back s t r) e ∙ sym (a.acts f free))
