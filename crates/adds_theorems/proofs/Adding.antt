-- The entries' machine with adds gives the events of the cells' machine with adds over it: from an opening, for every list of requests. So
-- all that is proved of the latter is true of the entries.
use mathlib.Core.Path.{◌≡◌, refl, sym, ap, ◌∙◌, subst}
use mathlib.Core.Logic.{◌≢◌, ◌⊎◌, inl, inr}
use mathlib.Core.Bool.{Bool, true, false, ◌&&◌, ◌||◌, not, cond, and-true, false≢true}
use mathlib.Core.Option.{Option, none, some}
use mathlib.Core.List.{List, [], ◌∷◌, ◌++◌}
use Prim.Native.Nat.{ℕ, zero, suc, ◌+◌, ◌*◌, ◌≤◌, ◌<◌}
use native.Mathlib.Omega.{arith}
use lib.Dec.{eqb, ltb}
use lib.ListN.{get_or, set, length, replicate, length-set}
use lib.Seq.{get_or-set_same, get_or-set_other}
use borrow.Author.Tests.{eq-eqb, ne_eqb, le-leb, lt-ltb, ltb-true}
use Rattle.figure_lines.specs.declared.Record.{Record}
use Rattle.figure_lines.specs.Basics.{ands}
use Rattle.figure_lines.specs.Record.{no_value, is_idle, record_at, first_read}
use Rattle.figure_lines.specs.Answers.{Result}
use Rattle.cells_spec.specs.declared.State.{State}
use Rattle.cells_spec.specs.Questions.{Question, refusal, fit_tests, fit, open_questions, begin_questions}
use Rattle.cells_spec.proofs.Tests.{nth, yes-at, all_from_lem, within_true}
use Rattle.cells_spec.proofs.Further.{refused-first, asked_further}
use Rattle.history_spec.specs.Basics.{upd}
use Rattle.history_spec.specs.History.{Op, read, swap, cell_of, Action, begin, step, drop, Attempt, untried, Response, Value, Yes, No, Report, Event, refused, accepted, answered, history, run, calls_of}
use Rattle.history_spec.proofs.Basics.{either, upd-at, upd_off, replicate_at}
use Rattle.cells_spec.specs.Answers.{Said, Refused, Acted, Ended, NotShown}
use Rattle.cells_spec.specs.Open.{After, leaving, unless, opened}
use Rattle.cells_spec.specs.Begin.{with_record, started, read_begun, swap_begun}
use Rattle.cells_spec.specs.Step.{stepped}
use Rattle.cells_spec.specs.Look.{looked}
use Rattle.cells_spec.specs.Drop.{drop_asks, call_withdrawn, dropped}
use Rattle.cells_spec.specs.Events as Events
use Rattle.cells_spec.specs.Machine.{Pool, pool, begins, tried_by}
use Rattle.cells_spec.proofs.Acts.{step_untouched}
use Rattle.cells_theorems.specs.Terms.{start}
use Rattle.cells_theorems.proofs.Refines.{together, always_fit}
use Rattle.cells_theorems.proofs.Lacking.{never_20}
use Rattle.cells_theorems.proofs.Demand3.{cells_meet_demand_3}
use Rattle.adds_spec.specs.declared.Add.{Add}
use Rattle.adds_spec.specs.Requests.{Request, act, add, RequestEvent, plain, events_of, Over, Spent, fresh_add, with_part, Ahead, part, end, sum_below, try_left, ahead, tries_ok, Handled, handled, onwards, steps_on, add_begins, forgets, handles, with_adds, no_adds}
use Rattle.adds_spec.proofs.Plays.{flat, flat_history, flat_run, run_append}
use Rattle.adds_spec.proofs.Adds.{Part, reading, swapping, doing}
use Rattle.adds_spec.proofs.Reached.{Below}
use Rattle.adds_spec.specs.declared.AddingState.{AddingState}
use Rattle.adds_spec.specs.Adding.{Denies, GoesOn, FinishesCall, AddingAfter, adding_after, unless_denies, no_add, add_at, has_add, with_add, with_cells, add_tests, add_fit, adds_fit, adding_fit, without_add, adding_opened, adding_begun, adding_dropped, first_record, add_questions, add_begun, add_onwards, step_ends, adding_stepped, adding_looked, AddingPool, request_event, adding_pool}
use Rattle.adds_theorems.specs.Terms.{adding_start}
use Rattle.adds_theorems.proofs.Continuing.{pool_continues}
use Rattle.adds_theorems.proofs.SwapKind.{pending_swap_kind}

-- THE ARRAY OF ADDS

abbrev option_of : Add → Option Add
option_of a = cond (eqb a.tries 0) none (some a)

pub record Holds (L : List Add) (f : ℕ → Option Add) : Type 0 where
  pub room : length L ≡ 32
  pub adds : (t : ℕ) → f t ≡ option_of (add_at L t)

holds_set : (L : List Add) (f : ℕ → Option Add) → Holds L f → (t : ℕ) (a : Add) (o : Option Add) → t < 32 → o ≡ option_of a → Holds (set L t a) (upd f t o)
holds_set L f h t a o l e = record { room = length-set L t a ∙ h.room; adds = λ u. go u (either u t) }
  where
    go : (u : ℕ) → (u ≡ t) ⊎ (u ≢ t) → upd f t o u ≡ option_of (add_at (set L t a) u)
    go u (inl z) = upd-at f t o u z ∙ e ∙ ap option_of (sym (ap (λ (u : ℕ). get_or (set L t a) u no_add) z ∙ get_or-set_same L t a no_add (omega (arith, h.room))))
    go u (inr z) = upd_off f t o u z ∙ h.adds u ∙ ap option_of (sym (get_or-set_other L t u a no_add z))

-- an add has at least one try
some-add : (a : Add) → has_add a ≡ true → option_of a ≡ some a
some-add a = go (eqb a.tries 0)
  where
    go : (b : Bool) → not b ≡ true → cond b none (some a) ≡ some a
    go true e = absurd (false≢true e)
    go false e = refl

no_add_lem : (a : Add) → has_add a ≡ false → option_of a ≡ none
no_add_lem a = go (eqb a.tries 0)
  where
    go : (b : Bool) → not b ≡ false → cond b none (some a) ≡ none
    go true e = refl
    go false e = absurd (false≢true (sym e))

clear-same : (L : List Add) (t : ℕ) → get_or (set L t no_add) t no_add ≡ no_add
clear-same [] t = refl
clear-same (x ∷ L) zero = refl
clear-same (x ∷ L) (suc t) = clear-same L t

holds-clear : (L : List Add) (f : ℕ → Option Add) → Holds L f → (t : ℕ) → Holds (set L t no_add) (upd f t none)
holds-clear L f h t = record { room = length-set L t no_add ∙ h.room; adds = λ u. go u (either u t) }
  where
    go : (u : ℕ) → (u ≡ t) ⊎ (u ≢ t) → upd f t none u ≡ option_of (add_at (set L t no_add) u)
    go u (inl z) = upd-at f t none u z ∙ ap option_of (sym (ap (λ (u : ℕ). get_or (set L t no_add) u no_add) z ∙ clear-same L t))
    go u (inr z) = upd_off f t none u z ∙ h.adds u ∙ ap option_of (sym (get_or-set_other L t u no_add no_add z))

-- who has an add is a task
there : (L : List Add) (t : ℕ) → has_add (add_at L t) ≡ true → t < length L
there [] t e = absurd (false≢true e)
there (x ∷ L) zero e = omega arith
there (x ∷ L) (suc t) e = omega (arith, there L t e)

-- BEGINS OF THE CELLS: refused, or the first record of the operation

abbrev BegunAs : Pool → ℕ → Op → After → Type 0
BegunAs x t op r = ((n : ℕ) × (r ≡ leaving x.0 x.1 (Refused n))) ⊎ ((r ≡ started x.0 x.1 t (first_record op)) × (fit x.0 x.1 ≡ true) × (ltb t x.0.tasks ≡ true))

begun-by : (x : Pool) (t : ℕ) (op : Op) (a b : Bool) (m : List Question) → fit x.0 x.1 ≡ a → ltb t x.0.tasks ≡ b → BegunAs x t op (unless (refusal ((6, a) ∷ (7, b) ∷ m)) x.0 x.1 (started x.0 x.1 t (first_record op)))
begun-by x t op false b m e f = inl (6, refl)
begun-by x t op true false m e f = inl (7, refl)
begun-by x t op true true m e f = go (refusal m)
  where
    go : (o : Option ℕ) → BegunAs x t op (unless o x.0 x.1 (started x.0 x.1 t (first_record op)))
    go none = inr (refl, e, f)
    go (some n) = inl (n, refl)

begun_as : (x : Pool) (t : ℕ) (op : Op) → BegunAs x t op (begins x.0 x.1 t op)
unfolding read_begun swap_begun
begun_as x t (read k) = begun-by x t (read k) (fit x.0 x.1) (ltb t x.0.tasks) ((8, ltb k x.0.cells) ∷ (9, is_idle (record_at x.0.records t)) ∷ []) refl refl
begun_as x t (swap k e n) = begun-by x t (swap k e n) (fit x.0 x.1) (ltb t x.0.tasks) ((8, ltb k x.0.cells) ∷ (9, is_idle (record_at x.0.records t)) ∷ (10, not (eqb e no_value) && not (eqb n no_value)) ∷ []) refl refl

-- an entry that ends no call: it refuses and leaves all as it was, or acts
abbrev RefusesOrActs : Pool → After → Type 0
RefusesOrActs x r = ((n : ℕ) × (r ≡ leaving x.0 x.1 (Refused n))) ⊎ (r.outcome ≡ Acted)

begin-acts : (x : Pool) (t : ℕ) (op : Op) (r : After) → BegunAs x t op r → RefusesOrActs x r
begin-acts x t op r (inl e) = inl e
begin-acts x t op r (inr (e, i, j)) = inr (ap (λ (r : After). r.outcome) e)

drop-acts : (x : Pool) (t : ℕ) → RefusesOrActs x (dropped x.0 x.1 t)
unfolding dropped
drop-acts x t = go (refusal (drop_asks x.0 x.1 t))
  where
    go : (o : Option ℕ) → RefusesOrActs x (unless o x.0 x.1 (call_withdrawn x.0 x.1 t))
    go none = inr refl
    go (some n) = inl (n, refl)

few-tasks : (x : Pool) (t : ℕ) → fit x.0 x.1 ≡ true → ltb t x.0.tasks ≡ true → t < 32
unfolding fit
few-tasks x t e l = omega (arith, (within_true x.0.tasks 1 32 (nth (fit_tests x.0 x.1) e 0)).1, ltb-true t x.0.tasks l)

-- ONE REQUEST

abbrev beside : Pool → List Add → AddingPool
beside x L = (record { cells = x.0; adds = L }, x.1)

-- what the entries leave is what the layer leaves
pub record Follows (x : Pool) (L : List Add) (q : Request) (T : Handled Pool) : Type 0 where
  pub list : List Add
  pub same : adding_pool (beside x L) q ≡ (beside T.state list, T.gave.event)
  pub holds : Holds list T.adds

module _ (x : Pool) (L : List Add) (f : ℕ → Option Add) (h : Holds L f) (fits : adds_fit (record { cells = x.0; adds = L }) ≡ true) where
  abbrev s : AddingState
  s = record { cells = x.0; adds = L }

  -- A BEGIN OF A READ OR A SWAP, A DROP: the task has no add then

  -- what is left, where the entry's definition comes to a
  abbrev Left : AddingAfter → Attempt → Pool → RequestEvent → (ℕ → Option Add) → Type 0
  Left a y z e g = (list : List Add) × (◌≡◌ {A = AddingPool × RequestEvent} ((a.state, a.pool), request_event y a.said) (beside z list, e)) × Holds list g

  none_left : (t : ℕ) (r : After) → RefusesOrActs x r → Left (without_add s x.1 t r) untried (r.state, r.pool) (plain (Events.event_of untried r.outcome)) (forgets no_value pool f t (Events.event_of untried r.outcome))
  none_left t r (inl (n, e)) = rw (e, fits) (L, refl, h)
  none_left t r (inr e) = rw (e, fits) (set L t no_add, refl, holds-clear L f h t)

  plain-begin : (t : ℕ) (op : Op) → Follows x L (act (begin t op)) (handles no_value pool x f (act (begin t op)))
  unfolding adding_begun
  plain-begin t op = let r = begins x.0 x.1 t op in let g = none_left t r (begin-acts x t op r (begun_as x t op)) in record { list = g.0; same = g.1; holds = g.2 }

  plain-drop : (t : ℕ) → Follows x L (act (drop t)) (handles no_value pool x f (act (drop t)))
  unfolding adding_dropped
  plain-drop t = let g = none_left t (dropped x.0 x.1 t) (drop-acts x t) in record { list = g.0; same = g.1; holds = g.2 }

  -- THE BEGIN OF AN ADD

  module _ (t k d n : ℕ) where
    abbrev first : List Question
    first = (6, fit x.0 x.1) ∷ begin_questions x.0.tasks x.0.cells (record_at x.0.records t) t k

    abbrev add_after : Option ℕ → AddingAfter
    add_after o = unless_denies o s x.1 (adding_after (with_add s (with_record x.0 t (first_read k)) t (fresh_add d n)) x.1 GoesOn)

    asked : refusal (add_questions s x.1 t k n) ≡ refusal (first ++ ((23, tries_ok n) ∷ []))
    asked = ap (λ (b : Bool). refusal ((6, b) ∷ (begin_questions x.0.tasks x.0.cells (record_at x.0.records t) t k ++ ((23, tries_ok n) ∷ [])))) (ap (λ (b : Bool). fit x.0 x.1 && b) fits ∙ and-true (fit x.0 x.1))

    abbrev layer : After → Handled Pool
    layer r = add_begins no_value pool x (r.state, r.pool) f t k d n (Events.event_of untried r.outcome)

    -- of the read's begin, refused or not
    add_left : (o : Option ℕ) → refusal first ≡ o → let T = layer (unless o x.0 x.1 (started x.0 x.1 t (first_read k))) in Left (add_after (refusal (first ++ ((23, tries_ok n) ∷ [])))) untried T.state T.gave.event T.adds
    add_left (some z) e = rw (refused-first first ((23, tries_ok n) ∷ []) z e) (L, refl, h)
    add_left none e = rw (asked_further first ((23, tries_ok n) ∷ []) e) (test (tries_ok n) refl)
      where
        test : (b : Bool) → tries_ok n ≡ b → let T = cond b (handled no_value pool (with_record x.0 t (first_read k), x.1) (upd f t (some (fresh_add d n))) ((begin t (read k), accepted untried) ∷ []) (plain (accepted untried))) (handled no_value pool x f [] (plain (refused 23))) in
            Left (add_after (cond b none (some 23))) untried T.state T.gave.event T.adds
        test false z = (L, refl, h)
        test true z = (set L t (fresh_add d n), refl, holds_set L f h t (fresh_add d n) (some (fresh_add d n)) (few-tasks x t (yes-at first e 0) (yes-at first e 1)) (sym (some-add (fresh_add d n) (has n z))))
          where
            has : (n : ℕ) → tries_ok n ≡ true → not (eqb n 0) ≡ true
            has n z = rw (ne_eqb n 0 (λ y. omega (arith, (within_true n 1 8 z).0)))

    add_begin : Follows x L (add t k d n) (handles no_value pool x f (add t k d n))
    unfolding add_begun read_begun
    add_begin = let g = add_left (refusal first) refl in record { list = g.0; same = ap (λ (o : Option ℕ). let a = add_after o in ((a.state, a.pool), request_event untried a.said)) asked ∙ g.1; holds = g.2 }

  -- A STEP. `more`: the begin of a next part is accepted.

  -- an accepted begin leaves the operation's first record
  begun-state : (y : Pool) (t : ℕ) (op : Op) → (pool y (begin t op)).1 ≡ accepted untried → (pool y (begin t op)).0 ≡ (with_record y.0 t (first_record op), y.1)
  begun-state y t op = go (begins y.0 y.1 t op) (begun_as y t op)
    where
      go : (r : After) → BegunAs y t op r → Events.event_of untried r.outcome ≡ accepted untried → ◌≡◌ {A = Pool} (r.state, r.pool) (with_record y.0 t (first_record op), y.1)
      go r (inl (n, e)) z = absurd (let w : refused n ≡ accepted untried = sym (ap (λ (r : After). Events.event_of untried r.outcome) e) ∙ z in let v : ◌≡◌ {A = ℕ} 0 1 = cc in omega arith)
      go r (inr (e, i, j)) z = ap (λ (r : After). (r.state, r.pool)) e

  -- the next part is of the same add
  same_add : (a : Add) (r : Report) (z : Response) (op : Op) (n : Add) → ahead no_value a r z ≡ part op n → (n.tries ≡ a.tries) × (cell_of op ≡ r.cell) × Below no_value op
  same_add a r (Value v) op n = go (sum_below no_value a v) refl
    where
      go : (b : Bool) → sum_below no_value a v ≡ b → cond b (part (swap r.cell v (v + a.amount)) (with_part a r 0)) (end Over) ≡ part op n → (n.tries ≡ a.tries) × (cell_of op ≡ r.cell) × Below no_value op
      go true z e =
          let w : with_part a r 0 ≡ n = cc in
          let u : swap r.cell v (v + a.amount) ≡ op = cc in
          let l = ltb-true _ _ z in
          (sym (ap (λ (a : Add). a.tries) w), sym (ap cell_of u), subst (Below no_value) u (omega (arith, l), l))
      go false z e = absurd (let w : ◌≡◌ {A = ℕ} 0 1 = cc in omega arith)
  same_add a r Yes op n = λ e. absurd (let w : ◌≡◌ {A = ℕ} 0 1 = cc in omega arith)
  same_add a r No op n = go (try_left a)
    where
      go : (b : Bool) → cond b (part (read r.cell) (with_part a r 1)) (end Spent) ≡ part op n → (n.tries ≡ a.tries) × (cell_of op ≡ r.cell) × Below no_value op
      go true e =
          let w : with_part a r 1 ≡ n = cc in
          let u : read r.cell ≡ op = cc in
          (sym (ap (λ (a : Add). a.tries) w), sym (ap cell_of u), subst (Below no_value) u tt)
      go false e = absurd (let w : ◌≡◌ {A = ℕ} 0 1 = cc in omega arith)

  module _ (t : ℕ) (y : Attempt) where
    abbrev a : Add
    a = add_at L t

    onwards-left : (r : After) (g : Result) (w : Ahead) → ahead no_value a (Events.report_of g) g.answer ≡ w → has_add a ≡ true →
        ((op : Op) (n : Add) → w ≡ part op n → (pool (r.state, r.pool) (begin t op)).1 ≡ accepted untried) →
        let T = onwards no_value pool (r.state, r.pool) f t a y (Events.report_of g) w in Left (add_onwards s r.state r.pool t a g w) y T.state T.gave.event T.adds
    onwards-left r g (end z) e has more = (set L t no_add, refl, holds-clear L f h t)
    onwards-left r g (part op n) e has more =
        let b = begun-state (r.state, r.pool) t op (more op n refl) in
        let tries = (same_add a (Events.report_of g) g.answer op n e).0 in
        (set L t n, ap (λ (z : Pool). (beside z (set L t n), plain (accepted y))) (sym b), holds_set L f h t n (some n) (omega (arith, there L t has, h.room)) (sym (some-add n (ap (λ (k : ℕ). not (eqb k 0)) tries ∙ has))))

    step_left : (r : After) (o : Said) → r.outcome ≡ o → ((n : ℕ) → o ≡ Refused n → r ≡ leaving x.0 x.1 (Refused n)) →
        ((g : Result) (op : Op) (n : Add) → o ≡ Ended g → has_add a ≡ true → ahead no_value a (Events.report_of g) g.answer ≡ part op n → (pool (r.state, r.pool) (begin t op)).1 ≡ accepted untried) →
        let T = steps_on no_value pool (r.state, r.pool) f t (option_of a) (Events.event_of y o) in Left (step_ends s t a r o) y T.state T.gave.event T.adds
    step_left r o e unt more = go (eqb a.tries 0) refl o unt more
      where
        go : (b : Bool) → eqb a.tries 0 ≡ b → (o : Said) → ((n : ℕ) → o ≡ Refused n → r ≡ leaving x.0 x.1 (Refused n)) →
            ((g : Result) (op : Op) (n : Add) → o ≡ Ended g → has_add a ≡ true → ahead no_value a (Events.report_of g) g.answer ≡ part op n → (pool (r.state, r.pool) (begin t op)).1 ≡ accepted untried) →
            let T = steps_on no_value pool (r.state, r.pool) f t (cond b none (some a)) (Events.event_of y o) in Left (step_ends s t a r o) y T.state T.gave.event T.adds
        go true z (Refused n) unt more = (L, ap (λ (c : State). (beside (c, r.pool) L, plain (refused n))) (sym (ap (λ (r : After). r.state) (unt n refl))), h)
        go false z (Refused n) unt more = (L, ap (λ (c : State). (beside (c, r.pool) L, plain (refused n))) (sym (ap (λ (r : After). r.state) (unt n refl))), h)
        go true z Acted unt more = (L, refl, h)
        go false z Acted unt more = (L, refl, h)
        go true z (Ended g) unt more = rw z (L, refl, h)
        go false z (Ended g) unt more =
            let has : has_add a ≡ true = ap not z in
            subst (λ (b : Bool). let T = onwards no_value pool (r.state, r.pool) f t a y (Events.report_of g) (ahead no_value a (Events.report_of g) g.answer) in
            Left (cond b (add_onwards s r.state r.pool t a g (ahead no_value a (Events.report_of g) g.answer)) (adding_after (with_cells s r.state) r.pool (FinishesCall g))) y T.state T.gave.event T.adds) (sym has)
            (onwards-left r g (ahead no_value a (Events.report_of g) g.answer) refl has (λ op n w. more g op n refl has w))

  plain_step : (t : ℕ) → ((y : Attempt) (r : Report) (op : Op) → (pool x (step t)).1 ≡ answered y r → cell_of op ≡ r.cell → Below no_value op → (pool (pool x (step t)).0 (begin t op)).1 ≡ accepted untried) → Follows x L (act (step t)) (handles no_value pool x f (act (step t)))
  unfolding adding_stepped
  plain_step t continues =
      let r = stepped x.0 x.1 t in
      let y = tried_by x.0 x.1 (step t) in
      let g = step_left t y r r.outcome refl (step_untouched x.0 x.1 t) (λ g op n e has w. let q = same_add (add_at L t) (Events.report_of g) g.answer op n w in continues y (Events.report_of g) op (ap (Events.event_of y) e) q.1 q.2) in
      let k = subst (λ (o : Option Add). let T = steps_on no_value pool (r.state, r.pool) f t o (Events.event_of y r.outcome) in Left (step_ends s t (add_at L t) r r.outcome) y T.state T.gave.event T.adds) (sym (h.adds t)) g in
      record {
        list = k.0;
        same = ap (λ (b : Bool). let a = cond b (step_ends s t (add_at L t) r r.outcome) (adding_after s x.1 (Denies 6)) in ((a.state, a.pool), request_event y a.said)) fits ∙ k.1;
        holds = k.2;
      }

  -- any request
  pub one_request : ((t : ℕ) (y : Attempt) (r : Report) (op : Op) → (pool x (step t)).1 ≡ answered y r → cell_of op ≡ r.cell → Below no_value op → (pool (pool x (step t)).0 (begin t op)).1 ≡ accepted untried) → (q : Request) → Follows x L q (handles no_value pool x f q)
  one_request continues (act (begin t op)) = plain-begin t op
  one_request continues (act (step t)) = plain_step t (continues t)
  one_request continues (act (drop t)) = plain-drop t
  one_request continues (add t k d n) = add_begin t k d n

-- FROM AN OPENING

or_true : (a b : Bool) → b ≡ true → (a || b) ≡ true
or_true true b e = refl
or_true false b e = e

module _ (old : State) (words : List ℕ) (tasks cells blocks : ℕ) (values : List ℕ) (allowed : refusal (open_questions (length words) tasks cells blocks values) ≡ none) where
  abbrev x₀ : Pool
  x₀ = start old words tasks cells blocks values

  abbrev after : List Request → Pool × (ℕ → Option Add)
  after l = run (with_adds no_value pool) (x₀, no_adds) l

  plainly : (l : List Request) → (after l).0 ≡ run pool x₀ (flat no_value pool x₀ no_adds l)
  plainly l = flat_run no_value pool l x₀ no_adds

  same-tasks : (l : List Request) → (after l).0.0.tasks ≡ tasks
  same-tasks l = ap (λ (x : Pool). x.0.tasks) (plainly l) ∙ (together old words tasks cells blocks values allowed (flat no_value pool x₀ no_adds l)).agree.sizes.same-tasks

  -- QUESTION 6: every add under way keeps to its limits
  module _ (l : List Request) (L : List Add) (h : Holds L (after l).1) where
    abbrev r : ℕ → Record
    r t = record_at (after l).0.0.records t

    within_limits : (a : Add) (k : Bool) (cell amount : ℕ) (op : Op) → Part a cell amount op → ((c e n : ℕ) → op ≡ swap c e n → k ≡ true) → (a.steps ≤ 27 * a.failed + cond k 6 0) × (a.won + a.lost ≤ 4 * a.failed + cond k 1 0)
    within_limits a true cell amount op (reading h i) s = (omega arith, omega arith)
    within_limits a false cell amount op (reading h i) s = (omega arith, omega arith)
    within_limits a true cell amount op (swapping v h i) s = (omega arith, omega arith)
    within_limits a false cell amount op (swapping v h i) s = absurd (false≢true (s cell v (v + amount) refl))

    add-fits : (t : ℕ) → t < (after l).0.0.tasks → add_fit (add_at L t) (r t) ≡ true
    unfolding add_fit
    add-fits t i = or_true (is_idle (r t)) _ (go (has_add (add_at L t)) refl)
      where
        a : Add
        a = add_at L t

        go : (b : Bool) → has_add (add_at L t) ≡ b → (not b || ands (add_tests (add_at L t) (r t))) ≡ true
        go false e = refl
        go true e =
            let m = doing no_value pool x₀ (cells_meet_demand_3 old words tasks cells blocks values allowed) (pool_continues old words tasks cells blocks values allowed) l t (add_at L t) (h.adds t ∙ some-add (add_at L t) e) in
            let w = within_limits (add_at L t) (eqb (r t).kind 2) m.add.start.cell m.add.start.amount m.call.start.op m.runs.its
            (λ c e n o. eq-eqb (r t).kind 2 (ap (λ (x : Pool). (record_at x.0.records t).kind) (plainly l) ∙ pending_swap_kind old words tasks cells blocks values allowed (flat no_value pool x₀ no_adds l) t m.call c e n (omega (arith, i, same-tasks l))
            (ap (λ (h : List (Action × Event)). (calls_of h).pending t) (sym (flat_history no_value pool l x₀ no_adds)) ∙ m.busy) o)) in
            rw (le-leb 1 (add_at L t).tries m.runs.some-tries, le-leb (add_at L t).tries 8 m.runs.few-tries, lt-ltb (add_at L t).failed (add_at L t).tries m.runs.fewer, le-leb _ _ w.0, le-leb _ _ w.1)

    all_fit : adds_fit (record { cells = (after l).0.0; adds = L }) ≡ true
    unfolding adds_fit
    all_fit = all_from_lem (λ t. add_fit (add_at L t) (r t)) 0 (after l).0.0.tasks (λ t i j. add-fits t (omega arith))

  -- EVERY LIST OF REQUESTS

  -- what the entries give and leave, from the layer's state y with the adds L beside it
  record Ran (y : Pool × (ℕ → Option Add)) (L : List Add) (l : List Request) : Type 0 where
    events : history adding_pool (beside y.0 L) l ≡ events_of (history (with_adds no_value pool) y l)
    list : List Add
    left : run adding_pool (beside y.0 L) l ≡ beside (run (with_adds no_value pool) y l).0 list
    holds : Holds list (run (with_adds no_value pool) y l).1

  ran : (l pre : List Request) (L : List Add) → Holds L (after pre).1 → Ran (after pre) L l
  ran [] pre L h = record { events = refl; list = L; left = refl; holds = h }
  ran (q ∷ l) pre L h =
      let x = (after pre).0 in
      let f = (after pre).1 in
      let T = handles no_value pool x f q in
      let go = one_request x L f h (all_fit pre L h)
      (λ t y r op e k b. subst (λ (x : Pool). (pool (pool x (step t)).0 (begin t op)).1 ≡ accepted untried) (sym (plainly pre)) (pool_continues old words tasks cells blocks values allowed (flat no_value pool x₀ no_adds pre) t y r op (subst (λ (x : Pool). (pool x (step t)).1 ≡ answered y r) (plainly pre) e) k b)) q in
      let next : after (pre ++ (q ∷ [])) ≡ (T.state, T.adds) = run_append (with_adds no_value pool) (x₀, no_adds) pre (q ∷ []) in
      let rest = subst (λ (y : Pool × (ℕ → Option Add)). Ran y go.list l) next (ran l (pre ++ (q ∷ [])) go.list (subst (λ (y : Pool × (ℕ → Option Add)). Holds go.list y.1) (sym next) go.holds)) in
      record {
        events = ap (λ (z : AddingPool × RequestEvent). (q, z.1) ∷ history adding_pool z.0 l) go.same ∙ ap (λ (h : List (Request × RequestEvent)). (q, T.gave.event) ∷ h) rest.events;
        list = rest.list;
        left = ap (λ (z : AddingPool × RequestEvent). run adding_pool z.0 l) go.same ∙ rest.left;
        holds = rest.holds;
      }

  from_opening : (l : List Request) → Ran (x₀, no_adds) (replicate 32 no_add) l
  from_opening l = ran l [] (replicate 32 no_add) (record { room = refl; adds = λ t. ap option_of (sym (replicate_at no_add 32 t)) })

  -- An opening that is not refused leaves the opened cells, and no add.
  pub adds_open : (adds : List Add) →
      adding_opened (record { cells = old; adds = adds }) words tasks cells blocks values ≡ let x = adding_start old words tasks cells blocks values in adding_after x.0 x.1 GoesOn
  unfolding adding_opened opened
  adds_open L = rw allowed

  -- The entries with adds, from an opening, give the events of the cells' machine with adds over it, for every list of requests: what is proved
  -- of those lists is true of the entries.
  pub same_requests : (requests : List Request) → history adding_pool (adding_start old words tasks cells blocks values) requests ≡ events_of (history (with_adds no_value pool) (start old words tasks cells blocks values, no_adds) requests)
  same_requests l = (from_opening l).events

  -- And their look shows what look shows of the cells.
  pub same_looks : (requests : List Request) (cell : ℕ) →
      let entries = run adding_pool (adding_start old words tasks cells blocks values) requests in
      let now = (run (with_adds no_value pool) (start old words tasks cells blocks values, no_adds) requests).0 in
      adding_looked entries.0 entries.1 cell ≡ looked now.0 now.1 cell
  unfolding adding_looked
  same_looks l k = let r = from_opening l in ap (λ (x : AddingPool). cond (adds_fit x.0) (looked x.0.cells x.1 k) (NotShown 6)) r.left ∙ rw (all_fit l r.list r.holds)

  -- The state is fit after any requests: question 6 is never answered no.
  pub adds_always_fit : (requests : List Request) → let now = run adding_pool (adding_start old words tasks cells blocks values) requests in adding_fit now.0 now.1 ≡ true
  adds_always_fit l =
      let r = from_opening l in
      let fits : fit (after l).0.0 (after l).0.1 ≡ true = ap (λ (x : Pool). fit x.0 x.1) (plainly l) ∙ always_fit old words tasks cells blocks values allowed (flat no_value pool x₀ no_adds l) in
      ap (λ (x : AddingPool). adding_fit x.0 x.1) r.left ∙ rw (fits, all_fit l r.list r.holds)

  abbrev first_event : List (Request × RequestEvent) → RequestEvent
  first_event [] = plain (refused 20)
  first_event (x ∷ h) = x.1

  -- of the layer's events
  never_there : (x : Pool) (f : ℕ → Option Add) → ((a : Action) → (pool x a).1 ≡ refused 20 → ⊥) → (q : Request) → (handles no_value pool x f q).gave.event ≡ plain (refused 20) → ⊥
  never_there x f h (act (begin t op)) e = h (begin t op) cc
  never_there x f h (act (drop t)) e = h (drop t) cc
  never_there x f h (act (step t)) e = go (f t) (pool x (step t)).1 (h (step t)) e
    where
      go : (o : Option Add) (y : Event) → (y ≡ refused 20 → ⊥) → (steps_on no_value pool (pool x (step t)).0 f t o y).gave.event ≡ plain (refused 20) → ⊥
      go none y h e = h cc
      go (some a) (refused n) h e = h cc
      go (some a) (accepted y) h e = h cc
      go (some a) (answered y r) h e = next (ahead no_value a r r.answer) e
        where
          next : (w : Ahead) → (onwards no_value pool (pool x (step t)).0 f t a y r w).gave.event ≡ plain (refused 20) → ⊥
          next (part op n) e = let v : ◌≡◌ {A = ℕ} 0 1 = cc in omega arith
          next (end z) e = let v : ◌≡◌ {A = ℕ} 0 1 = cc in omega arith
  never_there x f h (add t k d n) e = go (pool x (begin t (read k))).1 (h (begin t (read k))) e
    where
      go : (y : Event) → (y ≡ refused 20 → ⊥) → (add_begins no_value pool x (pool x (begin t (read k))).0 f t k d n y).gave.event ≡ plain (refused 20) → ⊥
      go (refused m) h e = h cc
      go (answered y r) h e = let v : ◌≡◌ {A = ℕ} 0 1 = cc in omega arith
      go (accepted y) h e = test (tries_ok n) e
        where
          test : (b : Bool) → (cond b (handled no_value pool (pool x (begin t (read k))).0 (upd f t (some (fresh_add d n))) ((begin t (read k), accepted y) ∷ []) (plain (accepted y))) (handled no_value pool x f [] (plain (refused 23)))).gave.event ≡ plain (refused 20) → ⊥
          test true e = let v : ◌≡◌ {A = ℕ} 0 1 = cc in omega arith
          test false e = let v : ◌≡◌ {A = ℕ} 20 23 = cc in omega arith

  -- No request is refused with 20.
  pub adds_never_20 : (requests : List Request) (request : Request) → (adding_pool (run adding_pool (adding_start old words tasks cells blocks values) requests) request).1 ≡ plain (refused 20) → ⊥
  adds_never_20 l q e =
      let r = from_opening l in
      let next = ap first_event (ran (q ∷ []) l r.list r.holds).events in
      never_there (after l).0 (after l).1 (λ a z. never_20 old words tasks cells blocks values allowed (flat no_value pool x₀ no_adds l) a (ap (λ (x : Pool). (pool x a).1) (sym (plainly l)) ∙ z)) q
      (sym next ∙ ap (λ (x : AddingPool). (adding_pool x q).1) (sym r.left) ∙ e)
