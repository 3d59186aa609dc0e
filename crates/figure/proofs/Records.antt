-- A pending call stands on one of the thirteen paths, with the counts of the lines that it did; so records are well_formed.
use mathlib.Core.Path.{◌≡◌, refl, sym, ap, ◌∙◌}
use mathlib.Core.Logic.{◌≢◌, ◌⊎◌, inl, inr}
use mathlib.Core.Bool.{Bool, true, false, ◌&&◌, ◌||◌, not, cond, false≢true}
use mathlib.Core.Option.{Option, none, some}
use mathlib.Core.List.{List, [], ◌∷◌, ◌++◌}
use Prim.Native.Nat.{ℕ, ◌+◌, ◌≤◌, ◌<◌}
use native.Mathlib.Omega.{arith}
use lib.Dec.{leb, ltb, T, leb→le, ltb→lt}
use borrow.Author.Tests.{ltb-true, lt-ltb, eq-eqb, ne_eqb}
use Rattle.figure_lines.specs.declared.Record.{Record}
use Rattle.cells_spec.specs.Answers.{Refused, Acted}
use Rattle.figure_lines.specs.Answers.{Next, Go, Done}
use Rattle.figure_lines.specs.Record.{idle, is_idle, op_of}
use Rattle.figure_lines.specs.Lines.{Line, line_at, line_of, access_at, access_of, attempt, counted, next_of, hardware}
use Rattle.figure_cell.proofs.Tries.{tries}
use Rattle.cells_spec.specs.Questions.{Question, refusal, of_kind, reads, swaps, line_fit, values_fit, begin_questions, swap_questions, step_questions}
use Rattle.history_spec.specs.Basics.{upd, ◌∈◌}
use Rattle.history_spec.specs.History.{Op, read, swap, cell_of, kind_of, Action, begin, step, drop, Report, untried, wins, losses, run}
use Rattle.history_spec.proofs.Basics.{either, upd-at, upd_same, upd_off, upd-cases}
use Rattle.figure_cell.specs.Memory.{Cell, access_cell}
use Rattle.cells_spec.specs.Turn.{record_after, outcome_of}
use Rattle.figure.specs.Figure.{World, with_task, with_both, WorldAfter, world_after, unless_refused, figure_ran, figure_stepped, figure_begun, figure_dropped, opening, figure, tried_in, first_of}
use Rattle.cells_spec.specs.Events.{report_of, event_of}
use Rattle.figure_cell.specs.Paths.{access_count}
use Rattle.figure.specs.Traces.{Trace, did_line, enter_line}
use Rattle.figure_cell.specs.Paths as Paths
use Rattle.history_spec.proofs.ListTests.{every, every_in, both, imp}
use Rattle.figure_cell.proofs.AsBegun.{kind_of_lem, cell_of_lem}
use Rattle.figure_cell.proofs.LineLaws.{every_line, lines, before, extends_in, ways_of, hardware_alike, Leads, goes, done, leads}

-- A CALL AND THE LINES THAT IT DID

-- a pending call that did these lines, on one of `v` cells
pub record Pending (v : ℕ) (did : List Line) (q : Record) : Type 0 where
  pub cell : q.cell < v
  pub line : line_fit q ≡ true
  pub values : values_fit q ≡ true
  pub steps : q.steps ≡ Paths.steps did
  pub hard : q.won + q.lost ≡ access_count hardware did
  pub lines : did ∈ before (line_of q)

-- a finished call of this operation, with these lines and this report
pub record Complete (op : Op) (lines : List Line) (r : Report) : Type 0 where
  pub path : lines ∈ ways_of op r.answer
  pub all-steps : r.steps ≡ Paths.steps lines
  pub all-hard : r.won + r.lost ≡ access_count hardware lines
  pub kind : r.kind ≡ kind_of op
  pub cell : r.cell ≡ cell_of op

pub steps_on_lem : (d : List Line) (l : Line) → Paths.steps (d ++ (l ∷ [])) ≡ Paths.steps d + 1
steps_on_lem [] l = refl
steps_on_lem (a ∷ d) l = omega (arith, steps_on_lem d l)

hardware_on : (d : List Line) (l : Line) → access_count hardware (d ++ (l ∷ [])) ≡ access_count hardware d + hardware (access_at l 0 idle)
hardware_on [] l = omega arith
hardware_on (a ∷ d) l = omega (arith, hardware_on d l)

-- a read has the lines of a read
reading : (q : Record) → q.kind ≡ 1 → line_fit q ≡ true → of_kind (line_of q) true false ≡ true
reading q e k = rw e at k

pub not_idle : (q : Record) → line_fit q ≡ true → is_idle q ≡ false
not_idle q k = ne_eqb q.line 0 (λ e. false≢true (rw e at k))

abbrev few : ℕ → ℕ → List Line → Bool
few n x d = ltb (Paths.steps d) n && leb (access_count hardware d) x

module _ (v : ℕ) (did : List Line) (q : Record) (o : Pending v did q) where
  pub led : (t x : ℕ) → Leads (line_of q) (counted q (attempt (access_of t q) x)) (next_of t q x)
  led t x = leads (line_of q) t (counted q (attempt (access_of t q) x)) x refl o.line

  -- what its next line makes of it
  abbrev pub Then : Next → Type 0
  Then (Go r) = Pending v (did ++ (line_of q ∷ [])) r
  Then (Done f) = Complete (op_of q) (did ++ (line_of q ∷ [])) (report_of f)

  pub one_line : (t x : ℕ) → Then (next_of t q x)
  one_line t x = go (led t x)
    where
      steps : q.steps + 1 ≡ Paths.steps (did ++ (line_of q ∷ []))
      steps = omega (arith, steps_on_lem did (line_of q), o.steps)

      hard : (q.won + wins (attempt (access_of t q) x)) + (q.lost + losses (attempt (access_of t q) x)) ≡ access_count hardware (did ++ (line_of q ∷ []))
      hard = omega (arith, hardware_on did (line_of q), hardware_alike (line_of q) t q, tries (access_of t q) x, o.hard)

      go : {n : Next} → Leads (line_of q) (counted q (attempt (access_of t q) x)) n → Then n
      go (goes {n = n} {w = w} h) = record {
        cell = o.cell;
        line = sym (h.1 (reads q) (swaps q)) ∙ o.line;
        values = o.values;
        steps = steps;
        hard = hard;
        lines = extends_in (line_of q) (before (line_at n w)) h.0 did o.lines;
      }
      go (done {a} h) = record { path = extends_in (line_of q) (ways_of (op_of q) a) h did o.lines; all-steps = steps; all-hard = hard; kind = kind_of_lem q; cell = sym (cell_of_lem q) }

  -- bounds, found by computing over all that may stand before a line that passes the test
  bounded : (n x : ℕ) (test : Line → Bool) → T (every (λ l. every (few n x) (before l) || not (test l)) lines) → test (line_of q) ≡ true → (q.steps < n) × (q.won + q.lost ≤ x)
  bounded n x test h e =
      let all = imp (test (line_of q)) (every (few n x) (before (line_of q))) (every_line (λ l. every (few n x) (before l) || not (test l)) h (line_of q)) e in
      let k = both (ltb (Paths.steps did) n) _ (every_in (few n x) (before (line_of q)) all did o.lines) in
      let s = ltb→lt (Paths.steps did) n k.0 in
      let m = leb→le (access_count hardware did) x k.1 in
      (omega (arith, o.steps), omega (arith, o.hard))

  pub pending-bounds : (q.steps < 21) × (q.won + q.lost ≤ 3)
  pending-bounds = bounded 21 3 (λ l. true) tt refl

  pub read-bounds : q.kind ≡ 1 → (q.steps < 6) × (q.won + q.lost ≤ 1)
  read-bounds e = bounded 6 1 (λ l. of_kind l true false) tt (reading q e o.line)

-- THE FIGURE'S ACTIONS

-- questions and what comes of them: all are answered yes, or not all and a number is given
abbrev pub AllYes : List Question → Type 0
AllYes [] = Unit {0}
AllYes (x ∷ l) = (x.1 ≡ true) × AllYes l

pub data Asked (l : List Question) : Option ℕ → Type 0 where
  denied : (n : ℕ) → ¬ AllYes l → Asked l (some n)
  granted : AllYes l → Asked l none

pub ask : (l : List Question) → Asked l (refusal l)
ask [] = granted tt
ask (x ∷ l) = go x.1 refl (ask l)
  where
    go : (b : Bool) → x.1 ≡ b → {o : Option ℕ} → Asked l o → Asked (x ∷ l) (cond b o (some x.0))
    go true e (denied n h) = denied n (λ y. h y.1)
    go true e (granted y) = granted (e, y)
    go false e a = denied x.0 (λ y. false≢true (sym e ∙ y.0))

-- what an accepted begin was asked
pub record Accepted (w : World) (t : ℕ) (op : Op) : Type 0 where
  pub task : t < w.tasks
  pub cell : cell_of op < w.cells
  pub free : is_idle (w.records t) ≡ true
  pub values : values_fit (first_of op) ≡ true

pub data Begun (w : World) (t : ℕ) (op : Op) : WorldAfter → Type 0 where
  refuses : (n : ℕ) → Begun w t op (world_after w (Refused n))
  starts : Accepted w t op → Begun w t op (world_after (with_task w t (first_of op)) Acted)

pub begin-cases : (w : World) (t : ℕ) (op : Op) → Begun w t op (figure_begun w t op)
unfolding figure_begun
begin-cases w t op = go op
  where
    by : (op : Op) {l : List Question} {o : Option ℕ} → Asked l o → (AllYes l → Accepted w t op) → Begun w t op (unless_refused o w (world_after (with_task w t (first_of op)) Acted))
    by op (denied n h) f = refuses n
    by op (granted y) f = starts (f y)

    go : (op : Op) → Begun w t op (figure_begun w t op)
    go (read k) = by (read k) (ask (begin_questions w.tasks w.cells (w.records t) t k))
        (λ y. record { task = ltb-true _ _ y.0; cell = ltb-true _ _ y.1.0; free = y.1.1.0; values = refl })
    go (swap k e n) = by (swap k e n) (ask (swap_questions w.tasks w.cells (w.records t) t k e n))
        (λ y. record { task = ltb-true _ _ y.0; cell = ltb-true _ _ y.1.0; free = y.1.1.0; values = y.1.1.1.0 })

-- a task is idle, or there is such a task and its pending call did these lines
abbrev pub OnPath : (tasks cells t : ℕ) → List Line → Record → Type 0
OnPath n v t did q = ((q ≡ idle) × (did ≡ [])) ⊎ ((t < n) × Pending v did q)

-- a step is refused where no call is pending, and only there
pub data Stepped (w : World) (t : ℕ) (did : List Line) : WorldAfter → Type 0 where
  refuses : (n : ℕ) → w.records t ≡ idle → Stepped w t did (world_after w (Refused n))
  runs : t < w.tasks → Pending w.cells did (w.records t) → Stepped w t did (figure_ran w t (w.records t))

pub step-cases : (w : World) (t : ℕ) (did : List Line) → OnPath w.tasks w.cells t did (w.records t) → Stepped w t did (figure_stepped w t)
unfolding figure_stepped
step-cases w t did p = go (ask (step_questions w.tasks (w.records t) t)) p
  where
    go : {o : Option ℕ} → Asked (step_questions w.tasks (w.records t) t) o → OnPath w.tasks w.cells t did (w.records t) → Stepped w t did (unless_refused o w (figure_ran w t (w.records t)))
    go (denied n h) (inl i) = refuses n i.0
    go (denied n h) (inr (m, o)) = absurd (h (lt-ltb _ _ m, (rw (not_idle (w.records t) o.line), tt)))
    go (granted y) (inl i) = absurd (false≢true (rw i.0 at y.1.0))
    go (granted y) (inr (m, o)) = runs m o

-- and so is a drop
pub data Dropped (w : World) (t : ℕ) (did : List Line) : WorldAfter → Type 0 where
  refuses : (n : ℕ) → w.records t ≡ idle → Dropped w t did (world_after w (Refused n))
  leaves : t < w.tasks → Pending w.cells did (w.records t) → Dropped w t did (world_after (with_task w t idle) Acted)

pub drop-cases : (w : World) (t : ℕ) (did : List Line) → OnPath w.tasks w.cells t did (w.records t) → Dropped w t did (figure_dropped w t)
unfolding figure_dropped
drop-cases w t did p = go (ask (step_questions w.tasks (w.records t) t)) p
  where
    go : {o : Option ℕ} → Asked (step_questions w.tasks (w.records t) t) o → OnPath w.tasks w.cells t did (w.records t) → Dropped w t did (unless_refused o w (world_after (with_task w t idle) Acted))
    go (denied n h) (inl i) = Dropped.refuses n i.0
    go (denied n h) (inr (m, o)) = absurd (h (lt-ltb _ _ m, (rw (not_idle (w.records t) o.line), tt)))
    go (granted y) (inl i) = absurd (false≢true (rw i.0 at y.1.0))
    go (granted y) (inr (m, o)) = leaves m o

-- ALL TASKS

abbrev pub AllOnPath : World → Type 0
AllOnPath w = (t : ℕ) → (did : List Line) × OnPath w.tasks w.cells t did (w.records t)

pub opening_on_path : (n v : ℕ) (vs : List ℕ) → AllOnPath (opening n v vs)
opening_on_path n v vs t = ([], inl (refl, refl))

-- the record is of the operation as begun
abbrev Begins : Op → Record → Type 0
Begins op q = (q ≡ idle) ⊎ (op ≡ op_of q)

-- a trace of the figure, now w, whose pending calls keep to the paths: each task with the lines that its call did
pub record Sound (w : World) (r : Trace) : Type 0 where
  pub pending : (t : ℕ) → OnPath w.tasks w.cells t (r.did t) (w.records t)
  pub as_begun : (t : ℕ) → Begins (r.op t) (w.records t)

-- what holds of the new one and of all before
pub with_first : {A : Type 0} (P : A → Type 0) (a : A) (l : List A) → P a → ((x : A) → x ∈ l → P x) → (x : A) → x ∈ (a ∷ l) → P x
with_first P a l h f x (inl e) = rw e h
with_first P a l h f x (inr i) = f x i

-- two functions changed at one number
pub upd_both : {A B : Type 0} (P : ℕ → A → B → Type 0) (f : ℕ → A) (g : ℕ → B) (t : ℕ) (a : A) (b : B) → P t a b → ((u : ℕ) → P u (f u) (g u)) → (u : ℕ) → P u (upd f t a u) (upd g t b u)
upd_both P f g t a b here there u = go (either u t)
  where
    go : (u ≡ t) ⊎ (u ≢ t) → P u (upd f t a u) (upd g t b u)
    go (inl e) = rw (upd-at f t a u e, upd-at g t b u e, e) here
    go (inr e) = rw (upd_off f t a u e, upd_off g t b u e) (there u)

first_on_path : (w : World) (t : ℕ) (op : Op) → Accepted w t op → Pending w.cells [] (first_of op)
first_on_path w t (read k) a = record { cell = a.cell; line = refl; values = refl; steps = refl; hard = refl; lines = inl refl }
first_on_path w t (swap k e n) a = let l = at_first (either e n) in record { cell = a.cell; line = l.0; values = a.values; steps = refl; hard = refl; lines = l.1 }
  where
    -- equal values: a read's first line; unequal ones: a swap's
    at_first : (e ≡ n) ⊎ (e ≢ n) → (line_fit (first_of (swap k e n)) ≡ true) × ([] ∈ before (line_of (first_of (swap k e n))))
    at_first (inl z) = rw (eq-eqb e n z) (refl, inl refl)
    at_first (inr z) = rw (ne_eqb e n z) (refl, inl refl)

-- A STEP'S CELL is what its line left of it, and the other cells are as they were

pub cell-there : (w : World) (k : ℕ) (m : Cell) (t : ℕ) (q : Record) → (with_both w k m t q).cell k ≡ m
cell-there w k m t q = upd_same w.cell k m

pub cell_at : (w : World) (k : ℕ) (m : Cell) (t : ℕ) (q : Record) (j : ℕ) → j ≡ k → (with_both w k m t q).cell j ≡ m
cell_at w k m t q j e = ap (with_both w k m t q).cell e ∙ cell-there w k m t q

pub cell_elsewhere : (w : World) (k : ℕ) (m : Cell) (t : ℕ) (q : Record) (j : ℕ) → j ≢ k → (with_both w k m t q).cell j ≡ w.cell j
cell_elsewhere w k m t q j n = upd_off w.cell k m j n

-- ONE ACTION

module _ (w : World) (r : Trace) (s : Sound w r) where
  abbrev now : ℕ → Line
  now t = line_of (w.records t)

  -- another record for task t, and other lines
  put : (t : ℕ) (q : Record) (did : List Line) → OnPath w.tasks w.cells t did q → (u : ℕ) → OnPath w.tasks w.cells u (upd r.did t did u) (upd w.records t q u)
  put t q did o = upd_both (OnPath w.tasks w.cells) r.did w.records t did q o s.pending

  put_begun : (t : ℕ) (q : Record) → Begins (r.op t) q → (u : ℕ) → Begins (r.op u) (upd w.records t q u)
  put_begun t q b u = upd-cases (Begins (r.op u)) w.records t q u (λ e. rw e b) (λ e. s.as_begun u)

  begin_sound : (t : ℕ) (op : Op) {f : WorldAfter} → Begun w t op f → Sound f.world (enter_line now r (begin t op) (event_of untried f.outcome))
  begin_sound t op (refuses n) = s
  begin_sound t op (starts a) = record {
    pending = put t (first_of op) [] (inr (a.task, first_on_path w t op a));
    as_begun = upd_both (λ u. Begins) r.op w.records t op (first_of op) (kind op) s.as_begun;
  }
    where
      kind : (op : Op) → Begins op (first_of op)
      kind (read j) = inr refl
      kind (swap j o n) = inr refl

  module _ (t : ℕ) (m : t < w.tasks) (o : Pending w.cells (r.did t) (w.records t)) where
    abbrev q : Record
    q = w.records t

    pub its-op : r.op t ≡ op_of q
    its-op = go (s.as_begun t)
      where
        go : Begins (r.op t) q → r.op t ≡ op_of q
        go (inl i) = absurd (false≢true (sym (not_idle q o.line) ∙ ap is_idle i))
        go (inr i) = i

    line_sound : (c : Cell) {n : Next} → Leads (line_of q) (counted q (tried_in w t q)) n → Then w.cells (r.did t) q o n
        → Sound (with_both w q.cell c t (record_after n)) (enter_line now r (step t) (event_of (tried_in w t (w.records t)) (outcome_of n)))
    line_sound c (goes f) k = record { pending = put t _ (did_line now r t) (inr (m, k)); as_begun = put_begun t _ (inr its-op) }
    line_sound c (done f) k = record { pending = put t idle [] (inl (refl, refl)); as_begun = put_begun t idle (inl refl) }

  step_sound : (t : ℕ) {f : WorldAfter} → Stepped w t (r.did t) f → Sound f.world (enter_line now r (step t) (event_of (tried_in w t (w.records t)) f.outcome))
  unfolding figure_ran
  step_sound t (refuses n i) = s
  step_sound t (runs m o) =
      let c = access_cell (w.cell (w.records t).cell) (access_of t (w.records t)) in
      line_sound t m o c.cell (led w.cells (r.did t) (w.records t) o t c.value) (one_line w.cells (r.did t) (w.records t) o t c.value)

  drop_sound : (t : ℕ) {f : WorldAfter} → Dropped w t (r.did t) f → Sound f.world (enter_line now r (drop t) (event_of untried f.outcome))
  drop_sound t (Dropped.refuses n i) = s
  drop_sound t (leaves m o) = record { pending = put t idle [] (inl (refl, refl)); as_begun = put_begun t idle (inl refl) }

  pub act_sound : (a : Action) → Sound (figure w a).0 (enter_line now r a (figure w a).1)
  act_sound (begin t op) = begin_sound t op (begin-cases w t op)
  act_sound (step t) = step_sound t (step-cases w t (r.did t) (s.pending t))
  act_sound (drop t) = drop_sound t (drop-cases w t (r.did t) (s.pending t))

pub act_on_path : (w : World) → AllOnPath w → (a : Action) → AllOnPath (figure w a).0
act_on_path w p a =
    let r : Trace = record { op = λ t. op_of (w.records t); did = λ t. (p t).0; done = [] } in
    let s : Sound w r = record { pending = λ t. (p t).1; as_begun = λ t. inr refl } in
    λ t. ((enter_line (λ t. line_of (w.records t)) r a (figure w a).1).did t, (act_sound w r s a).pending t)

-- another record for a task; a call that begins; a call's next line
pub put_on_path : (w : World) → AllOnPath w → (t : ℕ) (q : Record) (did : List Line) → OnPath w.tasks w.cells t did q → (u : ℕ) → (d : List Line) × OnPath w.tasks w.cells u d (upd w.records t q u)
put_on_path w p t q did o u = upd-cases (λ r. (d : List Line) × OnPath w.tasks w.cells u d r) w.records t q u (λ e. (did, rw e o)) (λ e. p u)

pub begun_on_path : (w : World) → AllOnPath w → (t : ℕ) (op : Op) → Accepted w t op → AllOnPath (with_task w t (first_of op))
begun_on_path w p t op a = put_on_path w p t (first_of op) [] (inr (a.task, first_on_path w t op a))

pub next_on_path : (w : World) → AllOnPath w → (t : ℕ) (did : List Line) → t < w.tasks → Pending w.cells did (w.records t) → (k : ℕ) (c : Cell) (v : ℕ) → AllOnPath (with_both w k c t (record_after (next_of t (w.records t) v)))
next_on_path w p t did m o k c v = go (next_of t (w.records t) v) (one_line w.cells did (w.records t) o t v)
  where
    go : (x : Next) → Then w.cells did (w.records t) o x → AllOnPath (with_both w k c t (record_after x))
    go (Go r) h = put_on_path w p t r (did ++ (line_of (w.records t) ∷ [])) (inr (m, h))
    go (Done f) h = put_on_path w p t idle [] (inl (refl, refl))

pub run_on_path : (w : World) → AllOnPath w → (l : List Action) → AllOnPath (run figure w l)
run_on_path w p [] = p
run_on_path w p (a ∷ l) = run_on_path (figure w a).0 (act_on_path w p a) l

-- an action leaves the numbers of tasks and cells
abbrev pub SameSizes : World → World → Type 0
SameSizes w w' = (w'.tasks ≡ w.tasks) × (w'.cells ≡ w.cells)

pub act_sizes : (w : World) (a : Action) → SameSizes w (figure w a).0
unfolding figure_stepped figure_ran figure_dropped
act_sizes w (begin t op) = go (begin-cases w t op)
  where
    go : {f : WorldAfter} → Begun w t op f → SameSizes w f.world
    go (refuses n) = (refl, refl)
    go (starts a) = (refl, refl)
act_sizes w (step t) = go (refusal (step_questions w.tasks (w.records t) t))
  where
    go : (o : Option ℕ) → SameSizes w (unless_refused o w (figure_ran w t (w.records t))).world
    go none = (refl, refl)
    go (some n) = (refl, refl)
act_sizes w (drop t) = go (refusal (step_questions w.tasks (w.records t) t))
  where
    go : (o : Option ℕ) → SameSizes w (unless_refused o w (world_after (with_task w t idle) Acted)).world
    go none = (refl, refl)
    go (some n) = (refl, refl)

pub run_sizes : (w : World) (l : List Action) → SameSizes w (run figure w l)
run_sizes w [] = (refl, refl)
run_sizes w (a ∷ l) = let k = run_sizes (figure w a).0 l in let s = act_sizes w a in (k.0 ∙ s.0, k.1 ∙ s.1)

-- WELL-FORMED RECORDS

pub record Busy (v : ℕ) (q : Record) : Type 0 where
  pub cell : q.cell < v
  pub line : line_fit q ≡ true
  pub values : values_fit q ≡ true
  pub steps : q.steps ≤ 20
  pub hard : q.won + q.lost ≤ 3

abbrev pub WellRecord : ℕ → Record → Type 0
WellRecord v q = (q ≡ idle) ⊎ Busy v q

pub well : (n v : ℕ) (vs : List ℕ) (l : List Action) (t : ℕ) → WellRecord v ((run figure (opening n v vs) l).records t)
well n v vs l t = rw (run_sizes (opening n v vs) l).1 at (go (run_on_path (opening n v vs) (opening_on_path n v vs) l t).1)
  where
    go : {n v : ℕ} {did : List Line} {q : Record} → OnPath n v t did q → WellRecord v q
    go (inl i) = inl i.0
    go {v = v} {did = did} {q = q} (inr (m, o)) = let k = pending-bounds v did q o in inr (record { cell = o.cell; line = o.line; values = o.values; steps = omega arith; hard = k.1 })
