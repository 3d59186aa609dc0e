-- What the entries with adds come to, by what the cells' own entries came to.
use mathlib.Core.Path.{◌≡◌, refl, sym, ap, ap₂, ◌∙◌}
use mathlib.Core.Logic.{inr}
use mathlib.Core.Bool.{Bool, true, false, ◌&&◌, ◌||◌, not, cond, false≢true}
use mathlib.Core.List.{List, [], ◌∷◌, ◌++◌}
use Prim.Native.Nat.{ℕ, zero, suc, ◌+◌, ◌≤◌, ◌<◌}
use native.Mathlib.Numerals.{unary_clauses}
use native.Mathlib.Omega.{arith}
use lib.Dec.{eqb, ltb}
use lib.ListN.{get_or, length, replicate, set, take}
use lib.Seq.{set-get_or, set-set}
use Rattle.std.specs.List.{list_all, zip}
use Rattle.std.specs.Prelude as Std
use Rattle.std.specs.Prelude.{Some, None, Ok}
use Rattle.figure_lines.specs.declared.Record.{Record}
use Rattle.figure_lines.specs.Basics.{ands, all_from}
use Rattle.figure_lines.specs.Record.{no_value, idle, is_idle, record_at, first_read}
use Rattle.figure_lines.specs.Answers.{Result}
use Rattle.cells_spec.specs.declared.State.{State}
use Rattle.cells_spec.specs.Questions.{Question, refusal, answers, fit, begin_questions}
use Rattle.cells_spec.specs.Answers.{Said, Refused, Acted, Ended, acts}
use Rattle.cells_spec.specs.Open.{After, leaving, unless, Untouched, opened}
use Rattle.cells_spec.specs.Begin.{with_record, started, read_begun, swap_begun}
use Rattle.cells_spec.specs.Step.{stepped}
use Rattle.cells_spec.specs.Drop.{dropped}
use Rattle.cells_spec.specs.Events as Events
use Rattle.cells_spec.proofs.Tests.{all_from_lem}
use Rattle.cells_spec.proofs.Replies.{asked_below}
use Rattle.cells_spec.proofs.Acts.{acts_iff, read-acts, swap-acts, drop-acts, open_untouched, step_untouched}
use Rattle.cells_spec.proofs.LentLaw.{placed, below_32}
use Rattle.adds_spec.specs.declared.Add.{Add}
use Rattle.adds_spec.specs.declared.AddingState.{AddingState}
use Rattle.adds_spec.specs.declared.AddingEnd.{AddingEnd}
use Rattle.adds_spec.specs.declared.AddingEnd.TheVariants as finish
use Rattle.adds_spec.specs.Requests.{Ahead, part, end, ahead, fresh_add, tries_ok}
use Rattle.adds_spec.specs.Adding.{AddingSaid, Denies, GoesOn, FinishesCall, FinishesAdd, adding_said_of, denies, AddingAfter, adding_after, unless_denies, no_add, add_at, has_add, with_add, with_cells, add_fit, adds_fit, lifted, adding_opened, then_add, add_begun, add_onwards, step_ends, adding_stepped, adding_lent, lending, adding_stepped_lent}

or_true : (x : Bool) → (x || true) ≡ true
or_true true = refl
or_true false = refl

-- FITNESS

beyond : (l : List Add) (i : ℕ) → length l ≤ i → get_or l i no_add ≡ no_add
beyond [] i h = refl
beyond (a ∷ l) zero h = absurd (omega arith)
beyond (a ∷ l) (suc i) h = beyond l i (omega arith)

-- a task beyond the adds has none
beyond_fits : (l : List Add) (r : ℕ → Record) (i k : ℕ) → length l ≤ i → all_from (λ t. add_fit (add_at l t) (r t)) i k ≡ true
unfolding add_fit
beyond_fits l r i k h = all_from_lem (λ t. add_fit (add_at l t) (r t)) i k (λ j b c. rw (beyond l j (omega arith)) (or_true (is_idle (r j))))

next : {A : Type 0} (x : A) (l : List A) (d : A) (j : ℕ) → get_or (x ∷ l) (j + 1) d ≡ get_or l j d
next x l d j = simp unary_clauses refl

later : (f g : ℕ → Bool) → ((j : ℕ) → f (j + 1) ≡ g j) → (i k : ℕ) → all_from f (i + 1) k ≡ all_from g i k
later f g e i zero = refl
later f g e i (suc k) = rw (e i) (ap (λ b. g i && b) (later f g e (i + 1) k))

-- adds and records in pairs
pub pairs_fit : (l : List Add) (r : List Record) → length l ≡ length r → (n : ℕ) → list_all (λ x. add_fit x.0 x.1) (take n (zip l r)) ≡ all_from (λ t. add_fit (add_at l t) (record_at r t)) 0 n
pairs_fit l r e zero = refl
pairs_fit [] [] e (suc n) = sym (beyond_fits [] (record_at []) 0 (suc n) (omega arith))
pairs_fit [] (x ∷ r) e (suc n) = absurd (omega arith)
pairs_fit (a ∷ l) [] e (suc n) = absurd (omega arith)
pairs_fit (a ∷ l) (x ∷ r) e (suc n) = ap (λ b. add_fit a x && b) (pairs_fit l r (omega arith) n ∙ sym (later _ _ (λ j. ap₂ add_fit (next a l no_add j) (next x r idle j)) 0 n))

-- WHAT THE CELLS' OWN ENTRY LEFT, r

-- a refused one left state and pool
kept : (s : State) (p : List ℕ) {c : State} {q : List ℕ} {n : ℕ} {r : After} → Untouched s p r → leaving c q (Refused n) ≡ r → leaving c q (Refused n) ≡ leaving s p (Refused n)
kept s p {c} {q} {n} {r} u e = e ∙ u n (ap (λ (x : After). x.outcome) (sym e))

refused_kept : (s : AddingState) (p : List ℕ) {c : State} {q : List ℕ} {n : ℕ} {r : After} → Untouched s.cells p r → leaving c q (Refused n) ≡ r → adding_after (with_cells s c) q (Denies n) ≡ adding_after s p (Denies n)
refused_kept s p {c} {q} {n} {r} u e = ap (λ (x : After). adding_after (with_cells s x.state) x.pool (Denies n)) (kept s.cells p u e)

module _ (s : AddingState) (p : List ℕ) (n v b : ℕ) (vs : List ℕ) {c : State} {q : List ℕ} where
  pub open_refused : {m : ℕ} → leaving c q (Refused m) ≡ opened s.cells p n v b vs → adding_after (with_cells s c) q (Denies m) ≡ adding_opened s p n v b vs
  unfolding adding_opened
  open_refused e = refused_kept s p (open_untouched s.cells p n v b vs) e ∙ rw (← e)

  pub open_acted : leaving c q Acted ≡ opened s.cells p n v b vs → adding_after (record { cells = c; adds = replicate 32 no_add }) q GoesOn ≡ adding_opened s p n v b vs
  unfolding adding_opened
  open_acted e = rw (← e)

-- an entry that gives the task an add, or none: its adds are asked about first
module _ (s : AddingState) (p : List ℕ) (t : ℕ) (a : Add) where
  module _ (fits : true ≡ adds_fit s) {c : State} {q : List ℕ} {r : After} where
    pub then_refused : {n : ℕ} → leaving c q (Refused n) ≡ r → adding_after s p (Denies n) ≡ then_add s p t a r
    then_refused e = rw (← fits, ← e)

    pub then_kept : {n : ℕ} → Untouched s.cells p r → leaving c q (Refused n) ≡ r → adding_after (with_cells s c) q (Denies n) ≡ then_add s p t a r
    then_kept u e = refused_kept s p u e ∙ then_refused e

    pub then_acted : leaving c q Acted ≡ r → adding_after (with_add s c t a) q GoesOn ≡ then_add s p t a r
    then_acted e = rw (← fits, ← e)

-- the task of an entry that acts is below 32
module _ (s : State) (p : List ℕ) (t : ℕ) {c : State} {q : List ℕ} where
  below : (l : List Question) {r : After} → acts r.outcome ≡ ands (answers ((6, fit s p) ∷ (7, ltb t s.tasks) ∷ l)) → leaving c q Acted ≡ r → t < 32
  below l h e = asked_below s p t l ((acts_iff ((6, fit s p) ∷ (7, ltb t s.tasks) ∷ l)).1 (sym h ∙ ap (λ (x : After). acts x.outcome) (sym e)))

  pub read-below : (k : ℕ) → leaving c q Acted ≡ read_begun s p t k → t < 32
  read-below k e = below ((8, ltb k s.cells) ∷ (9, is_idle (record_at s.records t)) ∷ []) (read-acts s p t k) e

  pub swap-below : (k v n : ℕ) → leaving c q Acted ≡ swap_begun s p t k v n → t < 32
  swap-below k v n e = below ((8, ltb k s.cells) ∷ (9, is_idle (record_at s.records t)) ∷ (10, not (eqb v no_value) && not (eqb n no_value)) ∷ []) (swap-acts s p t k v n) e

  pub drop-below : leaving c q Acted ≡ dropped s p t → t < 32
  drop-below e = below ((11, not (is_idle (record_at s.records t))) ∷ []) (drop-acts s p t) e

-- THE BEGIN OF AN ADD: that of its first read; then question 23

module _ (s : AddingState) (p : List ℕ) (t k d m : ℕ) where
  abbrev after_read : After → AddingAfter
  after_read r = cond (acts r.outcome) (adding_after (with_add s r.state t (fresh_add d m)) r.pool (lifted r.outcome)) (adding_after s p (lifted r.outcome))

  abbrev then_23 : AddingAfter → AddingAfter
  then_23 x = cond (tries_ok m || denies x.said) x (adding_after s p (Denies 23))

  abbrev first : List Question
  first = begin_questions s.cells.tasks s.cells.cells (record_at s.cells.records t) t k

  abbrev going : AddingAfter
  going = adding_after (with_add s (with_record s.cells t (first_read k)) t (fresh_add d m)) p GoesOn

  asked : (l : List Question) → unless_denies (refusal (l ++ ((23, tries_ok m) ∷ []))) s p going ≡ then_23 (after_read (unless (refusal l) s.cells p (started s.cells p t (first_read k))))
  asked [] = go (tries_ok m)
    where
      go : (b : Bool) → unless_denies (refusal ((23, b) ∷ [])) s p going ≡ cond (b || false) going (adding_after s p (Denies 23))
      go true = refl
      go false = refl
  asked ((n, true) ∷ l) = asked l
  asked ((n, false) ∷ l) = rw (or_true (tries_ok m))

  begun-by : then_23 (then_add s p t (fresh_add d m) (read_begun s.cells p t k)) ≡ add_begun s p t k d m
  unfolding add_begun read_begun
  begun-by = sym (go (adds_fit s) (fit s.cells p))
    where
      go : (f g : Bool) → unless_denies (refusal ((6, g && f) ∷ (first ++ ((23, tries_ok m) ∷ [])))) s p going
          ≡ then_23 (cond f (after_read (unless (refusal ((6, g) ∷ first)) s.cells p (started s.cells p t (first_read k)))) (adding_after s p (Denies 6)))
      go true true = asked first
      go true false = rw (or_true (tries_ok m))
      go false true = rw (or_true (tries_ok m))
      go false false = rw (or_true (tries_ok m))

  -- by what the read's begin with the add came to
  tried : (y : AddingAfter) (b : Bool) → (tries_ok m || denies y.said) ≡ b → y ≡ then_add s p t (fresh_add d m) (read_begun s.cells p t k) → cond b y (adding_after s p (Denies 23)) ≡ add_begun s p t k d m
  tried y b h e = ap (λ (x : Bool). cond x y (adding_after s p (Denies 23))) (sym h) ∙ ap then_23 e ∙ begun-by

  pub add_unfit : false ≡ adds_fit s → adding_after s p (Denies 6) ≡ add_begun s p t k d m
  add_unfit h = tried (adding_after s p (Denies 6)) true (or_true (tries_ok m)) (rw (← h))

  module _ (fits : true ≡ adds_fit s) {c : State} where
    pub add_refused : {n : ℕ} → leaving c p (Refused n) ≡ read_begun s.cells p t k → adding_after s p (Denies n) ≡ add_begun s p t k d m
    add_refused {n} e = tried (adding_after s p (Denies n)) true (or_true (tries_ok m)) (then_refused s p t (fresh_add d m) fits e)

    module _ (e : leaving c p Acted ≡ read_begun s.cells p t k) where
      abbrev added : AddingAfter
      added = adding_after (with_add s c t (fresh_add d m)) p GoesOn

      pub add_acted : true ≡ tries_ok m → added ≡ add_begun s p t k d m
      add_acted h = tried added true (rw (← h)) (then_acted s p t (fresh_add d m) fits e)

      pub add_23 : false ≡ tries_ok m → adding_after s p (Denies 23) ≡ add_begun s p t k d m
      add_23 h = tried added false (rw (← h)) (then_acted s p t (fresh_add d m) fits e)

-- THE STEP

module _ (s : AddingState) (p : List ℕ) (t : ℕ) where
  pub unfit_step : false ≡ adds_fit s → adding_after s p (Denies 6) ≡ adding_stepped s p t
  unfolding adding_stepped
  unfit_step e = rw (← e)

  module _ (fits : true ≡ adds_fit s) (c : State) (q : List ℕ) where
    pub stepped_by : (o : Said) → leaving c q o ≡ stepped s.cells p t → step_ends s t (add_at s.adds t) (leaving c q o) o ≡ adding_stepped s p t
    unfolding adding_stepped
    stepped_by o e = rw (← fits, ← e)

    pub step_refused : (n : ℕ) → leaving c q (Refused n) ≡ stepped s.cells p t → adding_after (with_cells s c) q (Denies n) ≡ adding_stepped s p t
    step_refused n e = ap (λ (x : After). adding_after (with_cells s x.state) q (Denies n)) (kept s.cells p (step_untouched s.cells p t) e) ∙ stepped_by (Refused n) e

-- A REFUSED STEP leaves all as it was; the task of one that acts is below 32
module _ (s : AddingState) (p : List ℕ) (t : ℕ) where
  abbrev came : Bool → After → Said → AddingAfter
  came b r o = cond b (step_ends s t (add_at s.adds t) r o) (adding_after s p (Denies 6))

  goes_or_ends : (b : Bool) (c : State) (q : List ℕ) (a : Add) (g : Result) (w : Ahead) → denies (cond b (add_onwards s c q t a g w) (adding_after (with_cells s c) q (FinishesCall g))).said ≡ false
  goes_or_ends true c q a g (part op n) = refl
  goes_or_ends true c q a g (end z) = refl
  goes_or_ends false c q a g w = refl

  ended-acts : (r : After) (g : Result) → denies (step_ends s t (add_at s.adds t) r (Ended g)).said ≡ false
  ended-acts r g = let a = add_at s.adds t in goes_or_ends (has_add a) r.state r.pool a g (ahead no_value a (Events.report_of g) g.answer)

  pub step_kept : denies (adding_stepped s p t).said ≡ true → adding_stepped s p t ≡ adding_after s p (adding_stepped s p t).said
  unfolding adding_stepped
  step_kept h = go (adds_fit s) (stepped s.cells p t).outcome refl h
    where
      go : (b : Bool) (o : Said) → (stepped s.cells p t).outcome ≡ o → let x = came b (stepped s.cells p t) o in denies x.said ≡ true → x ≡ adding_after s p x.said
      go false o e h = refl
      go true (Refused n) e h = ap (λ (x : After). adding_after s x.pool (Denies n)) (step_untouched s.cells p t n e)
      go true Acted e h = absurd (false≢true h)
      go true (Ended g) e h = absurd (false≢true (sym (ended-acts (stepped s.cells p t) g) ∙ h))

  pub step-below : denies (adding_stepped s p t).said ≡ false → t < 32
  unfolding adding_stepped
  step-below h = go (adds_fit s) (stepped s.cells p t).outcome refl h
    where
      go : (b : Bool) (o : Said) → (stepped s.cells p t).outcome ≡ o → denies (came b (stepped s.cells p t) o).said ≡ false → t < 32
      go false o e h = absurd (false≢true (sym h))
      go true (Refused n) e h = absurd (false≢true (sym h))
      go true Acted e h = below_32 s.cells p t (stepped s.cells p t) refl (rw e)
      go true (Ended g) e h = below_32 s.cells p t (stepped s.cells p t) refl (rw e)

-- THE STEP OVER A LENT RECORD, from the step of the state that holds it

goes_or_finishes : (x : Std.Option AddingEnd) → denies (adding_said_of (Ok x)) ≡ false
goes_or_finishes None = refl
goes_or_finishes (Some (finish.Call f)) = refl
goes_or_finishes (Some (finish.Add f)) = refl

module _ (s : AddingState) (p : List ℕ) (t : ℕ) (r : Record) where
  -- the state that is stepped
  abbrev held : AddingState
  held = lending s t r

  handed : (a : AddingAfter) → a ≡ adding_stepped held p t → denies a.said ≡ false → adding_lent a (record_at a.state.cells.records t) ≡ adding_stepped_lent s p t r
  unfolding adding_stepped_lent
  handed a e h = rw (← e, h)

  pub acted_lent : (s' : AddingState) (p' : List ℕ) (x : Std.Option AddingEnd) → adding_after s' p' (adding_said_of (Ok x)) ≡ adding_stepped held p t
      → adding_lent (adding_after s' p' (adding_said_of (Ok x))) (record_at s'.cells.records t) ≡ adding_stepped_lent s p t r
  acted_lent s' p' x e = handed (adding_after s' p' (adding_said_of (Ok x))) e (goes_or_finishes x)

  refused : (n : ℕ) → adding_after held p (Denies n) ≡ adding_stepped held p t → adding_lent (adding_after s p (Denies n)) r ≡ adding_stepped_lent s p t r
  unfolding adding_stepped_lent
  refused n e = rw (← e)

  untouched : (s' : AddingState) (p' : List ℕ) (n : ℕ) → adding_after s' p' (Denies n) ≡ adding_stepped held p t → adding_after s' p' (Denies n) ≡ adding_after held p (Denies n)
  untouched s' p' n e = e ∙ step_kept held p t (ap (λ (a : AddingAfter). denies a.said) (sym e)) ∙ ap (λ (a : AddingAfter). adding_after held p a.said) (sym e)

  -- the state's own record is put back
  put_back : set (set s.cells.records t r) t (record_at s.cells.records t) ≡ s.cells.records
  put_back = set-set s.cells.records t r _ ∙ set-get_or s.cells.records t idle

  with_records : List Record → AddingState
  with_records l = let c = s.cells in with_cells s (record { tasks = c.tasks; cells = c.cells; blocks = c.blocks; last = c.last; current = c.current; records = l; counts = c.counts })

  pub refused_lent : (s' : AddingState) (p' : List ℕ) (n : ℕ) → adding_after s' p' (Denies n) ≡ adding_stepped held p t
      → adding_lent (adding_after (lending s' t (record_at s.cells.records t)) p' (Denies n)) r ≡ adding_stepped_lent s p t r
  unfolding with_records
  refused_lent s' p' n e =
      let z = untouched s' p' n e in
      ap (λ (a : AddingAfter). adding_lent (adding_after (lending a.state t (record_at s.cells.records t)) a.pool (Denies n)) r) z
      ∙ ap (λ (l : List Record). adding_lent (adding_after (with_records l) p (Denies n)) r) put_back
      ∙ refused n (sym z ∙ e)

  -- a task beyond the records has none that could be lent
  pub beyond_lent : length s.cells.records ≡ 32 → 32 ≤ t → (s' : AddingState) (p' : List ℕ) (z : AddingSaid) → adding_after s' p' z ≡ adding_stepped s p t → adding_lent (adding_after s' p' z) r ≡ adding_stepped_lent s p t r
  beyond_lent l h s' p' z e = go z e
    where
      same : s ≡ held
      same = ap (with_cells s) (placed s.cells t r s.cells l (inr (h, refl)))

      stays : (z : AddingSaid) → adding_after s' p' z ≡ adding_stepped s p t → denies z ≡ false → adding_lent (adding_after s' p' z) r ≡ adding_stepped_lent s p t r
      stays z e d = let b = step-below s p t (ap (λ (a : AddingAfter). denies a.said) (sym e) ∙ d) in absurd (omega arith)

      go : (z : AddingSaid) → adding_after s' p' z ≡ adding_stepped s p t → adding_lent (adding_after s' p' z) r ≡ adding_stepped_lent s p t r
      go (Denies n) e =
          let w = e ∙ ap (λ (x : AddingState). adding_stepped x p t) same in
          let z = untouched s' p' n w in
          ap (λ (a : AddingAfter). adding_lent a r) (z ∙ ap (λ (x : AddingState). adding_after x p (Denies n)) (sym same)) ∙ refused n (sym z ∙ w)
      go GoesOn e = stays GoesOn e refl
      go (FinishesCall f) e = stays (FinishesCall f) e refl
      go (FinishesAdd f) e = stays (FinishesAdd f) e refl

-- a step that is lent the task's own record is the step
module _ (s : AddingState) (p : List ℕ) (t : ℕ) where
  same : (a : AddingAfter) (b : Bool) → denies a.said ≡ b → (b ≡ true → a ≡ adding_after s p a.said) → let z = adding_lent a (record_at a.state.cells.records t) in cond b (adding_lent (adding_after s p a.said) (record_at s.cells.records t)) z ≡ z
  same a true e h = sym (ap (λ (x : AddingAfter). adding_lent x (record_at x.state.cells.records t)) (h refl))
  same a false e h = refl

  pub adding_lent_own : adding_stepped_lent s p t (record_at s.cells.records t) ≡ adding_lent (adding_stepped s p t) (record_at (adding_stepped s p t).state.cells.records t)
  unfolding adding_stepped_lent
  adding_lent_own = rw (set-get_or s.cells.records t idle) (same (adding_stepped s p t) (denies (adding_stepped s p t).said) refl (step_kept s p t))
