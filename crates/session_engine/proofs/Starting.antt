-- The opening, what follows from it, and what a tool prints of it.
use mathlib.Core.Path.{◌≡◌, refl, sym, ap, subst, ◌∙◌}
use mathlib.Core.Option.{Option, none, some}
use mathlib.Core.List.{List, [], ◌++◌}
use Prim.Native.Nat.{ℕ, ◌≤◌}
use native.Mathlib.Omega.{arith}
use lib.ListN.{length, take, drop, replicate, length-replicate, length-append}
use lib.Seq.{length-take-le, take_at}
use Rattle.text.proofs.Zeros.{take-zeros}
use Rattle.cells_spec.specs.declared.State.{State}
use Rattle.cells_spec.specs.Questions.{refusal, open_questions}
use Rattle.cells_spec.specs.Answers.{Said, Refused, Acted, Ended}
use Rattle.cells_spec.specs.Open.{After, leaving, unless, open_state, open_pool, opened, blank}
use Rattle.cells_spec.specs.Machine.{Pool}
use Rattle.cells_spec.proofs.Acts.{open_allowed}
use Rattle.history_spec.specs.History.{Action}
use Rattle.session_spec.specs.Session.{Verdict, bad, session, verdict}
use Rattle.session_reader.specs.Reading.{verdict_in}
use Rattle.session_reader.proofs.Verdicts.{right_sizes}
use Rattle.session_spec.specs.Printed.{pool_words}
use Rattle.session_spec.specs.Tools.{tool_after_open, tool_text}
use Rattle.session_engine.specs.Start.{Answer, not_opened, ready, start_after, start_of, in_pool, tool_start}
use Rattle.std.specs.Prelude.{Ok, Err}
use Rattle.std.specs.Result.{IsErrAnd}
use Rattle.session_engine.specs.declared.start.StartError.{StartError}
use Rattle.session_engine.specs.Tool.{Fresh}
use Rattle.cells_theorems.specs.Reached.{Reached}

-- ON A NEW POOL

pub new_length : {l : List ℕ} → l ≡ replicate 640 0 → length l ≡ 640
new_length e = ap length e ∙ length-replicate {A = ℕ} 640 0

-- an open is refused or acts
pub opened-cases : (P : After → Type 0) (s : State) (p : List ℕ) (n v b : ℕ) (vs : List ℕ) → ((q : ℕ) → P (leaving s p (Refused q))) → P (leaving (open_state n v b) (open_pool p vs) Acted) → P (opened s p n v b vs)
unfolding opened
opened-cases P s p n v b vs x y = go (refusal (open_questions (length p) n v b vs))
  where
    go : (o : Option ℕ) → P (unless o s p (leaving (open_state n v b) (open_pool p vs) Acted))
    go none = y
    go (some q) = x q

never : {r : ℕ} → Acted ≡ Refused r → ⊥
never z = let y : ◌≡◌ {A = ℕ} 0 1 = ap (λ (x : Said). elim x [ Refused n ↦ 1 | Acted ↦ 0 | Ended f ↦ 0 ]) z in omega arith

module _ (n v b : ℕ) (vs new : List ℕ) {w : ℕ} (en : new ≡ replicate 640 0) (ew : w ≡ pool_words b) (hw : w ≤ 640) {s₀ s : State} {p : List ℕ} {o : Said} (eb : s₀ ≡ blank) (e : leaving s p o ≡ opened s₀ (take w new) n v b vs) (el : length p ≡ length (take w new)) where
  -- the cells' words, and the rest of the pool
  abbrev whole : List ℕ
  whole = p ++ drop w new

  words : length p ≡ w
  words = el ∙ length-take-le w new (omega (arith, new_length en, hw))

  theirs : take w whole ≡ p
  theirs = take_at p (drop w new) w words

  leaves : leaving s p o ≡ opened blank (replicate (pool_words b) 0) n v b vs
  leaves =
      e ∙ ap (λ (t : State). opened t (take w new) n v b vs) eb
      ∙ ap (λ (q : List ℕ). opened blank q n v b vs) (ap (take w) en ∙ take-zeros w 640 hw ∙ ap (λ (k : ℕ). replicate k 0) ew)

  pub opens : leaving s (take w whole) o ≡ opened blank (replicate (pool_words b) 0) n v b vs
  opens = ap (λ (q : List ℕ). leaving s q o) theirs ∙ leaves

  pub in_pool_lem : (s, whole) ≡ in_pool (opened blank (replicate (pool_words b) 0) n v b vs)
  in_pool_lem = ap (λ (q : List ℕ). (s, p ++ drop w q)) en ∙ ap (λ (k : ℕ). (s, p ++ drop k (replicate 640 0))) (sym words) ∙ ap in_pool leaves

  -- an open that acts
  module _ (q : o ≡ Acted) where
    allowed : refusal (open_questions (length (take w new)) n v b vs) ≡ none
    allowed = open_allowed s₀ (take w new) n v b vs (sym (ap (λ (r : After). r.outcome) e) ∙ q)

    is_open : s ≡ open_state n v b
    unfolding opened
    is_open = ap (λ (r : After). r.state) e ∙ ap (λ (x : Option ℕ). (unless x s₀ (take w new) (leaving (open_state n v b) (open_pool (take w new) vs) Acted)).state) allowed

    tasks : n ≡ s.tasks
    tasks = sym (ap (λ (x : State). x.tasks) is_open)

    cells : v ≡ s.cells
    cells = sym (ap (λ (x : State). x.cells) is_open)

    abbrev Began : (tasks cells : ℕ) → Type 0
    Began n v = (r : Reached n v s (take w whole)) × (r.actions ≡ [])

    began : Began n v
    began = (record { old = s₀; words = take w new; blocks = b; values = vs; allowed = allowed; actions = []; came = ap (λ (q : List ℕ). (s, q)) theirs ∙ ap (λ (r : After). (r.state, r.pool)) e }, refl)

    pub newly : (w ≤ length whole) × Fresh s (take w whole)
    newly =
        let r = subst (λ (m : ℕ). Began s.tasks m) cells (subst (λ (m : ℕ). Began m v) tasks began) in
        (omega (arith, words, length-append p (drop w new)), record { reached = r.0; no_actions = r.1; all-idle = ap (λ (x : State). x.records) is_open })

    pub ready-as : (l : List Action) → ready s.tasks s.cells (s, take w whole) l ≡ start_after n v l (opened blank (replicate (pool_words b) 0) n v b vs)
    unfolding start_after
    ready-as l =
        ap (λ (m : ℕ). ready m s.cells (s, take w whole) l) (sym tasks) ∙ ap (λ (m : ℕ). ready n m (s, take w whole) l) (sym cells)
        ∙ ap (λ (x : Said). start_after n v l (leaving s (take w whole) x)) (sym q) ∙ ap (start_after n v l) opens

  -- an open that is refused
  pub refused-as : {r : ℕ} → o ≡ Refused r → (l : List Action) → not_opened r ≡ start_after n v l (opened blank (replicate (pool_words b) 0) n v b vs)
  unfolding start_after
  refused-as q l = ap (λ (x : Said). start_after n v l (leaving s (take w whole) x)) (sym q) ∙ ap (start_after n v l) opens

  stays-blank : {r : ℕ} → o ≡ Refused r → s ≡ blank
  stays-blank {r} q =
      let stays : (opened s₀ (take w new) n v b vs).outcome ≡ Refused r → (opened s₀ (take w new) n v b vs).state ≡ s₀ = opened-cases (λ x. x.outcome ≡ Refused r → x.state ≡ s₀) s₀ (take w new) n v b vs (λ _ _. refl) (λ z. absurd (never z)) in
      ap (λ (x : After). x.state) e ∙ stays (sym (ap (λ (x : After). x.outcome) e) ∙ q) ∙ eb

  pub blank-in_pool : {r : ℕ} → o ≡ Refused r → (blank, whole) ≡ in_pool (opened blank (replicate (pool_words b) 0) n v b vs)
  blank-in_pool q = ap (λ (t : State). (t, whole)) (sym (stays-blank q)) ∙ in_pool_lem

pub is-error : (x : Answer) (y : StartError) → IsErrAnd x (λ (e : StartError). e ≡ y) → x ≡ Err y
is-error (Err e) y h = ap Err h
is-error (Ok o) y h = absurd h

-- THE READER'S ANSWER

pub judged-is : {a b c : ℕ} {v : Verdict} (s : List ℕ) → v ≡ verdict_in a b c s → a ≡ 32768 → b ≡ 40960 → c ≡ 65535 → v ≡ verdict s
judged-is {a} {b} {c} s e p q r = e ∙ right_sizes a b c s p q r

-- A TOOL'S TEXT

pub tool_started : (text : (tasks : ℕ) → Pool → List Action → List ℕ) (v : Verdict) → tool_start text (start_of v) ≡ tool_text text v
unfolding start_after tool_after_open
tool_started text (bad n) = refl
tool_started text (session o l) = opened-cases (λ r. tool_start text (start_after o.tasks o.cells l r) ≡ tool_after_open text o.tasks l r) blank (replicate (pool_words o.blocks) 0) o.tasks o.cells o.blocks o.values (λ q. refl) refl
