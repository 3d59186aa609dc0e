-- What the statement rules out, at written-out histories; and lists of moves with what the cells give, computed.
use Rattle.std.specs.Prelude.{◌≡◌, refl, ◌≢◌, List, [], ◌∷◌, ◌++◌, map, ℕ, ◌<◌, replicate}
use Rattle.std.proofs.Common.{sym, ap, ◌∙◌, inl, inr, arith}
use Rattle.figure_lines.specs.Record.{no_value}
use Rattle.history_spec.specs.Basics as Basics
use Rattle.history_spec.specs.Basics.{◌∈◌}
use Rattle.history_spec.specs.History.{history}
use Rattle.history_spec.proofs.Basics.{clash}
use Rattle.once_spec.specs.Figure.{Stage, write_x, read_y, write_y, read_x, store_v, read_c, store_d, set_c, test_v, look_d, cas_d, read_d}
use Rattle.once_spec.specs.Questions.{offer_fit, offers_fit, once_fit}
use Rattle.once_spec.specs.Entries.{once_start, offer_begun, once_stepped}
use Rattle.once_spec.specs.History.{Move, offer, step, MoveEvent, refused, admitted, did, ended, once_machine, OnceId, finished}
use Rattle.once_spec.specs.Paths.{by_y, won_splitter, with_v}
use Rattle.once_spec.specs.Consensus.{RightOnce}

-- CALLS WRITTEN OUT

abbrev pub did-all : ℕ → List Stage → List (Move × MoveEvent)
did-all t [] = []
did-all t (ℓ ∷ l) = (step t, did ℓ) ∷ did-all t l

-- task t offers w on cell k, does the steps l and then its last one, and hands back a value with its counts
abbrev pub call : (t k w : ℕ) → List Stage → Stage → (value steps hard : ℕ) → List (Move × MoveEvent)
call t k w l z v n h = ((offer t k w, admitted) ∷ did-all t l) ++ ((step t, ended z (record { cell = k; value = v; steps = n; hard = h })) ∷ [])

abbrev pub losing : List Stage
losing = by_y ++ with_v

abbrev pub moves : List (Move × MoveEvent) → List Move
moves h = map (λ x. x.0) h

-- RIGHT: one call won_splitter, then another that finds D; the cells give exactly this
abbrev pub right : List (Move × MoveEvent)
right = call 0 0 7 won_splitter store_d 7 7 0 ++ call 1 0 9 losing look_d 7 6 0

pub is_right : history once_machine (once_start 2 1) (moves right) ≡ right
unfolding offer_begun once_stepped once_fit offers_fit offer_fit
is_right = refl

-- WRONG, each by one fact

-- two values on one cell
pub two-values : RightOnce 1 (call 0 0 7 won_splitter store_d 7 7 0 ++ call 1 0 9 losing look_d 9 6 0) → ⊥
unfolding Basics.upd
two-values r = let e : ◌≡◌ {A = ℕ} 9 7 = r.calls.agreement _ _ (inl refl) (inr (inl refl)) refl in omega arith

-- a value that nobody offered
pub never_offered : RightOnce 1 (call 0 0 7 won_splitter store_d 8 7 0) → ⊥
unfolding Basics.upd
never_offered r = go (r.calls.validity _ (inl refl)).is-begun (r.calls.validity _ (inl refl)).offers
  where
    go : {i : OnceId} → i ∈ (record { at = 0; task = 0; cell = 0; value = 7 } ∷ []) → i.value ≡ 8 → ⊥
    go (inl e) z = let y : ◌≡◌ {A = ℕ} 7 8 = sym (ap (λ (i : OnceId). i.value) e) ∙ z in omega arith
    go (inr x) z = x

-- a value that was offered on another cell
pub offered_elsewhere : RightOnce 2 ((offer 1 1 9, admitted) ∷ call 0 0 7 won_splitter store_d 9 7 0) → ⊥
unfolding Basics.upd
offered_elsewhere r = go (r.calls.validity _ (inl refl)).is-begun (r.calls.validity _ (inl refl)).there (r.calls.validity _ (inl refl)).offers
  where
    go : {i : OnceId} → i ∈ (record { at = 1; task = 0; cell = 0; value = 7 } ∷ record { at = 0; task = 1; cell = 1; value = 9 } ∷ []) → i.cell ≡ 0 → i.value ≡ 9 → ⊥
    go (inl e) c z = let y : ◌≡◌ {A = ℕ} 7 9 = sym (ap (λ (i : OnceId). i.value) e) ∙ z in omega arith
    go (inr (inl e)) c z = let y : ◌≡◌ {A = ℕ} 1 0 = sym (ap (λ (i : OnceId). i.cell) e) ∙ c in omega arith
    go (inr (inr x)) c z = x

-- a value that is offered only after the answer
pub offered_later : RightOnce 1 (call 0 0 7 won_splitter store_d 9 7 0 ++ call 1 0 9 losing look_d 9 6 0) → ⊥
unfolding Basics.upd
offered_later r = go (r.calls.validity _ (inr (inl refl))).is-begun (r.calls.validity _ (inr (inl refl))).offers (r.calls.validity _ (inr (inl refl))).in_time
  where
    go : {i : OnceId} → i ∈ (record { at = 8; task = 1; cell = 0; value = 9 } ∷ record { at = 0; task = 0; cell = 0; value = 7 } ∷ []) → i.value ≡ 9 → i.at < 7 → ⊥
    go {i} (inl e) z l = let y : ◌≡◌ {A = ℕ} i.at 8 = ap (λ (i : OnceId). i.at) e in omega (arith, l)
    go (inr (inl e)) z l = let y : ◌≡◌ {A = ℕ} 7 9 = sym (ap (λ (i : OnceId). i.value) e) ∙ z in omega arith
    go (inr (inr x)) z l = x

-- a hardware CAS after a lone call
pub attempt_after_lone_call : RightOnce 1 (call 0 0 7 won_splitter store_d 7 7 0 ++ call 1 0 9 (losing ++ (look_d ∷ cas_d ∷ [])) read_d 7 8 1) → ⊥
unfolding Basics.upd
attempt_after_lone_call r = let e : ◌≡◌ {A = ℕ} 1 0 = r.calls.no_hardware _ (inr (inl refl)) lone _ (finished _ (inl refl)) refl in omega arith
  where
    lone : (i : OnceId) → i ∈ (record { at = 8; task = 1; cell = 0; value = 9 } ∷ record { at = 0; task = 0; cell = 0; value = 7 } ∷ []) → i.cell ≡ 0 → i.at ≢ 0 → 7 < i.at
    lone i (inl e) c n = rw e (omega arith)
    lone i (inr (inl e)) c n = absurd (n (ap (λ (i : OnceId). i.at) e))
    lone i (inr (inr x)) c n = absurd x

-- counts that are not the steps done
pub invented_count : RightOnce 1 (call 0 0 7 won_splitter store_d 7 6 0) → ⊥
unfolding Basics.upd
invented_count r = let e : ◌≡◌ {A = ℕ} 6 7 = (r.calls.reported _ (inl refl)).all-steps in omega arith

-- a second offer of a task on a cell
pub second_offer : RightOnce 1 (call 0 0 7 won_splitter store_d 7 7 0 ++ ((offer 0 0 7, admitted) ∷ [])) → ⊥
unfolding Basics.upd
second_offer r = let e : ◌≡◌ {A = ℕ} 8 0 = ap (λ (i : OnceId). i.at) (r.calls.one_offer _ _ (inl refl) (inr (inl refl)) refl refl) in omega arith

-- a pending call's step that is refused
pub refused-step : RightOnce 1 ((offer 0 0 7, admitted) ∷ (step 0, refused 6) ∷ []) → ⊥
unfolding Basics.upd
refused-step r = clash r.well_formed.1.0 refl

-- WHAT THE CELLS GIVE: the events of lists of moves, in one table

record Case : Type 0 where
  tasks : ℕ
  cells : ℕ
  list : List Move
  events : List MoveEvent

abbrev gives : List Case → Type 0
gives [] = Unit {0}
gives (c ∷ l) = (map (λ x. x.1) (history once_machine (once_start c.tasks c.cells) c.list) ≡ c.events) × gives l

abbrev all : List Stage → List MoveEvent
all l = map did l

abbrev cases : List Case
cases =
    -- an offer of none by a task that has offered there is refused by 16, since that is asked first
    record { tasks = 1; cells = 1; list = (offer 0 0 7 ∷ replicate 7 (step 0)) ++ (offer 0 0 no_value ∷ []); events = (admitted ∷ all won_splitter) ++ (ended store_d (record { cell = 0; value = 7; steps = 7; hard = 0 }) ∷ refused 16 ∷ []) } ∷
    -- every refusal, in the order of the questions
    record { tasks = 1; cells = 1; list = offer 1 1 no_value ∷ offer 0 1 no_value ∷ offer 0 0 no_value ∷ step 1 ∷ step 0 ∷ offer 0 0 7 ∷ offer 0 0 no_value ∷ []; events = refused 7 ∷ refused 8 ∷ refused 10 ∷ refused 7 ∷ refused 11 ∷ admitted ∷ refused 9 ∷ [] } ∷
    -- two collide: the loser decides before the winner stores V, and the winner follows it
    record {
      tasks = 2;
      cells = 1;
      list = offer 0 0 7 ∷ offer 1 0 9 ∷ (replicate 4 (step 0) ++ (replicate 7 (step 1) ++ replicate 3 (step 0)));
      events = admitted ∷ admitted ∷ did write_x ∷ did read_y ∷ did write_y ∷ did read_x ∷
          (all (write_x ∷ read_y ∷ set_c ∷ test_v ∷ look_d ∷ cas_d ∷ []) ++ (ended read_d (record { cell = 0; value = 9; steps = 7; hard = 1 }) ∷ did store_v ∷ did read_c ∷ ended look_d (record { cell = 0; value = 9; steps = 7; hard = 0 }) ∷ []));
    } ∷ []

pub computed : gives cases
unfolding offer_begun once_stepped once_fit offers_fit offer_fit
computed = (refl, (refl, (refl, tt)))
