-- What the statement says of events, bounds and contention, at histories written out: what it accepts, and what it rules out.
use mathlib.Core.Path.{◌≡◌, refl, sym, ap, subst}
use mathlib.Core.Logic.{◌≢◌, ◌⊎◌, inl, inr}
use mathlib.Core.Option.{none}
use mathlib.Core.List.{List, [], ◌∷◌, ◌++◌}
use Prim.Native.Nat.{ℕ, ◌≤◌}
use native.Mathlib.Omega.{arith}
use lib.ListN.{replicate}
use borrow.Author.Tests.{ne_eqb}
use Rattle.history_spec.specs.Basics.{upd, ◌∈◌}
use Rattle.history_spec.specs.History.{Op, a_read, a_swap, kind_of, read, swap, cell_of, Action, begin, step, drop, untried, success, failure, Event, refused, accepted, Response, Value, Yes, Call, attempts, FinishedCall, WithdrawnCall, Calls, no_calls, calls_of}
use Rattle.history_spec.specs.History.{finished, pending, withdrawn, WellFormed}
use Rattle.history_spec.specs.Demand3.{most, most_hard, Reports, Bounds, Unequal, Alone, NoHardware, Reads, NoHardwareReads, NoneWithdrawn, NoHardwareUndropped}
use Rattle.history_spec.proofs.Basics.{either, clash}
use Rattle.history_spec.proofs.Examples.{answers, the_calls_lem, ended}

-- WRONG EVENTS: no well_formed history has them

pub no_refusal_of_a_pending_call : WellFormed 1 no_calls ((begin 0 (read 0), accepted untried) ∷ (step 0, refused 11) ∷ []) → ⊥
unfolding upd
no_refusal_of_a_pending_call w = clash w.1.0 refl

pub no_second_call_of_a_busy_task : WellFormed 1 no_calls ((begin 0 (read 0), accepted untried) ∷ (begin 0 (read 0), accepted untried) ∷ []) → ⊥
unfolding upd
no_second_call_of_a_busy_task w = clash w.1.0.0 refl

pub no_answer_without_a_call : WellFormed 1 no_calls ((step 0, answers untried a_read (Value 5) 3 0 0) ∷ []) → ⊥
no_answer_without_a_call w = w.0

pub no_refusal_of_its_drop : WellFormed 1 no_calls ((begin 0 (read 0), accepted untried) ∷ (drop 0, refused 11) ∷ []) → ⊥
unfolding upd
no_refusal_of_its_drop w = clash w.1.0 refl

pub no_drop_without_a_call : WellFormed 1 no_calls ((drop 0, accepted untried) ∷ []) → ⊥
no_drop_without_a_call w = w.0.0

-- a withdrawn call takes no further step, and its task is idle; nor does a drop answer it
pub no_step_after_its_drop : WellFormed 1 no_calls ((begin 0 (read 0), accepted untried) ∷ (drop 0, accepted untried) ∷ (step 0, accepted untried) ∷ []) → ⊥
unfolding upd
no_step_after_its_drop w = w.1.1.0

pub no_answer_by_a_drop : WellFormed 1 no_calls ((begin 0 (read 0), accepted untried) ∷ (drop 0, answers untried a_read (Value 5) 1 0 0) ∷ []) → ⊥
no_answer_by_a_drop w = w.1.0

pub no_call_on_a_cell_that_is_not_there : WellFormed 1 no_calls ((begin 0 (read 1), accepted untried) ∷ []) → ⊥
no_call_on_a_cell_that_is_not_there w = omega (arith, w.0.1)

-- WRONG COUNTS

pub no_invented_counts : Bounds (calls_of ((begin 0 (read 0), accepted untried) ∷ (step 0, answers untried a_read (Value 5) 3 0 0) ∷ [])) → ⊥
unfolding upd
no_invented_counts c = omega (arith, (c.reported _ (inl refl)).steps)

-- a read that reports a swap, or another cell
pub no_other_kind : Bounds (calls_of ((begin 0 (read 0), accepted untried) ∷ (step 0, answers untried a_swap (Value 5) 1 0 0) ∷ [])) → ⊥
unfolding upd
no_other_kind w = let e = (w.reported _ (inl refl)).kind in let z : ◌≡◌ {A = ℕ} 0 1 = cc in omega arith

pub no_report_of_another_cell : Bounds (calls_of ((begin 0 (read 1), accepted untried) ∷ (step 0, answers untried a_read (Value 5) 1 0 0) ∷ [])) → ⊥
unfolding upd
no_report_of_another_cell w = omega (arith, (w.reported _ (inl refl)).cell)

-- a read that six steps did not end
pub no_read_beyond_its_bound : Bounds (calls_of ((begin 0 (read 0), accepted untried) ∷
    (step 0, accepted untried) ∷ (step 0, accepted untried) ∷ (step 0, accepted untried) ∷ (step 0, accepted untried) ∷ (step 0, accepted untried) ∷ (step 0, accepted untried) ∷ [])) → ⊥
unfolding upd
no_read_beyond_its_bound c = omega (arith, (c.unended 0 _ refl).0)

-- a swap that twenty-one steps did not end
pub no_swap_beyond_its_bound : Bounds (calls_of ((begin 0 (swap 0 5 7), accepted untried) ∷ replicate 21 (step 0, accepted untried))) → ⊥
unfolding upd
no_swap_beyond_its_bound c = omega (arith, (c.unended 0 _ refl).0)

-- a hardware CAS that was won, reported as lost
pub no_win_reported_as_a_loss : Bounds (calls_of ((begin 0 (swap 0 5 7), accepted untried) ∷ (step 0, answers success a_swap Yes 1 0 1) ∷ [])) → ⊥
unfolding upd
no_win_reported_as_a_loss c = omega (arith, (c.reported _ (inl refl)).won)

-- a hardware CAS more than the kind's most, won and lost together
pub no_read_of_two_hardware_cas : Bounds (calls_of ((begin 0 (read 0), accepted untried) ∷ (step 0, accepted success) ∷ (step 0, accepted failure) ∷ [])) → ⊥
unfolding upd
no_read_of_two_hardware_cas c = omega (arith, (c.unended 0 _ refl).1)

pub no_swap_of_four_hardware_cas : Bounds (calls_of ((begin 0 (swap 0 5 7), accepted untried) ∷ replicate 2 (step 0, accepted success) ++ replicate 2 (step 0, accepted failure))) → ⊥
unfolding upd
no_swap_of_four_hardware_cas c = omega (arith, (c.unended 0 _ refl).1)

-- RIGHT: the longest calls, a read that decides and a swap that ends at 30 by 25 (21 steps: CR 2)
abbrev only : FinishedCall → Calls
only f = record { now = 22; accepted = []; pending = λ t. none; finished = f ∷ []; withdrawn = [] }

within-bounds : (f : FinishedCall) → (f.call.steps ≤ most f.call.start.op) × (attempts f.call ≤ most_hard f.call.start.op) → Reports f.call f.report → Bounds (only f)
within-bounds f h r = record { ended = ended; reported = reported; unended = λ t c e. absurd (clash refl e); withdrawn = λ w i. absurd i }
  where
    ended : (g : FinishedCall) → g ∈ (f ∷ []) → (g.call.steps ≤ most g.call.start.op) × (attempts g.call ≤ most_hard g.call.start.op)
    ended g (inl q) = rw q h
    ended g (inr x') = elim x' [ ]

    reported : (g : FinishedCall) → g ∈ (f ∷ []) → Reports g.call g.report
    reported g (inl q) = rw q r
    reported g (inr x') = elim x' [ ]

pub longest-read : Bounds (only (ended 0 0 (read 0) [] 6 6 0 1 (Value 5)))
longest-read = within-bounds _ (omega arith) (record { kind = refl; cell = refl; steps = refl; won = refl; lost = refl })

pub longest-swap : Bounds (only (ended 0 0 (swap 0 5 7) [] 21 21 2 1 Yes))
longest-swap = within-bounds _ (omega arith) (record { kind = refl; cell = refl; steps = refl; won = refl; lost = refl })

-- the only call of a history: of task 0 on cell 0, it tries a hardware CAS with its one step
abbrev trying : Op → Response → List (Action × Event)
trying op a = (begin 0 op, accepted untried) ∷ (step 0, answers success (kind_of op) a 1 1 0) ∷ []

abbrev needless : Op → Response → FinishedCall
needless op a = ended 0 0 op [] 1 1 1 0 a

needless_alone : (op : Op) (a : Response) → Alone (calls_of (trying op a)) (needless op a).call 1
unfolding upd
needless_alone op a d n i u q ne = absurd (go (the_calls_lem (calls_of (trying op a)) (λ t p q. rw (ne_eqb t 0 p)) d n i))
  where
    go : d ∈ ((needless op a).call ∷ []) → ⊥
    go (inl q) = ne (ap (λ (c : Call). c.start.at) q)
    go (inr x') = elim x' [ ]

-- WRONG: a swap does so, alone and on a clear cell
pub no_hardware_cas_alone : NoHardware (λ l k. Unit {0}) (calls_of (trying (swap 0 5 7) Yes)) → ⊥
unfolding upd
no_hardware_cas_alone h = omega (arith, h (needless (swap 0 5 7) Yes).call 1 (finished (needless (swap 0 5 7) Yes) (inl refl)) tt (needless_alone (swap 0 5 7) Yes))

-- WRONG: a read does so, alone and where the block is active; and so a swap of equal values
pub no_hardware_cas_by_a_read : NoHardwareReads (λ l k. Unit {0}) (calls_of (trying (read 0) (Value 5))) → ⊥
unfolding upd
no_hardware_cas_by_a_read h = omega (arith, h (needless (read 0) (Value 5)).call 1 (finished (needless (read 0) (Value 5)) (inl refl)) tt tt (needless_alone (read 0) (Value 5)))

pub no_hardware_cas_by_an_equal_swap : NoHardwareReads (λ l k. Unit {0}) (calls_of (trying (swap 0 5 5) Yes)) → ⊥
unfolding upd
no_hardware_cas_by_an_equal_swap h = omega (arith, h (needless (swap 0 5 5) Yes).call 1 (finished (needless (swap 0 5 5) Yes) (inl refl)) refl tt (needless_alone (swap 0 5 5) Yes))

-- of a swap of unequal values that clause says nothing: the block may be active and Y true
pub hardware_cas_where_the_block_is_active : NoHardwareReads (λ l k. Unit {0}) (calls_of (trying (swap 0 5 7) Yes))
unfolding upd
hardware_cas_where_the_block_is_active c n i reads active alone = absurd (go (the_calls_lem (calls_of (trying (swap 0 5 7) Yes)) (λ t p q. rw (ne_eqb t 0 p)) c n i))
  where
    go : c ∈ ((needless (swap 0 5 7) Yes).call ∷ []) → ⊥
    go (inl q) = let e : ◌≡◌ {A = ℕ} 5 7 = subst (λ (c : Call). Reads c.start.op) q reads in omega arith
    go (inr x') = elim x' [ ]

-- where the cell is not clear, the swap is right
pub hardware_cas_on_a_cell_that_is_not_clear : NoHardware (λ l k. ⊥) (calls_of (trying (swap 0 5 7) Yes))
hardware_cas_on_a_cell_that_is_not_clear c n i clear alone = absurd clear

-- a swap beside which only one of equal values is pending tries the hardware CAS
abbrev beside_equal : List (Action × Event)
beside_equal = (begin 0 (swap 0 5 5), accepted untried) ∷ (begin 1 (swap 0 5 7), accepted untried) ∷ (step 1, answers success a_swap Yes 1 1 0) ∷ []

abbrev equal : Call
equal = record { start = record { at = 0; task = 0; op = swap 0 5 5; before = [] }; last = 0; steps = 0; won = 0; lost = 0 }

abbrev beside : FinishedCall
beside = ended 1 1 (swap 0 5 7) (begin 0 (swap 0 5 5) ∷ []) 2 1 1 0 Yes

pub no_hardware_cas_beside_an_equal_swap : NoHardware (λ l k. Unit {0}) (calls_of beside_equal) → ⊥
unfolding upd
no_hardware_cas_beside_an_equal_swap h = omega (arith, h beside.call 2 (finished beside (inl refl)) tt alone)
  where
    alone : Alone (calls_of beside_equal) beside.call 2
    alone d n i u q ne = absurd (go (the_calls_lem (calls_of beside_equal) (λ t p q. rw (ne_eqb t 0 p, ne_eqb t 1 q)) d n i))
      where
        go : d ∈ (equal ∷ beside.call ∷ []) → ⊥
        go (inl q) = subst (λ (d : Call). Unequal d.start.op) q u refl
        go (inr (inl q)) = ne (ap (λ (c : Call). c.start.at) q)
        go (inr (inr x'')) = elim x'' [ ]

-- a swap that begins after the drop of another tries the hardware CAS: a withdrawn call contends until its drop
abbrev after_a_drop : List (Action × Event)
after_a_drop = (begin 0 (swap 0 5 7), accepted untried) ∷ (drop 0, accepted untried) ∷ (begin 1 (swap 0 5 9), accepted untried) ∷ (step 1, answers success a_swap Yes 1 1 0) ∷ []

abbrev after : FinishedCall
after = ended 2 1 (swap 0 5 9) (begin 0 (swap 0 5 7) ∷ drop 0 ∷ []) 3 1 1 0 Yes

none_pending : (t : ℕ) → (t ≡ 0) ⊎ (t ≢ 0) → (t ≡ 1) ⊎ (t ≢ 1) → (calls_of after_a_drop).pending t ≡ none
unfolding upd
none_pending t (inl e) k = rw e
none_pending t (inr e) (inl k) = rw k
none_pending t (inr e) (inr k) = rw (ne_eqb t 0 e, ne_eqb t 1 k)

pub no_hardware_cas_after_a_drop : NoHardware (λ l k. Unit {0}) (calls_of after_a_drop) → ⊥
unfolding upd
no_hardware_cas_after_a_drop h = omega (arith, h after.call 3 (finished after (inl refl)) tt alone)
  where
    alone : Alone (calls_of after_a_drop) after.call 3
    alone d n (finished f (inl e)) u q ne = absurd (ne (ap (λ (f : FinishedCall). f.call.start.at) e))
    alone d n (pending t c h) u q ne = absurd (clash (none_pending t (either t 0) (either t 1)) h)
    alone d n (withdrawn w (inl e)) u q ne = inl (omega (arith, ap (λ (w : WithdrawnCall). w.end) e))
    alone d _ (finished _ (inr x20)) u q ne = elim x20 [ ]
    alone d n (withdrawn _ (inr x9)) u q ne = elim x9 [ ]

-- where the block is active and Y may be true, that swap is right: one was withdrawn before its begin
pub hardware_cas_after_a_drop : NoHardwareUndropped (λ l k. Unit {0}) (calls_of after_a_drop)
unfolding upd
hardware_cas_after_a_drop c n (finished f (inl e)) unwithdrawn active alone = absurd (omega (arith, ap (λ (f : FinishedCall). f.call.start.at) e, unwithdrawn _ (inl refl) (λ z. omega arith) (ap (λ (f : FinishedCall). cell_of f.call.start.op) (sym e))))
hardware_cas_after_a_drop c n (pending t d h) unwithdrawn active alone = absurd (clash (none_pending t (either t 0) (either t 1)) h)
hardware_cas_after_a_drop c n (withdrawn w (inl e)) unwithdrawn active alone = ap (λ (w : WithdrawnCall). attempts w.call) e
hardware_cas_after_a_drop c _ (finished _ (inr x20)) unwithdrawn active alone = elim x20 [ ]
hardware_cas_after_a_drop c n (withdrawn _ (inr x9)) unwithdrawn active alone = elim x9 [ ]

-- WRONG: a swap does so alone, where the block is active and none was withdrawn before; that it is withdrawn later is no excuse
abbrev then_dropped : List (Action × Event)
then_dropped = (begin 0 (swap 0 5 7), accepted untried) ∷ (step 0, accepted success) ∷ (drop 0, accepted untried) ∷ []

pub no_hardware_cas_before_its_own_drop : NoHardwareUndropped (λ l k. Unit {0}) (calls_of then_dropped) → ⊥
unfolding upd
no_hardware_cas_before_its_own_drop h = omega (arith, h gone.call 2 (withdrawn gone (inl refl)) none_before tt alone)
  where
    gone : WithdrawnCall
    gone = record { call = record { start = record { at = 0; task = 0; op = swap 0 5 7; before = [] }; last = 1; steps = 1; won = 1; lost = 0 }; end = 2 }

    none_before : NoneWithdrawn (calls_of then_dropped) gone.call
    none_before w i u q = omega arith

    alone : Alone (calls_of then_dropped) gone.call 2
    alone d n (finished f i) u q ne = absurd i
    alone d n (pending t c h) u q ne = absurd (clash (idle t (either t 0)) h)
      where
        idle : (t : ℕ) → (t ≡ 0) ⊎ (t ≢ 0) → (calls_of then_dropped).pending t ≡ none
        idle t (inl e) = rw e
        idle t (inr e) = rw (ne_eqb t 0 e)
    alone d n (withdrawn w (inl e)) u q ne = absurd (ne (ap (λ (w : WithdrawnCall). w.call.start.at) e))
    alone d n (withdrawn _ (inr x8)) u q ne = elim x8 [ ]
