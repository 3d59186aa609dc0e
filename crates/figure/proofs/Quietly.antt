-- Quiet tasks in the whole figure: steps, begins and drops of others leave them quiet.
use mathlib.Core.Path.{◌≡◌, refl, sym, ap, subst, ◌∙◌}
use mathlib.Core.Logic.{◌≢◌, ◌⊎◌, inl, inr}
use mathlib.Core.Bool.{Bool, true, false, cond}
use mathlib.Core.Option.{some}
use mathlib.Core.List.{List}
use Prim.Native.Nat.{ℕ}
use lib.Dec.{eqb, T}
use borrow.Author.Tests.{eqb-false}
use Rattle.figure_lines.specs.declared.Record.{Record}
use Rattle.figure_lines.specs.Answers.{Next, Go, Done}
use Rattle.figure_lines.specs.Record.{idle, op_of}
use Rattle.figure_lines.specs.Lines.{Line, l10, l15, line_at, line_of, access_of, access_at, next_of, counted, attempt}
use Rattle.history_spec.specs.Basics.{upd}
use Rattle.history_spec.specs.History.{Op, read, swap, cell_of, untried}
use Rattle.history_spec.specs.Demand3.{Unequal, Reads}
use Rattle.history_spec.proofs.Basics.{either, clash, some_inj, upd-at, upd_same, upd_off}
use Rattle.history_linearization.proofs.Simulation.{Tally, QuietStarts, QuietSteps, Free}
use Rattle.figure_cell.specs.Memory.{Cell, access_cell}
use Rattle.cells_spec.specs.Turn.{record_after}
use Rattle.figure.specs.Figure.{World, with_task, active, clear, figure_answers, tried_in, first_of}
use Rattle.figure_cell.proofs.LineLaws.{Leads, goes, done}
use Rattle.figure.proofs.Records.{Pending, OnPath, AllOnPath, Accepted, led, cell-there, cell_elsewhere}
use Rattle.figure_cell.proofs.AsBegun.{cell_of_lem}
use Rattle.figure.proofs.Tallies.{tally, tally_of, doing}
use Rattle.figure_cell.proofs.Classes.{busy, swapping, lies_in, holding, uncontended}
use Rattle.figure.proofs.Views.{on, on_in, on_it, on_changed, on_elsewhere, on_others}
use Rattle.figure.proofs.Operations.{busy-line, busy_doing, is_unequal}
use Rattle.figure.proofs.Worlds.{cell_after, next_after, step_after, pending-at, was_idle, idle_to, its-cell}
use Rattle.figure_cell.proofs.Quiet.{entering, signed, Quiet, quiet_step, no_attempt, others_step, others_begin}

-- a task is quiet on its own cell
abbrev pub QuietIn : World → ℕ → Type 0
QuietIn w u = Quiet (w.cell (w.records u).cell) (on w.records (w.records u).cell) u

-- what a call finds: an active block; and if it swaps unequal values, Y false
abbrev pub ready : World → Op → Type 0
ready w op = let m = w.cell (cell_of op) in active w (cell_of op) × (Unequal op → m.y m.current ≡ 0)

pub clear-ready : (w : World) (op : Op) → clear w (cell_of op) → ready w op
clear-ready w op c = (c.0, λ u. c.1)

pub reads-ready : (w : World) (op : Op) → Reads op → active w (cell_of op) → ready w op
reads-ready w (read k) r a = (a, λ u. absurd u)
reads-ready w (swap k e n) r a = (a, λ u. absurd (u r))

-- who is doing something is at a line
pub is-busy : (w : World) → AllOnPath w → (u : ℕ) (n : Tally) → doing w u ≡ some n → T (busy (line_of (w.records u)))
is-busy w p u n d = go (p u).1
  where
    go : OnPath w.tasks w.cells u (p u).0 (w.records u) → T (busy (line_of (w.records u)))
    go (inl i) = absurd (clash (ap tally_of i.0) d)
    go (inr o) = busy-line (w.records u) o.1.line

-- A STEP OF TASK t

module _ (w : World) (t : ℕ) (did : List Line) (o : Pending w.cells did (w.records t)) where
  abbrev q : Record
  q = w.records t

  abbrev k : ℕ
  k = q.cell

  abbrev m : Cell
  m = cell_after w t

  abbrev n : Next
  n = next_after w t

  abbrev w' : World
  w' = step_after w t

  here : on w.records k t ≡ q
  here = on_in w.records k t refl

  -- the next record is on the same cell and of the same kind, or idle
  pub stays : (((record_after n).cell ≡ k) ⊎ (record_after n ≡ idle)) × (T (swapping (line_of (record_after n))) → T (swapping (line_of q)))
  stays = go (led w.cells did q o t (figure_answers w q (access_of t q)))
    where
      go : {x : Next} → Leads (line_of q) (counted q (tried_in w t q)) x → (((record_after x).cell ≡ k) ⊎ (record_after x ≡ idle)) × (T (swapping (line_of (record_after x))) → T (swapping (line_of q)))
      go (goes f) = (inl refl, λ b. subst T (sym (f.1 false true)) b)
      go (done f) = (inr refl, λ b. absurd b)

  own_kept : (x : Next) → n ≡ x → (a : Tally) → tally_of (record_after x) ≡ some a → QuietIn w t → Quiet (upd w.cell k m (record_after n).cell) (on w'.records (record_after n).cell) t
  own_kept (Go r) e a d z =
      let c : (record_after n).cell ≡ k = same-cell stays.0 in
      rw c (rw (cell-there w k m t (record_after n), on_changed w.records t (record_after n) k stays.0) (subst (λ (y : Next). Quiet m (upd (on w.records k) t (record_after y)) t) (sym e) (went_on r e)))
    where
      same-cell : ((record_after n).cell ≡ k) ⊎ (record_after n ≡ idle) → (record_after n).cell ≡ k
      same-cell (inl z) = z
      same-cell (inr z) = absurd (clash (ap tally_of (subst (λ (y : Next). record_after y ≡ idle) e z)) d)

      went_on : (r : Record) → n ≡ Go r → Quiet m (upd (on w.records k) t r) t
      went_on r e = subst (λ (y : Next). Goes y) e
          (subst (λ (p : Record). let x = access_cell (w.cell k) (access_of t p) in Goes' x.cell (next_of t p x.value)) here
          (quiet_step (w.cell k) (on w.records k) t z (line_of (on w.records k t)) refl z.line))
        where
          Goes' : Cell → Next → Type 0
          Goes' c (Go r) = Quiet c (upd (on w.records k) t r) t
          Goes' c (Done f) = Unit {0}

          Goes : Next → Type 0
          Goes y = Goes' m y
  own_kept (Done f) e a d z = absurd (clash refl d)

  others_kept : (u : ℕ) → u ≢ t → QuietIn w u → QuietIn w' u
  others_kept u ne z = rw (upd_off w.records t (record_after n) u ne) (go (either (w.records u).cell k))
    where
      j : ℕ
      j = (w.records u).cell

      go : (j ≡ k) ⊎ (j ≢ k) → Quiet (upd w.cell k m j) (on (upd w.records t (record_after n)) j) u
      go (inl e) =
          let y : Quiet (w.cell k) (on w.records k) u = subst (λ (j : ℕ). Quiet (w.cell j) (on w.records j) u) e z in
          let no-swap : T (swapping (line_of (on w.records k t))) → ⊥ = y.lonely t (λ x. ne (sym x)) in
          subst (λ j. Quiet (upd w.cell k m j) (on (upd w.records t (record_after n)) j) u) (sym e)
          (rw (cell-there w k m t (record_after n), on_changed w.records t (record_after n) k stays.0)
          (subst (λ (p : Record). Quiet (access_cell (w.cell k) (access_of t p)).cell (upd (on w.records k) t (record_after n)) u) here
          (others_step (w.cell k) (on w.records k) u t (record_after n) y ne (λ b. no-swap (rw here (stays.1 b))) no-swap)))
      go (inr e) = rw (cell_elsewhere w k m t (record_after n) j e, on_others w.records t (record_after n) j e stays.0) z

  pub step_quietly : QuietSteps doing ready QuietIn w w' t (tried_in w t (w.records t))
  step_quietly = record {
    no_attempt = λ z. subst (λ (p : Record). attempt (access_at (line_of p) t p) (access_cell (w.cell k) (access_of t p)).value ≡ untried) here (no_attempt (w.cell k) (on w.records k) t z _);
    kept = λ u a d z. go u a d z (either u t);
  }
    where
      go : (u : ℕ) (a : Tally) → doing w' u ≡ some a → QuietIn w u → (u ≡ t) ⊎ (u ≢ t) → QuietIn w' u
      go u a d z (inr e) = others_kept u e z
      go u a d z (inl e) = subst (λ u. QuietIn w' u) (sym e)
          (rw (upd_same w.records t (record_after n)) (own_kept n refl a (sym (ap tally_of (upd-at w.records t (record_after n) u e)) ∙ d) (subst (λ u. QuietIn w u) e z)))

-- A BEGIN

module _ (w : World) (path : AllOnPath w) (t : ℕ) (op : Op) (a : Accepted w t op) where
  abbrev v' : World
  v' = with_task w t (first_of op)

  idle-here : (j : ℕ) → on w.records j t ≡ idle
  idle-here j = idle_to w path t op a j

  on_its_cell : on v'.records (cell_of op) ≡ upd (on w.records (cell_of op)) t (first_of op)
  on_its_cell = on_changed w.records t (first_of op) (cell_of op) (inl (its-cell op))

  on_another : (j : ℕ) → j ≢ cell_of op → on v'.records j ≡ on w.records j
  on_another j n = on_elsewhere w.records t (first_of op) j (inr (was_idle w path t op a)) (inl (λ z. n (sym z ∙ its-cell op)))

  -- a first line is of a swap of unequal values only if the operation is one
  first_unequal : (p : Op) → T (swapping (line_of (first_of p))) → Unequal p
  first_unequal (read k) b = b
  first_unequal (swap k e n) b = go (eqb e n) refl b
    where
      go : (x : Bool) → eqb e n ≡ x → T (swapping (line_at (cond x 10 15) 0)) → e ≢ n
      go true z b = absurd b
      go false z b = eqb-false _ _ z

  -- a swap that its cell sees is pending there
  sees : (j u : ℕ) → T (swapping (line_of (on w.records j u))) → (doing w u ≡ some (tally (w.records u))) × Unequal (op_of (w.records u)) × (cell_of (op_of (w.records u)) ≡ j)
  sees j u b =
      let e = on_it w.records j u (lies_in swapping busy tt (line_of (on w.records j u)) b) in
      let b'' : T (swapping (line_of (w.records u))) = subst (λ (q : Record). T (swapping (line_of q))) (on_in w.records j u e) b in
      let y = lies_in swapping busy tt (line_of (w.records u)) b'' in
      (busy_doing (w.records u) y, is_unequal (w.records u) (pending-at w path u y).1.line b'', cell_of_lem (w.records u) ∙ e)

  pub begin_quietly : QuietStarts doing ready QuietIn w v' t op
  begin_quietly = record { new = new; others = others }
    where
      new : ready w op → Free doing w (cell_of op) → QuietIn v' t
      new c free = rw (upd_same w.records t (first_of op), its-cell op, on_its_cell) (first_quiet op c.1)
        where
          f : ℕ → Record
          f = on w.records (cell_of op)

          m' : Cell
          m' = w.cell (cell_of op)

          nobody : (u : ℕ) → T (swapping (line_of (f u))) → ⊥
          nobody u b = let s = sees (cell_of op) u b in free u (tally (w.records u)) s.0 s.1 s.2

          lonely : (p : Op) (u : ℕ) → u ≢ t → T (swapping (line_of (upd f t (first_of p) u))) → ⊥
          lonely p u ne = rw (upd_off f t (first_of p) u ne) (nobody u)

          -- at line 10 or 15 nothing is held yet
          at_first : (p : Op) (ℓ : Line) → line_of (first_of p) ≡ ℓ → T (uncontended ℓ) → (T (holding ℓ) → ⊥) → (T (entering ℓ) → m'.y m'.current ≡ 0) → (T (signed ℓ) → ⊥) → Quiet m' (upd f t (first_of p)) t
          at_first p ℓ e b n y x = record {
            active = c.0;
            lonely = lonely p;
            line = rw (upd_same f t (first_of p), e) b;
            here = rw (upd_same f t (first_of p), e) (λ z. absurd (n z));
            clear = rw (upd_same f t (first_of p), e) y;
            mine = rw (upd_same f t (first_of p), e) (λ z. absurd (x z));
          }

          first_quiet : (p : Op) → (Unequal p → m'.y m'.current ≡ 0) → Quiet m' (upd f t (first_of p)) t
          first_quiet (read k) y = at_first (read k) l10 refl tt (λ z. z) (λ z. absurd z) (λ z. z)
          first_quiet (swap k e n) y = go (eqb e n) refl
            where
              go : (x : Bool) → eqb e n ≡ x → Quiet m' (upd f t (first_of (swap k e n))) t
              go true z = at_first (swap k e n) l10 (rw z) tt (λ z. z) (λ z. absurd z) (λ z. z)
              go false z = at_first (swap k e n) l15 (rw z) tt (λ z. z) (λ b. y (eqb-false _ _ z)) (λ z. z)

      others : (u : ℕ) (n : Tally) → doing w u ≡ some n → (Unequal op → cell_of op ≢ cell_of n.op) → QuietIn w u → QuietIn v' u
      others u n d apart z = rw (upd_off w.records t (first_of op) u ne) (go (either (w.records u).cell (cell_of op)))
        where
          ne : u ≢ t
          ne e = clash (ap (doing w) e ∙ ap tally_of (was_idle w path t op a)) d

          its : cell_of n.op ≡ (w.records u).cell
          its = ap (λ (n : Tally). cell_of n.op) (some_inj d (busy_doing (w.records u) (is-busy w path u n d))) ∙ cell_of_lem (w.records u)

          go : ((w.records u).cell ≡ cell_of op) ⊎ ((w.records u).cell ≢ cell_of op) → Quiet (w.cell (w.records u).cell) (on v'.records (w.records u).cell) u
          go (inr e) = rw (on_another (w.records u).cell e) z
          go (inl e) = subst (λ j. Quiet (w.cell j) (on v'.records j) u) (sym e) (rw on_its_cell
              (others_begin (w.cell (cell_of op)) (on w.records (cell_of op)) u t (first_of op) (subst (λ (j : ℕ). Quiet (w.cell j) (on w.records j) u) e z) ne (λ b. apart (first_unequal op b) (sym e ∙ sym its))))

-- A DROP

module _ (w : World) (t : ℕ) where
  pub drop_quietly : (u : ℕ) (n : Tally) → doing (with_task w t idle) u ≡ some n → QuietIn w u → QuietIn (with_task w t idle) u
  drop_quietly u n d z = rw (upd_off w.records t idle u ne) (go (either (w.records u).cell (w.records t).cell))
    where
      ne : u ≢ t
      ne e = clash (ap tally_of (upd-at w.records t idle u e)) d

      go : ((w.records u).cell ≡ (w.records t).cell) ⊎ ((w.records u).cell ≢ (w.records t).cell) → Quiet (w.cell (w.records u).cell) (on (upd w.records t idle) (w.records u).cell) u
      go (inl e) = rw (on_changed w.records t idle (w.records u).cell (inr refl)) (others_begin (w.cell (w.records u).cell) (on w.records (w.records u).cell) u t idle z ne (λ b. b))
      go (inr e) = rw (on_elsewhere w.records t idle (w.records u).cell (inl (λ z. e (sym z))) (inr refl)) z
