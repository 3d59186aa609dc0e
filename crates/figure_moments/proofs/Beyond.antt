-- Beside the figure the proof runs another one, in which a withdrawn call that has stored goes on as one that has halted, under a number of its
-- own: the number of tasks and the moment of its drop. To the tasks both are the same.
use mathlib.Core.Path.{◌≡◌, refl, sym, ap, ap₂, subst, ◌∙◌}
use mathlib.Core.Logic.{◌≢◌, ◌⊎◌, inl, inr}
use mathlib.Core.Bool.{◌&&◌, cond}
use mathlib.Core.Option.{none, some}
use Prim.Native.Nat.{ℕ, suc, ◌+◌, ◌≤◌, ◌<◌}
use native.Mathlib.Omega.{arith}
use Rattle.figure_lines.specs.declared.Record.{Record}
use lib.Dec.{eqb}
use Rattle.figure_lines.specs.Basics.{within}
use Rattle.figure_lines.specs.declared.Field.TheVariants.{C, D}
use Rattle.figure_lines.specs.Record.{idle, no_value}
use Rattle.figure_lines.specs.Lines.{access_of, next_of}
use Rattle.history_spec.specs.Basics.{upd}
use Rattle.history_spec.specs.History.{Op, Action, begin, step, drop, Event, refused, accepted, answered, Response, Value, Yes, No}
use Rattle.history_spec.proofs.Basics.{either, upd-at, upd_off}
use Rattle.figure_cell.specs.Memory.{Cell, word_of, access_cell}
use Rattle.cells_spec.specs.Turn.{record_after}
use Rattle.figure.specs.Figure.{World, with_task, first_of}
use Rattle.figure_moments.specs.Moments.{holds_block, Sight, Notes, nothing_noted, noted, waits, lands, drop_noted, ruled, stands, sees}
use Rattle.figure.proofs.Worlds.{step_after}
use Rattle.figure_cell.proofs.Dropping.{kept}
use Rattle.figure_moments.proofs.Drops.{parked_world, parked_notes}

abbrev pub Beyond : Type 0
Beyond = World × Notes

abbrev pub beyond : (tasks : ℕ) → Beyond → World → Action → Event → Beyond
beyond n p w a (refused r) = (p.0, nothing_noted p.1)
beyond n p w (begin t op) (accepted x) = (with_task p.0 t (first_of op), nothing_noted p.1)
beyond n p w (begin t op) (answered x r) = (p.0, nothing_noted p.1)
beyond n p w (step t) (accepted x) = (step_after p.0 t, noted p.1 t (sees p.0 t))
beyond n p w (step t) (answered x r) = (step_after p.0 t, noted p.1 t (sees p.0 t))
beyond n p w (drop t) (accepted x) = (parked_world p.0 t (n + p.1.now), parked_notes p.1 t (n + p.1.now))
beyond n p w (drop t) (answered x r) = (p.0, nothing_noted p.1)

-- task u's notes
pub record SameNotes (o o⁺ : Notes) (u : ℕ) : Type 0 where
  pub loaded : o⁺.loaded u ≡ o.loaded u
  pub stored : o⁺.stored u ≡ o.stored u
  pub stored_active : o⁺.stored_active u ≡ o.stored_active u
  pub inactive : o⁺.inactive u ≡ o.inactive u
  pub decided : o⁺.decided u ≡ o.decided u
  pub replaced : o⁺.replaced u ≡ o.replaced u

pub record Same (n : ℕ) (w : World) (o : Notes) (w⁺ : World) (o⁺ : Notes) : Type 0 where
  pub cells : w⁺.cells ≡ w.cells
  pub cell : w⁺.cell ≡ w.cell
  pub records : (u : ℕ) → u < n → w⁺.records u ≡ w.records u
  pub now : o⁺.now ≡ o.now
  pub notes : (u : ℕ) → u < n → SameNotes o o⁺ u
  -- the numbers that are given so far
  pub least : n ≤ w⁺.tasks
  pub most : w⁺.tasks ≤ n + o⁺.now
  pub ahead : (m : ℕ) → o⁺.now ≤ m → w⁺.records (n + m) ≡ idle

-- what a task with the record r sees, of who has the record q
abbrev pub sight_by : (r q : Record) → (ℕ → Cell) → Sight
sight_by r q c = let h = holds_block r in let word = word_of (c r.cell) r.held in record {
  line = r.line;
  figure_line = cond (within r.line 1 3) r.wanted r.line;
  swaps = eqb r.kind 2;
  active = h && eqb (word C) 0;
  undecided = h && eqb (word D) no_value;
  current = h && eqb (c r.cell).current r.held;
  as_expected = h && eqb (word D) r.expected;
  as_new = h && eqb (word D) r.new;
  holders = λ u. h && (holds_block q && (eqb q.cell r.cell && eqb q.held r.held));
  cell = r.cell;
  loaded = r.loaded;
  new = r.new;
}

-- the notes, as if they were everybody's
abbrev notes_of : Notes → ℕ → Notes
notes_of o u = record { now = o.now; loaded = λ v. o.loaded u; stored = λ v. o.stored u; stored_active = λ v. o.stored_active u; inactive = λ v. o.inactive u; decided = λ v. o.decided u; replaced = λ v. o.replaced u; waiting = λ k. none }

-- where number u's swap took effect is known by its record, its notes, and its block
pub stands_alike : (w v : World) (o p : Notes) (u t : ℕ) → w.records u ≡ v.records t → w.cell ≡ v.cell → o.stored u ≡ p.stored t → o.stored_active u ≡ p.stored_active t → o.inactive u ≡ p.inactive t → stands o u (sees w u) ≡ stands p t (sees v t)
stands_alike w v o p u t r c e f h = λ i.
    stands (record { now = 0; loaded = λ j. 0; stored = λ j. e i; stored_active = λ j. f i; inactive = λ j. h i; decided = λ j. 0; replaced = λ j. 0; waiting = λ k. none }) u (sight_by (r i) (r i) (c i))

pub stands-idle : (w : World) (o : Notes) (u : ℕ) → w.records u ≡ idle → stands o u (sees w u) ≡ none
stands-idle w o u e = subst (λ (r : Record). stands o u (sight_by r r w.cell) ≡ none) (sym e) refl

module _ (n : ℕ) (w : World) (o : Notes) (w⁺ : World) (o⁺ : Notes) (s : Same n w o w⁺ o⁺) where
  same_of : (u : ℕ) → u < n → notes_of o⁺ u ≡ notes_of o u
  same_of u l = let k = s.notes u l in
      λ i. record { now = s.now i; loaded = λ v. k.loaded i; stored = λ v. k.stored i; stored_active = λ v. k.stored_active i; inactive = λ v. k.inactive i; decided = λ v. k.decided i; replaced = λ v. k.replaced i; waiting = λ k. none }

  pub same_passing : Same n w (nothing_noted o) w⁺ (nothing_noted o⁺)
  same_passing = record { cells = s.cells; cell = s.cell; records = s.records; now = ap suc s.now; notes = λ u l. let k = s.notes u l in record { loaded = k.loaded; stored = k.stored; stored_active = k.stored_active; inactive = k.inactive; decided = k.decided; replaced = k.replaced }; least = s.least; most = omega (arith, s.most); ahead = λ m h. s.ahead m (omega arith) }

  module _ (t : ℕ) (low : t < n) where
    -- another record for task t
    put : (q : Record) (u : ℕ) → u < n → upd w⁺.records t q u ≡ upd w.records t q u
    put q u l = go (either u t)
      where
        go : (u ≡ t) ⊎ (u ≢ t) → upd w⁺.records t q u ≡ upd w.records t q u
        go (inl e) = upd-at w⁺.records t q u e ∙ sym (upd-at w.records t q u e)
        go (inr e) = upd_off w⁺.records t q u e ∙ s.records u l ∙ sym (upd_off w.records t q u e)

    past : (q : Record) (m : ℕ) → o⁺.now ≤ m → upd w⁺.records t q (n + m) ≡ idle
    past q m h = upd_off w⁺.records t q (n + m) (λ e. omega arith) ∙ s.ahead m h

    pub same-begun : (op : Op) → Same n (with_task w t (first_of op)) (nothing_noted o) (with_task w⁺ t (first_of op)) (nothing_noted o⁺)
    same-begun op = let k = same_passing in record { cells = s.cells; cell = s.cell; records = put (first_of op); now = k.now; notes = k.notes; least = s.least; most = k.most; ahead = λ m h. past (first_of op) m (omega arith) }

    here : w⁺.records t ≡ w.records t
    here = s.records t low

    same-sight : (u : ℕ) → u < n → sight_by (w⁺.records t) (w⁺.records u) w⁺.cell ≡ sight_by (w.records t) (w.records u) w.cell
    same-sight u l = λ i. sight_by (here i) (s.records u l i) (s.cell i)

    pub same-ruled : (a : Response) → ruled o⁺ t (sees w⁺ t) a ≡ ruled o t (sees w t) a
    same-ruled (Value v) = ap₂ (λ (o : Notes) (x : Sight). ruled o t x (Value v)) (same_of t low) (same-sight t low)
    same-ruled Yes = ap₂ (λ (o : Notes) (x : Sight). ruled o t x Yes) (same_of t low) (same-sight t low)
    same-ruled No = ap₂ (λ (o : Notes) (x : Sight). ruled o t x No) (same_of t low) (same-sight t low)

    pub same-stands : stands o⁺ t (sees w⁺ t) ≡ stands o t (sees w t)
    same-stands = ap₂ (λ (o : Notes) (x : Sight). stands o t x) (same_of t low) (same-sight t low)

    noted-same : (u : ℕ) → u < n → SameNotes (noted o t (sees w t)) (noted o⁺ t (sees w⁺ t)) u
    noted-same u l = let p = same_of u l in let q = same-sight u l in record {
      loaded = ap₂ (λ (o : Notes) (x : Sight). (noted o t x).loaded u) p q;
      stored = ap₂ (λ (o : Notes) (x : Sight). (noted o t x).stored u) p q;
      stored_active = ap₂ (λ (o : Notes) (x : Sight). (noted o t x).stored_active u) p q;
      inactive = ap₂ (λ (o : Notes) (x : Sight). (noted o t x).inactive u) p q;
      decided = ap₂ (λ (o : Notes) (x : Sight). (noted o t x).decided u) p q;
      replaced = ap₂ (λ (o : Notes) (x : Sight). (noted o t x).replaced u) p q;
    }

    -- what the step makes of the withdrawn swaps
    pub same-lands : lands o (sees w⁺ t) ≡ lands o (sees w t)
    same-lands = ap (λ (x : Sight). lands o x) (same-sight t low)

    pub same-waiting : (noted o t (sees w⁺ t)).waiting ≡ (noted o t (sees w t)).waiting
    same-waiting = ap (λ (x : Sight). (noted o t x).waiting) (same-sight t low)

    abbrev next : Record → (ℕ → Cell) → Record
    next r c = record_after (next_of t r (access_cell (c r.cell) (access_of t r)).value)

    pub same-stepped : Same n (step_after w t) (noted o t (sees w t)) (step_after w⁺ t) (noted o⁺ t (sees w⁺ t))
    same-stepped = record {
      cells = s.cells;
      cell = λ i. let r = here i in let c = s.cell i in upd c r.cell (access_cell (c r.cell) (access_of t r)).cell;
      records = λ u l. ap (λ q. upd w⁺.records t q u) (λ i. next (here i) (s.cell i)) ∙ put (next (w.records t) w.cell) u l;
      now = ap suc s.now;
      notes = noted-same;
      least = s.least;
      most = omega (arith, s.most);
      ahead = λ m h. past (next (w⁺.records t) w⁺.cell) m (omega arith);
    }

    pub same-waits : waits o⁺ t (sees w⁺ t) ≡ waits o t (sees w t)
    same-waits = ap₂ (λ (o : Notes) (x : Sight). waits o t x) (same_of t low) (same-sight t low)

    pub same_awaited : cond (waits o⁺ t (sees w⁺ t)) (upd o.waiting (w⁺.records t).cell (some (record { drop = o⁺.now; new = (w⁺.records t).new; inactive = o⁺.inactive t }))) o.waiting ≡ (drop_noted o t (sees w t)).waiting
    same_awaited = λ i. cond (same-waits i) (upd o.waiting (here i).cell (some (record { drop = s.now i; new = (here i).new; inactive = (s.notes t low).inactive i }))) o.waiting

    pub same-dropped : let u = n + o⁺.now in Same n (with_task w t idle) (drop_noted o t (sees w t)) (parked_world w⁺ t u) (parked_notes o⁺ t u)
    same-dropped = record {
      cells = s.cells;
      cell = s.cell;
      records = λ v l. upd_off (upd w⁺.records t idle) u (kept (w⁺.records t)) v (other v l) ∙ put idle v l;
      now = ap suc s.now;
      notes = λ v l. let k = s.notes v l in let m = other v l in record {
        loaded = upd_off o⁺.loaded u (o⁺.loaded t) v m ∙ k.loaded;
        stored = upd_off o⁺.stored u (o⁺.stored t) v m ∙ k.stored;
        stored_active = upd_off o⁺.stored_active u (o⁺.stored_active t) v m ∙ k.stored_active;
        inactive = upd_off o⁺.inactive u (o⁺.inactive t) v m ∙ k.inactive;
        decided = upd_off o⁺.decided u (o⁺.decided t) v m ∙ k.decided;
        replaced = upd_off o⁺.replaced u (o⁺.replaced t) v m ∙ k.replaced;
      };
      least = omega arith;
      most = omega arith;
      ahead = λ m h. upd_off (upd w⁺.records t idle) u (kept (w⁺.records t)) (n + m) (λ e. omega arith) ∙ past idle m (omega arith);
    }
      where
        u : ℕ
        u = n + o⁺.now

        other : (v : ℕ) → v < n → v ≢ u
        other v l e = omega arith
