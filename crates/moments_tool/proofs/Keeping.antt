-- The withdrawn swaps that wait, at most one a cell, as the code keeps them: the word of the mark, and the new value.
use mathlib.Core.Path.{◌≡◌, refl, ◌∙◌}
use mathlib.Core.Logic.{◌≢◌, ◌⊎◌, inl, inr}
use mathlib.Core.Bool.{Bool, true, false, ◌&&◌, cond}
use mathlib.Core.Option as Math
use Rattle.std.specs.Prelude.{Option, Some, None}
use mathlib.Core.List.{List, ◌++◌}
use Prim.Native.Nat.{ℕ, suc, ◌<◌}
use native.Mathlib.Omega.{arith}
use lib.Dec.{eqb}
use lib.ListN.{length, set, length-set}
use lib.Seq.{get_or-set_same, get_or-set_other}
use borrow.Author.Tests.{ne_eqb}
use Rattle.cells_spec.specs.Machine.{pool}
use Rattle.history_spec.specs.Basics.{upd}
use Rattle.history_spec.specs.History.{cell_of, Action, begin, step, drop, Yes, Event, refused, accepted, answered, Call, Calls, also_withdrawn, enter}
use Rattle.history_spec.specs.Moments.{C3, Mark, withdrawn_at, mark_of_landed}
use Rattle.history_spec.proofs.Basics.{either, upd_same, upd_off}
use Rattle.figure_moments.specs.Moments.{Waiting, spot_at, landed, noting, names}
use Rattle.cells_theorems.specs.Moments.{sees_pool}
use Rattle.moments_tool.specs.declared.sights.Waiter.{Waiter}
use Rattle.figure_lines.specs.declared.Record.{Record}
use Rattle.moments_tool.specs.declared.sights.Sight.{Sight}
use Rattle.moments_tool.specs.Words.{encode, entered, IsMade, Listed}
use Rattle.moments_tool.specs.Notes.{waiter_at}
use Rattle.moments_tool.specs.Loop.{decides, landed_word}
use Rattle.moments_tool.proofs.Encoding.{entered_listed}

-- its mark, if it takes effect
abbrev pub late_mark : Waiting → Call → Mark
late_mark w c = record { spot = spot_at w.inactive C3; call = c.start; answer = Yes }

pub record Kept (b : Calls) (k : Waiter) (w : Waiting) : Type 0 where
  pub call : Call
  pub known : withdrawn_at b.withdrawn w.drop ≡ Math.some call
  pub earlier : w.drop < b.now
  pub task : call.start.task < 32
  pub cell : cell_of call.start.op < 16
  pub word : k.mark ≡ encode (late_mark w call)
  pub new : k.new ≡ w.new

abbrev pub Keeps : Calls → Option Waiter → Math.Option Waiting → Type 0
Keeps b None Math.none = Unit {0}
Keeps b None (Math.some w) = ⊥
Keeps b (Some k) Math.none = ⊥
Keeps b (Some k) (Math.some w) = Kept b k w

pub record AllKept (b : Calls) (ks : List (Option Waiter)) (f : ℕ → Math.Option Waiting) : Type 0 where
  pub sixteen : length ks ≡ 16
  pub each : (k : ℕ) → Keeps b (waiter_at ks k) (f k)

-- AN ACTION LATER: who was withdrawn before is still known by its number, for a later drop has a greater one

pub record Later (b b'' : Calls) : Type 0 where
  pub now : b''.now ≡ suc b.now
  pub known : (m : ℕ) → m < b.now → withdrawn_at b''.withdrawn m ≡ withdrawn_at b.withdrawn m

pub later : (b : Calls) (a : Action) (u : Event) → Later b (enter b a u)
later b a (refused n) = record { now = refl; known = λ m h. refl }
later b (begin t op) (accepted x) = record { now = refl; known = λ m h. refl }
later b (begin t op) (answered x r) = record { now = refl; known = λ m h. refl }
later b (step t) (accepted x) = record { now = refl; known = λ m h. refl }
later b (step t) (answered x r) = record { now = refl; known = λ m h. refl }
later b (drop t) (accepted x) = record { now = refl; known = λ m h. go m h (b.pending t) }
  where
    go : (m : ℕ) → m < b.now → (o : Math.Option Call) → withdrawn_at (also_withdrawn o b.now b.withdrawn) m ≡ withdrawn_at b.withdrawn m
    go m h Math.none = refl
    go m h (Math.some c) = rw (ne_eqb m b.now (omega (arith, h)))
later b (drop t) (answered x r) = record { now = refl; known = λ m h. refl }

keeps_on : {b b'' : Calls} → Later b b'' → (k : Option Waiter) (o : Math.Option Waiting) → Keeps b k o → Keeps b'' k o
keeps_on z None Math.none h = tt
keeps_on z None (Math.some w) h = absurd h
keeps_on z (Some k) Math.none h = absurd h
keeps_on z (Some k) (Math.some w) h = record {
  call = h.call;
  known = z.known w.drop h.earlier ∙ h.known;
  earlier = omega (arith, h.earlier, z.now);
  task = h.task;
  cell = h.cell;
  word = h.word;
  new = h.new;
}

pub kept_on : {b b'' : Calls} {ks : List (Option Waiter)} {f : ℕ → Math.Option Waiting} → Later b b'' → AllKept b ks f → AllKept b'' ks f
kept_on {ks = ks} {f = f} z h = record { sixteen = h.sixteen; each = λ k. keeps_on z (waiter_at ks k) (f k) (h.each k) }

-- AT ONE CELL

module _ {b : Calls} {ks : List (Option Waiter)} {f : ℕ → Math.Option Waiting} (h : AllKept b ks f) (c : ℕ) (small : c < 16) where
  put : (q : Option Waiter) (g : ℕ → Math.Option Waiting) → Keeps b q (g c) → ((k : ℕ) → k ≢ c → g k ≡ f k) → AllKept b (set ks c q) g
  put q g here there = record { sixteen = length-set ks c q ∙ h.sixteen; each = λ k. go k (either k c) }
    where
      go : (k : ℕ) → (k ≡ c) ⊎ (k ≢ c) → Keeps b (waiter_at (set ks c q) k) (g k)
      go k (inl e) = rw (e, get_or-set_same ks c q None (omega (arith, small, h.sixteen))) here
      go k (inr e) = rw (get_or-set_other ks c k q None e, there k e) (h.each k)

  -- q waits there from now on, if t
  pub kept_put : (t : Bool) (q : Option Waiter) (o : Math.Option Waiting) → (t ≡ true → Keeps b q o) → AllKept b (set ks c (cond t q (waiter_at ks c))) (cond t (upd f c o) f)
  kept_put true q o z = put q (upd f c o) (rw (upd_same f c o) (z refl)) (λ k e. upd_off f c o k e)
  kept_put false q o z = put (waiter_at ks c) f (h.each c) (λ k e. refl)

-- a step that decides makes the mark of who waits, if it decides as its new value
pub landed_listed : (b : Calls) (r : Record) (x : Sight) (k : Option Waiter) (o : Math.Option Waiting) → Keeps b k o → {words : List ℕ} {l : List Mark} → Listed words l
    → IsMade (landed_word r x k)
    → Listed (entered (landed_word r x k) words) (mark_of_landed (noting pool sees_pool) (names pool sees_pool) (cond (decides r.line x) (landed o r.loaded) Math.none) b.withdrawn ++ l)
landed_listed b r x None Math.none h {words} {l} y f = go (decides r.line x)
  where
    go : (d : Bool) → Listed words (mark_of_landed (noting pool sees_pool) (names pool sees_pool) (cond d Math.none Math.none) b.withdrawn ++ l)
    go true = y
    go false = y
landed_listed b r x None (Math.some w) h y f = absurd h
landed_listed b r x (Some k) Math.none h y f = absurd h
landed_listed b r x (Some k) (Math.some w) h {words} {l} y f = rw h.new (go (decides r.line x) (eqb r.loaded w.new) (rw h.new at f))
  where
    go : (d z : Bool) → IsMade (cond (d && z) (Some k.mark) None) → Listed (entered (cond (d && z) (Some k.mark) None) words)
        (mark_of_landed (noting pool sees_pool) (names pool sees_pool) (cond d (cond z (Math.some (w.drop, spot_at w.inactive C3)) Math.none) Math.none) b.withdrawn ++ l)
    go true true g = rw (h.word, h.known) (entered_listed y (late_mark w h.call) (rw h.word at g) h.task h.cell)
    go true false g = y
    go false z g = y
