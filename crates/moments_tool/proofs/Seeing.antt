-- What the code sees of a task's block before a step that is done is what the definition sees; so it notes the same.
use mathlib.Core.Path.{◌≡◌, refl}
use mathlib.Core.Bool.{Bool, true, false, ◌&&◌, ◌||◌, cond, false≢true, or-true}
use mathlib.Core.Option.{Option}
use mathlib.Core.List.{List}
use Prim.Native.Nat.{ℕ, suc, ◌≤◌, ◌<◌}
use native.Mathlib.Omega.{arith}
use native.Mathlib.Decide.{dec_le}
use lib.Dec.{eqb}
use lib.ListN.{length, get_or, get_or-eq_default}
use Rattle.figure_lines.specs.declared.Record.{Record}
use Rattle.figure_lines.specs.Record.{idle, record_at}
use Rattle.cells_spec.specs.declared.State.{State}
use Rattle.cells_spec.specs.Step.{current}
use Rattle.figure_moments.specs.Moments.{holds_block, Notes, Waiting, noted}
use Rattle.cells_theorems.specs.Moments.{sees_pool}
use Rattle.moments_tool.specs.declared.sights.Sight.{Sight}
use Rattle.moments_tool.specs.Notes.{sight_in, holds_with, sight_of, with_waiting}
use Rattle.moments_tool.specs.Loop.{spreads}

first_true : (a b : Bool) → (a && b) ≡ true → a ≡ true
first_true true b e = refl
first_true false b e = absurd (false≢true e)

second_true : (a b : Bool) → (a && b) ≡ true → b ≡ true
second_true true b e = e
second_true false b e = absurd (false≢true e)

module _ (s : State) (p : List ℕ) (t : ℕ) where
  abbrev r : Record
  r = record_at s.records t

  -- who holds its block
  abbrev pub holds : ℕ → Bool
  holds u = holds_with (record_at s.records u) r

  -- what the list says, where that matters
  pub record Who (n : ℕ) (x : Sight) (w : List Bool) : Type 0 where
    pub who : spreads n x ≡ true → (u : ℕ) → u < 32 → get_or w u false ≡ holds u
    pub size : length w ≡ 32

  abbrev x : Sight
  x = sight_in p r (current s r.cell)

  module _ (records : length s.records ≡ 32) (w : List Bool) (h : Who r.line x w) where
    same_who : spreads r.line x ≡ true → holds_block r ≡ true → (u : ℕ) → get_or w u false ≡ (holds_block r && holds u)
    same_who e f u = rw f (go (dec_le 32 u))
      where
        go : Dec (32 ≤ u) → get_or w u false ≡ holds u
        go (yes l) = rw (get_or-eq_default w false {n = u} (omega (arith, l, h.size)), get_or-eq_default s.records idle {n = u} (omega (arith, l, records)))
        go (no l) = h.who e u (omega (arith, l))

    guard : (b : Bool) → (b ≡ true → spreads r.line x ≡ true) → (b ≡ true → holds_block r ≡ true) → (u : ℕ) → (b && get_or w u false) ≡ (b && (holds_block r && holds u))
    guard true f g u = same_who (f refl) (g refl) u
    guard false f g u = refl

    -- a test of the line, and one of the block that it holds
    held : (e z : Bool) → (e && (holds_block r && z)) ≡ true → holds_block r ≡ true
    held e z q = first_true (holds_block r) z (second_true e (holds_block r && z) q)

    abbrev at2 : Bool
    at2 = eqb r.line 2 && x.undecided

    abbrev at27 : Bool
    at27 = eqb r.line 27 && x.active

    abbrev at30 : Bool
    at30 = eqb r.line 30 && x.current

    -- whoever waits
    pub same_noted : (o : Notes) (f : ℕ → Option Waiting) → with_waiting f (noted o t (sight_of r.line idle x w)) ≡ with_waiting f (noted o t (sees_pool (s, p) t))
    same_noted o f =
        let g27 = guard at27 (λ e. rw e (or-true at2)) (held (eqb r.line 27) _) in
        let g2 = guard at2 (λ e. rw e) (held (eqb r.line 2) _) in
        let g30 = guard at30 (λ e. rw (e, or-true at27) (or-true at2)) (held (eqb r.line 30) _) in
        let y = noted o t (sees_pool (s, p) t) in
        λ j. record {
          now = suc o.now;
          loaded = y.loaded;
          stored = y.stored;
          stored_active = y.stored_active;
          inactive = λ u. cond (g27 u j) o.now (o.inactive u);
          decided = λ u. cond (((eqb r.line 10 || eqb r.line 15) && eqb u t) || g2 u j) o.now (o.decided u);
          replaced = λ u. cond (g30 u j) o.now (o.replaced u);
          waiting = f;
        }
