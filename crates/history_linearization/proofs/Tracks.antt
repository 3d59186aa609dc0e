-- How an action changes the calls of a history, and that the machine's tallies change with them: one analysis of the cases for all of demand 3.
use mathlib.Core.Path.{◌≡◌, refl, sym, ap, ◌∙◌, subst}
use mathlib.Core.Logic.{◌≢◌, ◌⊎◌, inl, inr}
use mathlib.Core.Option.{Option, none, some}
use Prim.Native.Nat.{ℕ, ◌≤◌, ◌+◌}
use Rattle.history_spec.specs.Basics.{upd}
use Rattle.history_spec.specs.History.{Op, cell_of, kind_of, Action, begin, step, drop, Attempt, Event, refused, accepted, answered, Report, Call, Calls, called, advance, advanced, enter, IsBusy, Allowed}
use Rattle.history_spec.specs.Demand3.{most_hard, Reports}
use Rattle.history_spec.proofs.Basics.{either, upd-at, upd_off, clash, some_inj}
use Rattle.history_linearization.proofs.Simulation.{Tally, first, further, Follows}

-- OPTIONS

-- where a changed function gives something, it is the new thing or an old one
pub upd-some : {A : Type 0} (f : ℕ → Option A) (t : ℕ) (o : Option A) (u : ℕ) (a : A) → upd f t o u ≡ some a → ((u ≡ t) × (o ≡ some a)) ⊎ ((u ≢ t) × (f u ≡ some a))
upd-some f t o u a h = go (either u t)
  where
    go : (u ≡ t) ⊎ (u ≢ t) → ((u ≡ t) × (o ≡ some a)) ⊎ ((u ≢ t) × (f u ≡ some a))
    go (inl e) = inl (e, sym (upd-at f t o u e) ∙ h)
    go (inr n) = inr (n, sym (upd_off f t o u n) ∙ h)

pub upd_map : {A B : Type 0} (m : A → B) (f : ℕ → B) (g : ℕ → A) → ((u : ℕ) → f u ≡ m (g u)) → (t : ℕ) (a : A) (u : ℕ) → upd f t (m a) u ≡ m (upd g t a u)
upd_map m f g h t a u = go (either u t)
  where
    go : (u ≡ t) ⊎ (u ≢ t) → upd f t (m a) u ≡ m (upd g t a u)
    go (inl e) = upd-at f t (m a) u e ∙ sym (ap m (upd-at g t a u e))
    go (inr n) = upd_off f t (m a) u n ∙ (h u ∙ sym (ap m (upd_off g t a u n)))

-- THE MACHINE'S TALLIES ARE THE PENDING CALLS'

abbrev pub tallied : Call → Tally
tallied c = record { op = c.start.op; steps = c.steps; won = c.won; lost = c.lost }

abbrev pub tally_of : Option Call → Option Tally
tally_of none = none
tally_of (some c) = some (tallied c)

pub call_of_lem : (o : Option Call) (n : Tally) → tally_of o ≡ some n → (c : Call) × (o ≡ some c) × (tallied c ≡ n)
call_of_lem none n h = absurd (clash {o = tally_of none} refl h)
call_of_lem (some c) n h = (c, refl, some_inj {o = some (tallied c)} refl h)

idle_of : (o : Option Call) → tally_of o ≡ none → o ≡ none
idle_of none h = refl
idle_of (some c) h = absurd (clash {o = tally_of (some c)} h refl)

is-busy : {o : Option Call} {c : Call} → o ≡ some c → IsBusy o
is-busy h = rw h tt

abbrev pub Tracks : {S : Type 0} → (S → ℕ → Option Tally) → S → Calls → Type 0
Tracks doing s b = (t : ℕ) → doing s t ≡ tally_of (b.pending t)

-- each call that a machine follows, under whatever number, is one of these, with its tally
abbrev pub Acts : {X : Type 0} → (X → ℕ → Option Tally) → X → Calls → Type 0
Acts acting x b = (u : ℕ) (n : Tally) → acting x u ≡ some n → (c : Call) × (b.pending u ≡ some c) × (tallied c ≡ n)

-- what an action did: it was refused, or a call began, went on, ended, or was withdrawn
pub data Change {S : Type 0} (s s' : S) (b : Calls) : Action → Event → Type 0 where
  refuses : {a : Action} {r : ℕ} → s' ≡ s → Change s s' b a (refused r)
  starts : {t : ℕ} {op : Op} {x : Attempt} → b.pending t ≡ none → Change s s' b (begin t op) (accepted x)
  goes : {t : ℕ} {x : Attempt} (c : Call) → b.pending t ≡ some c → Change s s' b (step t) (accepted x)
  ends : {t : ℕ} {x : Attempt} {r : Report} (c : Call) → b.pending t ≡ some c → Reports (advance b x c) r → r.won + r.lost ≤ most_hard c.start.op → Change s s' b (step t) (answered x r)
  drops : {t : ℕ} {x : Attempt} (c : Call) → b.pending t ≡ some c → Change s s' b (drop t) (accepted x)

pub record Tracked {S : Type 0} (doing : S → ℕ → Option Tally) (size : ℕ) (s s' : S) (b : Calls) (a : Action) (e : Event) : Type 0 where
  pub allowed : Allowed size b a e
  pub change : Change s s' b a e
  pub tracks : Tracks doing s' (enter b a e)

module _ {S : Type 0} (doing : S → ℕ → Option Tally) (size : ℕ) (s s' : S) (b : Calls) (same : Tracks doing s b) where
  -- the tallies changed as the pending calls
  changed : (t : ℕ) (n : Option Tally) (o : Option Call) → n ≡ tally_of o → ((u : ℕ) → doing s' u ≡ upd (doing s) t n u) → (u : ℕ) → doing s' u ≡ tally_of (upd b.pending t o u)
  changed t n o e rest u = rest u ∙ (ap (λ m. upd (doing s) t m u) e ∙ upd_map tally_of (doing s) b.pending same t o u)

  pub tracked : (a : Action) (e : Event) → Follows doing size s a s' e → Tracked doing size s s' b a e
  tracked (begin t op) (refused n) f = record { allowed = tt; change = refuses f; tracks = rw f same }
  tracked (begin t op) (accepted x) f =
      let idle : b.pending t ≡ none = idle_of (b.pending t) (sym (same t) ∙ f.idle) in
      record { allowed = (idle, f.cell, f.no_attempt); change = starts idle; tracks = changed t (some (first op)) (some (called b t op)) refl f.rest }
  tracked (step t) (refused n) f = record { allowed = idle_of (b.pending t) (sym (same t) ∙ f.1); change = refuses f.0; tracks = rw f.0 same }
  tracked (step t) (accepted x) f =
      let c = call_of_lem (b.pending t) f.now (sym (same t) ∙ f.was) in
      record {
        allowed = is-busy c.1;
        change = goes c.0 c.1;
        tracks = changed t (some (further f.now x)) (advanced b x (b.pending t)) (ap (λ n. some (further n x)) (sym c.2) ∙ sym (ap (λ o. tally_of (advanced b x o)) c.1)) f.rest;
      }
  tracked (step t) (answered x r) f =
      let c = call_of_lem (b.pending t) f.now (sym (same t) ∙ f.was) in
      record {
        allowed = is-busy c.1;
        change = ends {x = x} {r = r} c.0 c.1 (record { kind = f.kind ∙ ap (λ (n : Tally). kind_of n.op) (sym c.2); cell = f.cell ∙ ap (λ (n : Tally). cell_of n.op) (sym c.2); steps = cc c.2; won = cc c.2; lost = cc c.2 })
            (subst (λ (n : Tally). r.won + r.lost ≤ most_hard n.op) (sym c.2) f.few);
        tracks = changed t none none refl f.rest;
      }
  tracked (drop t) (refused n) f = record { allowed = idle_of (b.pending t) (sym (same t) ∙ f.1); change = refuses f.0; tracks = rw f.0 same }
  tracked (drop t) (accepted x) f =
      let c = call_of_lem (b.pending t) f.now (sym (same t) ∙ f.was) in
      record { allowed = (is-busy c.1, f.no_attempt); change = drops c.0 c.1; tracks = changed t none none refl f.rest }
  tracked (begin t op) (answered x r) f = elim f [ ]
  tracked (drop t) (answered x r) f = elim f [ ]
