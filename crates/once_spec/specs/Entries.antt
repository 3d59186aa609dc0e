-- What the entries leave and answer. A refusal returns the number alone: the state stays.
use Rattle.std.specs.Prelude.{true, false, ◌∷◌, ℕ, set, replicate}
use Rattle.std.proofs.Math.Option.{Option, none, some}
use Rattle.cells_spec.specs.Questions.{refusal}
use Rattle.once_spec.specs.declared.OnceCell.{OnceCell}
use Rattle.once_spec.specs.declared.Offer.{Offer}
use Rattle.once_spec.specs.declared.OnceState.{OnceState}
use Rattle.once_spec.specs.Figure.{Given, Refuses, GoesOn, Leaves, idle_offer, leaves}
use Rattle.once_spec.specs.Questions.{offer_at, fresh_cell, once_at, open_once, once_fit, offer_questions, turn_questions}

pub record OnceAfter : Type 0 where
  pub state : OnceState
  pub gives : Given

abbrev pub once_after : OnceState → Given → OnceAfter
once_after s g = record { state = s; gives = g }

abbrev pub or_refused : Option ℕ → OnceState → OnceAfter → OnceAfter
or_refused none s acted = acted
or_refused (some n) s acted = once_after s (Refuses n)

-- cell k becomes m, and task t's offer r
abbrev pub replaced : OnceState → (cell : ℕ) → OnceCell → (task : ℕ) → Offer → OnceState
replaced s k m t r = record { tasks = s.tasks; cells = s.cells; words = set s.words k m; offers = set s.offers t r }

-- OPEN

-- whatever the state held
abbrev pub once_start : (tasks cells : ℕ) → OnceState
once_start n v = record { tasks = n; cells = v; words = replicate 16 fresh_cell; offers = replicate 32 idle_offer }

unfoldable pub once_opened : OnceState → (tasks cells : ℕ) → OnceAfter
once_opened s n v = or_refused (refusal (open_once n v)) s (once_after (once_start n v) GoesOn)

-- BEGIN AN OFFER: it counts as made from here on, whether the call ends or not

abbrev pub first_offer : (cell value : ℕ) → Offer
first_offer k w = record { line = 1; cell = k; value = w; steps = 0; tried = false }

abbrev pub offer_noted : OnceCell → (task : ℕ) → OnceCell
offer_noted m t = record { x = m.x; y = m.y; c = m.c; v = m.v; d = m.d; offered = set m.offered t true }

unfoldable pub offer_begun : OnceState → (task cell value : ℕ) → OnceAfter
offer_begun s t k w =
    or_refused (refusal ((6, once_fit s) ∷ offer_questions s.tasks s.cells (offer_at s t) (once_at s k) t k w)) s
    (once_after (replaced s k (offer_noted (once_at s k) t) t (first_offer k w)) GoesOn)

-- STEP: the task's next step, on its cell

abbrev pub stored_back : OnceState → (task cell : ℕ) → Leaves → OnceAfter
stored_back s t k x = once_after (replaced s k x.cell t x.offer) x.gives

unfoldable pub once_stepped : OnceState → (task : ℕ) → OnceAfter
once_stepped s t =
    or_refused (refusal ((6, once_fit s) ∷ turn_questions s.tasks (offer_at s t) t)) s
    (stored_back s t (offer_at s t).cell (leaves t (offer_at s t) (once_at s (offer_at s t).cell)))
