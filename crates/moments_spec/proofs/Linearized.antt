-- The calls in the order in which they are printed are a linearization.
use mathlib.Core.Path.{◌≡◌, ap, ◌∙◌}
use mathlib.Core.List.{List, map}
use Prim.Native.Nat.{ℕ}
use lib.ListN.{get_or, replicate}
use Rattle.cells_spec.specs.Answers.{Acted}
use Rattle.cells_spec.specs.Machine.{pool}
use Rattle.cells_spec.proofs.Acts.{open_allowed}
use Rattle.history_spec.specs.History.{Action, history, calls_of}
use Rattle.history_spec.specs.Linearization.{Linearizes, replies}
use Rattle.history_spec.specs.Moments.{Mark, point_of, reply_of}
use Rattle.cells_theorems.specs.Moments.{pool_moments}
use Rattle.cells_theorems.proofs.Moments.{cell_moments_linearize, cell_moments_answers}
use Rattle.session_spec.specs.Session.{Opening, session, verdict}
use Rattle.cells_spec.specs.Open.{blank}
use Rattle.session_spec.specs.Printed.{pool_words, opened_by}
use Rattle.session_spec.specs.Tools.{left_by, tool_after_open, tool_text, tool_printed}
use Rattle.moments_spec.specs.Lines.{mark_lines}
use Rattle.moments_spec.specs.Printed.{moments_text, moments_printed}

module _ (file : List ℕ) (o : Opening) (actions : List Action) (is-session : verdict file ≡ session o actions) (opens : (opened_by o).outcome ≡ Acted) where
  abbrev listed : List Mark
  listed = pool_moments o.tasks (left_by o) actions

  printed-lines : moments_printed file ≡ mark_lines listed
  unfolding tool_printed tool_after_open
  printed-lines = ap (tool_text moments_text) is-session ∙ rw opens

  -- What is printed is the lines of marks that are a linearization of the session's calls: of every finished call, and of the listed
  -- pending and withdrawn swaps. Fed the calls in the printed order, the sequential cells give each finished one its answer, the others yes.
  pub printed-linearizes : (marks : List Mark) × (moments_printed file ≡ mark_lines marks)
      × Linearizes (λ k. get_or o.values k 0) (calls_of (history pool (left_by o) actions)) (map point_of marks)
      × (replies (λ k. get_or o.values k 0) (map point_of marks) ≡ map reply_of marks)
  printed-linearizes =
      let p = replicate {A = ℕ} (pool_words o.blocks) 0 in
      let allowed = open_allowed blank p o.tasks o.cells o.blocks o.values opens in
      (listed, printed-lines, cell_moments_linearize blank p o.tasks o.cells o.blocks o.values allowed actions, cell_moments_answers blank p o.tasks o.cells o.blocks o.values allowed actions)
