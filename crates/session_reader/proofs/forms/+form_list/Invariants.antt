-- Measures of form, list and skipped, and what list's loop keeps.
use Rattle.std.proofs.Common.{◌+◌, ◌-◌, ◌*◌, length, min}
use Rattle.session_spec.specs.Session as specs
use Rattle.text.specs.Readers.{◌>>◌}
use Rattle.session_reader.proofs.Walks.{Walk}
use Rattle.session_reader.proofs.forms.+form_list.Given as goal

-- The depth left and the bytes left, each three times, so that both fall at every call.
-- A measure is one number, which is here the lesser of the two: either may be it, so neither can stay as it is.
abbrev pub decreases-form : goal.decreases-form
decreases-form l = min (3 * l.depth) (3 * (length l.s.now - l.at))

abbrev pub decreases-list : goal.decreases-list
decreases-list l = min (3 * l.depth + 1) (3 * (length l.s.now - l.at))

abbrev pub decreases-skipped : goal.decreases-skipped
decreases-skipped l = min (3 * l.depth + 2) (3 * (length l.s.now - l.at) + 1)

abbrev pub invariant-list-loop-next : goal.invariant-list-loop-next
invariant-list-loop-next l = Walk (specs.space >> specs.form l.depth) specs.close l.s l.at l.initial.tables l.tables l.i l.over

abbrev pub decreases-list-loop-next : goal.decreases-list-loop-next
decreases-list-loop-next l = length l.s - l.i
