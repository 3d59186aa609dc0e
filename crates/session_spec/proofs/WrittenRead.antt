-- A session file that is written is read: the reader's verdict on it is that opening, and the actions of those forms in order.
use mathlib.Core.Path.{◌≡◌, refl, ap, ◌∙◌}
use mathlib.Core.List.{List, [], ◌∷◌, map}
use Prim.Native.Nat.{◌≤◌}
use native.Mathlib.Omega.{arith}
use borrow.Author.Tests.{le-leb}
use lib.ListN.{length}
use Rattle.history_spec.specs.History.{Action}
use Rattle.session_spec.specs.Session.{Opening, Form, act, empty, session, counts, actions, actions_of, asked15, asked14, verdict}
use Rattle.session_spec.specs.Written.{file_text}
use Rattle.session_spec.specs.Proper.{SmallActions, Proper, ProperLines, ProperOpening, actions_in}
use Rattle.session_spec.proofs.LinesBack.{adds, formed_back, adds-actions, counts_length}
use Rattle.session_spec.proofs.ShapedText.{file_shaped}

added : (l : List Form) → actions_of (adds empty l) ≡ actions_in l
unfolding actions
added l = adds-actions l empty

-- A file of an opening and of forms, at most 8 brackets deep and with numbers of 32 bits, at most 65,536 bytes long and with at most 65,535 actions,
-- is a session: that opening, and the actions of the forms in order.
pub written_read : (o : Opening) (forms : List Form) → ProperOpening o → ProperLines forms → length (file_text o forms) ≤ 65536 → length (actions_in forms) ≤ 65535
    → verdict (file_text o forms) ≡ session o (actions_in forms)
unfolding verdict asked14 asked15
written_read o l h g short few =
    let e = added l in
    let c : counts (adds empty l) ≤ 65535 = omega (arith, counts_length (adds empty l), ap length e, few) in
    rw (le-leb (length (file_text o l)) 65536 short, file_shaped o l g, formed_back o l h g, le-leb (counts (adds empty l)) 65535 c, e)

-- PLAIN ACTIONS, a form each

plain-actions : (l : List Action) → actions_in (map act l) ≡ l
unfolding actions_in actions
plain-actions [] = refl
plain-actions (a ∷ l) = ap (λ (x : List Action). a ∷ x) (plain-actions l)

proper_actions : (l : List Action) → SmallActions l → ProperLines (map act l)
unfolding ProperLines Proper
proper_actions [] h = tt
proper_actions (a ∷ l) h = (h.0, proper_actions l h.1)

-- A file of an opening and of actions, each on a line of its own, with numbers of 32 bits, is a session: that opening and those actions.
pub actions-read : (o : Opening) (l : List Action) → ProperOpening o → SmallActions l → length (file_text o (map act l)) ≤ 65536 → length l ≤ 65535
    → verdict (file_text o (map act l)) ≡ session o l
actions-read o l h g short few =
    let e = plain-actions l in
    written_read o (map act l) h (proper_actions l g) short (omega (arith, ap length e, few)) ∙ ap (session o) e
