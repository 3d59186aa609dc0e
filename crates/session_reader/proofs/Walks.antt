-- Forms read one after another, with what is kept of them.
use mathlib.Core.Path.{◌≡◌, refl, ◌∙◌}
use mathlib.Core.Bool.{Bool, false, ◌||◌}
use mathlib.Core.List.{List}
use mathlib.Core.Option.{Option, none, some}
use Prim.Native.Nat.{ℕ, ◌+◌, ◌*◌, ◌≤◌, ◌<◌}
use native.Mathlib.Omega.{arith}
use lib.ListN.{length, drop, drop_of_length-le}
use Rattle.std.specs.Prelude.{Some}
use Rattle.text.proofs.Reading.{drop_byte}
use Rattle.text.specs.Readers.{Reader}
use Rattle.session_spec.specs.Session.{Form, Forms, empty, with, many, finish}
use Rattle.session_reader.specs.Answers.{kept, Stands, RoomIn, SameBuffers, of_form, of_forms, GotIs}
use Rattle.session_reader.specs.declared.keeping.Tables.{Tables}
use Rattle.session_reader.specs.Tables.{table_of, done, done_of, form_names, form_names_of}
use Rattle.session_reader.proofs.Denoting.{length_table, table_append}
use Rattle.session_reader.proofs.Standing.{stands_nothing, stands_join}
use Rattle.session_reader.proofs.Turns.{Turn, turn-start, turn_end, turn_stop, turn_more}

-- the same buffers twice over
pub same_then : {a b c : Tables} → SameBuffers a b → SameBuffers b c → SameBuffers a c
same_then x y = record {
  forms = y.forms ∙ x.forms;
  actions = y.actions ∙ x.actions;
  forms_name = y.forms_name ∙ x.forms_name;
  actions_name = y.actions_name ∙ x.actions_name;
}

module _ (each : Reader Form) (end : Reader (Unit {0})) (s : List ℕ) (at : ℕ) (o : Tables) where
  abbrev whole : Option (Forms × List ℕ)
  whole = many with each end empty (drop at s)

  -- the forms l were read up to i
  pub record Walk (p : Tables) (i : ℕ) (over : Bool) : Type 0 where
    pub ready : RoomIn s i p
    pub same : SameBuffers o p
    pub l : Forms
    pub turn : Turn with each end whole s at i l
    pub stands : Stands o.forms.now p.forms.now o.actions.now p.actions.now o.f o.n (kept over p.f p.n) (of_forms.table l) (form_names_of o.f l)

  pub walk_start : RoomIn s at o → Walk o at false
  unfolding done_of form_names_of table_of
  walk_start r = record {
    ready = r;
    same = record { forms = refl; actions = refl; forms_name = refl; actions_name = refl };
    l = empty;
    turn = turn-start with each end s at empty r.here;
    stands = stands_nothing o.forms.now o.actions.now o.f o.n (omega (arith, r.here, r.table, r.few)) r.room;
  }

  module _ {p : Tables} {i : ℕ} {over : Bool} (w : Walk p i over) where
    pub walk_end : {next : ℕ} (long : ℕ) → end (drop i s) ≡ some (tt, drop next s) → i + long ≤ next → next ≤ length s → GotIs of_forms (many with each end empty) s at long o p (Some (over, next))
    walk_end long e h k =
        (w.l, record { finds = turn_end with each end w.turn e; past = omega (arith, w.turn.from); within = k }, w.stands, omega (arith, w.ready.few))

    pub walk_stop : end (drop i s) ≡ none → each (drop i s) ≡ none → whole ≡ none
    walk_stop e f = turn_stop with each end w.turn e f

    pub walk_more : {q : Tables} {x : Form} {j : ℕ} {more : Bool} → end (drop i s) ≡ none → each (drop i s) ≡ some (x, drop j s) → i < j → j ≤ length s → Stands p.forms.now q.forms.now p.actions.now q.actions.now p.f p.n (kept more q.f q.n) (of_form.table x) (form_names p.f x) → 8 * q.f ≤ j → SameBuffers p q → Walk q j (over || more)
    unfolding done_of form_names_of
    walk_more {q = q} {x = x} {j = j} e g h k y few m =
        let r = w.ready in
        record {
          ready = record { here = k; small = r.small; table = rw m.forms r.table; few = few; room = rw m.actions y.room; limit = rw m.actions r.limit };
          same = same_then w.same m;
          l = with w.l x;
          turn = turn_more with each end w.turn e g h k;
          stands = rw (table_append (done_of w.l) (done x)) (stands_join (λ i. form_names i x) (length (done_of w.l)) w.same.forms w.same.actions (length_table (done_of w.l)) w.stands y);
        }

-- what ends the lines
module _ (s : List ℕ) (i : ℕ) where
  pub finish_no : i < length s → finish (drop i s) ≡ none
  finish_no h = rw (drop_byte s i h)

  pub finish-at : length s ≤ i → finish (drop i s) ≡ some (tt, drop i s)
  finish-at h = rw (drop_of_length-le s h)
