-- The readers that follow one another in a form's head and in open.
use mathlib.Core.Path.{◌≡◌, refl, ap, ◌∙◌}
use mathlib.Core.List.{List}
use mathlib.Core.Option.{none}
use Prim.Native.Nat.{ℕ, ◌*◌, ◌≤◌}
use native.Mathlib.Omega.{arith}
use lib.ListN.{take, drop, get_or}
use lib.Seq.{get_or-take}
use Rattle.text.specs.Bytes.{bytes}
use Rattle.text.specs.Readers.{Reads, literal, stored}
use Rattle.std.specs.Prelude.{Option, Some, None}
use Rattle.text.specs.Answers.{PlaceIs}
use Rattle.text.proofs.Several.{stored-rest}
use Rattle.session_spec.specs.Session.{FormKind, reading, swapping, stepping, dropping, repeating, arity, keyword, head, item, several_items, values, read_opening}
use Rattle.session_reader.specs.Answers.{kind_of, form_number, Led, LeadIs}
use Rattle.session_reader.specs.declared.reading.Keyword.{Keyword}
use Rattle.session_reader.specs.declared.reading.Keyword.TheVariants as word

-- every word but again is an action's
pub acts : (w : Keyword) → (w ≡ word.Again → ⊥) → form_number (kind_of w) ≡ 0 → ⊥
acts word.Read n e = omega arith
acts word.Swap n e = omega arith
acts word.Step n e = omega arith
acts word.Drop n e = omega arith
acts word.Again n e = n refl

pub few-numbers : (k : FormKind) → (1 ≤ arity k) × (arity k ≤ 4)
few-numbers reading = (omega arith, omega arith)
few-numbers swapping = (omega arith, omega arith)
few-numbers stepping = (omega arith, omega arith)
few-numbers dropping = (omega arith, omega arith)
few-numbers repeating = (omega arith, omega arith)

-- behind a form's numbers the buffer is as it was
pub numbers-rest : {k n : ℕ} (s old : List ℕ) {new : List ℕ} → k ≡ n → new ≡ stored item k s old → drop n new ≡ drop n old
numbers-rest {n = n} s old e q = ap (drop n) (q ∙ ap (λ (j : ℕ). stored item j s old) e) ∙ stored-rest item n s old

-- a form's word, and then its numbers
module _ (s : List ℕ) (at : ℕ) {kind : FormKind} {a : ℕ} (x : Reads keyword s at 5 kind a) where
  pub head_no : several_items (arity kind) (drop a s) ≡ none → head (drop at s) ≡ none
  unfolding head
  head_no e = rw (x.finds, e)

  pub head_at : {l : List ℕ} {next : ℕ} → Reads (several_items (arity kind)) s a (2 * arity kind) l next → Reads head s at 7 (kind, l) next
  unfolding head
  head_at y = record { finds = rw (x.finds, y.finds); past = omega (arith, x.past, y.past, (few-numbers kind).0); within = y.within }

-- the parts of open, one after another
module _ (s n : List ℕ) where
  pub lead_ends : {a b : ℕ} → Reads (literal (bytes "(open")) s 0 5 tt a → Reads (several_items 3) s a 6 (take 3 n) b → (r : Option ℕ) → PlaceIs (literal (bytes " (")) s b 2 r → LeadIs s n r
  unfolding read_opening
  lead_ends x y None e = rw (x.finds, y.finds, e)
  lead_ends {a} {b} x y (Some next) z = record { a = a; b = b; opens = x; three = y; starts = z }

  module _ {c : ℕ} (x : Led s n c) where
    pub values_wrong : values (drop c s) ≡ none → read_opening s ≡ none
    unfolding read_opening
    values_wrong e = rw (x.opens.finds, x.three.finds, x.starts.finds, e)

    module _ {d : ℕ} {v : List ℕ} (y : Reads values s c 1 v d) where
      pub end_wrong : literal (bytes ")\n") (drop d s) ≡ none → read_opening s ≡ none
      unfolding read_opening
      end_wrong e = rw (x.opens.finds, x.three.finds, x.starts.finds, y.finds, e)

      pub opening-at : {e : ℕ} → Reads (literal (bytes ")\n")) s d 2 tt e → Reads read_opening s 0 0 (record { tasks = get_or n 0 0; cells = get_or n 1 0; blocks = get_or n 2 0; values = v }) e
      unfolding read_opening
      opening-at z = record {
        finds = rw (x.opens.finds, x.three.finds, x.starts.finds, y.finds, z.finds, get_or-take 3 n 0 0 (omega arith), get_or-take 3 n 1 0 (omega arith), get_or-take 3 n 2 0 (omega arith));
        past = omega arith;
        within = z.within;
      }
