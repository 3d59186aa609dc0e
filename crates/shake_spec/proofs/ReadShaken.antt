-- What the shaker prints is a session that the reader accepts, with exactly the actions drawn.
use mathlib.Core.Path.{◌≡◌, refl, ap, ◌∙◌}
use mathlib.Core.Option.{none}
use mathlib.Core.List.{[], ◌∷◌, ◌++◌, map}
use Prim.Native.Nat.{ℕ, zero, suc, ◌*◌, ◌≤◌, ◌<◌}
use native.Mathlib.Omega.{arith}
use lib.ListN.{length, replicate, length-append}
use Rattle.text.specs.Bytes.{bytes, digits}
use Rattle.text.specs.Lines.{numbers}
use Rattle.text.proofs.Spaced.{numbers_3}
use Rattle.history_spec.specs.History.{read, swap, Action, begin, step, drop}
use Rattle.cells_spec.specs.Questions.{refusal}
use Rattle.cells_spec.specs.Machine.{Pool, pool}
use Rattle.session_spec.specs.Session.{act, session, verdict}
use Rattle.session_spec.specs.Written.{written_values, opening_line, form_line, form_lines, file_text}
use Rattle.session_spec.specs.Proper.{Small, numbers_of, SmallActions, ProperOpening}
use Rattle.session_spec.proofs.WrittenRead.{actions-read}
use Rattle.shake_spec.specs.Drawn.{drawn_action}
use Rattle.shake_spec.specs.Actions.{drawn_actions, zero_start, Short, zero_opening}
use Rattle.shake_spec.specs.Shaken.{shake_questions, shaken_actions, session_text, shaken}
use Rattle.shake_spec.proofs.Zeros.{zeros_length}
use Rattle.shake_spec.proofs.Shaking.{shaken-text, sizes}
use Rattle.shake_spec.proofs.Writing.{written-short, short-drawn}

-- THE ACTIONS

small : (a : Action) → Short a → Small (numbers_of a)
small (begin t (read k)) h = (omega (arith, h.0), (omega (arith, h.1), tt))
small (begin t (swap k e n)) h = (omega (arith, h.0), (omega (arith, h.1), (omega (arith, h.2), (omega (arith, h.3), tt))))
small (step t) h = (omega (arith, h), tt)
small (drop t) h = (omega (arith, h), tt)

pub drawn-count : (n v k g : ℕ) (x : Pool) → length (drawn_actions n v k g x) ≡ k
unfolding drawn_actions
drawn-count n v zero g x = refl
drawn-count n v (suc k) g x = let d = drawn_action n v x.0 g in ap suc (drawn-count n v k d.generator (pool x d.action).0)

module _ (n v : ℕ) (hn : 0 < n) (kn : n ≤ 32) (hv : 0 < v) (kv : v ≤ 16) where
  drawn-small : (k g : ℕ) (x : Pool) → SmallActions (drawn_actions n v k g x)
  unfolding drawn_actions
  drawn-small zero g x = tt
  drawn-small (suc k) g x =
      let d = drawn_action n v x.0 g in
      (small d.action (short-drawn n v x.0 g hn kn hv kv), drawn-small k d.generator (pool x d.action).0)

  lines_length : (k g : ℕ) (x : Pool) → length (form_lines (map act (drawn_actions n v k g x))) ≤ 17 * k
  unfolding drawn_actions form_lines
  lines_length zero g x = omega arith
  lines_length (suc k) g x =
      let d = drawn_action n v x.0 g in
      let rest = drawn_actions n v k d.generator (pool x d.action).0 in
      omega (arith, length-append (form_line (act d.action)) (form_lines (map act rest)), written-short d.action (short-drawn n v x.0 g hn kn hv kv), lines_length k d.generator (pool x d.action).0)

-- THE OPENING

small-zeros : (m : ℕ) → Small (replicate m 0)
small-zeros zero = tt
small-zeros (suc m) = (omega arith, small-zeros m)

values_length : (m : ℕ) → length (written_values (replicate m 0)) ≤ 2 * m
unfolding written_values digits
values_length zero = omega arith
values_length (suc m) = omega (arith, zeros_length m)

opening_length : (n v b : ℕ) → n ≤ 32 → v ≤ 16 → b ≤ 128 → length (opening_line (zero_opening n v b)) ≤ 100
unfolding opening_line
opening_length n v b hn hv hb =
    let three = numbers (n ∷ v ∷ b ∷ []) in
    let vs = written_values (replicate v 0) in
    omega (arith, length-append (bytes "(open" ++ three ++ bytes " (" ++ vs) (bytes "))\n"), length-append (bytes "(open" ++ three ++ bytes " (") vs, length-append (bytes "(open" ++ three) (bytes " ("), numbers_3 n v b (omega arith) (omega arith) (omega arith), values_length v)

-- THE SESSION

text_length : (g n v b k : ℕ) → refusal (shake_questions n v b k) ≡ none → length (session_text g n v b k) ≤ 65536
unfolding file_text
text_length g n v b k e =
    let h = sizes n v b k e in
    omega (arith, length-append (opening_line (zero_opening n v b)) (form_lines (map act (shaken_actions g n v b k))), opening_length n v b h.1 h.3 h.4, lines_length n v h.0 h.1 h.2 h.3 k g (zero_start n v b), h.5)

-- The text that the shaker prints is a session: its opening, all values 0, and exactly the actions drawn, for every length from 1 to 3,000.
pub shaken_is_read : (seed tasks cells blocks length : ℕ) → refusal (shake_questions tasks cells blocks length) ≡ none
    → verdict (shaken seed tasks cells blocks length) ≡ session (zero_opening tasks cells blocks) (shaken_actions seed tasks cells blocks length)
shaken_is_read g n v b k e =
    let h = sizes n v b k e in
    let o : ProperOpening (zero_opening n v b) = (omega (arith, h.1), (omega (arith, h.3), (omega (arith, h.4), small-zeros v))) in
    let drawn = drawn-small n v h.0 h.1 h.2 h.3 k g (zero_start n v b) in
    let few : length (shaken_actions g n v b k) ≤ 65535 = omega (arith, drawn-count n v k g (zero_start n v b), h.5) in
    ap verdict (shaken-text g n v b k e) ∙ actions-read (zero_opening n v b) (shaken_actions g n v b k) o drawn (text_length g n v b k e) few
