-- What the opening leaves.
use Rattle.std.proofs.Common.{◌≡◌, refl, ap, ℕ, ◌-◌, ◌*◌, ◌≤◌, List, [], ◌∷◌, length, map, take, replicate, le-leb, arith}
use Rattle.text.specs.Lines.{numbers}
use Rattle.text.proofs.Spaced.{numbers_3}
use Rattle.text.specs.Page.{Written}
use Rattle.text.specs.declared.page.Page.{Page}
use Rattle.text.proofs.Pages.{written_then}
use Rattle.cells_spec.specs.declared.State.{State}
use Rattle.cells_spec.specs.Answers.{Said}
use Rattle.cells_spec.specs.Open.{leaving, opened, blank}
use Rattle.cells_spec.specs.Machine.{Pool}
use Rattle.session_spec.specs.Session.{act}
use Rattle.session_spec.specs.Written.{opening_line, form_lines, file_text}
use Rattle.shake_spec.specs.Actions.{drawn_actions, zero_start, zero_opening}
use Rattle.shake_spec.specs.Shaken.{session_text}
use Rattle.shake_spec.proofs.Zeros.{part-zeros, zeros_length}
use Rattle.shake_tool.specs.declared.sizes.Sizes.{Sizes}
use Rattle.shake_tool.proofs.Acting.{moves}
use Rattle.shake_tool.proofs.Sizing.{fits}

-- THE FIRST LINE

pub three-short : (w : Sizes) {x y z : ℕ} → x ≡ w.tasks → y ≡ w.cells → z ≡ w.blocks → length (numbers (x ∷ y ∷ z ∷ [])) ≤ 33
three-short w ex ey ez = let h = fits w in rw (ex, ey, ez) (numbers_3 w.tasks w.cells w.blocks (omega (arith, h)) (omega (arith, h)) (omega (arith, h)))

pub zeros-short : (w : Sizes) → length (numbers (take (w.cells - 1) (replicate 16 0))) ≤ 32
zeros-short w = let h = fits w in
    let e = ap (λ (l : List ℕ). length (numbers l)) (part-zeros (w.cells - 1) 16 refl (omega (arith, h))) in
    omega (arith, e, zeros_length (w.cells - 1), h)

-- THE OPENING

module _ (n v b : ℕ) where
  pub starts : {s s₀ : State} {p p₀ vs : List ℕ} {o : Said} → s₀ ≡ blank → p₀ ≡ replicate (5 * b) 0 → vs ≡ replicate v 0 → b ≤ 128 → leaving s p o ≡ opened s₀ p₀ n v b vs → (s, p) ≡ zero_start n v b
  unfolding zero_start
  starts es ep ev h e = rw (le-leb b 128 h, ← es, ← ep, ← ev) (moves e)

  pub whole-session : (g k : ℕ) {o p q : Page} {x : Pool} → x ≡ zero_start n v b → Written o p (opening_line (zero_opening n v b)) → Written p q (form_lines (map act (drawn_actions n v k g x))) → Written o q (session_text g n v b k)
  unfolding file_text
  whole-session g k e x y = written_then x (rw e at y)
