-- What the sizes that no question refuses are, and what the questions' answers print.
use Rattle.std.proofs.Common.{◌≡◌, sym, ℕ, ◌≤◌, ◌<◌, Ok, Err}
use Rattle.text.specs.Lines.{bad_line}
use Rattle.shake_spec.specs.Shaken.{session_text, shaken}
use Rattle.shake_spec.proofs.Shaking.{sizes, shaken-text, refused-text}
use Rattle.shake_tool.specs.declared.sizes.Sizes.{Sizes}
use Rattle.shake_tool.specs.declared.refusal.ShakeRefusal.{ShakeRefusal}
use Rattle.shake_tool.specs.Refusals.{number}
use Rattle.shake_tool.specs.Asked.{Asked}

pub fits : (w : Sizes) → (0 < w.tasks) × (w.tasks ≤ 32) × (0 < w.cells) × (w.cells ≤ 16) × (w.blocks ≤ 128) × (w.count ≤ 3000)
fits w = sizes w.tasks w.cells w.blocks w.count w.allowed

-- WHAT THE ANSWERS PRINT

module _ (g n v b k : ℕ) where
  pub session-drawn : (w : Sizes) → Asked n v b k (Ok w) → session_text g w.tasks w.cells w.blocks w.count ≡ shaken g n v b k
  session-drawn w a = rw (← a.0, ← a.1, ← a.2, ← a.3) (sym (shaken-text g w.tasks w.cells w.blocks w.count w.allowed))

  pub refusal-drawn : (e : ShakeRefusal) → Asked n v b k (Err e) → {m : ℕ} → m ≡ number e → bad_line m ≡ shaken g n v b k
  refusal-drawn e a i = rw i (sym (refused-text g n v b k a))
