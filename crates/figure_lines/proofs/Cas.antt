-- A hardware CAS on any memory: it takes place exactly where it finds what it expects, and its answer says whether it did.
use mathlib.Core.Path.{◌≡◌, ◌∙◌, ap}
use mathlib.Core.Logic.{◌≢◌, ◌⊎◌, inl, inr}
use mathlib.Core.Bool.{cond}
use Prim.Native.Nat.{ℕ}
use lib.Dec.{eqb}
use borrow.Author.Tests.{eq-eqb, ne_eqb}
use Rattle.figure_lines.specs.declared.Field.TheVariants.{D}
use Rattle.figure_lines.specs.declared.Access.TheVariants.{DecideCas, InstallCas}
use Rattle.figure_lines.specs.Record.{no_value}
use Rattle.figure_lines.specs.Memory.{Keeping, access_in}
use Rattle.history_spec.proofs.Basics.{either}

module _ {M R : Type 0} (k : Keeping M R) (m : M) where
  pub decide-won : (b v : ℕ) → k.word m b D ≡ no_value → access_in k m (DecideCas b v) ≡ k.give (k.store m b D v) 1
  decide-won b v e = rw (eq-eqb (k.word m b D) no_value e)

  pub decide-lost : (b v : ℕ) → k.word m b D ≢ no_value → access_in k m (DecideCas b v) ≡ k.give m 0
  decide-lost b v e = rw (ne_eqb (k.word m b D) no_value e)

  pub install-won : (c b n : ℕ) → k.named m ≡ b → access_in k m (InstallCas c b n) ≡ k.give (k.install m n) 1
  install-won c b n e = rw (eq-eqb (k.named m) b e)

  pub install-lost : (c b n : ℕ) → k.named m ≢ b → access_in k m (InstallCas c b n) ≡ k.give m 0
  install-lost c b n e = rw (ne_eqb (k.named m) b e)

  -- where the value answered can be read off
  module _ (value : R → ℕ) (reads : (m : M) (v : ℕ) → value (k.give m v) ≡ v) where
    pub decide-value : (b v : ℕ) → value (access_in k m (DecideCas b v)) ≡ cond (eqb (k.word m b D) no_value) 1 0
    decide-value b v = go (either (k.word m b D) no_value)
      where
        go : (k.word m b D ≡ no_value) ⊎ (k.word m b D ≢ no_value) → value (access_in k m (DecideCas b v)) ≡ cond (eqb (k.word m b D) no_value) 1 0
        go (inl e) = ap value (decide-won b v e) ∙ (reads (k.store m b D v) 1 ∙ rw (eq-eqb (k.word m b D) no_value e))
        go (inr n) = ap value (decide-lost b v n) ∙ (reads m 0 ∙ rw (ne_eqb (k.word m b D) no_value n))

    pub install-value : (c b n : ℕ) → value (access_in k m (InstallCas c b n)) ≡ cond (eqb (k.named m) b) 1 0
    install-value c b n = go (either (k.named m) b)
      where
        go : (k.named m ≡ b) ⊎ (k.named m ≢ b) → value (access_in k m (InstallCas c b n)) ≡ cond (eqb (k.named m) b) 1 0
        go (inl e) = ap value (install-won c b n e) ∙ (reads (k.install m n) 1 ∙ rw (eq-eqb (k.named m) b e))
        go (inr h) = ap value (install-lost c b n h) ∙ (reads m 0 ∙ rw (ne_eqb (k.named m) b h))
