-- What is kept of forms that were read.
use mathlib.Core.Path.{◌≡◌, refl, sym, ap, ◌∙◌}
use mathlib.Core.Bool.{Bool, true, false, ◌||◌, false≢true}
use mathlib.Core.List.{List, [], ◌∷◌, ◌++◌, append-nil}
use Prim.Native.Nat.{ℕ, zero, suc, ◌+◌, ◌-◌, ◌*◌, ◌≤◌, ◌<◌}
use native.Mathlib.Nat.{mul-le-mul_right}
use native.Mathlib.Omega.{arith}
use lib.ListN.{length, take, drop, set, length-append, take-append-drop}
use Rattle.text.specs.Append.{Appended}
use Rattle.text.proofs.Appending.{nothing, one, then, stored_then, front, behind, later, whole}
use Rattle.session_spec.specs.Session.{again, Forms, times}
use Rattle.session_reader.specs.Answers.{Far, Kept, kept, Stands, of_form}
use Rattle.session_reader.specs.Tables.{done, done_of, form_names, form_names_of, over, table_of}
use Rattle.session_reader.proofs.Repeated.{length_times}

-- nothing read
pub stands_nothing : (F A : List ℕ) (f n : ℕ) → 5 * f ≤ length F → n ≤ length A → Stands F F A A f n (kept false f n) [] []
stands_nothing F A f n g h = record { more-forms = omega arith; more-actions = omega arith; fits = g; room = h; far = (nothing F (5 * f), nothing A n); still = λ _. (refl, refl) }

-- forms, s of them, and then more: their names go on where those end
module _ (F G H A B C : List ℕ) (f g h n m r : ℕ) (t u v : List ℕ) (w : ℕ → List ℕ) (s : ℕ) (q : length B ≡ length A) (e : length t ≡ 5 * s) where
  far_join : (x y : Bool) → Far x F G A B f n g m t v → Far y G H B C g m h r u (w g) → Far (x || y) F H A C f n h r (t ++ u) (v ++ w (f + s))
  far_join true y x z = omega (arith, x, length-append v (w (f + s)))
  far_join false true x z =
      let i : g ≡ f + s = omega (arith, x.0.stored.next, e) in
      let j : length B < m + length (w (f + s)) = rw i at z in
      omega (arith, q, x.1.stored.next, length-append v (w (f + s)))
  far_join false false x z =
      let i : g ≡ f + s = omega (arith, x.0.stored.next, e) in
      (then x.0 z.0, then x.1 (rw i at z.1))

pub stands_join : {F G H A B C : List ℕ} {f n : ℕ} {b d : Kept} {t u v : List ℕ} (w : ℕ → List ℕ) (s : ℕ) → length G ≡ length F → length B ≡ length A → length t ≡ 5 * s → Stands F G A B f n b t v → Stands G H B C b.forms b.actions d u (w b.forms) → Stands F H A C f n (kept (b.over || d.over) d.forms d.actions) (t ++ u) (v ++ w (f + s))
stands_join {F} {G} {H} {A} {B} {C} {f} {n} {b} {d} {t} {u} {v} w s p q e x y = record {
  more-forms = omega (arith, x.more-forms, y.more-forms);
  more-actions = omega (arith, x.more-actions, y.more-actions);
  fits = omega (arith, y.fits);
  room = omega (arith, y.room);
  far = far_join F G H A B C f b.forms d.forms n b.actions d.actions t u v w s q e b.over d.over x.far y.far;
  still = λ h.
      let i = x.still h in
      let j = y.still (omega (arith, q, x.more-actions)) in
      (j.0 ∙ i.0, j.1 ∙ i.1);
}

-- nothing appended leaves all as it was
unmoved : (o p : List ℕ) (at : ℕ) (t : List ℕ) → Appended o p at at t → p ≡ o
unmoved o p at [] x =
    sym (take-append-drop at p) ∙ ap (λ (l : List ℕ). l ++ drop at p) (x.stored.words ∙ append-nil (take at o))
    ∙ ap (λ (l : List ℕ). take at o ++ l) x.rest ∙ take-append-drop at o
unmoved o p at (a ∷ t) x = absurd (omega (arith, x.stored.next))

module _ {F G A B : List ℕ} {f n : ℕ} {b : Kept} {t w : List ℕ} (x : Stands F G A B f n b t w) where
  low : n ≤ length A
  low = omega (arith, x.more-actions, x.room)

  pub spilled : b.over ≡ true → length A < n + length w
  spilled e = rw e at x.far

  pub just : b.over ≡ false → Appended F G (5 * f) (5 * b.forms) t × Appended A B n b.actions w
  just e = rw e at x.far

  -- these forms c times
  module _ (c : ℕ) where
    pub again-over : b.over ≡ true → (c ≡ 0 → ⊥) → Stands F G A B f n b t (times c w)
    again-over e z =
        let h : length A < n + length w = spilled e in
        let more : 1 * length w ≤ c * length w = mul-le-mul_right {m = 1} {n = c} (length w) (omega arith) in
        record { more-forms = x.more-forms; more-actions = x.more-actions; fits = x.fits; room = x.room; far = far-over b.over e (omega (arith, length_times c w)); still = x.still }
      where
        far-over : (o : Bool) → o ≡ true → length A < n + length (times c w) → Far o F G A B f n b.forms b.actions t (times c w)
        far-over true e h = h
        far-over false e h = absurd (false≢true e)

    module _ (e : b.over ≡ false) where
      long : b.actions - n ≡ length w
      long = omega (arith, (just e).1.stored.next)

      pub again-many : length A < n + c * (b.actions - n) → Stands F G A B f n (kept true f n) t (times c w)
      again-many h = record {
        more-forms = omega arith;
        more-actions = omega arith;
        fits = omega (arith, x.more-forms, x.fits);
        room = low;
        far = let i : length A < n + c * length w = rw long at h in omega (arith, length_times c w);
        still = x.still;
      }

      pub again-fits : {C : List ℕ} {to : ℕ} → (c ≡ 0 → ⊥) → Appended B C n to (times c (take (b.actions - n) (drop n B))) → n + c * (b.actions - n) ≤ length A → Stands F G A C f n (kept false b.forms to) t (times c w)
      again-fits {C} {to} z y h =
          let old = (just e).1 in
          let copies : Appended B C n to (times c w) = rw (behind low old.stored) at y in
          let end : to ≡ n + c * length w = omega (arith, copies.stored.next, length_times c w) in
          let more : 1 * length w ≤ c * length w = mul-le-mul_right {m = 1} {n = c} (length w) (omega arith) in
          let i : n + c * length w ≤ length A = rw long at h in
          record {
            more-forms = x.more-forms;
            more-actions = omega arith;
            fits = x.fits;
            room = omega arith;
            far = ((just e).0, record { stored = stored_then (front low old.stored) copies.stored; rest = copies.rest ∙ later A B b.actions to (omega (arith, old.stored.next)) old.rest });
            still = λ j.
                let s = x.still j in
                let none : length w ≡ 0 = omega (arith, old.stored.next, x.room) in
                let here : to ≡ n = end ∙ ap (λ (k : ℕ). n + c * k) none ∙ omega arith in
                (s.0, unmoved _ _ _ _ (rw here at copies) ∙ s.1);
          }

-- from the start of both buffers
pub stands-whole : {F G A B : List ℕ} {b : Kept} {t w : List ℕ} → Stands F G A B 0 0 b t w → b.over ≡ false → (b.actions ≡ length w) × (G ≡ over t F) × (B ≡ over w A)
stands-whole {F} {G} {A} {B} {b} {t} {w} x e =
    let y = just x e in
    let i : 5 * b.forms ≡ length t = omega (arith, y.0.stored.next) in
    let j : b.actions ≡ length w = omega (arith, y.1.stored.next) in
    (j, whole y.0 ∙ ap (λ (k : ℕ). t ++ drop k F) i, whole y.1 ∙ ap (λ (k : ℕ). w ++ drop k A) j)

-- forms that stand no times: nothing is kept
pub again_none : (F A : List ℕ) (f n c : ℕ) (l : Forms) → c ≡ 0 → n ≤ length A → 5 * f ≤ length F → Stands F F A A f n (kept false f n) (of_form.table (again c l)) (of_form.words f (again c l))
unfolding done form_names table_of
again_none F A f n zero l e h g = stands_nothing F A f n g h
again_none F A f n (suc c) l e h g = absurd (omega arith)

-- and that stand some
module _ (c : ℕ) (l : Forms) (z : c ≡ 0 → ⊥) where
  again-some : c ≡ suc (c - 1)
  again-some = omega arith

  pub again-done : done (again c l) ≡ done_of l
  unfolding done
  again-done = ap (λ (i : ℕ). done (again i l)) again-some

  pub again-names : (f : ℕ) → form_names f (again c l) ≡ times c (form_names_of f l)
  unfolding form_names
  again-names f = ap (λ (i : ℕ). form_names f (again i l)) again-some ∙ ap (λ (i : ℕ). times i (form_names_of f l)) (sym again-some)

-- one form kept, and an action of it
module _ (F A G : List ℕ) (f n : ℕ) (five : List ℕ) (g : 5 * f + 5 ≤ length F) (h : n ≤ length A) where
  pub keep_one : n < length A → Appended F G (5 * f) (5 * (f + 1)) five → Stands F G A (set A n f) f n (kept false (f + 1) (n + 1)) five (f ∷ [])
  keep_one k x = record { more-forms = omega arith; more-actions = omega arith; fits = omega arith; room = omega arith; far = (x, one A n f k); still = λ w. absurd (omega arith) }
