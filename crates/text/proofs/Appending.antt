-- Laws of text appended to a buffer.
use mathlib.Core.Path.{◌≡◌, refl, sym, ap, ◌∙◌}
use mathlib.Core.List.{List, [], ◌∷◌, ◌++◌, append_assoc, append-nil, append_cancel_left}
use Prim.Native.Nat.{ℕ, ◌+◌, ◌-◌, ◌≤◌, ◌<◌}
use native.Mathlib.Numerals.{add-one}
use native.Mathlib.Omega.{arith}
use lib.ListN.{length, take, drop, get_or, set, length-append, length-take, take-append-drop}
use lib.Seq.{take-suc-set, take-suc, take-take, take_at, take-add, length-take-le, drop-drop, drop-set-lt}
use Rattle.text.specs.Append.{Stored, Appended}

-- from the start: the whole buffer
pub whole : {o p : List ℕ} {r : ℕ} {t : List ℕ} → Appended o p 0 r t → p ≡ t ++ drop r o
whole {o} {p} {r} {t} x = sym (take-append-drop r p) ∙ ap (λ (l : List ℕ). l ++ drop r p) x.stored.words ∙ ap (λ (l : List ℕ). t ++ l) x.rest

-- what a promise about the whole buffer says: the text u and then what was there, u's length, and that it lies within
abbrev pub Entire : (u o p : List ℕ) (r : ℕ) → Type 0
Entire u o p r = (p ≡ u ++ drop r o) × ((r ≡ length u) × ((r ≤ length p) × (r ≡ length (take r p))))

pub entire : {o p : List ℕ} {r : ℕ} {t : List ℕ} (u : List ℕ) → Appended o p 0 r t → t ≡ u → Entire u o p r
entire {o} {p} {r} u x e =
    let h : r ≤ length p = omega (arith, length-take r p, ap length x.stored.words, x.stored.next) in
    (whole x ∙ ap (λ (l : List ℕ). l ++ drop r o) e, (omega (arith, x.stored.next, ap length e), (h, sym (length-take-le r p h))))

-- what is the same from q on is the same from any later place on
pub later : (a b : List ℕ) (q r : ℕ) → q ≤ r → drop q b ≡ drop q a → drop r b ≡ drop r a
later a b q r h e =
    let d : q + (r - q) ≡ r = omega arith in
    rw d at (sym (drop-drop (r - q) q b) ∙ ap (drop (r - q)) e ∙ drop-drop (r - q) q a)

-- nothing appended
pub nothing : (o : List ℕ) (at : ℕ) → Appended o o at at []
nothing o at = record { stored = record { words = sym (append-nil (take at o)); next = omega arith }; rest = refl }

-- one word appended
pub one : (o : List ℕ) (at x : ℕ) → at < length o → Appended o (set o at x) at (at + 1) (x ∷ [])
one o at x h = record { stored = record { words = rw (add-one, take-suc-set o at x h); next = refl }; rest = drop-set-lt (at + 1) o at x (omega arith) }

-- one text after another
pub stored_then : {a b c : List ℕ} {p q r : ℕ} {s t : List ℕ} → Stored a b p q s → Stored b c q r t → Stored a c p r (s ++ t)
stored_then {a} {b} {c} {p} {q} {r} {s} {t} x y = record {
  words = y.words ∙ ap (λ (l : List ℕ). l ++ t) x.words ∙ append_assoc (take p a) s t;
  next = omega (arith, x.next, y.next, length-append s t);
}

pub then : {a b c : List ℕ} {p q r : ℕ} {s t : List ℕ} → Appended a b p q s → Appended b c q r t → Appended a c p r (s ++ t)
then {a} {b} {q = q} {r = r} x y = record {
  stored = stored_then x.stored y.stored;
  rest = y.rest ∙ later a b q r (omega (arith, y.stored.next)) x.rest;
}

-- the first i words of a text, and one more
pub more : {o o₀ : List ℕ} (t : List ℕ) (at i : ℕ) → Appended o₀ o at (at + i) (take i t) → at + i < length o → i < length t → Appended o₀ (set o (at + i) (get_or t i 0)) at (at + (i + 1)) (take (i + 1) t)
more {o} {o₀} t at i x h k =
    let e : take (i + 1) t ≡ take i t ++ (get_or t i 0 ∷ []) = rw add-one (take-suc t i 0 k) in
    let a : at + (i + 1) ≡ at + i + 1 = omega arith in
    rw (e, a) (then x (one o (at + i) (get_or t i 0) h))

-- what stood before is still there
pub front : {o p : List ℕ} {at r : ℕ} {t : List ℕ} → at ≤ length o → Stored o p at r t → Stored o p at at []
front {o} {p} {at} {r} {t} h x = record {
  words = sym (take-take at r p (omega (arith, x.next))) ∙ ap (take at) x.words ∙ take_at (take at o) t at (length-take-le at o h) ∙ sym (append-nil (take at o));
  next = omega arith;
}

-- the text alone
pub behind : {o p : List ℕ} {at r : ℕ} {t : List ℕ} → at ≤ length o → Stored o p at r t → take (r - at) (drop at p) ≡ t
behind {o} {p} {at} {r} {t} h x =
    let e : at + (r - at) ≡ r = omega (arith, x.next) in
    append_cancel_left (take at o) (take (r - at) (drop at p)) t
    (ap (λ (l : List ℕ). l ++ take (r - at) (drop at p)) (sym ((front h x).words ∙ append-nil (take at o)))
    ∙ sym (take-add at (r - at) p) ∙ ap (λ (k : ℕ). take k p) e ∙ x.words)
