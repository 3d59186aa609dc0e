-- Laws of text appended to a page.
use mathlib.Core.Path.{◌≡◌, refl, sym, ap, subst, ◌∙◌}
use mathlib.Core.List.{List, [], ◌++◌, append_assoc, append-nil}
use Prim.Native.Nat.{ℕ}
use Rattle.text.specs.Page.{Written}
use Rattle.text.specs.declared.page.Page.{Page}
use Rattle.text.proofs.Appending.{nothing, then}

-- nothing written
pub unwritten : (p : Page) → Written p p []
unwritten p = record { appended = nothing p.bytes.now p.at; size = refl; same = refl }

-- one text after another
pub written_then : {a b c : Page} {s t : List ℕ} → Written a b s → Written b c t → Written a c (s ++ t)
written_then x y = record {
  appended = then x.appended y.appended;
  size = y.size ∙ x.size;
  same = y.same ∙ x.same;
}

-- a part of the whole is on the page, and the rest is left
pub record Onward (old new : Page) (rest whole : List ℕ) : Type 0 where
  pub part : List ℕ
  pub written : Written old new part
  pub goes : part ++ rest ≡ whole

pub onward_start : (p : Page) (whole : List ℕ) → Onward p p whole whole
onward_start p whole = record { part = []; written = unwritten p; goes = refl }

module _ {old new : Page} {rest whole : List ℕ} (x : Onward old new rest whole) where
  pub onward_more : {new' : Page} {t rest' : List ℕ} → Written new new' t → rest ≡ t ++ rest' → Onward old new' rest' whole
  onward_more {t = t} {rest' = rest'} y e = record {
    part = x.part ++ t;
    written = written_then x.written y;
    goes = append_assoc x.part t rest' ∙ ap (λ (u : List ℕ). x.part ++ u) (sym e) ∙ x.goes;
  }

  pub onward_last : {new' : Page} → Written new new' rest → Written old new' whole
  onward_last {new'} y = subst (Written old new') x.goes (written_then x.written y)

  pub onward_end : rest ≡ [] → Written old new whole
  onward_end e = subst (Written old new) (sym (append-nil x.part) ∙ ap (λ (u : List ℕ). x.part ++ u) (sym e) ∙ x.goes) x.written
