-- A page: a lent buffer, and the place up to which it is written.
use Rattle.std.specs.Prelude.{◌≡◌, List, ℕ, length}
use Rattle.text.specs.Append.{Appended}
use Rattle.text.specs.declared.page.Page.{Page}

-- the text was appended, in the same buffer
pub record Written (old new : Page) (txt : List ℕ) : Type 0 where
  pub appended : Appended old.bytes.now new.bytes.now old.at new.at txt
  pub size : length new.bytes.now ≡ length old.bytes.now
  pub same : new.bytes.ghost_name ≡ old.bytes.ghost_name
