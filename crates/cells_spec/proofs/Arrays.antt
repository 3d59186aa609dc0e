-- A state's arrays have their lengths, by its type.
use mathlib.Core.Path.{◌≡◌}
use mathlib.Core.List.{List}
use lib.ListN.{length}
use mir.Val.{Val}
use denote.Laws.{Is}
use denote.Struct.Laws as LL
use Rattle.cells_spec.specs.declared.State.{State}
use Rattle.cells_spec.specs.contracts.State as S
use Rattle.cells_spec.proofs.State.TheLaws as S'

module _ (s : State) (vs : List Val) (g : Is S.the_row s vs) where
  pub has_32 : length s.records ≡ 32
  has_32 = (LL.owed S.the_type S'.the_laws s vs g).1.1.1.1.1.0.1.0.1

  pub has_16 : length s.current ≡ 16
  has_16 = (LL.owed S.the_type S'.the_laws s vs g).1.1.1.1.0.1.0.1

  pub has_128 : length s.counts ≡ 128
  has_128 = (LL.owed S.the_type S'.the_laws s vs g).1.1.1.1.1.1.0.1.0.1
