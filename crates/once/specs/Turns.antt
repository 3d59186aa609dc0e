-- What a turn leaves, of its parts.
use Rattle.once_spec.specs.declared.OnceCell.{OnceCell}
use Rattle.once_spec.specs.declared.Offer.{Offer}
use Rattle.once_spec.specs.Figure.{Given, Leaves}

abbrev pub leaves_of : OnceCell → Offer → Given → Leaves
leaves_of m r g = record { cell = m; offer = r; gives = g }
