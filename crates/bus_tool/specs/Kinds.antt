-- What the code's numbers of each kind stand for.
use Rattle.bus_spec.specs.Bus.{PerKind, per_kind, Times}
use Rattle.bus_tool.specs.declared.kinds.Kinds.{Kinds}

abbrev pub kinds_of : Kinds → PerKind
kinds_of c = per_kind c.load c.store c.hardware

abbrev pub times_between : (low high : Kinds) → Times
times_between l h = record { low = kinds_of l; high = kinds_of h }
