use Rattle.std.proofs.Common.{◌-◌, take, drop}
use Rattle.text.specs.Append.{Appended}
use Rattle.session_spec.specs.Session.{times}
use Rattle.session_reader.proofs.keeping.repeat.Given as goal

abbrev pub invariant-loop-to : goal.invariant-loop-to
invariant-loop-to l = Appended l.initial.words l.words l.n l.to (take (l.to - l.n) (times l.c (take (l.m - l.n) (drop l.n l.initial.words))))
