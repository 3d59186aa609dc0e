use native.Mathlib.Omega.{arith}
use Rattle.session_tool.proofs.Lengths.{line_4}
use Rattle.text.specs.Bytes.{bytes}
use Rattle.session_tool.proofs.printing.put_end.Goals as goal

pub line-requires : goal.line-requires
line-requires c = let f = c.from.result in let h = c.from-2.result in let r = c.lisqotay_rate-rate.result in
    omega (arith, line_4 (bytes "(end") f c.args.pending h r (omega arith) (omega arith) (omega arith) (omega arith))
