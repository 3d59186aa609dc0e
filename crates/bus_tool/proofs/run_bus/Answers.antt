use Rattle.session_engine.proofs.Texts.{tool_text_within}
use Rattle.bus_spec.specs.Bus.{times_from, bus_text}
use Rattle.bus_tool.proofs.run_bus.Goals as goal

pub returns : goal.returns
returns c = let a = c.args in
    rw (← (tool_text_within 2400000 (bus_text (times_from a.load_low a.load_high a.store_low a.store_high a.hardware_low a.hardware_high)))) c.run_tool.ensures
