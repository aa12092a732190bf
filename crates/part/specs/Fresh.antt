-- Document 01, "Power up": the device as it comes up. Assumes nothing.
use Rattle.std.specs.Prelude.{ℕ, replicate}
use Rattle.units.specs.declared.Times.{Times}
use Rattle.record.specs.declared.Controller.{Controller}
use Rattle.record.specs.declared.Device.{Device}
use Rattle.record.specs.Record.{controller, device, idle, absent}

-- read array, no error bits, no setup, no operation: what reset leaves, with the marks that are given
abbrev pub resting : ℕ → Controller
resting marks = controller 0 0 0 marks absent absent

-- of a part and its straps: every lock register at 01h, no frame, no operation, no marks
unfoldable pub fresh_of : ℕ → ℕ → Times → Device
fresh_of part straps ts = device part straps (replicate 16 1) ts idle (resting 0)
