-- Document 01, "Sample, answer, times": the datasheet's times are microseconds, the bus counts clocks, a microsecond is
-- 33 clocks, and the two are never mixed. Assumes nothing.
use Rattle.std.specs.Prelude.{ℕ, ◌*◌, Bool, [], ◌∷◌, leb}
use Rattle.basics.specs.All.{all}
use Rattle.units.specs.declared.Micros.{Micros}
use Rattle.units.specs.declared.Clocks.{Clocks}
use Rattle.units.specs.declared.Times.{Times}

-- a microsecond is 33 clocks
unfoldable pub in_clocks : Micros → Clocks
in_clocks m = record { 0 = m.0 * 33 }

-- a time is at least 1 and at most `most`
unfoldable pub in_range : ℕ → ℕ → Bool
in_range n most = all (leb 1 n ∷ leb n most ∷ [])

-- program 1 to 200, erase slice 1 to 39,062, pause 1 to 30
unfoldable pub times_fit : Times → Bool
times_fit t = all (in_range t.program.0 200 ∷ in_range t.slice.0 39062 ∷ in_range t.pause.0 30 ∷ [])

abbrev pub micros : ℕ → Micros
micros n = record { 0 = n }

abbrev pub clocks : ℕ → Clocks
clocks n = record { 0 = n }

abbrev pub times : ℕ → ℕ → ℕ → Times
times program slice pause = record { program = micros program; slice = micros slice; pause = micros pause }
