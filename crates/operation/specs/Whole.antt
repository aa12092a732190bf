-- An operation done at once: what demand 3 compares with. Assumes nothing.
use Rattle.std.specs.Prelude.{ℕ, ◌*◌, cond, List}
use Rattle.record.specs.declared.Operation.{Operation}
use Rattle.record.specs.Record.{is_absent, is_program}
use Rattle.effect.specs.declared.Effect.TheVariants.{Program}
use Rattle.basics.specs.Bytes.{filled}
use Rattle.effect.specs.Effect.{applied}
use Rattle.operation.specs.Clock.{slice_at}

-- what is left of an operation, done to the array at once: a program's byte, or the slices that an erase has still to fill
unfoldable pub rest : Operation → List ℕ → List ℕ
rest o d =
    cond (is_absent o) d
    (cond (is_program o) (applied (Program o.address o.«data») d) (filled d (slice_at o) (o.slices * 256) 255))
