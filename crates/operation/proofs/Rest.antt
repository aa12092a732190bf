-- A clock does a part of what is left of its operation and leaves the remainder: all its clocks together do the whole.
-- So an erase's effects fill its block and nothing else. Assumes nothing.
use mathlib.Core.Path.{◌≡◌, ◌∙◌, refl}
use mathlib.Core.Bool.{true, false}
use mathlib.Core.List.{List}
use Prim.Native.Nat.{ℕ, ◌+◌, ◌-◌, ◌*◌}
use native.Mathlib.Omega.{arith}
use lib.Dec.{ltb}
use lib.ListN.{length}
use borrow.Author.Tests.{ltb-true, ltb-false, eqb-false}
use Rattle.basics.proofs.Rules.{Answer, yes, no, ask}
use Rattle.units.specs.declared.Clocks.{Clocks}
use Rattle.units.specs.Units.{clocks, in_clocks}
use Rattle.record.specs.declared.Operation.{Operation}
use Rattle.record.specs.Record.{is_absent, is_program, with_left, absent, block_of}
use Rattle.effect.specs.declared.Effect.TheVariants.{Program}
use Rattle.basics.specs.Bytes.{filled}
use Rattle.effect.specs.Effect.{applied}
use Rattle.basics.proofs.Joined.{filled_filled}
use Rattle.soundness.specs.Sound.{operation_fits}
use Rattle.operation.specs.Clock.{slice_at, paused_of, operation_clock}
use Rattle.operation.specs.Whole.{rest}
use Rattle.operation.proofs.Facts.{fits, slices}
use Rattle.operation.proofs.Kept.{Same, paused_same}

-- what is left does not hang on state, pause or clocks
rest_same : (a b : Operation) (d : List ℕ) → Same a b → rest b d ≡ rest a d
unfolding rest slice_at
rest_same a b d m = rw (m.kind, m.address, m.byte, m.slices)

rest_left : (o : Operation) (l : Clocks) (d : List ℕ) → rest (with_left o o.slices l) d ≡ rest o d
unfolding rest slice_at
rest_left o l d = refl

-- one slice and those behind it
rest_slice : (o : Operation) (l : Clocks) (d : List ℕ)
    → operation_fits o ≡ true
    → is_absent o ≡ false
    → is_program o ≡ false
    → ltb 1 o.slices ≡ true
    → length d ≡ 1048576
    → rest (with_left o (o.slices - 1) l) (filled d (slice_at o) 256 255) ≡ rest o d
unfolding rest slice_at
rest_slice o l d e a p s n =
    let h = ltb-true 1 o.slices s in
    let f = fits o e in
    let w = slices o e (eqb-false o.kind 1 p) in
    let x : block_of o.address * 65536 + (256 - (o.slices - 1)) * 256 ≡ block_of o.address * 65536 + (256 - o.slices) * 256 + 256 = omega arith in
    let y : 256 + (o.slices - 1) * 256 ≡ o.slices * 256 = omega arith in
    rw (a, p, x, ← y)
    (filled_filled d (block_of o.address * 65536 + (256 - o.slices) * 256) 256 ((o.slices - 1) * 256) 255 (omega arith))

rest_last : (o : Operation) (d : List ℕ)
    → operation_fits o ≡ true
    → is_absent o ≡ false
    → is_program o ≡ false
    → ltb 1 o.slices ≡ false
    → filled d (slice_at o) 256 255 ≡ rest o d
unfolding rest
rest_last o d e a p s =
    let h = ltb-false 1 o.slices s in
    let w = slices o e (eqb-false o.kind 1 p) in
    let x : o.slices * 256 ≡ 256 = omega arith in
    rw (a, p, x)

-- an operation that is over leaves nothing to do
over : (d : List ℕ) → rest absent d ≡ d
unfolding rest
over d = refl

gone : (o : Operation) (d : List ℕ)
    → is_absent o ≡ false
    → is_program o ≡ true
    → rest absent (applied (Program o.address o.«data») d) ≡ rest o d
unfolding rest
gone o d a p = rw (a, p)

pub operation_clock_rest : (o : Operation) (d : List ℕ)
    → operation_fits o ≡ true
    → is_absent o ≡ false
    → length d ≡ 1048576
    → rest (operation_clock o).after (applied (operation_clock o).effect d) ≡ rest o d
unfolding operation_clock
operation_clock_rest o d e a n = pick (ask (ltb 1 o.left.0)) (ask (is_program o)) (ask (ltb 1 o.slices))
  where
    pick : Answer (ltb 1 o.left.0) → Answer (is_program o) → Answer (ltb 1 o.slices) → rest (operation_clock o).after (applied (operation_clock o).effect d) ≡ rest o d
    pick (yes l) p s =
        rw l
        (rest_same (with_left o o.slices (clocks (o.left.0 - 1))) (paused_of (with_left o o.slices (clocks (o.left.0 - 1)))) d
        (paused_same (with_left o o.slices (clocks (o.left.0 - 1))))
        ∙ rest_left o (clocks (o.left.0 - 1)) d)
    pick (no l) (yes p) s = rw (l, p) (gone o d a p)
    pick (no l) (no p) (yes s) =
        rw (l, p, s)
        (rest_same (with_left o (o.slices - 1) (in_clocks o.times.slice)) (paused_of (with_left o (o.slices - 1) (in_clocks o.times.slice))) (filled d (slice_at o) 256 255)
        (paused_same (with_left o (o.slices - 1) (in_clocks o.times.slice)))
        ∙ rest_slice o (in_clocks o.times.slice) d e a p s n)
    pick (no l) (no p) (no s) = rw (l, p, s) (over (filled d (slice_at o) 256 255) ∙ rest_last o d e a p s)
