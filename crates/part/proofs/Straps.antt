-- Straps that a part allows: there is such a part, and they fit a nibble. Assumes nothing.
use Prim.Native.Nat.{ℕ, ◌<◌}
use native.Mathlib.Omega.{arith}
use lib.Dec.{eqb}
use borrow.Author.Tests.{eqb-true}
use Rattle.basics.proofs.Rules.{Answer, yes, no, ask}
use Rattle.record.specs.Record.{is_lpc}
use Rattle.part.specs.Parts.{strap_count}

pub allowed : (part straps : ℕ) → straps < strap_count part → (part < 2) × (straps < 16)
unfolding strap_count
allowed part straps h = pick (ask (is_lpc part)) (ask (eqb part 0)) h
  where
    pick : Answer (is_lpc part) → Answer (eqb part 0) → straps < strap_count part → (part < 2) × (straps < 16)
    pick (yes l) z h = let e = eqb-true part 1 l in let k = rw l at h in (omega arith, omega arith)
    pick (no l) (yes z) h = let e = eqb-true part 0 z in let k = rw (l, z) at h in (omega arith, omega arith)
    pick (no l) (no z) h = let k = rw (l, z) at h in absurd (omega arith)
