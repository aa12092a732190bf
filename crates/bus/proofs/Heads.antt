-- The heads of both parts, clock by clock while the frame line is high. Assumes nothing.
use Rattle.std.proofs.lemmas.Bool.Decides.{nat_tests}
use mathlib.Core.Path.{◌≡◌, refl}
use mathlib.Core.Bool.{true, false, cond}
use Prim.Native.Nat.{ℕ, ◌+◌, ◌/◌, ◌≤◌, ◌<◌}
use native.Mathlib.Omega.{arith}
use lib.Dec.{eqb}
use Rattle.record.specs.Record.{is_lpc, frame, idle}
use Rattle.record.specs.Sample.{lines, frame_line}
use Rattle.bus.specs.Frames.{shifted, headed, cycled, is_chosen, addressed, headed_lpc, next_of, frame_clock}

-- a kind of frame whose direction is known
pub record Kind (kind : ℕ) : Type 0 where
  pub there : eqb kind 0 ≡ false
  pub known : eqb kind 3 ≡ false

pub reading : Kind 1
reading = record { there = refl; known = refl }

pub writing : Kind 2
writing = record { there = refl; known = refl }

module _ (part straps s : ℕ) (high : eqb (frame_line s) 0 ≡ false) where
  module _ (kind : ℕ) (k : Kind kind) where
    -- clocks 3 to 9: a nibble of the address
    pub nibble_in : (c a : ℕ) → 2 ≤ c → c < 9 → frame_clock part straps (frame kind c 0 a) s ≡ frame kind (c + 1) 0 (shifted part a (lines s))
    unfolding frame_clock next_of headed headed_lpc addressed shifted
    nibble_in c a l h = grind (arith, nat_tests)

    -- FWH: the straps on clock 2, the size on clock 10
    module _ (p : is_lpc part ≡ false) where
      pub strap : frame_clock part straps (frame kind 1 0 0) s ≡ cond (eqb (lines s) straps) (frame kind 2 0 0) idle
      unfolding frame_clock next_of headed
      strap = rw (high, k.there, p)

      pub size : (a : ℕ) → frame_clock part straps (frame kind 9 0 a) s ≡ cond (eqb (lines s) 0) (frame kind 10 0 a) idle
      unfolding frame_clock next_of headed
      size a = rw (high, k.there, p)

    -- LPC: the last nibble of the address on clock 10, where it is judged
    pub last : (a : ℕ)
        → is_lpc part ≡ true
        → frame_clock part straps (frame kind 9 0 a) s
        ≡ cond (is_chosen straps (shifted part a (lines s))) (frame kind 10 0 (shifted part a (lines s))) idle
    unfolding frame_clock next_of headed_lpc addressed shifted
    last a p = rw (high, k.there, p, k.known)

  -- LPC: the cycle type on clock 2
  pub cycle : is_lpc part ≡ true
      → frame_clock part straps (frame 3 1 0 0) s
      ≡ cond (eqb (lines s / 2) 2) (frame 1 2 0 0) (cond (eqb (lines s / 2) 3) (frame 2 2 0 0) idle)
  unfolding frame_clock next_of headed_lpc cycled
  cycle p = rw (high, p)
