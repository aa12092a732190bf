-- The clauses of soundness by name: taken apart, and put together. Assumes nothing.
use mathlib.Core.Path.{◌≡◌}
use mathlib.Core.Bool.{true}
use lib.Bits.{bit_and}
use lib.Dec.{eqb, ltb}
use Rattle.basics.proofs.All.{holds, also, none}
use Rattle.units.specs.Units.{times_fit}
use Rattle.record.specs.declared.Controller.{Controller}
use Rattle.record.specs.declared.Device.{Device}
use Rattle.part.specs.Parts.{strap_count}
use Rattle.status.specs.Status.{condition_of}
use Rattle.soundness.specs.Sound.{all_below, frame_fits, outer_fits, inner_fits, setup_kinds, controller_fits, sound_of}

pub record Clauses (c : Controller) : Type 0 where
  pub mode : ltb c.mode 3 ≡ true
  pub errors : eqb (bit_and c.errors 0x3A) c.errors ≡ true
  pub outer : outer_fits c.outer ≡ true
  pub inner : inner_fits c.outer c.inner ≡ true
  pub setup : ltb c.setup (setup_kinds (condition_of c)) ≡ true

pub clauses : (c : Controller) → controller_fits c ≡ true → Clauses c
unfolding controller_fits
clauses c e = record { mode = holds _ 0 e; errors = holds _ 1 e; outer = holds _ 2 e; inner = holds _ 3 e; setup = holds _ 4 e }

pub made : (c : Controller) → Clauses c → controller_fits c ≡ true
unfolding controller_fits
made c k = also _ k.mode (also _ k.errors (also _ k.outer (also _ k.inner (also _ k.setup none))))

pub record Parts (d : Device) : Type 0 where
  pub straps : ltb d.straps (strap_count d.part) ≡ true
  pub locks : all_below 8 d.locks ≡ true
  pub times : times_fit d.times ≡ true
  pub frame : frame_fits d.part d.frame ≡ true
  pub controller : controller_fits d.controller ≡ true

pub parts : (d : Device) → sound_of d ≡ true → Parts d
unfolding sound_of
parts d e = record { straps = holds _ 0 e; locks = holds _ 1 e; times = holds _ 2 e; frame = holds _ 3 e; controller = holds _ 4 e }

-- a sound device's controller is sound
pub controller_sound : (d : Device) → sound_of d ≡ true → controller_fits d.controller ≡ true
controller_sound d e = (parts d e).controller

pub joined : (d : Device) → Parts d → sound_of d ≡ true
unfolding sound_of
joined d p = also _ p.straps (also _ p.locks (also _ p.times (also _ p.frame (also _ p.controller none))))
