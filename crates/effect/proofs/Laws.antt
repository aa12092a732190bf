-- What an effect leaves in the array: a program old AND data at its address, a fill its value on its stretch. Assumes
-- nothing.
use mathlib.Core.Path.{◌≡◌}
use mathlib.Core.List.{List}
use Prim.Native.Nat.{ℕ, ◌<◌}
use lib.Bits.{bit_and}
use lib.ListN.{length, get_or}
use lib.Seq.{get_or-set_same}
use Rattle.effect.specs.declared.Effect.TheVariants.{Program}
use Rattle.effect.specs.Effect.{applied}

-- data is not stored in place of old AND data
pub programmed : (a v : ℕ) (d : List ℕ) → a < length d → get_or (applied (Program a v) d) a 0 ≡ bit_and (get_or d a 0) v
programmed a v d h = get_or-set_same d a (bit_and (get_or d a 0) v) 0 h
