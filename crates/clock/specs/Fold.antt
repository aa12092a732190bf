-- A device with its image, carried through samples one after another. Assumes nothing.
use Rattle.std.specs.Prelude.{ℕ, zero, suc, List, [], ◌∷◌}
use Rattle.record.specs.declared.Device.{Device}
use Rattle.clock.specs.Clock.{device_clock, image_after}

pub record World : Type 0 where
  pub device : Device
  pub image : List ℕ

abbrev pub world : Device → List ℕ → World
world d image = record { device = d; image = image }

-- the world after a sample, and the answer byte to it
unfoldable pub onward : World → ℕ → World
onward w sample =
    world (device_clock w.device w.image sample).device (image_after w.device w.image sample)

unfoldable pub answer_to : World → ℕ → ℕ
answer_to w sample = (device_clock w.device w.image sample).answer

-- the world after some samples, and the answer bytes to them
abbrev pub through : List ℕ → World → World
through [] w = w
through (s ∷ ss) w = through ss (onward w s)

abbrev pub answers_to : List ℕ → World → List ℕ
answers_to [] w = []
answers_to (s ∷ ss) w = answer_to w s ∷ answers_to ss (onward w s)

-- the world after one sample repeated n times
abbrev pub repeated : ℕ → ℕ → World → World
repeated sample zero w = w
repeated sample (suc n) w = repeated sample n (onward w sample)
