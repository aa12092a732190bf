-- Many clocks of the controller with nothing said to it between: what they do to it and to the array, clock by clock as
-- in "One clock, in order" of document 01, and for how many of them nothing falls due. Assumes nothing.
use Rattle.std.specs.Prelude.{ℕ, zero, suc, ◌+◌, ◌-◌, cond, List, ltb}
use Rattle.units.specs.Units.{clocks}
use Rattle.record.specs.declared.Operation.{Operation}
use Rattle.record.specs.declared.Controller.{Controller}
use Rattle.record.specs.Record.{is_pausing, with_pause, with_left}
use Rattle.effect.specs.Effect.{applied}
use Rattle.operation.specs.Clock.{active, is_still, controller_clock}

-- n clocks one after another, each with its effect
abbrev pub controller_later : ℕ → Controller → Controller
controller_later zero c = c
controller_later (suc n) c = controller_later n (controller_clock c).after

abbrev pub image_later : ℕ → Controller → List ℕ → List ℕ
image_later zero c image = image
image_later (suc n) c image = image_later n (controller_clock c).after (applied (controller_clock c).effect image)

-- where a wait stops: how many clocks were done, the controller and the image then
pub record Forward : Type 0 where
  pub count : ℕ
  pub controller : Controller
  pub image : List ℕ

abbrev pub forward : ℕ → Controller → List ℕ → Forward
forward count c image = record { count = count; controller = c; image = image }

-- with `count` clocks done, at most n to come: it stops where no operation counts any more
abbrev pub forwarding : ℕ → ℕ → Controller → List ℕ → Forward
forwarding zero count c image = forward count c image
forwarding (suc n) count c image =
    cond (is_still (active c)) (forward count c image)
    (forwarding n (count + 1) (controller_clock c).after (applied (controller_clock c).effect image))

-- for so many clocks an operation that counts has nothing due: no effect, no end and no end of a pause
unfoldable pub operation_before_due : Operation → ℕ
operation_before_due o = cond (is_pausing o) (cond (ltb o.pause.0 o.left.0) (o.pause.0 - 1) (o.left.0 - 1)) (o.left.0 - 1)

-- and a controller: where none counts, for as many as can be asked for
unfoldable pub controller_before_due : Controller → ℕ
controller_before_due c = cond (is_still (active c)) 4294967295 (operation_before_due (active c))

-- an operation after n clocks on which nothing was due: it has less to come, and so has its pause where it is pausing
unfoldable pub operation_later : ℕ → Operation → Operation
operation_later n o =
    with_pause (with_left o o.slices (clocks (o.left.0 - n))) o.state
    (clocks (cond (is_pausing o) (o.pause.0 - n) o.pause.0))
