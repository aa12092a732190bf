-- An idle bus and an idle sample: a clock is one of the controller alone, and a settle goes where the controller's wait
-- goes. Assumes nothing.
use mathlib.Core.Path.{◌≡◌, ◌∙◌, ap}
use mathlib.Core.Bool.{true}
use mathlib.Core.List.{List}
use Prim.Native.Nat.{ℕ, zero, suc, ◌+◌}
use borrow.Author.Tests.{eqb-true}
use Rattle.basics.proofs.Rules.{yes, no, ask}
use Rattle.record.specs.declared.Controller.{Controller}
use Rattle.record.specs.declared.Device.{Device}
use Rattle.record.specs.Record.{is_idle}
use Rattle.record.specs.Sample.{is_idle_sample}
use Rattle.record.proofs.Samples.{idle_sample}
use Rattle.effect.specs.Effect.{applied}
use Rattle.soundness.specs.Sound.{controller_fits}
use Rattle.operation.specs.Clock.{active, is_still, controller_clock}
use Rattle.operation.proofs.Kept.{controller_clock_kept}
use Rattle.fast_forward.specs.Forward.{Forward, forward, forwarding}
use Rattle.fast_forward.proofs.Laws.{forwarding_from, forwarded, later_fits}
use Rattle.bus.specs.Frames.{frame_clock, asked_of}
use Rattle.access.specs.Write.{with_controller}
use Rattle.clock.specs.Clock.{served_of, device_clock, image_after}
use Rattle.clock.specs.Fold.{world, onward}
use Rattle.settle.specs.Settle.{is_ready, Stop, stop, settling}
use Rattle.settle.proofs.Still.{ready_still}

module _ (sample : ℕ) (h : is_idle_sample sample ≡ true) where
  -- one clock
  idle_onward : (d : Device) (image : List ℕ)
      → is_idle d.frame ≡ true
      → onward (world d image) sample
      ≡ world (with_controller d (controller_clock d.controller).after) (applied (controller_clock d.controller).effect image)
  unfolding onward device_clock image_after served_of frame_clock asked_of
  idle_onward d image e =
      let i = idle_sample sample h in
      rw (i.up, i.high, e, eqb-true d.frame.kind 0 e)

  -- where a wait of the controller stops, with the rest of the device as it was
  abbrev pub stop_at : Device → Forward → Stop
  stop_at d p = stop p.count (is_still (active p.controller)) (world (with_controller d p.controller) p.image)

  pub settles : (n count : ℕ) (d : Device) (image : List ℕ)
      → controller_fits d.controller ≡ true
      → is_idle d.frame ≡ true
      → settling sample n count (world d image) ≡ stop_at d (forwarding n count d.controller image)
  settles zero count d image f e = rw (ready_still d f)
  settles (suc n) count d image f e =
      elim (ask (is_still (active d.controller))) [
        | yes s ↦ rw (ready_still d f, s, s)
        | no s ↦
            rw (ready_still d f, s, idle_onward d image e)
            (settles n (count + 1) (with_controller d (controller_clock d.controller).after) (applied (controller_clock d.controller).effect image) (controller_clock_kept d.controller f) e)
      ]

  -- and so from what a wait gave, with clocks done before
  pub waits : (n count : ℕ) (d : Device) (image : List ℕ) (spent : ℕ) (c : Controller) (late : List ℕ)
      → controller_fits d.controller ≡ true
      → is_idle d.frame ≡ true
      → forward spent c late ≡ forwarding n 0 d.controller image
      → stop (count + spent) (is_ready (with_controller d c)) (world (with_controller d c) late)
      ≡ settling sample n count (world d image)
  waits n count d image spent c late f e p =
      let g : controller_fits c ≡ true =
      ap (λ (x : Forward). controller_fits x.controller) p ∙ rw (forwarded n 0 d.controller image).0 (later_fits n d.controller f) in
      rw (settles n count d image f e, forwarding_from n count d.controller image, ← p, ready_still (with_controller d c) g)
