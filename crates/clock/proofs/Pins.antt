-- Where each judgement falls out alike, operations, marks and array do not hang on TBL, WP, the voltage class, the inputs
-- or the lock registers. Of every device, sound or not. Assumes nothing.
use Rattle.std.proofs.lemmas.Bool.Decides.{nat_tests}
use mathlib.Core.Path.{◌≡◌, ◌∙◌, sym, refl, ap, subst}
use mathlib.Core.Bool.{Bool, true, false}
use mathlib.Core.List.{List}
use Prim.Native.Nat.{ℕ, ◌%◌}
use native.Mathlib.Omega.{arith}
use Rattle.std.specs.Prelude.{Option, None, Result}
use lib.Dec.{eqb, ltb}
use borrow.Author.Tests.{ltb-true, eq-eqb}
use Rattle.basics.proofs.Rules.{Answer, yes, no, ask}
use Rattle.units.specs.declared.Times.{Times}
use Rattle.record.specs.declared.Frame.{Frame}
use Rattle.record.specs.declared.Controller.{Controller}
use Rattle.record.specs.declared.Device.{Device}
use Rattle.record.specs.Record.{device, is_idle, is_read, is_absent}
use Rattle.record.specs.Sample.{lines, frame_line, rp, init, is_reset}
use Rattle.effect.specs.Effect.{applied}
use Rattle.soundness.specs.Sound.{controller_fits, sound_of}
use Rattle.soundness.proofs.Clauses.{parts}
use Rattle.operation.specs.declared.Counted.{Counted}
use Rattle.operation.specs.Clock.{active, is_still, replaced, controller_clock}
use Rattle.operation.proofs.Facts.{still_clocked}
use Rattle.operation.proofs.Kept.{unset, unset_inside}
use Rattle.bus.specs.declared.Asked.{Asked}
use Rattle.bus.specs.declared.Asked.TheVariants.{Nothing as Silent, Read, Write}
use Rattle.bus.specs.Frames.{headed, cycled, addressed, headed_lpc, read_on, next_of, frame_clock, asked_of}
use Rattle.permission.specs.declared.Denial.{Denial}
use Rattle.command.specs.declared.Judged.{Judged}
use Rattle.command.specs.Setup.{written_of}
use Rattle.command.proofs.Laws.{verdict_bits, command_alone, written_alike, written_marks, written_outer}
use Rattle.access.specs.Read.{is_array, array_address}
use Rattle.access.specs.Write.{reached_of, with_locks}
use Rattle.clock.specs.Clock.{reset_device, with_frame, with_byte, answered_to, served_of, after_controller, image_after, device_clock}
use Rattle.clock.specs.Fold.{World, world, onward}

-- bits 0-6 of a sample: all but TBL, WP, the voltage class and the inputs
unfoldable pub without_pins : ℕ → ℕ
without_pins sample = sample % 128

-- the judgement of a clock
abbrev pub verdict_on : World → ℕ → Option (Result Unit Denial)
verdict_on w sample = (device_clock w.device w.image sample).happened.verdict

-- equal frames, but for the byte that a read in progress has found
pub data FramesAlike (f : Frame) : Frame → Type 0 where
  same : FramesAlike f f
  reading : is_read f ≡ true → (byte : ℕ) → FramesAlike f (with_byte f byte)

-- equal worlds, but for lock registers and that byte
pub record Alike (v w : World) : Type 0 where
  pub part : v.device.part ≡ w.device.part
  pub straps : v.device.straps ≡ w.device.straps
  pub times : v.device.times ≡ w.device.times
  pub frames : FramesAlike v.device.frame w.device.frame
  pub controllers : v.device.controller ≡ w.device.controller
  pub images : v.image ≡ w.image

-- what the frame and the reset see of a sample
module _ (s t : ℕ) (e : without_pins s ≡ without_pins t) where
  same_lines : lines s ≡ lines t
  unfolding without_pins
  same_lines = omega arith

  same_line : frame_line s ≡ frame_line t
  unfolding without_pins
  same_line = omega arith

  same_reset : is_reset s ≡ is_reset t
  unfolding without_pins is_reset
  same_reset =
      let r : rp s ≡ rp t = omega arith in
      let i : init s ≡ init t = omega arith in
      rw (r, i)

-- the bus: frames that are alike stay so, and ask the same
same_framed : (part straps : ℕ) (f : Frame) (s t : ℕ) → without_pins s ≡ without_pins t → frame_clock part straps f s ≡ frame_clock part straps f t
unfolding frame_clock
same_framed part straps f s t e = rw (same_lines s t e, same_line s t e)

framed_reading : (part straps : ℕ) (f : Frame) (byte s : ℕ)
    → is_read f ≡ true
    → FramesAlike (frame_clock part straps f s) (frame_clock part straps (with_byte f byte) s)
unfolding frame_clock next_of headed headed_lpc cycled addressed read_on
framed_reading part straps f byte s r = pick (ask (eqb (frame_line s) 0)) (ask (is_idle f)) (ask (ltb f.clock 10)) (ask (ltb f.clock 18))
  where
    pick : Answer (eqb (frame_line s) 0)
        → Answer (is_idle f)
        → Answer (ltb f.clock 10)
        → Answer (ltb f.clock 18)
        → FramesAlike (frame_clock part straps f s) (frame_clock part straps (with_byte f byte) s)
    pick (yes a) b c d = rw a same
    pick (no a) (yes b) c d = rw (a, b) (reading r byte)
    pick (no a) (no b) (yes c) d = rw (a, b, c) same
    pick (no a) (no b) (no c) (yes d) = rw (a, b, c, r, d) (reading r byte)
    pick (no a) (no b) (no c) (no d) = rw (a, b, c, r, d) same

framed_alike : (part straps : ℕ) (f g : Frame) (s : ℕ) → FramesAlike f g → FramesAlike (frame_clock part straps f s) (frame_clock part straps g s)
framed_alike part straps f g s same = same
framed_alike part straps f g s (reading r byte) = framed_reading part straps f byte s r

asked_alike : (f g : Frame) → FramesAlike f g → asked_of g ≡ asked_of f
unfolding asked_of
asked_alike f g same = refl
asked_alike f g (reading r byte) = rw r

-- a value is fixed for a read, and so the byte in which frames may differ
abbrev is_fixed : Asked → Bool
is_fixed Silent = false
is_fixed (Read address) = true
is_fixed (Write address byte) = false

fixed_read : (f : Frame) → is_fixed (asked_of f) ≡ true → is_read f ≡ true
unfolding asked_of
fixed_read f = grind (arith, nat_tests)

fixed_alike : (f g : Frame) (x y : ℕ) → is_read f ≡ true → FramesAlike f g → FramesAlike (with_byte f x) (with_byte g y)
fixed_alike f g x y r same = reading r y
fixed_alike f g x y r (reading q byte) = reading r y

module _ (part straps : ℕ) (l m : List ℕ) (ts : Times) (f g : Frame) (c : Controller) (image : List ℕ) (s t : ℕ) (h : FramesAlike f g) where
  abbrev one : Device
  one = device part straps l ts f c

  abbrev two : Device
  two = device part straps m ts g c

  reached_alike : (address byte : ℕ)
      → verdict_bits (reached_of one s address byte).verdict ≡ verdict_bits (reached_of two t address byte).verdict
      → Alike (world (reached_of one s address byte).after image) (world (reached_of two t address byte).after image)
  unfolding reached_of
  reached_alike address byte = pick (ask (is_array address))
    where
      pick : Answer (is_array address)
          → verdict_bits (reached_of one s address byte).verdict ≡ verdict_bits (reached_of two t address byte).verdict
          → Alike (world (reached_of one s address byte).after image) (world (reached_of two t address byte).after image)
      pick (yes a) e =
          let q = written_alike c ts s t _ _ (array_address address) byte (rw a at e) in
          rw a (record { part = refl; straps = refl; times = refl; frames = h; controllers = q; images = refl })
      pick (no a) e = rw a (record { part = refl; straps = refl; times = refl; frames = h; controllers = refl; images = refl })

  answered_alike : (a : Asked)
      → (is_fixed a ≡ true → is_read f ≡ true)
      → verdict_bits (answered_to a one image s).verdict ≡ verdict_bits (answered_to a two image t).verdict
      → Alike (world (answered_to a one image s).after image) (world (answered_to a two image t).after image)
  answered_alike Silent r e = record { part = refl; straps = refl; times = refl; frames = h; controllers = refl; images = refl }
  answered_alike (Read address) r e =
      record { part = refl; straps = refl; times = refl; frames = fixed_alike f g _ _ (r refl) h; controllers = refl; images = refl }
  answered_alike (Write address byte) r e = reached_alike address byte e

-- the judgement of a clock without a reset is the bus's
served_verdict : (d : Device) (image : List ℕ) (s : ℕ)
    → is_reset s ≡ false
    → verdict_on (world d image) s
    ≡ (answered_to (asked_of (frame_clock d.part d.straps d.frame s)) (with_frame (after_controller d) (frame_clock d.part d.straps d.frame s))
    (applied (controller_clock d.controller).effect image) s).verdict
unfolding device_clock served_of
served_verdict d image s a = rw (a, verdict_on)

once : (part straps : ℕ) (l m : List ℕ) (ts : Times) (f g : Frame) (c : Controller) (image : List ℕ) (s t : ℕ)
    → without_pins s ≡ without_pins t
    → FramesAlike f g
    → verdict_bits (verdict_on (world (device part straps l ts f c) image) s) ≡ verdict_bits (verdict_on (world (device part straps m ts g c) image) t)
    → Alike (onward (world (device part straps l ts f c) image) s) (onward (world (device part straps m ts g c) image) t)
unfolding onward device_clock image_after reset_device served_of
once part straps l m ts f g c image s t e h = pick (ask (is_reset s))
  where
    p : FramesAlike (frame_clock part straps f s) (frame_clock part straps g s)
    p = framed_alike part straps f g s h

    seen : is_reset s ≡ false → verdict_on (world (device part straps m ts g c) image) t
        ≡ (answered_to (asked_of (frame_clock part straps f s)) (with_frame (after_controller (device part straps m ts g c)) (frame_clock part straps g s))
        (applied (controller_clock c).effect image) t).verdict
    seen up = rw (← asked_alike (frame_clock part straps f s) (frame_clock part straps g s) p, same_framed part straps g s t e) (served_verdict (device part straps m ts g c) image t (sym (same_reset s t e) ∙ up))

    pick : Answer (is_reset s)
        → verdict_bits (verdict_on (world (device part straps l ts f c) image) s) ≡ verdict_bits (verdict_on (world (device part straps m ts g c) image) t)
        → Alike (onward (world (device part straps l ts f c) image) s) (onward (world (device part straps m ts g c) image) t)
    pick (yes a) n =
        rw (← same_reset s t e, a)
        (record { part = refl; straps = refl; times = refl; frames = same; controllers = refl; images = refl })
    pick (no a) n =
        rw (← same_reset s t e, ← same_framed part straps g s t e, a, asked_alike (frame_clock part straps f s) (frame_clock part straps g s) p)
        (answered_alike part straps l m ts (frame_clock part straps f s) (frame_clock part straps g s) (controller_clock c).after (applied (controller_clock c).effect image) s t p
        (asked_of (frame_clock part straps f s)) (fixed_read (frame_clock part straps f s))
        (ap verdict_bits (sym (served_verdict (device part straps l ts f c) image s a)) ∙ n ∙ ap verdict_bits (seen a)))

-- two worlds that are alike, and two samples that differ in pins, voltage and inputs only: where the judgement has the same
-- error bit, or none in both, they stay alike
pub alike_once : (v w : World) (s t : ℕ)
    → without_pins s ≡ without_pins t
    → Alike v w
    → verdict_bits (verdict_on v s) ≡ verdict_bits (verdict_on w t)
    → Alike (onward v s) (onward w t)
alike_once v w s t e a n =
    let d = v.device in
    let k = w.device in
    let q : world (device d.part d.straps k.locks d.times k.frame d.controller) v.image ≡ w = rw (a.part, a.straps, a.times, a.controllers, a.images) in
    subst (λ (x : World). Alike (onward v s) (onward x t)) q
    (once d.part d.straps d.locks k.locks d.times d.frame k.frame d.controller v.image s t e a.frames
    (n ∙ ap (λ (x : World). verdict_bits (verdict_on x t)) (sym q)))

-- the array and the ends of operations hang on no judgement
pub image_alike : (d : Device) (image locks : List ℕ) (s t : ℕ)
    → without_pins s ≡ without_pins t
    → image_after (with_locks d locks) image t ≡ image_after d image s
unfolding image_after
image_alike d image locks s t e = rw (same_reset s t e)

-- what stands of a controller: its operations, where there are any, and its marks
pub record Standing (c p q : Controller) : Type 0 where
  pub outer : is_absent c.outer ≡ false → p.outer ≡ q.outer
  pub inner : is_absent c.inner ≡ false → p.inner ≡ q.inner
  pub marks : p.marks ≡ q.marks

same_standing : (c p q : Controller) → p ≡ q → Standing c p q
same_standing c p q e =
    record {
      outer = λ a. ap (λ (x : Controller). x.outer) e;
      inner = λ a. ap (λ (x : Controller). x.inner) e;
      marks = ap (λ (x : Controller). x.marks) e;
    }

none_set : (s : ℕ) → ltb s 1 ≡ true → eqb s 0 ≡ true
none_set s e = let h = ltb-true s 1 e in eq-eqb s 0 (omega arith)

-- the controller's clock keeps the setup
clocked_setup : (c : Controller) → (controller_clock c).after.setup ≡ c.setup
unfolding controller_clock replaced
clocked_setup c = grind (arith, nat_tests)

-- a write behind the controller's clock
standing_written : (c : Controller) (ts : Times) (s t l m a byte : ℕ)
    → controller_fits c ≡ true
    → Standing c (written_of (controller_clock c).after ts s l a byte).after (written_of (controller_clock c).after ts t m a byte).after
standing_written c ts s t l m a byte f = pick (ask (is_still (active c)))
  where
    k : Controller
    k = (controller_clock c).after

    whole : ltb c.setup 1 ≡ true → (written_of k ts s l a byte).after ≡ (written_of k ts t m a byte).after
    whole e =
        ap (λ (w : Judged Controller). w.after)
        (command_alone k ts ts s t l m a a byte (ap (λ (x : ℕ). eqb x 0) (clocked_setup c) ∙ none_set c.setup e))

    pick : Answer (is_still (active c)) → Standing c (written_of k ts s l a byte).after (written_of k ts t m a byte).after
    pick (no n) = same_standing c _ _ (whole (unset c f n))
    pick (yes y) =
        let q : k ≡ c = ap (λ (x : Counted Controller). x.after) (still_clocked c y) in
        record {
          outer = λ o. written_outer k ts s t l m a byte (ap (λ (x : Controller). is_absent x.outer) q ∙ o);
          inner = λ i. ap (λ (x : Controller). x.inner) (whole (unset_inside c f i));
          marks = written_marks k ts s l a byte ∙ sym (written_marks k ts t m a byte);
        }

-- of a sound device: a clock takes the operations that stand and the marks on alike, whatever is judged
module _ (d : Device) (image locks : List ℕ) (s t : ℕ) (e : without_pins s ≡ without_pins t) where
  module _ (f : sound_of d ≡ true) where
    answered_standing : (a : Asked) (g : Frame) (late : List ℕ)
        → Standing d.controller (answered_to a (with_frame (after_controller d) g) late s).after.controller (answered_to a (with_frame (after_controller (with_locks d locks)) g) late t).after.controller
    unfolding reached_of
    answered_standing Silent g late = same_standing d.controller _ _ refl
    answered_standing (Read address) g late = same_standing d.controller _ _ refl
    answered_standing (Write address byte) g late = pick (ask (is_array address))
      where
        pick : Answer (is_array address)
            → Standing d.controller (answered_to (Write address byte) (with_frame (after_controller d) g) late s).after.controller (answered_to (Write address byte) (with_frame (after_controller (with_locks d locks)) g) late t).after.controller
        pick (yes a) = rw a (standing_written d.controller d.times s t _ _ (array_address address) byte (parts d f).controller)
        pick (no a) = rw a (same_standing d.controller _ _ refl)

    pub standing : Standing d.controller (device_clock d image s).device.controller (device_clock (with_locks d locks) image t).device.controller
    unfolding device_clock served_of reset_device
    standing = pick (ask (is_reset s))
      where
        pick : Answer (is_reset s) → Standing d.controller (device_clock d image s).device.controller (device_clock (with_locks d locks) image t).device.controller
        pick (yes a) = rw (← same_reset s t e, a) (same_standing d.controller _ _ refl)
        pick (no a) =
            rw (← same_reset s t e, ← same_framed d.part d.straps d.frame s t e, a)
            (answered_standing (asked_of (frame_clock d.part d.straps d.frame s)) (frame_clock d.part d.straps d.frame s) (applied (controller_clock d.controller).effect image))

-- outside a setup, of any device: a clock of its controller hangs on no pin and no lock register, nor on its times
module _ (part straps : ℕ) (l m : List ℕ) (ts us : Times) (f : Frame) (c : Controller) (image : List ℕ) (s t : ℕ) (n : eqb c.setup 0 ≡ true) where
  answered_alone : (a : Asked) (g : Frame) (late : List ℕ)
      → (answered_to a (with_frame (after_controller (device part straps l ts f c)) g) late s).after.controller
      ≡ (answered_to a (with_frame (after_controller (device part straps m us f c)) g) late t).after.controller
  unfolding reached_of
  answered_alone Silent g late = refl
  answered_alone (Read address) g late = refl
  answered_alone (Write address byte) g late = pick (ask (is_array address))
    where
      pick : Answer (is_array address)
          → (answered_to (Write address byte) (with_frame (after_controller (device part straps l ts f c)) g) late s).after.controller
          ≡ (answered_to (Write address byte) (with_frame (after_controller (device part straps m us f c)) g) late t).after.controller
      pick (yes a) =
          rw a
          (ap (λ (w : Judged Controller). w.after)
          (command_alone (controller_clock c).after ts us s t _ _ _ _ byte (ap (λ (x : ℕ). eqb x 0) (clocked_setup c) ∙ n)))
      pick (no a) = rw a

  pub alone : without_pins s ≡ without_pins t
      → (device_clock (device part straps l ts f c) image s).device.controller ≡ (device_clock (device part straps m us f c) image t).device.controller
  unfolding device_clock served_of reset_device
  alone e = pick (ask (is_reset s))
    where
      pick : Answer (is_reset s)
          → (device_clock (device part straps l ts f c) image s).device.controller ≡ (device_clock (device part straps m us f c) image t).device.controller
      pick (yes a) = rw (← same_reset s t e, a)
      pick (no a) =
          rw (← same_reset s t e, ← same_framed part straps f s t e, a)
          (answered_alone (asked_of (frame_clock part straps f s)) (frame_clock part straps f s) (applied (controller_clock c).effect image))

-- no judgement falls on a clock on which an operation counts: no setup stands beside it
module _ (d : Device) (image : List ℕ) (s : ℕ) (f : sound_of d ≡ true) (m : is_still (active d.controller) ≡ false) where
  unset_now : eqb (controller_clock d.controller).after.setup 0 ≡ true
  unset_now =
      ap (λ (x : ℕ). eqb x 0) (clocked_setup d.controller)
      ∙ none_set d.controller.setup (unset d.controller (parts d f).controller m)

  answered_unjudged : (a : Asked) (g : Frame) (late : List ℕ) → (answered_to a (with_frame (after_controller d) g) late s).verdict ≡ None
  unfolding reached_of written_of
  answered_unjudged Silent g late = refl
  answered_unjudged (Read address) g late = refl
  answered_unjudged (Write address byte) g late = pick (ask (is_array address))
    where
      pick : Answer (is_array address) → (answered_to (Write address byte) (with_frame (after_controller d) g) late s).verdict ≡ None
      pick (yes a) = rw (a, unset_now)
      pick (no a) = rw a

  pub unjudged : verdict_on (world d image) s ≡ None
  unfolding device_clock
  unjudged = pick (ask (is_reset s))
    where
      pick : Answer (is_reset s) → verdict_on (world d image) s ≡ None
      pick (yes r) = rw (r, verdict_on)
      pick (no r) = served_verdict d image s r ∙ answered_unjudged (asked_of (frame_clock d.part d.straps d.frame s)) (frame_clock d.part d.straps d.frame s) (applied (controller_clock d.controller).effect image)
