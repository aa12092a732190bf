-- What an event of a history does to one block: its operation goes on, ends, is accepted or is cut off.
-- Assumes nothing.
use Prim.Native.Nat.{ℕ, ◌<◌}
use mathlib.Core.Path.{◌≡◌, ◌∙◌, sym, refl, ap}
use mathlib.Core.Bool.{Bool, true, false}
use mathlib.Core.List.{List}
use native.Mathlib.Omega.{arith}
use lib.Dec.{eqb}
use lib.ListN.{length}
use borrow.Author.Tests.{eqb-true, eqb-false}
use Rattle.basics.proofs.Rules.{Answer, yes, no, ask, clash}
use Rattle.units.specs.Units.{times, times_fit}
use Rattle.record.specs.declared.Frame.{Frame}
use Rattle.record.specs.declared.Operation.{Operation}
use Rattle.record.specs.declared.Controller.{Controller}
use Rattle.record.specs.declared.Device.{Device}
use Rattle.record.specs.Record.{is_absent, is_erase, absent, block_of}
use Rattle.record.specs.Sample.{rp, init, voltage, is_reset}
use Rattle.effect.specs.Effect.{applied}
use Rattle.soundness.specs.Sound.{frame_fits, controller_fits, sound_of}
use Rattle.power.specs.Power.{times_set}
use Rattle.soundness.proofs.Clauses.{Parts, parts, joined}
use Rattle.operation.specs.Marks.{marked}
use Rattle.operation.specs.Clock.{active, is_still, slice_at, replaced, controller_clock}
use Rattle.operation.specs.Reset.{marked_by, reset_of}
use Rattle.operation.specs.Whole.{rest}
use Rattle.operation.proofs.Facts.{fits, outer_fits_lem, inner_fits_lem}
use Rattle.operation.proofs.Kept.{unset}
use Rattle.operation.proofs.Marked.{marking_same, marking_other}
use Rattle.bus.specs.declared.Asked.{Asked}
use Rattle.bus.specs.declared.Asked.TheVariants.{Nothing as Silent, Read, Write}
use Rattle.bus.specs.Frames.{frame_clock, asked_of}
use Rattle.command.proofs.Kept.{refuse}
use Rattle.access.specs.Read.{is_array, array_address, lock_of}
use Rattle.access.specs.Write.{reached_of}
use Rattle.clock.specs.Clock.{reset_device, with_frame, answered_to, served_of, after_controller, device_clock, image_after}
use Rattle.step.specs.Step.{stepped_of, stored_of}
use Rattle.clock.specs.Fold.{World, world}
use Rattle.step.proofs.Doors.{overvolted, accepted}
use Rattle.clock.proofs.Kept.{controller_sound, image_length}
use Rattle.bus.proofs.Kept.{frame_kept}
use Rattle.demands.specs.History.{Event, clock, retime, after, is_on, op_of, is_last, finishes, sample_of, allowed, contents, whole}
use Rattle.demands.proofs.Block.{contents_length, contents_rest, rest_in}
use Rattle.demands.proofs.Counting.{Like, itself, Counting, goes as counts_on, ends as counts-out, counting, on_here, absent_rest}
use Rattle.demands.proofs.Moving.{Alike, Moving, stays, begins, unmoved, writing}

-- what an event does to a block; `fin`: its operation reaches its last clock, `ok`: pins, voltage and lock allow one
pub data Turn (b : ℕ) (fin ok : Bool) (c n : Controller) (d e : List ℕ) : Type 0 where
  goes : fin ≡ false
      → is_absent (op_of b n) ≡ is_absent (op_of b c)
      → Like (op_of b c) (op_of b n)
      → contents b (rest (op_of b n) e) ≡ contents b (rest (op_of b c) d)
      → marked n.marks b ≡ marked c.marks b
      → Turn b fin ok c n d e
  ends : fin ≡ true
      → is_absent (op_of b c) ≡ false
      → is_absent (op_of b n) ≡ true
      → contents b e ≡ contents b (rest (op_of b c) d)
      → (is_erase (op_of b c) ≡ false → marked n.marks b ≡ marked c.marks b)
      → Turn b fin ok c n d e
  starts : is_absent (op_of b c) ≡ true
      → is_absent (op_of b n) ≡ false
      → contents b (rest (op_of b n) e) ≡ whole (op_of b n) (contents b d)
      → marked n.marks b ≡ marked c.marks b
      → ok ≡ true
      → Turn b fin ok c n d e
  cuts : fin ≡ false
      → is_absent (op_of b c) ≡ false
      → is_absent (op_of b n) ≡ true
      → marked n.marks b ≡ true
      → Turn b fin ok c n d e

-- nothing happens
idles : (b : ℕ) (ok : Bool) (c : Controller) (d : List ℕ) → Turn b false ok c c d d
idles b ok c d = goes refl refl (itself (op_of b c)) refl refl

alike_rest : (o n : Operation) (d : List ℕ) → Alike o n → rest n d ≡ rest o d
unfolding rest slice_at
alike_rest o n d a = rw (a.like.kind, a.like.address, a.like.byte, a.slices)

onward_like : (o n m : Operation) → Like o n → Like n m → Like o m
onward_like o n m k l =
    record { kind = l.kind ∙ k.kind; address = l.address ∙ k.address; byte = l.byte ∙ k.byte }

controller_clock_setup : (c : Controller) → (controller_clock c).after.setup ≡ c.setup
unfolding controller_clock replaced
controller_clock_setup c = pick (ask (is_still (active c))) (ask (is_absent c.inner))
  where
    pick : Answer (is_still (active c)) → Answer (is_absent c.inner) → (controller_clock c).after.setup ≡ c.setup
    pick (yes m) i = rw m
    pick (no m) (yes i) = rw (m, i)
    pick (no m) (no i) = rw (m, i)

-- the controller's part and then the bus's
combined : (b sample : ℕ) (locks : List ℕ) (c n : Controller) (d : List ℕ)
    → b < 16
    → controller_fits c ≡ true
    → length d ≡ 1048576
    → length (applied (controller_clock c).effect d) ≡ 1048576
    → Counting b c d
    → Moving b sample locks (controller_clock c).after n
    → Turn b (is_last (op_of b c)) (allowed b sample locks) c n d (applied (controller_clock c).effect d)
combined b sample locks c n d h e l z (counts_on t a k r m) (stays x y q) =
    goes t (x ∙ a) (onward_like _ _ _ k y.like)
    (ap (contents b) (alike_rest _ _ (applied (controller_clock c).effect d) y) ∙ r)
    (ap (λ (u : ℕ). marked u b) q ∙ m)
combined b sample locks c n d h e l z (counts_on t a k r m) (begins s x y f q g) =
    let u = sym a ∙ x in
    let v =
    ap (contents b) (sym (absent_rest _ (applied (controller_clock c).effect d) x)) ∙ r ∙ ap (contents b) (absent_rest _ d u) in
    starts u y
    (contents_rest b (op_of b n) (applied (controller_clock c).effect d) h f.sound f.block z
    ∙ ap (rest_in (op_of b n)) v
    ∙ f.all_left (contents b d) (contents_length b d l h))
    (ap (λ (w : ℕ). marked w b) q ∙ m)
    g
combined b sample locks c n d h e l z (counts-out w t a k r m o) (stays x y q) =
    ends t a (x ∙ k) r (λ v. ap (λ (u : ℕ). marked u b) q ∙ m v)
combined b sample locks c n d h e l z (counts-out w t a k r m o) (begins s x y f q g) =
    clash (refuse c.setup (ap (λ (u : ℕ). eqb u 0) (sym (controller_clock_setup c)) ∙ s) (unset c e w))

-- the bus, whatever the frame has come to ask
asking : (a : Asked) (b sample : ℕ) (d : Device) (image : List ℕ)
    → sound_of d ≡ true
    → Moving b sample d.locks d.controller (answered_to a d image sample).after.controller
unfolding reached_of lock_of
asking Silent b sample d image e = unmoved b sample d.locks d.controller
asking (Read address) b sample d image e = unmoved b sample d.locks d.controller
asking (Write address byte) b sample d image e = pick (ask (is_array address))
  where
    p : Parts d
    p = parts d e

    pick : Answer (is_array address) → Moving b sample d.locks d.controller (answered_to (Write address byte) d image sample).after.controller
    pick (yes x) = rw x (writing b sample d.locks d.controller d.times (array_address address) byte p.controller p.times (omega arith))
    pick (no x) = rw x (unmoved b sample d.locks d.controller)

framed : (d : Device) (f : Frame) → sound_of d ≡ true → frame_fits d.part f ≡ true → sound_of (with_frame d f) ≡ true
framed d f e h =
    let p = parts d e in
    joined _ (record { straps = p.straps; locks = p.locks; times = p.times; frame = h; controller = p.controller })

serving : (b sample : ℕ) (d : Device) (image : List ℕ)
    → sound_of d ≡ true
    → Moving b sample d.locks d.controller (served_of d image sample).after.controller
unfolding served_of
serving b sample d image e =
    asking (asked_of (frame_clock d.part d.straps d.frame sample)) b sample (with_frame d (frame_clock d.part d.straps d.frame sample)) image
    (framed d (frame_clock d.part d.straps d.frame sample) e (frame_kept d.part d.straps d.frame sample (parts d e).frame))

-- a block whose operation is absent has none at all
none_there : (b : ℕ) (c : Controller) → is_absent (op_of b c) ≡ true → (is_on b c.outer ≡ false) × (is_on b c.inner ≡ false)
unfolding op_of
none_there b c e = pick (ask (is_on b c.outer)) (ask (is_on b c.inner))
  where
    pick : Answer (is_on b c.outer) → Answer (is_on b c.inner) → (is_on b c.outer ≡ false) × (is_on b c.inner ≡ false)
    pick (no x) (no y) = (x, y)
    pick (yes x) y = clash (sym (on_here b c.outer x).0 ∙ rw x at e)
    pick (no x) (yes y) = clash (sym (on_here b c.inner y).0 ∙ rw (x, y) at e)

some_there : (b : ℕ) (c : Controller) → is_absent (op_of b c) ≡ false → is_on b c.outer ≡ false → is_on b c.inner ≡ true
unfolding op_of
some_there b c e x = pick (ask (is_on b c.inner))
  where
    pick : Answer (is_on b c.inner) → is_on b c.inner ≡ true
    pick (yes y) = y
    pick (no y) = clash (sym (rw (x, y) at e))

-- the marks of a reset
module _ (b m : ℕ) (o : Operation) (h : b < 16) (l : is_absent o ≡ false → block_of o.address < 16) where
  pub by_other : is_on b o ≡ false → marked (marked_by o m) b ≡ marked m b
  unfolding marked_by is_on
  by_other x = pick (ask (is_absent o))
    where
      pick : Answer (is_absent o) → marked (marked_by o m) b ≡ marked m b
      pick (yes a) = rw a
      pick (no a) =
          rw a (marking_other m (block_of o.address) b (l a) h (λ z. eqb-false (block_of o.address) b (rw a at x) (sym z)))

  pub by_own : is_on b o ≡ true → marked (marked_by o m) b ≡ true
  unfolding marked_by
  by_own x = let y = on_here b o x in rw y.0 (marking_same m (block_of o.address) b (l y.0) h (sym y.1))

  pub by_kept : marked m b ≡ true → marked (marked_by o m) b ≡ true
  by_kept k = pick (ask (is_on b o))
    where
      pick : Answer (is_on b o) → marked (marked_by o m) b ≡ true
      pick (yes x) = by_own x
      pick (no x) = by_other x ∙ k

reset_none : (b : ℕ) (c : Controller) → op_of b (reset_of c) ≡ absent
unfolding reset_of op_of is_on
reset_none b c = refl

pub reset_marks : (c : Controller) → (reset_of c).marks ≡ marked_by c.inner (marked_by c.outer c.marks)
unfolding reset_of
reset_marks c = refl

pub op_none : (b : ℕ) (c : Controller) → is_on b c.outer ≡ false → is_on b c.inner ≡ false → op_of b c ≡ absent
unfolding op_of
op_none b c x y = rw (x, y)

resets : (b : ℕ) (ok : Bool) (c : Controller) (d : List ℕ) → b < 16 → controller_fits c ≡ true → Turn b false ok c (reset_of c) d d
resets b ok c d h e = pick (ask (is_absent (op_of b c))) (ask (is_on b c.outer))
  where
    low : (o : Operation) → o.address < 1048576 → block_of o.address < 16
    low o l = omega arith

    lo : is_absent c.outer ≡ false → block_of c.outer.address < 16
    lo a = low c.outer (fits c.outer (outer_fits_lem c e a)).address

    li : is_absent c.inner ≡ false → block_of c.inner.address < 16
    li a = low c.inner (fits c.inner (inner_fits_lem c e a)).address

    m : ℕ
    m = marked_by c.outer c.marks

    pick : Answer (is_absent (op_of b c)) → Answer (is_on b c.outer) → Turn b false ok c (reset_of c) d d
    pick (yes a) x =
        let y = none_there b c a in
        let z = op_none b c y.0 y.1 in
        goes refl (rw (reset_none b c, z)) (rw (reset_none b c, z) (itself absent)) (rw (reset_none b c, z))
        (rw (reset_marks c) (by_other b (marked_by c.outer c.marks) c.inner h li y.1 ∙ by_other b c.marks c.outer h lo y.0))
    pick (no a) (yes x) =
        cuts refl a (rw (reset_none b c))
        (rw (reset_marks c) (by_kept b (marked_by c.outer c.marks) c.inner h li (by_own b c.marks c.outer h lo x)))
    pick (no a) (no x) =
        cuts refl a (rw (reset_none b c))
        (rw (reset_marks c) (by_own b (marked_by c.outer c.marks) c.inner h li (some_there b c a x)))

-- a device that is sound on a whole image
pub record Good (w : World) : Type 0 where
  pub sound : sound_of w.device ≡ true
  pub size : length w.image ≡ 1048576

-- a step as a history has it: refused for voltage class 3, else one clock
pub refuses : (w : World) (sample : ℕ) → Good w → eqb (voltage sample) 3 ≡ true → after (clock sample) w ≡ w
unfolding stepped_of stored_of
refuses w sample g v = rw (overvolted w.device w.image sample g.sound g.size (eqb-true (voltage sample) 3 v))

pub steps : (w : World) (sample : ℕ)
    → Good w
    → eqb (voltage sample) 3 ≡ false
    → after (clock sample) w ≡ world (device_clock w.device w.image sample).device (image_after w.device w.image sample)
unfolding stepped_of stored_of
steps w sample g v = rw (accepted w.device w.image sample g.sound g.size (eqb-false (voltage sample) 3 v))

retimed : (d : Device) (program slice pause : ℕ) → (times_set d program slice pause).device.controller ≡ d.controller
unfolding times_set
retimed d program slice pause = pick (ask (sound_of d)) (ask (times_fit (times program slice pause)))
  where
    pick : Answer (sound_of d) → Answer (times_fit (times program slice pause)) → (times_set d program slice pause).device.controller ≡ d.controller
    pick (yes a) (yes b) = rw (a, b)
    pick (yes a) (no b) = rw (a, b)
    pick (no a) b = rw a

-- every event turns a block's page
pub turn : (b : ℕ) (e : Event) (w : World)
    → b < 16
    → Good w
    → Turn b (finishes b e w) (allowed b (sample_of e) w.device.locks) w.device.controller (after e w).device.controller w.image (after e w).image
unfolding finishes device_clock image_after reset_device is_reset
turn b (retime program slice pause) w h g =
    rw (retimed w.device program slice pause) (idles b _ w.device.controller w.image)
turn b (clock sample) w h g = pick (ask (eqb (voltage sample) 3)) (ask (eqb (rp sample) 0)) (ask (eqb (init sample) 0))
  where
    p : Parts w.device
    p = parts w.device g.sound

    long : is_reset sample ≡ false → length (applied (controller_clock w.device.controller).effect w.image) ≡ 1048576
    long r = (rw r at (image_length w.device w.image sample g.sound g.size)) ∙ g.size

    pick : Answer (eqb (voltage sample) 3)
        → Answer (eqb (rp sample) 0)
        → Answer (eqb (init sample) 0)
        → Turn b (finishes b (clock sample) w) (allowed b sample w.device.locks) w.device.controller (after (clock sample) w).device.controller w.image (after (clock sample) w).image
    pick (yes v) r i =
        let x = ap (λ (u : World). u.device.controller) (refuses w sample g v) in
        let y = ap (λ (u : World). u.image) (refuses w sample g v) in
        rw (x, y, v) (idles b _ w.device.controller w.image)
    pick (no v) (yes r) i =
        let x = ap (λ (u : World). u.device.controller) (steps w sample g v) in
        let y = ap (λ (u : World). u.image) (steps w sample g v) in
        rw (x, y, v, r) (resets b _ w.device.controller w.image h p.controller)
    pick (no v) (no r) (yes i) =
        let x = ap (λ (u : World). u.device.controller) (steps w sample g v) in
        let y = ap (λ (u : World). u.image) (steps w sample g v) in
        rw (x, y, v, r, i) (resets b _ w.device.controller w.image h p.controller)
    pick (no v) (no r) (no i) =
        let x = ap (λ (u : World). u.device.controller) (steps w sample g v) in
        let y = ap (λ (u : World). u.image) (steps w sample g v) in
        rw (x, y, v, r, i)
        (combined b sample w.device.locks w.device.controller _ w.image h p.controller g.size (long (rw (r, i)))
        (counting b w.device.controller w.image h p.controller g.size)
        (serving b sample (after_controller w.device) (applied (controller_clock w.device.controller).effect w.image) (controller_sound w.device g.sound)))
