-- Pins, voltage and lock registers reach no operation: of one, and of histories. Assumes nothing.
use Prim.Native.Nat.{ℕ, zero, suc, ◌+◌}
use mathlib.Core.Path.{◌≡◌, ◌∙◌, sym, refl, ap}
use mathlib.Core.Bool.{Bool, true, false, cond, not}
use mathlib.Core.List.{List, [], ◌∷◌, map}
use native.Mathlib.Omega.{arith}
use lib.Dec.{eqb}
use lib.ListN.{length}
use borrow.Author.Tests.{eqb-false, not-true}
use Rattle.basics.specs.All.{all}
use Rattle.basics.proofs.Rules.{Answer, yes, no, ask, clash}
use Rattle.basics.proofs.All.{holds}
use Rattle.units.specs.Units.{times, times_fit}
use Rattle.record.specs.declared.Controller.{Controller}
use Rattle.record.specs.declared.Device.{Device}
use Rattle.record.specs.Record.{is_absent}
use Rattle.record.specs.Sample.{voltage, frame_line, rp, init, is_reset, is_idle_sample}
use Rattle.soundness.specs.Sound.{all_below, sound_of}
use Rattle.soundness.proofs.Clauses.{parts, joined}
use Rattle.operation.specs.Clock.{active, is_still}
use Rattle.std.specs.Prelude.{None}
use Rattle.access.specs.Write.{with_locks}
use Rattle.command.proofs.Laws.{verdict_bits}
use Rattle.clock.specs.Clock.{image_after, device_clock}
use Rattle.clock.specs.Fold.{World, world}
use Rattle.clock.proofs.Pins.{without_pins, same, Alike, verdict_on, image_alike, standing, alike_once, alone, unjudged}
use Rattle.power.specs.Power.{times_set}
use Rattle.step.specs.Step.{step_number, stepped_of, stored_of}
use Rattle.settle.specs.Settle.{is_ready, Stop, settling, settle_number, settled_of, image_settled}
use Rattle.settle.proofs.Still.{ready_still}
use Rattle.demands.specs.History.{clock, retime, after, settle, left, leaving, events, at_power_up, CallsAreClocks}
use Rattle.demands.specs.Operations.{unset}
use Rattle.demands.specs.Pins.{repinned, LooksAtNoPin, StandingOperation, Moment, tick, wait, change, bare, all_fit, readied, past, falls_out, judgements, cuts, count_in, Seen, look, seen, PinsReachNoOperation}
use Rattle.demands.proofs.Operations.{verdict_bits_lem}
use Rattle.demands.proofs.Turns.{Good}
use Rattle.demands.proofs.Demand3.{good_after}
use Rattle.demands.proofs.Calls.{good_ending, goes_on, powered, calls_are_clocks}

repinned_alike : (s p : ℕ) → without_pins s ≡ without_pins (repinned p s)
unfolding without_pins
repinned_alike s p = omega arith

pub looks_at_no_pin : LooksAtNoPin
unfolding LooksAtNoPin
looks_at_no_pin d image locks sample pins =
    let e = repinned_alike sample pins in
    (sym (alone d.part d.straps d.locks locks d.times d.times d.frame (unset d).controller image sample (repinned pins sample) refl e), image_alike d image locks sample (repinned pins sample) e)

-- a step that is done is one clock of a sound device
record Done (d : Device) (image : List ℕ) (sample : ℕ) : Type 0 where
  sound : sound_of d ≡ true
  device : (stepped_of d image sample).device ≡ (device_clock d image sample).device
  stored : stored_of d image sample ≡ image_after d image sample

done : (d : Device) (image : List ℕ) (sample : ℕ) → (stepped_of d image sample).number ≡ 0 → Done d image sample
unfolding stepped_of stored_of step_number
done d image sample n = pick (ask (sound_of d)) (ask (eqb (length image) 1048576)) (ask (eqb (voltage sample) 3))
  where
    pick : Answer (sound_of d) → Answer (eqb (length image) 1048576) → Answer (eqb (voltage sample) 3) → Done d image sample
    pick (no a) b c = absurd (eqb-false 1 0 refl (rw a at n))
    pick (yes a) (no b) c = absurd (eqb-false 2 0 refl (rw (a, b) at n))
    pick (yes a) (yes b) (yes c) = absurd (eqb-false 7 0 refl (rw (a, b, c) at n))
    pick (yes a) (yes b) (no c) = record { sound = a; device = rw (a, b, c); stored = rw (a, b, c) }

pub standing_operation : StandingOperation
unfolding StandingOperation
standing_operation d image locks sample pins n m =
    let p = done d image sample n in
    let q = done (with_locks d locks) image (repinned pins sample) m in
    let e = repinned_alike sample pins in
    let x = standing d image locks sample (repinned pins sample) e p.sound in
    rw (p.device, q.device, p.stored, q.stored)
    (x.outer, x.inner, x.marks, sym (image_alike d image locks sample (repinned pins sample) e))

both : (t u : Bool) → cond t u false ≡ true → (t ≡ true) × (u ≡ true)
both true u e = (refl, e)
both false u e = clash e

paired : (x y : Seen) (xs ys : List Seen) → x ≡ y → xs ≡ ys → x ∷ xs ≡ y ∷ ys
paired x y xs ys e f = rw (e, f)

-- two worlds that a history takes on together
record Together (v w : World) : Type 0 where
  alike : Alike v w
  one : Good v
  other : Good w

-- a moment's sample is fit, and its lock registers are sound
module _ (s : ℕ) (locks : List ℕ) (e : all (not (eqb (voltage s) 3) ∷ all_below 8 locks ∷ []) ≡ true) where
  fit_volts : eqb (voltage s) 3 ≡ false
  fit_volts = not-true (eqb (voltage s) 3) (holds _ 0 e)

  relocked : (w : World) → Good w → Good (world (with_locks w.device locks) w.image)
  relocked w g =
      let p = parts w.device g.sound in
      record {
        sound = joined _ (record { straps = p.straps; locks = holds _ 1 e; times = p.times; frame = p.frame; controller = p.controller });
        size = g.size;
      }

bare_alike : (s t : ℕ) → repinned 0 s ≡ repinned 0 t → without_pins s ≡ without_pins t
unfolding without_pins
bare_alike s t e = omega arith

-- worlds that are together stay so under other lock registers
readied_together : (v w : World) (l k : List ℕ)
    → Together v w
    → Good (world (with_locks v.device l) v.image)
    → Good (world (with_locks w.device k) w.image)
    → Together (world (with_locks v.device l) v.image) (world (with_locks w.device k) w.image)
readied_together v w l k z g h =
    let a = z.alike in
    record {
      alike = record { part = a.part; straps = a.straps; times = a.times; frames = a.frames; controllers = a.controllers; images = a.images };
      one = g;
      other = h;
    }

-- a clock, where what is judged falls out alike
ticked : (v w : World) (s t : ℕ)
    → Together v w
    → repinned 0 s ≡ repinned 0 t
    → eqb (voltage s) 3 ≡ false
    → eqb (voltage t) 3 ≡ false
    → verdict_bits (verdict_on v s) ≡ verdict_bits (verdict_on w t)
    → Together (after (clock s) v) (after (clock t) w)
ticked v w s t z e f g j =
    record {
      alike =
          rw (goes_on v s z.one f, goes_on w t z.other g)
          (alike_once v w s t (bare_alike s t e) z.alike j);
      one = good_after (clock s) v z.one;
      other = good_after (clock t) w z.other;
    }

-- a change of times
set_alike : (p q r : ℕ) (v w : World) → Together v w → Alike (after (retime p q r) v) (after (retime p q r) w)
unfolding times_set
set_alike p q r v w t = pick (ask (times_fit (times p q r)))
  where
    a : Alike v w
    a = t.alike

    pick : Answer (times_fit (times p q r)) → Alike (after (retime p q r) v) (after (retime p q r) w)
    pick (yes y) =
        rw (t.one.sound, t.other.sound, y)
        (record { part = a.part; straps = a.straps; times = refl; frames = a.frames; controllers = a.controllers; images = a.images })
    pick (no n) =
        rw (t.one.sound, t.other.sound, n)
        (record { part = a.part; straps = a.straps; times = a.times; frames = a.frames; controllers = a.controllers; images = a.images })

changed : (p q r : ℕ) (v w : World) → Together v w → Together (after (retime p q r) v) (after (retime p q r) w)
changed p q r v w t =
    record { alike = set_alike p q r v w t; one = good_after (retime p q r) v t.one; other = good_after (retime p q r) w t.other }

-- a settle: while it repeats its sample an operation counts, and nothing is judged
same_ready : (v w : World) → Alike v w → is_ready v.device ≡ is_ready w.device
unfolding is_ready
same_ready v w a = rw a.controllers

busy_unjudged : (w : World) (s : ℕ) → Good w → is_ready w.device ≡ false → verdict_on w s ≡ None
busy_unjudged w s g r =
    unjudged w.device w.image s g.sound
    (sym (ready_still w.device (parts w.device g.sound).controller) ∙ r)

record Waited (p q : Stop) : Type 0 where
  count : p.count ≡ q.count
  worlds : Together p.world q.world

waited : (s t n c : ℕ) (v w : World)
    → Together v w
    → repinned 0 s ≡ repinned 0 t
    → eqb (voltage s) 3 ≡ false
    → eqb (voltage t) 3 ≡ false
    → Waited (settling s n c v) (settling t n c w)
waited s t zero c v w z e f g = record { count = refl; worlds = z }
waited s t (suc n) c v w z e f g =
    elim (ask (is_ready v.device)) [
      | yes r ↦ rw (r, sym (same_ready v w z.alike) ∙ r) (record { count = refl; worlds = z })
      | no r ↦
          let q = sym (same_ready v w z.alike) ∙ r in
          let j = ap verdict_bits (busy_unjudged v s z.one r ∙ sym (busy_unjudged w t z.other q)) in
          rw (r, q, ← goes_on v s z.one f, ← goes_on w t z.other g)
          (waited s t n (c + 1) (after (clock s) v) (after (clock t) w) (ticked v w s t z e f g j) e f g)
    ]

-- the sample of a settle is idle in both
same_idle : (s t : ℕ) → repinned 0 s ≡ repinned 0 t → is_idle_sample s ≡ is_idle_sample t
unfolding is_idle_sample is_reset
same_idle s t e =
    let r : rp s ≡ rp t = omega arith in
    let i : init s ≡ init t = omega arith in
    let l : frame_line s ≡ frame_line t = omega arith in
    rw (r, i, l)

record SettledAlike (s t n : ℕ) (v w : World) : Type 0 where
  count : (settled_of v.device v.image s n).count ≡ (settled_of w.device w.image t n).count
  worlds : Together (left (settle s n) v) (left (settle t n) w)

settled_alike : (s t n : ℕ) (v w : World)
    → Together v w
    → repinned 0 s ≡ repinned 0 t
    → eqb (voltage s) 3 ≡ false
    → eqb (voltage t) 3 ≡ false
    → SettledAlike s t n v w
unfolding settled_of image_settled settle_number
settled_alike s t n v w z e f g = pick (ask (is_idle_sample s))
  where
    u : is_idle_sample s ≡ is_idle_sample t
    u = same_idle s t e

    k : Waited (settling s n 0 v) (settling t n 0 w)
    k = waited s t n 0 v w z e f g

    pick : Answer (is_idle_sample s) → SettledAlike s t n v w
    pick (yes i) =
        let j = sym u ∙ i in
        record {
          count = rw (z.one.sound, z.one.size, f, i, z.other.sound, z.other.size, g, j) k.count;
          worlds = rw (z.one.sound, z.one.size, f, i, z.other.sound, z.other.size, g, j) k.worlds;
        }
    pick (no i) =
        let j = sym u ∙ i in
        record {
          count = rw (z.one.sound, z.one.size, f, i, z.other.sound, z.other.size, g, j);
          worlds = rw (z.one.sound, z.one.size, f, i, z.other.sound, z.other.size, g, j) z;
        }

-- what is seen of worlds that are alike before and after
same_cuts : (s t : ℕ) → repinned 0 s ≡ repinned 0 t → is_reset s ≡ is_reset t
unfolding is_reset
same_cuts s t e =
    let r : rp s ≡ rp t = omega arith in
    let i : init s ≡ init t = omega arith in
    rw (r, i)

abbrev shot : Bool → Controller → Controller → ℕ → List ℕ → Seen
shot cut before later count image =
    record {
      controller = later;
      ended =
          cond cut false
          (cond (is_still (active before)) false
          (cond (is_absent before.inner) (is_absent later.outer) (is_absent later.inner)));
      count = count;
      image = image;
    }

same_shot : (a b : Bool) (c d e f : Controller) (k l : ℕ) (x y : List ℕ)
    → a ≡ b
    → c ≡ d
    → e ≡ f
    → k ≡ l
    → x ≡ y
    → shot a c e k x ≡ shot b d f l y
same_shot a b c d e f k l x y p q r s t = rw (p, q, r, s, t)

shown : (m n : Moment) (v w : World)
    → Together v w
    → Together (past m v) (past n w)
    → cuts m ≡ cuts n
    → count_in m v ≡ count_in n w
    → look m v ≡ look n w
shown m n v w z y c k =
    same_shot (cuts m) (cuts n) v.device.controller w.device.controller (past m v).device.controller (past n w).device.controller (count_in m v) (count_in n w) (past m v).image (past n w).image
    c z.alike.controllers y.alike.controllers k y.alike.images

together : (one other : List Moment) (v w : World)
    → Together v w
    → map bare one ≡ map bare other
    → all_fit one ≡ true
    → all_fit other ≡ true
    → judgements one v ≡ judgements other w
    → seen one v ≡ seen other w
together [] [] v w z e f g j = refl
together [] (n ∷ ns) v w z e f g j = clash (cc)
together (m ∷ ms) [] v w z e f g j = clash (cc)
together (tick s l ∷ ms) (change p q r ∷ ns) v w z e f g j = clash (cc)
together (tick s l ∷ ms) (wait t n k ∷ ns) v w z e f g j = clash (cc)
together (wait s n l ∷ ms) (tick t k ∷ ns) v w z e f g j = clash (cc)
together (wait s n l ∷ ms) (change p q r ∷ ns) v w z e f g j = clash (cc)
together (change p q r ∷ ms) (tick t k ∷ ns) v w z e f g j = clash (cc)
together (change p q r ∷ ms) (wait t n k ∷ ns) v w z e f g j = clash (cc)
together (tick s l ∷ ms) (tick t k ∷ ns) v w z e f g j =
    let a = both _ _ f in
    let b = both _ _ g in
    let c : repinned 0 s ≡ repinned 0 t = cc in
    let u = readied_together v w l k z (relocked s l a.0 v z.one) (relocked t k b.0 w z.other) in
    let i : falls_out (readied (tick s l) v).device s ≡ falls_out (readied (tick t k) w).device t = cc in
    let d =
    verdict_bits_lem (readied (tick s l) v).device v.image s
    ∙ i
    ∙ sym (verdict_bits_lem (readied (tick t k) w).device w.image t) in
    let y = ticked (readied (tick s l) v) (readied (tick t k) w) s t u c (fit_volts s l a.0) (fit_volts t k b.0) d in
    paired _ _ _ _ (shown (tick s l) (tick t k) v w z y (same_cuts s t c) refl)
    (together ms ns (past (tick s l) v) (past (tick t k) w) y (cc) a.1 b.1 (cc))
together (wait s n l ∷ ms) (wait t m k ∷ ns) v w z e f g j =
    let a = both _ _ f in
    let b = both _ _ g in
    let c : repinned 0 s ≡ repinned 0 t = cc in
    let d : n ≡ m = cc in
    let u = readied_together v w l k z (relocked s l a.0 v z.one) (relocked t k b.0 w z.other) in
    let y = settled_alike s t n (readied (wait s n l) v) (readied (wait t n k) w) u c (fit_volts s l a.0) (fit_volts t k b.0) in
    rw (← d)
    (paired _ _ _ _ (shown (wait s n l) (wait t n k) v w z y.worlds refl y.count)
    (together ms ns (past (wait s n l) v) (past (wait t n k) w) y.worlds (cc) a.1 b.1 (rw (← d) at j)))
together (change p q r ∷ ms) (change x y i ∷ ns) v w z e f g j =
    let c : p ≡ x = cc in
    let d : q ≡ y = cc in
    let h : r ≡ i = cc in
    rw (← c, ← d, ← h)
    (let u = changed p q r v w z in
    paired _ _ _ _ (shown (change p q r) (change p q r) v w z u refl refl)
    (together ms ns (past (change p q r) v) (past (change p q r) w) u (cc) f g (rw (← c, ← d, ← h) at j)))

pub pins_reach_no_operation : PinsReachNoOperation
unfolding PinsReachNoOperation CallsAreClocks
pins_reach_no_operation part straps program slice pause image before one other l e f g j =
    let w = at_power_up part straps program slice pause image in
    let c = calls_are_clocks part straps program slice pause image before l in
    let h : Good (leaving before w) = rw c (good_ending (events before w) w (powered part straps program slice pause image l)) in
    together one other (leaving before w) (leaving before w)
    (record {
      alike = record { part = refl; straps = refl; times = refl; frames = same; controllers = refl; images = refl };
      one = h;
      other = h;
    })
    e f g j
