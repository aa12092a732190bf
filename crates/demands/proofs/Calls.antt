-- Demand 3 of histories of calls: each call comes to clocks or to a change of times. Assumes nothing.
use Prim.Native.Nat.{ℕ, zero, suc}
use mathlib.Core.Path.{◌≡◌, ◌∙◌, sym, refl, ap}
use mathlib.Core.Bool.{false}
use mathlib.Core.List.{List, [], ◌∷◌, ◌++◌}
use lib.Dec.{eqb}
use lib.ListN.{length, replicate}
use borrow.Author.Tests.{eqb-true, eqb-false}
use Rattle.basics.proofs.Rules.{Answer, yes, no, ask}
use Rattle.record.specs.Sample.{voltage}
use Rattle.power.proofs.Laws.{powered_sound}
use Rattle.operation.specs.Marks.{marked}
use Rattle.clock.specs.Fold.{World, onward, repeated}
use Rattle.settle.specs.Settle.{settling, settle_number}
use Rattle.settle.proofs.Least.{least}
use Rattle.settle.proofs.Laws.{refused, accepted}
use Rattle.demands.specs.History.{Event, clock, after, ending, Act, step, step_in_place, set_times, settle, left, leaving, befalls, events, at_power_up, is_there, contents, ActsAsPromised, CallsAreClocks, Demand3, Demand3Allowed}
use Rattle.demands.proofs.Turns.{Good, steps}
use Rattle.demands.proofs.Demand3.{good_after, clocked, all_allowed_lem}

pub acts_as_promised : ActsAsPromised
unfolding ActsAsPromised
acts_as_promised w =
    record {
      stepped = λ sample r later p. rw (p.0, p.1);
      stepped_in_place = λ sample r next later p. rw (p.1, p.2);
      retimed = λ program slice pause r p. rw p;
      settled = λ sample limit r later p. rw (p.0, p.1);
    }

-- a good world is good at the end
pub good_ending : (es : List Event) (w : World) → Good w → Good (ending es w)
good_ending [] w g = g
good_ending (e ∷ es) w g = good_ending es (after e w) (good_after e w g)

-- a sample that is stepped goes on as the fold does
pub goes_on : (w : World) (s : ℕ) → Good w → eqb (voltage s) 3 ≡ false → after (clock s) w ≡ onward w s
unfolding onward
goes_on w s g v = steps w s g v

-- one sample n times
pub again : (n s : ℕ) (w : World) → Good w → eqb (voltage s) 3 ≡ false → ending (replicate n (clock s)) w ≡ repeated s n w
again zero s w g v = refl
again (suc n) s w g v =
    again n s (after (clock s) w) (good_after (clock s) w g) v ∙ ap (repeated s n) (goes_on w s g v)

-- a settle that is not turned away has no sample of class 3
pub unrefused : (w : World) (sample : ℕ) → settle_number w.device w.image sample ≡ 0 → Good w → eqb (voltage sample) 3 ≡ false
unfolding settle_number
unrefused w sample n g = pick (ask (eqb (voltage sample) 3))
  where
    pick : Answer (eqb (voltage sample) 3) → eqb (voltage sample) 3 ≡ false
    pick (no v) = v
    pick (yes v) = absurd (eqb-false 7 0 refl (rw (g.sound, g.size, v) at n))

settle_clocks : (sample limit : ℕ) (w : World) → Good w → left (settle sample limit) w ≡ ending (befalls (settle sample limit) w) w
settle_clocks sample limit w g = pick (ask (eqb (settle_number w.device w.image sample) 0))
  where
    pick : Answer (eqb (settle_number w.device w.image sample) 0) → left (settle sample limit) w ≡ ending (befalls (settle sample limit) w) w
    pick (yes n) =
        let z = eqb-true (settle_number w.device w.image sample) 0 n in
        let a = accepted w.device w.image sample limit z in
        let l = least sample limit w in
        rw (a.0, a.1) (l.reached ∙ sym (again (settling sample limit 0 w).count sample w g (unrefused w sample z g)))
    pick (no n) =
        let r = refused w.device w.image sample limit (eqb-false (settle_number w.device w.image sample) 0 n) in rw (r.0, r.1)

call_clocks : (a : Act) (w : World) → Good w → left a w ≡ ending (befalls a w) w
call_clocks (step sample) w g = refl
call_clocks (step_in_place sample) w g = refl
call_clocks (set_times program slice pause) w g = refl
call_clocks (settle sample limit) w g = settle_clocks sample limit w g

-- one history behind another
ending_on : (es fs : List Event) (w : World) → ending (es ++ fs) w ≡ ending fs (ending es w)
ending_on [] fs w = refl
ending_on (e ∷ es) fs w = ending_on es fs (after e w)

clocks : (acts : List Act) (w : World) → Good w → leaving acts w ≡ ending (events acts w) w
clocks [] w g = refl
clocks (a ∷ acts) w g =
    let c = call_clocks a w g in
    let h : Good (left a w) = rw c (good_ending (befalls a w) w g) in
    clocks acts (left a w) h ∙ ap (ending (events acts (left a w))) c ∙ sym (ending_on (befalls a w) (events acts (left a w)) w)

pub powered : (part straps program slice pause : ℕ) (image : List ℕ) → length image ≡ 1048576 → Good (at_power_up part straps program slice pause image)
powered part straps program slice pause image l = record { sound = powered_sound part straps program slice pause; size = l }

pub calls_are_clocks : CallsAreClocks
unfolding CallsAreClocks
calls_are_clocks part straps program slice pause image history l =
    clocks history (at_power_up part straps program slice pause image) (powered part straps program slice pause image l)

pub demand_3 : Demand3
unfolding Demand3
demand_3 part straps program slice pause image history block l h m t =
    let w = at_power_up part straps program slice pause image in
    let c = clocks history w (powered part straps program slice pause image l) in
    ap (λ (v : World). contents block v.image) c
    ∙ clocked part straps program slice pause image (events history w) block l h
    (ap (λ (v : World). marked v.device.controller.marks block) (sym c) ∙ m)
    (ap (is_there block) (sym c) ∙ t)

pub demand_3_allowed : Demand3Allowed
unfolding Demand3Allowed
demand_3_allowed part straps program slice pause image history block l h =
    let w = at_power_up part straps program slice pause image in
    all_allowed_lem block (events history w) w h (powered part straps program slice pause image l)
