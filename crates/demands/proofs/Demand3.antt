-- Demand 3, by induction over the history: at each event the contents with what is left of the block's operation are what
-- the whole of it makes of the finished ones before. Assumes nothing.
use Prim.Native.Nat.{ℕ, ◌<◌}
use mathlib.Core.Path.{◌≡◌, ◌∙◌, sym, refl, ap}
use mathlib.Core.Bool.{Bool, true, false, cond}
use mathlib.Core.List.{List, [], ◌∷◌}
use lib.Dec.{eqb, leb}
use lib.ListN.{length}
use borrow.Author.Tests.{eqb-true, eqb-false, ne_eqb, not-false}
use Rattle.basics.proofs.Rules.{Answer, yes, no, ask, clash}
use Rattle.units.specs.Units.{times, times_fit}
use Rattle.record.specs.declared.Operation.{Operation}
use Rattle.record.specs.Record.{is_absent, is_program, is_erase, absent}
use Rattle.record.specs.Sample.{voltage}
use Rattle.part.specs.Fresh.{fresh_of}
use Rattle.part.specs.Parts.{strap_count}
use Rattle.power.specs.Power.{power_refused, powered_up}
use Rattle.power.proofs.Laws.{powered_sound, set_sound}
use Rattle.operation.specs.Marks.{marked}
use Rattle.operation.specs.Whole.{rest}
use Rattle.clock.specs.Fold.{World}
use Rattle.clock.proofs.Kept.{device_clock_sound, image_length}
use Rattle.demands.specs.History.{Event, clock, retime, after, ending, at_power_up, is_on, op_of, op_on, is_there, finishes, fate, is_finished, sample_of, operations, allowed, all_allowed, contents, whole, done_in_order}
use Rattle.demands.proofs.Counting.{Like, absent_rest}
use Rattle.demands.proofs.Turns.{Turn, goes, ends, starts, cuts, turn, Good, refuses, steps}

-- a good world stays good
pub good_after : (e : Event) (w : World) → Good w → Good (after e w)
good_after (clock sample) w g = pick (ask (eqb (voltage sample) 3))
  where
    pick : Answer (eqb (voltage sample) 3) → Good (after (clock sample) w)
    pick (yes v) =
        let x = ap (λ (u : World). u.device) (refuses w sample g v) in
        let y = ap (λ (u : World). u.image) (refuses w sample g v) in
        record { sound = rw x g.sound; size = rw y g.size }
    pick (no v) =
        let x = ap (λ (u : World). u.device) (steps w sample g v) in
        let y = ap (λ (u : World). u.image) (steps w sample g v) in
        record {
          sound = rw x (device_clock_sound w.device w.image sample g.sound);
          size = rw y (image_length w.device w.image sample g.sound g.size ∙ g.size);
        }
good_after (retime program slice pause) w g = record { sound = set_sound w.device program slice pause g.sound; size = g.size }

-- the operation at once, where there is one
whole_or : Operation → List ℕ → List ℕ
whole_or o x = cond (is_absent o) x (whole o x)

-- it hangs on kind, address and data alone
like_whole : (o n : Operation) (x : List ℕ) → Like o n → whole n x ≡ whole o x
unfolding whole
like_whole o n x k = rw (k.kind, k.address, k.byte)

-- the block is unmarked, or an erase of it is under way
abbrev due : ℕ → World → Bool
due b w = cond (marked w.device.controller.marks b) (is_erase (op_on b w)) true

-- the block holds what its operation, at once, makes of x
record Holds (b : ℕ) (w : World) (x : List ℕ) : Type 0 where
  holds : due b w ≡ true → contents b (rest (op_on b w) w.image) ≡ whole_or (op_on b w) x

-- what the rest of a history will have made of x
awaited : ℕ → List Event → World → List ℕ → List ℕ
awaited b es w x = cond (is_absent (op_on b w)) x (cond (is_finished (fate b es w)) (whole (op_on b w) x) x)

absent_erase : (o : Operation) → is_absent o ≡ true → is_erase o ≡ false
absent_erase o a = ne_eqb o.kind 2 (λ z. eqb-false 0 2 refl (sym (eqb-true o.kind 0 a) ∙ z))

erase_program : (o : Operation) → is_erase o ≡ true → is_program o ≡ false
erase_program o a = ne_eqb o.kind 1 (λ z. eqb-false 2 1 refl (sym (eqb-true o.kind 2 a) ∙ z))

-- which operations an event adds to the ledger
module _ (b : ℕ) (e : Event) (es : List Event) (w : World) where
  none_more : is_absent (op_on b w) ≡ false → operations b (e ∷ es) w ≡ operations b es (after e w)
  none_more p = rw p

  none_new : is_absent (op_on b w) ≡ true → is_absent (op_on b (after e w)) ≡ true → operations b (e ∷ es) w ≡ operations b es (after e w)
  none_new p q = rw (p, q)

  one_new : is_absent (op_on b w) ≡ true
      → is_absent (op_on b (after e w)) ≡ false
      → operations b (e ∷ es) w
      ≡ record {
        operation = op_on b (after e w);
        sample = sample_of e;
        locks = w.device.locks;
        fate = fate b es (after e w);
      }
      ∷ operations b es (after e w)
  one_new p q = rw (p, q)

-- what is awaited, by what is there and what becomes of it
module _ (b : ℕ) (es : List Event) (w : World) (x : List ℕ) where
  awaits_none : is_absent (op_on b w) ≡ true → awaited b es w x ≡ x
  unfolding awaited
  awaits_none p = rw p

  awaits : is_absent (op_on b w) ≡ false → awaited b es w x ≡ cond (is_finished (fate b es w)) (whole (op_on b w) x) x
  unfolding awaited
  awaits p = rw p

module _ (b : ℕ) (e : Event) (es : List Event) (w : World) (x : List ℕ) where
  -- its operation goes on
  page_goes : finishes b e w ≡ false
      → is_absent (op_on b (after e w)) ≡ is_absent (op_on b w)
      → Like (op_on b w) (op_on b (after e w))
      → done_in_order (operations b (e ∷ es) w) (awaited b (e ∷ es) w x) ≡ done_in_order (operations b es (after e w)) (awaited b es (after e w) x)
  page_goes f a k = pick (ask (is_absent (op_on b w)))
    where
      pick : Answer (is_absent (op_on b w)) → done_in_order (operations b (e ∷ es) w) (awaited b (e ∷ es) w x) ≡ done_in_order (operations b es (after e w)) (awaited b es (after e w) x)
      pick (yes p) = rw (none_new b e es w p (a ∙ p), awaits_none b (e ∷ es) w x p, awaits_none b es (after e w) x (a ∙ p))
      pick (no p) =
          rw (none_more b e es w p, awaits b (e ∷ es) w x p, awaits b es (after e w) x (a ∙ p), f, a ∙ p, like_whole (op_on b w) (op_on b (after e w)) x k)

  page_ends : finishes b e w ≡ true
      → is_absent (op_on b w) ≡ false
      → is_absent (op_on b (after e w)) ≡ true
      → done_in_order (operations b (e ∷ es) w) (awaited b (e ∷ es) w x) ≡ done_in_order (operations b es (after e w)) (awaited b es (after e w) (whole (op_on b w) x))
  page_ends f p q =
      rw (none_more b e es w p, awaits b (e ∷ es) w x p, f, awaits_none b es (after e w) (whole (op_on b w) x) q)

  page_cuts : finishes b e w ≡ false
      → is_absent (op_on b w) ≡ false
      → is_absent (op_on b (after e w)) ≡ true
      → done_in_order (operations b (e ∷ es) w) (awaited b (e ∷ es) w x) ≡ done_in_order (operations b es (after e w)) (awaited b es (after e w) x)
  page_cuts f p q = rw (none_more b e es w p, awaits b (e ∷ es) w x p, f, q, awaits_none b es (after e w) x q)

  page_starts : is_absent (op_on b w) ≡ true
      → is_absent (op_on b (after e w)) ≡ false
      → done_in_order (operations b (e ∷ es) w) (awaited b (e ∷ es) w x) ≡ done_in_order (operations b es (after e w)) (awaited b es (after e w) x)
  page_starts p q = rw (one_new b e es w p q, awaits_none b (e ∷ es) w x p, awaits b es (after e w) x q)

-- what the block holds after an event
module _ (b : ℕ) (w n : World) (x : List ℕ) (h : Holds b w x) where
  holds_goes : is_absent (op_on b n) ≡ is_absent (op_on b w)
      → Like (op_on b w) (op_on b n)
      → contents b (rest (op_on b n) n.image) ≡ contents b (rest (op_on b w) w.image)
      → marked n.device.controller.marks b ≡ marked w.device.controller.marks b
      → Holds b n x
  unfolding whole_or
  holds_goes a k r m =
      record {
        holds = λ u. r ∙ h.holds (rw (m, k.kind) at u) ∙ rw (a, like_whole (op_on b w) (op_on b n) x k);
      }

  due_ends : (is_erase (op_on b w) ≡ false → marked n.device.controller.marks b ≡ marked w.device.controller.marks b)
      → is_absent (op_on b n) ≡ true
      → due b n ≡ true
      → due b w ≡ true
  due_ends m q u = pick (ask (is_erase (op_on b w))) (ask (marked w.device.controller.marks b))
    where
      pick : Answer (is_erase (op_on b w)) → Answer (marked w.device.controller.marks b) → due b w ≡ true
      pick k (no v) = rw v
      pick (yes k) (yes v) = rw (v, k)
      pick (no k) (yes v) = clash (rw (m k, v, absent_erase (op_on b n) q) at u)

  holds_ends : is_absent (op_on b w) ≡ false
      → is_absent (op_on b n) ≡ true
      → contents b n.image ≡ contents b (rest (op_on b w) w.image)
      → (is_erase (op_on b w) ≡ false → marked n.device.controller.marks b ≡ marked w.device.controller.marks b)
      → Holds b n (whole (op_on b w) x)
  unfolding whole_or
  holds_ends p q r m =
      record {
        holds = λ u. ap (contents b) (absent_rest (op_on b n) n.image q) ∙ r ∙ h.holds (due_ends m q u) ∙ rw (p, q);
      }

  holds_cuts : is_absent (op_on b n) ≡ true → marked n.device.controller.marks b ≡ true → Holds b n x
  holds_cuts q m = record { holds = λ u. clash (rw (m, absent_erase (op_on b n) q) at u) }

  holds_starts : is_absent (op_on b w) ≡ true
      → is_absent (op_on b n) ≡ false
      → contents b (rest (op_on b n) n.image) ≡ whole (op_on b n) (contents b w.image)
      → marked n.device.controller.marks b ≡ marked w.device.controller.marks b
      → Holds b n x
  unfolding whole_or whole
  holds_starts p q r m = record { holds = λ u. r ∙ pick (ask (marked w.device.controller.marks b)) u }
    where
      first : marked w.device.controller.marks b ≡ false → contents b w.image ≡ x
      first v = ap (contents b) (sym (absent_rest (op_on b w) w.image p)) ∙ h.holds (rw v) ∙ rw p

      pick : Answer (marked w.device.controller.marks b) → due b n ≡ true → whole (op_on b n) (contents b w.image) ≡ whole_or (op_on b n) x
      pick (no v) u = rw q (ap (whole (op_on b n)) (first v))
      pick (yes v) u = let k = erase_program (op_on b n) (rw (m, v) at u) in rw (q, k)

-- one event
paged : (b : ℕ) (e : Event) (es : List Event) (w : World) (x z : List ℕ)
    → Turn b (finishes b e w) (allowed b (sample_of e) w.device.locks) w.device.controller (after e w).device.controller w.image (after e w).image
    → Holds b w x
    → ((y : List ℕ) → Holds b (after e w) y → z ≡ done_in_order (operations b es (after e w)) (awaited b es (after e w) y))
    → z ≡ done_in_order (operations b (e ∷ es) w) (awaited b (e ∷ es) w x)
paged b e es w x z (goes f a k r m) h go = go x (holds_goes b w (after e w) x h a k r m) ∙ sym (page_goes b e es w x f a k)
paged b e es w x z (ends f p q r m) h go =
    go (whole (op_on b w) x) (holds_ends b w (after e w) x h p q r m) ∙ sym (page_ends b e es w x f p q)
paged b e es w x z (starts p q r m k) h go = go x (holds_starts b w (after e w) x h p q r m) ∙ sym (page_starts b e es w x p q)
paged b e es w x z (cuts f p q m) h go = go x (holds_cuts b w (after e w) x h q m) ∙ sym (page_cuts b e es w x f p q)

-- all of them
told : (b : ℕ) (es : List Event) (w : World) (x : List ℕ)
    → b < 16
    → Good w
    → Holds b w x
    → marked (ending es w).device.controller.marks b ≡ false
    → is_there b (ending es w) ≡ false
    → contents b (ending es w).image ≡ done_in_order (operations b es w) (awaited b es w x)
unfolding whole_or
told b [] w x l g h m t =
    let p = not-false (is_absent (op_on b w)) t in
    ap (contents b) (sym (absent_rest (op_on b w) w.image p)) ∙ h.holds (rw m) ∙ (rw p) ∙ sym (awaits_none b [] w x p)
told b (e ∷ es) w x l g h m t =
    paged b e es w x (contents b (ending es (after e w)).image) (turn b e w l g) h (λ y k. told b es (after e w) y l (good_after e w g) k m t)

-- power-up: no operation, no mark
fresh_none : (b part straps program slice pause : ℕ) → op_of b (powered_up part straps program slice pause).device.controller ≡ absent
unfolding powered_up power_refused fresh_of op_of is_on
fresh_none b part straps program slice pause = pick (ask (leb (strap_count part) straps)) (ask (times_fit (times program slice pause)))
  where
    pick : Answer (leb (strap_count part) straps) → Answer (times_fit (times program slice pause)) → op_of b (powered_up part straps program slice pause).device.controller ≡ absent
    pick (yes a) c = rw a
    pick (no a) (yes c) = rw (a, c)
    pick (no a) (no c) = rw (a, c)

pub clocked : (part straps program slice pause : ℕ) (image : List ℕ) (es : List Event) (block : ℕ)
    → length image ≡ 1048576
    → block < 16
    → marked (ending es (at_power_up part straps program slice pause image)).device.controller.marks block ≡ false
    → is_there block (ending es (at_power_up part straps program slice pause image)) ≡ false
    → contents block (ending es (at_power_up part straps program slice pause image)).image
    ≡ done_in_order (operations block es (at_power_up part straps program slice pause image)) (contents block image)
unfolding whole_or
clocked part straps program slice pause image es block l h m t =
    let w = at_power_up part straps program slice pause image in
    let o = fresh_none block part straps program slice pause in
    told block es w (contents block image) h (record { sound = powered_sound part straps program slice pause; size = l })
    (record { holds = λ u. rw o (ap (contents block) (absent_rest absent image refl)) }) m t
    ∙ ap (done_in_order (operations block es w)) (awaits_none block es w (contents block image) (rw o))

-- what an event adds to the ledger was allowed
page_allowed : (b : ℕ) (e : Event) (es : List Event) (w : World)
    → Turn b (finishes b e w) (allowed b (sample_of e) w.device.locks) w.device.controller (after e w).device.controller w.image (after e w).image
    → all_allowed b (operations b es (after e w)) ≡ true
    → all_allowed b (operations b (e ∷ es) w) ≡ true
page_allowed b e es w (goes f a k r m) h = pick (ask (is_absent (op_on b w)))
  where
    pick : Answer (is_absent (op_on b w)) → all_allowed b (operations b (e ∷ es) w) ≡ true
    pick (yes p) = rw (none_new b e es w p (a ∙ p)) h
    pick (no p) = rw (none_more b e es w p) h
page_allowed b e es w (ends f p q r m) h = rw (none_more b e es w p) h
page_allowed b e es w (starts p q r m k) h = rw (one_new b e es w p q, k) h
page_allowed b e es w (cuts f p q m) h = rw (none_more b e es w p) h

pub all_allowed_lem : (b : ℕ) (es : List Event) (w : World) → b < 16 → Good w → all_allowed b (operations b es w) ≡ true
all_allowed_lem b [] w l g = refl
all_allowed_lem b (e ∷ es) w l g = page_allowed b e es w (turn b e w l g) (all_allowed_lem b es (after e w) l (good_after e w g))
