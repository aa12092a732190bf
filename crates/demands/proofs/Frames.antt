-- What a frame does, from its samples: demand 2. Assumes nothing.
use Prim.Native.Nat.{ℕ, suc, ◌+◌, ◌-◌, ◌*◌, ◌/◌, ◌%◌, ◌≤◌, ◌<◌}
use mathlib.Core.Path.{◌≡◌, ◌∙◌, sym, refl, ap}
use mathlib.Core.Bool.{Bool, true, false, cond, ◌&&◌, ◌||◌}
use mathlib.Core.List.{List, [], ◌∷◌, ◌++◌}
use native.Mathlib.Nat.{zero-add, add-zero}
use native.Mathlib.Omega.{arith}
use lib.Dec.{eqb, ltb, leb}
use lib.ListN.{length, get_or, take}
use borrow.Author.Tests.{eqb-true, eqb-false, leb-true, ltb-true, ltb-false, ne_eqb, lt-ltb, le-ltb}
use Rattle.basics.specs.All.{all}
use Rattle.basics.proofs.Rules.{Answer, yes, no, ask, clash, and_left, and_right}
use Rattle.basics.proofs.Table.{at}
use Rattle.units.specs.declared.Times.{Times}
use Rattle.record.specs.declared.Frame.{Frame}
use Rattle.record.specs.declared.Device.{Device}
use Rattle.record.specs.Record.{is_lpc, frame, idle, is_read, is_write}
use Rattle.record.specs.Sample.{lines, frame_line, is_reset}
use Rattle.part.specs.Fresh.{fresh_of}
use Rattle.bus.specs.declared.Asked.{Asked}
use Rattle.bus.specs.declared.Asked.TheVariants.{Nothing as Silent, Read, Write}
use Rattle.bus.specs.Frames.{begun, shifted, is_chosen, read_on, write_on, next_of, frame_clock, asked_of, driven_of}
use Rattle.bus.proofs.Heads as heads
use Rattle.bus.proofs.Laws.{last_nibble, acts_on_12}
use Rattle.access.specs.Read.{is_array, array_address, value_of}
use Rattle.access.specs.Write.{reached_of}
use Rattle.clock.specs.declared.DeviceClocked.{DeviceClocked}
use Rattle.clock.specs.Clock.{with_frame, reset_device, answered_to, served_of, after_controller, device_clock, image_after}
use Rattle.clock.specs.Fold.{World, world, onward, answer_to, through, answers_to}
use Rattle.clock.proofs.Fixed.{fixed_onward}
use Rattle.clock.proofs.Broken as broken
use Rattle.demands.specs.Demand2.{all_high, none_resets, seven_in, address_in, data_in, is_for, driven_by_read, driven_by_write, driven, found, SameButForFrame, SameBehindTheBus, unheard, is_reading}
use Rattle.demands.specs.Demand2.{BrokenOffGivesNothing, WriteActs, FrameDrives, NothingDriven}

-- of samples with the frame line high the first, and the others
module _ (s : ℕ) (ss : List ℕ) (e : all_high (s ∷ ss) ≡ true) where
  pub high_first : frame_line s ≡ 1
  high_first = elim (ask (eqb (frame_line s) 1)) [ yes a ↦ eqb-true (frame_line s) 1 a | no a ↦ clash (rw a at e) ]

  pub high_others : all_high ss ≡ true
  high_others = rw high_first at e

high_line : (s : ℕ) → eqb (frame_line s) 0 ≡ false → frame_line s ≡ 1
high_line s e = let z = eqb-false (frame_line s) 0 e in omega arith

highs : (ss : List ℕ) → all_high ss ≡ true → broken.high ss ≡ true
highs [] e = refl
highs (s ∷ ss) e = rw (high_first s ss e) (highs ss (high_others s ss e))

through_append : (ss ts : List ℕ) (w : World) → through (ss ++ ts) w ≡ through ts (through ss w)
through_append [] ts w = refl
through_append (s ∷ ss) ts w = through_append ss ts (onward w s)

-- the part stays
part_through : (ss : List ℕ) (w : World) → (through ss w).device.part ≡ w.device.part
part_through [] w = refl
part_through (s ∷ ss) w = part_through ss (onward w s) ∙ (fixed_onward w s).part

-- a frame asks nothing before its clock 12
early_silent : (f : Frame) → f.clock ≤ 11 → asked_of f ≡ Silent
unfolding asked_of
early_silent f h = pick (ask (is_read f)) (ask (is_write f))
  where
    pick : Answer (is_read f) → Answer (is_write f) → asked_of f ≡ Silent
    pick (yes a) b = rw (a, ne_eqb f.clock 15 (λ e. omega arith))
    pick (no a) (yes b) = rw (a, b, ne_eqb f.clock 12 (λ e. omega arith))
    pick (no a) (no b) = rw (a, b)

-- a frame that has begun is at its clock 1, and asks nothing
begun_clock : (part n : ℕ) → (begun part n).clock ≤ 1
unfolding begun
begun_clock part n = pick (ask (is_lpc part)) (ask (eqb n 0)) (ask (eqb n 13)) (ask (eqb n 14))
  where
    pick : Answer (is_lpc part) → Answer (eqb n 0) → Answer (eqb n 13) → Answer (eqb n 14) → (begun part n).clock ≤ 1
    pick (yes l) (yes z) a b = rw (l, z) (omega arith)
    pick (yes l) (no z) a b = rw (l, z) (omega arith)
    pick (no l) z (yes a) b = rw (l, a) (omega arith)
    pick (no l) z (no a) (yes b) = rw (l, a, b) (omega arith)
    pick (no l) z (no a) (no b) = rw (l, a, b) (omega arith)

begun_silent : (part n : ℕ) → asked_of (begun part n) ≡ Silent
begun_silent part n = let h = begun_clock part n in early_silent (begun part n) (omega arith)

driven_idle : driven_of idle ≡ 0
unfolding driven_of
driven_idle = refl

-- of two ways of a clock each answers what its frame drives
either : (t : Bool) (a b : DeviceClocked)
    → a.answer ≡ driven_of a.device.frame
    → b.answer ≡ driven_of b.device.frame
    → (cond t a b).answer ≡ driven_of (cond t a b).device.frame
either true a b p q = p
either false a b p q = q

module _ (w : World) (s : ℕ) where
  -- the answer is what the frame that is left drives
  answer : answer_to w s ≡ driven_of (onward w s).device.frame
  unfolding answer_to onward device_clock reset_device
  answer = either (is_reset s) _ _ (sym driven_idle) refl

  -- a clock on which nothing is asked
  silently : is_reset s ≡ false → asked_of (broken.framed w s) ≡ Silent → (onward w s).device.frame ≡ broken.framed w s
  unfolding onward device_clock served_of
  silently r a = rw (r, a)

  -- a low frame line begins a frame
  begins : frame_line s ≡ 0 → (onward w s).device.frame ≡ cond (is_reset s) idle (begun w.device.part (lines s))
  unfolding onward device_clock served_of reset_device frame_clock
  begins e = pick (ask (is_reset s))
    where
      pick : Answer (is_reset s) → (onward w s).device.frame ≡ cond (is_reset s) idle (begun w.device.part (lines s))
      pick (yes r) = rw r
      pick (no r) = rw (r, e, begun_silent w.device.part (lines s))

  -- an idle bus stays idle where it is high
  rests_once : frame_line s ≡ 1 → w.device.frame ≡ idle → (onward w s).device.frame ≡ idle
  unfolding onward device_clock served_of reset_device frame_clock asked_of
  rests_once e i = pick (ask (is_reset s))
    where
      pick : Answer (is_reset s) → (onward w s).device.frame ≡ idle
      pick (yes r) = rw r
      pick (no r) = rw (r, e, i)

-- and so is the last of some answers
last_answer : (s : ℕ) (ss : List ℕ) (w : World)
    → get_or (answers_to (s ∷ ss) w) (length ss) 0 ≡ driven_of (through (s ∷ ss) w).device.frame
last_answer s [] w = answer w s
last_answer s (t ∷ ss) w = last_answer t ss (onward w s)

-- from an idle bus on, while the frame line stays high
rests : (ss : List ℕ) (w : World) → all_high ss ≡ true → w.device.frame ≡ idle → (through ss w).device.frame ≡ idle
rests [] w e i = i
rests (s ∷ ss) w e i = rests ss (onward w s) (high_others s ss e) (rests_once w s (high_first s ss e) i)

pub reset_idle : (w : World) (s : ℕ) → is_reset s ≡ true → (onward w s).device.frame ≡ idle
unfolding onward device_clock reset_device
reset_idle w s r = rw r

at_rest : (w : World) (s : ℕ) (ss : List ℕ)
    → all_high ss ≡ true
    → (onward w s).device.frame ≡ idle
    → get_or (answers_to (s ∷ ss) w) (length ss) 0 ≡ 0
at_rest w s ss e i = last_answer s ss w ∙ ap driven_of (rests ss (onward w s) e i) ∙ driven_idle

fresh_idle : (part straps : ℕ) (ts : Times) → (fresh_of part straps ts).frame ≡ idle
unfolding fresh_of
fresh_idle part straps ts = refl

pub nothing_driven : NothingDriven
unfolding NothingDriven
nothing_driven d part straps ts image first others e = (
  λ r. at_rest (world d image) first others e (reset_idle (world d image) first r),
  λ l.
      at_rest (world (fresh_of part straps ts) image) first others e (rests_once (world (fresh_of part straps ts) image) first l (fresh_idle part straps ts)),
)

-- where a frame is broken off
breaks : (part first : ℕ) (others : List ℕ) (last : ℕ)
    → frame_line first ≡ 0
    → all_high others ≡ true
    → is_reading part (first ∷ others) || leb (length others) 10 ≡ true
    → frame_line last ≡ 0
    → broken.BrokenOff part (first ∷ (others ++ (last ∷ [])))
breaks part first others last f h n l = pick (ask (is_reading part (first ∷ others)))
  where
    pick : Answer (is_reading part (first ∷ others)) → broken.BrokenOff part (first ∷ (others ++ (last ∷ [])))
    pick (yes a) = broken.reading first others last f a (highs others h) l
    pick (no a) = broken.early first others last f (highs others h) (leb-true (length others) 10 (rw a at n)) l

-- where no byte is written, all is as with the bus idle
pub unwritten : (ss : List ℕ) (w : World) → broken.never broken.writes ss w ≡ true → SameBehindTheBus (through ss w) (unheard ss w)
unfolding broken.raised
unwritten ss w n = let p = broken.unheard ss w n in (
  (
    ap (λ (v : World). v.device.part) p,
    ap (λ (v : World). v.device.straps) p,
    ap (λ (v : World). v.device.locks) p,
    ap (λ (v : World). v.device.times) p,
    ap (λ (v : World). v.device.controller) p,
  ),
  ap (λ (v : World). v.image) p,
)

pub broken_off : BrokenOffGivesNothing
unfolding BrokenOffGivesNothing
broken_off d image first others last f h n l =
    let ss = first ∷ (others ++ (last ∷ [])) in
    let w = through (first ∷ others) (world d image) in (
      unwritten ss (world d image) (broken.unwritten ss (world d image) (breaks d.part first others last f h n l)),
      ap (λ (v : World). v.device.frame) (through_append (first ∷ others) (last ∷ []) (world d image))
          ∙ begins w last l
          ∙ ap (λ (k : ℕ). cond (is_reset last) idle (begun k (lines last))) (part_through (first ∷ others) (world d image)),
    )

-- samples that neither reset nor begin a frame
pub data Calm : List ℕ → Type 0 where
  end : Calm []
  calm : (s : ℕ) (ss : List ℕ) → frame_line s ≡ 1 → is_reset s ≡ false → Calm ss → Calm (s ∷ ss)

-- of samples that do not reset the first, and the others
module _ (s : ℕ) (ss : List ℕ) (e : none_resets (s ∷ ss) ≡ true) where
  pub up_first : is_reset s ≡ false
  up_first = elim (ask (is_reset s)) [ yes r ↦ clash (rw r at e) | no r ↦ r ]

  pub up_others : none_resets ss ≡ true
  up_others = rw up_first at e

pub calmly : (ss : List ℕ) → all_high ss ≡ true → none_resets ss ≡ true → Calm ss
calmly [] e n = end
calmly (s ∷ ss) e n =
    calm s ss (high_first s ss e) (up_first s ss n) (calmly ss (high_others s ss e) (up_others s ss n))

module _ (s : ℕ) (ss : List ℕ) where
  calm_line : Calm (s ∷ ss) → frame_line s ≡ 1
  calm_line (calm _ _ l r k) = l

  calm_up : Calm (s ∷ ss) → is_reset s ≡ false
  calm_up (calm _ _ l r k) = r

  calm_others : Calm (s ∷ ss) → Calm ss
  calm_others (calm _ _ l r k) = k

pub calm_high : (ss : List ℕ) → Calm ss → all_high ss ≡ true
calm_high [] k = refl
calm_high (s ∷ ss) (calm _ _ l r k) = rw l (calm_high ss k)

pub calm_front : (ss ts : List ℕ) → Calm (ss ++ ts) → Calm ss
calm_front [] ts k = end
calm_front (s ∷ ss) ts (calm _ _ h r k) = calm s ss h r (calm_front ss ts k)

calm_back : (ss ts : List ℕ) → Calm (ss ++ ts) → Calm ts
calm_back [] ts k = k
calm_back (s ∷ ss) ts (calm _ _ h r k) = calm_back ss ts k

-- what a write does leaves the frame, and does not see it
module _ (d : Device) (sample a byte : ℕ) where
  reached_frame : (reached_of d sample a byte).after.frame ≡ d.frame
  unfolding reached_of
  reached_frame = elim (ask (is_array a)) [ yes i ↦ rw i | no i ↦ rw i ]

  reached_same : (f : Frame) → SameButForFrame (reached_of (with_frame d f) sample a byte).after (reached_of d sample a byte).after
  unfolding reached_of
  reached_same f = elim (ask (is_array a)) [ yes i ↦ rw i (refl, refl, refl, refl, refl) | no i ↦ rw i (refl, refl, refl, refl, refl) ]

-- the same kind of frame at the same clock
abbrev alike : Frame → Frame → Type 0
alike f g = (f.kind ≡ g.kind) × (f.clock ≡ g.clock)

answered_alike : (a : Asked) (d : Device) (image : List ℕ) (s : ℕ) → alike (answered_to a d image s).after.frame d.frame
answered_alike Silent d image s = (refl, refl)
answered_alike (Read address) d image s = (refl, refl)
answered_alike (Write address byte) d image s =
    let e = reached_frame d s address byte in (ap (λ (f : Frame). f.kind) e, ap (λ (f : Frame). f.clock) e)

module _ (w : World) (s : ℕ) where
  framed_alike : is_reset s ≡ false → alike (onward w s).device.frame (broken.framed w s)
  unfolding onward device_clock served_of
  framed_alike r =
      rw r
      (answered_alike (asked_of (broken.framed w s)) (with_frame (after_controller w.device) (broken.framed w s)) _ s)

-- the bus alone: frames from sample to sample
abbrev folded : ℕ → ℕ → Frame → List ℕ → Frame
folded part straps f [] = f
folded part straps f (s ∷ ss) = folded part straps (frame_clock part straps f s) ss

-- until its clock 11 a frame asks nothing, and is what the bus alone makes of it
alone : (ss : List ℕ) (part straps : ℕ) (f : Frame) (w : World)
    → Calm ss
    → f.clock + length ss ≤ 11
    → w.device.part ≡ part
    → w.device.straps ≡ straps
    → w.device.frame ≡ f
    → (through ss w).device.frame ≡ folded part straps f ss
alone [] part straps f w k h ep es ef = ef
alone (s ∷ ss) part straps f w (calm _ _ l r k) h ep es ef =
    let q = broken.follows part straps f s l in
    let e : broken.framed w s ≡ frame_clock part straps f s = rw (ep, es, ef) in
    let c : (frame_clock part straps f s).clock + length ss ≤ 11 = omega arith in
    let a = early_silent (frame_clock part straps f s) (omega arith) in
    let x = fixed_onward w s in
    alone ss part straps (frame_clock part straps f s) (onward w s) k c (x.part ∙ ep) (x.straps ∙ es) (silently w s r (ap asked_of e ∙ a) ∙ e)

rests_alone : (ss : List ℕ) (part straps : ℕ) → Calm ss → folded part straps idle ss ≡ idle
unfolding frame_clock
rests_alone [] part straps k = refl
rests_alone (s ∷ ss) part straps (calm _ _ l r k) = rw l (rests_alone ss part straps k)

-- the nibbles of an address, of a frame whose direction is known
abbrev address_over : ℕ → ℕ → List ℕ → ℕ
address_over part a [] = a
address_over part a (s ∷ ss) = address_over part (shifted part a (lines s)) ss

address : (part straps kind : ℕ) → heads.Kind kind → (ss : List ℕ) (c a : ℕ)
    → Calm ss
    → 2 ≤ c
    → c + length ss ≤ 9
    → folded part straps (frame kind c 0 a) ss ≡ frame kind (c + length ss) 0 (address_over part a ss)
address part straps kind q [] c a k l h = rw add-zero
address part straps kind q (s ∷ ss) c a (calm _ _ e r k) l h =
    let x : c + suc (length ss) ≡ c + 1 + length ss = omega arith in
    rw (heads.nibble_in part straps s (rw e) kind q c a l (omega arith), x)
    (address part straps kind q ss (c + 1) (shifted part a (lines s)) k (omega arith) (omega arith))

-- a nibble is put behind an address that has room for it
put : (part x s m : ℕ) → x < m → m ≤ 0x1000000 → (shifted part x (lines s) ≡ x * 16 + lines s) × (x * 16 + lines s < m * 16)
unfolding shifted
put part x s m h l =
    elim (ask (is_lpc part)) [ yes p ↦ rw p (omega arith, omega arith) | no p ↦ rw p (omega arith, omega arith) ]

put_last : (part x s : ℕ) → is_lpc part ≡ true → x < 0x10000000 → shifted part x (lines s) ≡ x * 16 + lines s
unfolding shifted
put_last part x s p h = rw p (omega arith)

address_of : (part a b c d e f g : ℕ)
    → address_over part 0 (a ∷ b ∷ c ∷ d ∷ e ∷ f ∷ g ∷ [])
    ≡ lines a * 0x1000000 + lines b * 0x100000 + lines c * 0x10000 + lines d * 0x1000 + lines e * 0x100 + lines f * 0x10 + lines g
address_of part a b c d e f g =
    let p = (put part 0 a 1 (omega arith) (omega arith)).0 ∙ zero-add (lines a) in
    let q = put part (lines a) b 0x10 (omega arith) (omega arith) in
    let r = put part (lines a * 16 + lines b) c 0x100 q.1 (omega arith) in
    let s = put part ((lines a * 16 + lines b) * 16 + lines c) d 0x1000 r.1 (omega arith) in
    let t = put part (((lines a * 16 + lines b) * 16 + lines c) * 16 + lines d) e 0x10000 s.1 (omega arith) in
    let u = put part ((((lines a * 16 + lines b) * 16 + lines c) * 16 + lines d) * 16 + lines e) f 0x100000 t.1 (omega arith) in
    let v = put part (((((lines a * 16 + lines b) * 16 + lines c) * 16 + lines d) * 16 + lines e) * 16 + lines f) g 0x1000000 u.1 (omega arith) in
    rw (p, q.0, r.0, s.0, t.0, u.0, v.0) (sum (lines a) (lines b) (lines c) (lines d) (lines e) (lines f) (lines g))
  where
    sum : (a b c d e f g : ℕ)
        → (((((a * 16 + b) * 16 + c) * 16 + d) * 16 + e) * 16 + f) * 16 + g
        ≡ a * 0x1000000 + b * 0x100000 + c * 0x10000 + d * 0x1000 + e * 0x100 + f * 0x10 + g
    sum a b c d e f g = omega arith

-- the samples of a head behind the first, and the rest; or fewer
pub data Head : List ℕ → Type 0 where
  short : (ss : List ℕ) → length ss ≤ 8 → Head ss
  long : (s a b c d e f g t : ℕ) (rest : List ℕ) → Head (s ∷ a ∷ b ∷ c ∷ d ∷ e ∷ f ∷ g ∷ t ∷ rest)

pub head : (ss : List ℕ) → Head ss
head [] = short [] (omega arith)
head (s ∷ []) = short (s ∷ []) (omega arith)
head (s ∷ a ∷ []) = short (s ∷ a ∷ []) (omega arith)
head (s ∷ a ∷ b ∷ []) = short (s ∷ a ∷ b ∷ []) (omega arith)
head (s ∷ a ∷ b ∷ c ∷ []) = short (s ∷ a ∷ b ∷ c ∷ []) (omega arith)
head (s ∷ a ∷ b ∷ c ∷ d ∷ []) = short (s ∷ a ∷ b ∷ c ∷ d ∷ []) (omega arith)
head (s ∷ a ∷ b ∷ c ∷ d ∷ e ∷ []) = short (s ∷ a ∷ b ∷ c ∷ d ∷ e ∷ []) (omega arith)
head (s ∷ a ∷ b ∷ c ∷ d ∷ e ∷ f ∷ []) = short (s ∷ a ∷ b ∷ c ∷ d ∷ e ∷ f ∷ []) (omega arith)
head (s ∷ a ∷ b ∷ c ∷ d ∷ e ∷ f ∷ g ∷ []) = short (s ∷ a ∷ b ∷ c ∷ d ∷ e ∷ f ∷ g ∷ []) (omega arith)
head (s ∷ a ∷ b ∷ c ∷ d ∷ e ∷ f ∷ g ∷ t ∷ rest) = long s a b c d e f g t rest

-- its clock is at most the number of its samples
folded_clock : (ss : List ℕ) (part straps : ℕ) (f : Frame) → Calm ss → (folded part straps f ss).clock ≤ f.clock + length ss
folded_clock [] part straps f k = omega arith
folded_clock (s ∷ ss) part straps f (calm _ _ l r k) =
    let q = broken.follows part straps f s l in
    let p = folded_clock ss part straps (frame_clock part straps f s) k in
    omega arith

-- a frame from its first sample on, until its clock 11
from_first : (d : Device) (image : List ℕ) (first : ℕ) (ss : List ℕ)
    → frame_line first ≡ 0
    → is_reset first ≡ false
    → Calm ss
    → length ss ≤ 10
    → (through (first ∷ ss) (world d image)).device.frame ≡ folded d.part d.straps (begun d.part (lines first)) ss
from_first d image first ss low up k h =
    let c = begun_clock d.part (lines first) in
    let b : (onward (world d image) first).device.frame ≡ begun d.part (lines first) = begins (world d image) first low ∙ rw up in
    let x = fixed_onward (world d image) first in
    alone ss d.part d.straps (begun d.part (lines first)) (onward (world d image) first) k (omega arith) x.part x.straps b

-- until its clock 12 a frame drives nothing
early_undriven : (f : Frame) → f.clock ≤ 12 → driven_of f ≡ 0
unfolding driven_of
early_undriven f h = pick (ask (is_read f)) (ask (is_write f))
  where
    pick : Answer (is_read f) → Answer (is_write f) → driven_of f ≡ 0
    pick (yes a) b = rw (a, lt-ltb f.clock 13 (omega arith))
    pick (no a) (yes b) = rw (a, b, ne_eqb f.clock 15 (λ e. omega arith), ne_eqb f.clock 16 (λ e. omega arith))
    pick (no a) (no b) = rw (a, b)

-- and so it is said
nothing_yet : (part straps : ℕ) (ss : List ℕ) (value : ℕ) → length ss ≤ 12 → driven part straps ss value ≡ 0
nothing_yet part straps ss value h = pick (ask (is_for part straps 1 ss)) (ask (is_for part straps 2 ss))
  where
    pick : Answer (is_for part straps 1 ss) → Answer (is_for part straps 2 ss) → driven part straps ss value ≡ 0
    pick (yes a) b = rw (a, lt-ltb (length ss) 13 (omega arith))
    pick (no a) (yes b) = rw (a, b, ne_eqb (length ss) 15 (λ e. omega arith), ne_eqb (length ss) 16 (λ e. omega arith))
    pick (no a) (no b) = rw (a, b)

-- a read behind its head: its clock goes on to 18
abbrev read_to : ℕ → ℕ → ℕ → Frame
read_to c byte a = cond (ltb c 19) (frame 1 c byte a) idle

read_clock : (part straps c byte a s : ℕ) → frame_line s ≡ 1 → 10 ≤ c → frame_clock part straps (read_to c byte a) s ≡ read_to (c + 1) byte a
unfolding frame_clock next_of read_on
read_clock part straps c byte a s l h = pick (ask (ltb c 18)) (ask (ltb c 19))
  where
    pick : Answer (ltb c 18) → Answer (ltb c 19) → frame_clock part straps (read_to c byte a) s ≡ read_to (c + 1) byte a
    pick (yes x) y =
        let i = ltb-true c 18 x in
        rw (l, lt-ltb c 19 (omega arith), le-ltb c 10 h, x, lt-ltb (c + 1) 19 (omega arith))
    pick (no x) (yes y) =
        let i = ltb-false c 18 x in
        rw (l, y, le-ltb c 10 h, x, le-ltb (c + 1) 19 (omega arith))
    pick (no x) (no y) =
        let i = ltb-false c 19 y in
        rw (l, y, le-ltb (c + 1) 19 (omega arith))

read_silent : (c byte a : ℕ) → (c ≡ 15 → ⊥) → asked_of (read_to c byte a) ≡ Silent
unfolding asked_of
read_silent c byte a z = pick (ask (ltb c 19))
  where
    pick : Answer (ltb c 19) → asked_of (read_to c byte a) ≡ Silent
    pick (yes x) = rw (x, ne_eqb c 15 z)
    pick (no x) = rw x

reading : (ss : List ℕ) (w : World) (c byte a : ℕ)
    → Calm ss
    → 10 ≤ c
    → ((n : ℕ) → c < n → n ≤ c + length ss → n ≡ 15 → ⊥)
    → w.device.frame ≡ read_to c byte a
    → (through ss w).device.frame ≡ read_to (c + length ss) byte a
reading [] w c byte a k h z e = rw add-zero e
reading (s ∷ ss) w c byte a (calm _ _ l r k) h z e =
    let x : c + suc (length ss) ≡ c + 1 + length ss = omega arith in
    let p : broken.framed w s ≡ read_to (c + 1) byte a = rw e (read_clock w.device.part w.device.straps c byte a s l h) in
    let q = read_silent (c + 1) byte a (z (c + 1) (omega arith) (omega arith)) in
    rw x
    (reading ss (onward w s) (c + 1) byte a k (omega arith) (λ n i j. z n (omega arith) (omega arith)) (silently w s r (ap asked_of p ∙ q) ∙ p))

-- what it drives
read_drives : (n byte a : ℕ) → driven_of (read_to n byte a) ≡ driven_by_read n byte
unfolding driven_of
read_drives n byte a = pick (ask (ltb n 19))
  where
    pick : Answer (ltb n 19) → driven_of (read_to n byte a) ≡ driven_by_read n byte
    pick (yes x) =
        let h = ltb-true n 19 x in
        rw x (sym (at (λ (c : ℕ). driven_of (frame 1 c byte a)) 19 n 0 h) ∙ at (λ (c : ℕ). driven_by_read c byte) 19 n 0 h)
    pick (no x) =
        let h = ltb-false n 19 x in
        rw (x, le-ltb n 13 (omega arith), le-ltb n 15 (omega arith), ne_eqb n 15 (λ e. omega arith), ne_eqb n 16 (λ e. omega arith), ne_eqb n 17 (λ e. omega arith), ne_eqb n 18 (λ e. omega arith))

-- the value that a read finds on its clock 15, on which it asks
finds : (w : World) (s a : ℕ)
    → frame_line s ≡ 1
    → is_reset s ≡ false
    → w.device.frame ≡ frame 1 14 0 a
    → (onward w s).device.frame
    ≡ frame 1 15 (value_of (after_controller w.device) s a (get_or (image_after w.device w.image s) (array_address a) 0)) a
unfolding onward device_clock served_of image_after value_of asked_of
finds w s a l r e =
    let p : broken.framed w s ≡ frame 1 15 0 a = rw e (read_clock w.device.part w.device.straps 14 0 a s l (omega arith)) in
    rw (r, p)

-- five samples and more, or fewer
data Tail : List ℕ → Type 0 where
  few : (ss : List ℕ) → length ss ≤ 4 → Tail ss
  many : (a b c d s : ℕ) (ss : List ℕ) → Tail (a ∷ b ∷ c ∷ d ∷ s ∷ ss)

tail : (ss : List ℕ) → Tail ss
tail [] = few [] (omega arith)
tail (a ∷ []) = few (a ∷ []) (omega arith)
tail (a ∷ b ∷ []) = few (a ∷ b ∷ []) (omega arith)
tail (a ∷ b ∷ c ∷ []) = few (a ∷ b ∷ c ∷ []) (omega arith)
tail (a ∷ b ∷ c ∷ d ∷ []) = few (a ∷ b ∷ c ∷ d ∷ []) (omega arith)
tail (a ∷ b ∷ c ∷ d ∷ s ∷ ss) = many a b c d s ss

-- before the data nibbles the value has no part in what a read drives
valueless : (n x y : ℕ) → n < 15 → driven_by_read n x ≡ driven_by_read n y
valueless n x y h = rw (lt-ltb n 15 h)

-- the value that is found from the clocks behind the head, of an address
abbrev found_behind : List ℕ → World → ℕ → ℕ
found_behind ss w a =
    let v = through (take 4 ss) w in
    value_of (after_controller v.device) (get_or ss 4 0) a
    (get_or (image_after v.device v.image (get_or ss 4 0)) (array_address a) 0)

reads : (ss : List ℕ) (w : World) (a : ℕ)
    → Calm ss
    → w.device.frame ≡ frame 1 10 0 a
    → driven_of (through ss w).device.frame ≡ driven_by_read (10 + length ss) (found_behind ss w a)
reads ss w a k e = pick ss (tail ss) k
  where
    pick : (ss : List ℕ) → Tail ss → Calm ss → driven_of (through ss w).device.frame ≡ driven_by_read (10 + length ss) (found_behind ss w a)
    pick ss (few _ h) k =
        ap driven_of (reading ss w 10 0 a k (omega arith) (λ n i j x. omega arith) e)
        ∙ read_drives (10 + length ss) 0 a
        ∙ valueless (10 + length ss) 0 (found_behind ss w a) (omega arith)
    pick _ (many b c d f s ss) k = turn (calm_back (b ∷ c ∷ d ∷ f ∷ []) (s ∷ ss) k)
      where
        v : World
        v = through (b ∷ c ∷ d ∷ f ∷ []) w

        turned : v.device.frame ≡ frame 1 14 0 a
        turned = reading (b ∷ c ∷ d ∷ f ∷ []) w 10 0 a (calm_front (b ∷ c ∷ d ∷ f ∷ []) (s ∷ ss) k) (omega arith) (λ n i j x. omega arith) e

        turn : Calm (s ∷ ss) → driven_of (through ss (onward v s)).device.frame ≡ driven_by_read (10 + length (b ∷ c ∷ d ∷ f ∷ s ∷ ss)) (found_behind (b ∷ c ∷ d ∷ f ∷ s ∷ ss) w a)
        turn (calm _ _ l r q) =
            let x : 10 + length (b ∷ c ∷ d ∷ f ∷ s ∷ ss) ≡ 15 + length ss = omega arith in
            rw x
            (ap driven_of (reading ss (onward v s) 15 _ a q (omega arith) (λ n i j z. omega arith) (finds v s a l r turned))
            ∙ read_drives (15 + length ss) _ a)

-- a write behind its head: its clock goes on to 16
data Writing (n : ℕ) (f : Frame) : Type 0 where
  on : f.kind ≡ 2 → f.clock ≡ n → n ≤ 16 → Writing n f
  over : f.kind ≡ 0 → 17 ≤ n → Writing n f

writing_alike : (n : ℕ) (f g : Frame) → alike f g → Writing n g → Writing n f
writing_alike n f g p (on k c m) = on (p.0 ∙ k) (p.1 ∙ c) m
writing_alike n f g p (over k m) = over (p.0 ∙ k) m

writing_clock : (part straps n : ℕ) (f : Frame) (s : ℕ) → frame_line s ≡ 1 → 10 ≤ n → Writing n f → Writing (n + 1) (frame_clock part straps f s)
unfolding frame_clock next_of write_on
writing_clock part straps n f s l h (over k m) = rw (l, k) (over refl (omega arith))
writing_clock part straps n f s l h (on k c m) = pick (ask (eqb n 10)) (ask (eqb n 11)) (ask (ltb n 16))
  where
    pick : Answer (eqb n 10) → Answer (eqb n 11) → Answer (ltb n 16) → Writing (n + 1) (frame_clock part straps f s)
    pick (yes x) y z =
        let i = eqb-true n 10 x in
        rw (l, k, c, le-ltb n 10 h, x) (on refl (omega arith) (omega arith))
    pick (no x) (yes y) z =
        let i = eqb-true n 11 y in
        rw (l, k, c, le-ltb n 10 h, x, y) (on refl (omega arith) (omega arith))
    pick (no x) (no y) (yes z) =
        let i = ltb-true n 16 z in
        rw (l, k, c, le-ltb n 10 h, x, y, z) (on refl refl (omega arith))
    pick (no x) (no y) (no z) =
        let i = ltb-false n 16 z in
        rw (l, k, c, le-ltb n 10 h, x, y, z) (over refl (omega arith))

writing : (ss : List ℕ) (w : World) (n : ℕ) → Calm ss → 10 ≤ n → Writing n w.device.frame → Writing (n + length ss) (through ss w).device.frame
writing [] w n k h q = rw add-zero q
writing (s ∷ ss) w n (calm _ _ l r k) h q =
    let x : n + suc (length ss) ≡ n + 1 + length ss = omega arith in
    let p = writing_clock w.device.part w.device.straps n w.device.frame s l h q in
    rw x (writing ss (onward w s) (n + 1) k (omega arith) (writing_alike (n + 1) _ _ (framed_alike w s r) p))

writing_drives : (n : ℕ) (f : Frame) → Writing n f → driven_of f ≡ driven_by_write n
unfolding driven_of
writing_drives n f (on k c m) = rw (k, c)
writing_drives n f (over k m) = rw (k, ne_eqb n 15 (λ e. omega arith), ne_eqb n 16 (λ e. omega arith))

and_false : (t : Bool) → t && false ≡ false
and_false true = refl
and_false false = refl

-- a choice by two tests, one behind the other
chosen : (u v : Bool) (x y : Frame) → cond (cond u v false) x y ≡ cond (u && v) x y
chosen true v x y = refl
chosen false v x y = refl

-- a frame with its head, and the frame after its clock 10: a read or a write for this part, or none
module _ (d : Device) (image : List ℕ) (first s a b c e f g h t : ℕ) where
  abbrev seven : List ℕ
  seven = a ∷ b ∷ c ∷ e ∷ f ∷ g ∷ h ∷ []

  abbrev nine : List ℕ
  nine = s ∷ (seven ++ (t ∷ []))

  abbrev headed : List ℕ
  headed = first ∷ nine

  abbrev ten : World
  ten = through headed (world d image)

  -- it is for this part
  abbrev ours : ℕ → Bool
  ours kind = is_for d.part d.straps kind headed

  abbrev to : ℕ
  to = address_in d.part headed

  -- the frame that the bus alone makes of its clocks 2 to 10
  abbrev after : Frame → Frame
  after one = folded d.part d.straps one nine

  -- on LPC: the address, and the two tests of it
  abbrev eight : ℕ
  eight = seven_in headed * 0x10 + lines t

  abbrev high : Bool
  high = eqb (eight / 0x800000) 0x1FF

  abbrev pins : Bool
  pins = eqb (eight / 0x100000 % 4) (3 - d.straps)

  abbrev Ten : Frame → Type 0
  Ten x = x ≡ cond (ours 1) (frame 1 10 0 to) (cond (ours 2) (frame 2 10 0 to) idle)

  module _ (k : Calm nine) where
    q : Calm (seven ++ (t ∷ []))
    q = calm_others s (seven ++ (t ∷ [])) k

    second : eqb (frame_line s) 0 ≡ false
    second = rw (calm_line s (seven ++ (t ∷ [])) k)

    tenth : eqb (frame_line t) 0 ≡ false
    tenth = rw (calm_line t [] (calm_back seven (t ∷ []) q))

    to_nine : (kind : ℕ) → heads.Kind kind
        → folded d.part d.straps (frame kind 2 0 0) seven ≡ frame kind 9 0 (address_over d.part 0 seven)
    to_nine kind v = address d.part d.straps kind v seven 2 0 (calm_front seven (t ∷ []) q) (omega arith) (omega arith)

    idles_on : folded d.part d.straps idle (seven ++ (t ∷ [])) ≡ idle
    idles_on = rests_alone (seven ++ (t ∷ [])) d.part d.straps q

    -- FWH: a frame of a kind that its first nibble says
    module _ (p : is_lpc d.part ≡ false) where
      fwh_kind : (kind : ℕ) → heads.Kind kind
          → after (frame kind 1 0 0) ≡ cond (eqb (lines s) d.straps && eqb (lines t) 0) (frame kind 10 0 to) idle
      fwh_kind kind v = pick (ask (eqb (lines s) d.straps))
        where
          l : frame_clock d.part d.straps (frame kind 1 0 0) s ≡ cond (eqb (lines s) d.straps) (frame kind 2 0 0) idle
          l = heads.strap d.part d.straps s second kind v p

          n : frame_clock d.part d.straps (frame kind 9 0 (address_over d.part 0 seven)) t ≡ cond (eqb (lines t) 0) (frame kind 10 0 (address_over d.part 0 seven)) idle
          n = heads.size d.part d.straps t tenth kind v p (address_over d.part 0 seven)

          pick : Answer (eqb (lines s) d.straps)
              → after (frame kind 1 0 0) ≡ cond (eqb (lines s) d.straps && eqb (lines t) 0) (frame kind 10 0 to) idle
          pick (no y) = rw (l, y) idles_on
          pick (yes y) = rw (p, l, y, to_nine kind v, n, address_of d.part a b c e f g h)

      fwh_ten : Ten (after (begun d.part (lines first)))
      unfolding begun all
      fwh_ten = pick (ask (eqb (lines first) 13)) (ask (eqb (lines first) 14))
        where
          pick : Answer (eqb (lines first) 13) → Answer (eqb (lines first) 14) → Ten (after (begun d.part (lines first)))
          pick (yes x) y = let i = eqb-true (lines first) 13 x in rw (p, i) (rw p at (fwh_kind 1 heads.reading))
          pick (no x) (yes y) = let i = eqb-true (lines first) 14 y in rw (p, i) (rw p at (fwh_kind 2 heads.writing))
          pick (no x) (no y) = rw (p, x, y) (rests_alone nine d.part d.straps k)

    -- LPC: the direction from clock 2 on, the address judged on clock 10
    module _ (p : is_lpc d.part ≡ true) where
      lpc_address : shifted d.part (address_over d.part 0 seven) (lines t) ≡ to
      lpc_address =
          let x = address_of d.part a b c e f g h in
          rw (p, x) (put_last d.part (seven_in headed) t p (omega arith))

      lpc_kind : (kind : ℕ) → heads.Kind kind
          → folded d.part d.straps (frame kind 2 0 0) (seven ++ (t ∷ [])) ≡ cond (is_chosen d.straps to) (frame kind 10 0 to) idle
      lpc_kind kind v =
          let n = heads.last d.part d.straps t tenth kind v (address_over d.part 0 seven) p in
          rw (to_nine kind v, n, lpc_address)

      lpc_ten : Ten (after (begun d.part (lines first)))
      unfolding begun all is_chosen
      lpc_ten = pick (ask (eqb (lines first) 0)) (ask (eqb (lines s / 2) 2)) (ask (eqb (lines s / 2) 3))
        where
          l : frame_clock d.part d.straps (frame 3 1 0 0) s ≡ cond (eqb (lines s / 2) 2) (frame 1 2 0 0) (cond (eqb (lines s / 2) 3) (frame 2 2 0 0) idle)
          l = heads.cycle d.part d.straps s second p

          pick : Answer (eqb (lines first) 0) → Answer (eqb (lines s / 2) 2) → Answer (eqb (lines s / 2) 3) → Ten (after (begun d.part (lines first)))
          pick (no z) x y = rw (p, z) (rests_alone nine d.part d.straps k)
          pick (yes z) (yes x) y = let i = eqb-true (lines s / 2) 2 x in rw (p, z, l, i) (rw p at (lpc_kind 1 heads.reading) ∙ chosen high pins (frame 1 10 0 eight) idle)
          pick (yes z) (no x) (yes y) = let i = eqb-true (lines s / 2) 3 y in rw (p, z, l, i) (rw p at (lpc_kind 2 heads.writing) ∙ chosen high pins (frame 2 10 0 eight) idle)
          pick (yes z) (no x) (no y) = rw (p, z, l, x, y) idles_on

    module _ (low : frame_line first ≡ 0) (up : is_reset first ≡ false) where
      pub ten_frame : Ten ten.device.frame
      ten_frame =
          from_first d image first nine low up k (omega arith)
          ∙ elim (ask (is_lpc d.part)) [ yes p ↦ lpc_ten p | no p ↦ fwh_ten p ]

      -- no frame is both
      not_both : ours 2 ≡ true → ours 1 ≡ false
      unfolding all
      not_both y = pick (ask (is_lpc d.part))
        where
          pick : Answer (is_lpc d.part) → ours 1 ≡ false
          pick (yes p) =
              let o : (eqb (lines first) 0 && (eqb (lines s / 2) 3 && (high && pins))) ≡ true = rw p at y in
              let i = eqb-true (lines s / 2) 3 (and_left (eqb (lines s / 2) 3) (high && pins) (and_right (eqb (lines first) 0) (eqb (lines s / 2) 3 && (high && pins)) o)) in
              rw (p, i) (and_false (eqb (lines first) 0))
          pick (no p) =
              let o : (eqb (lines first) 14 && (eqb (lines s) d.straps && eqb (lines t) 0)) ≡ true = rw p at y in
              let i = eqb-true (lines first) 14 (and_left (eqb (lines first) 14) (eqb (lines s) d.straps && eqb (lines t) 0) o) in
              rw (p, i)

      pub ten_write : ours 2 ≡ true → ten.device.frame ≡ frame 2 10 0 to
      ten_write y = ten_frame ∙ rw (not_both y, y)

      -- and what it drives then
      module _ (rest : List ℕ) (r : Calm rest) where
        abbrev whole : List ℕ
        whole = first ∷ (nine ++ rest)

        drives : driven_of (through rest ten).device.frame ≡ driven d.part d.straps whole (found whole (world d image))
        drives = pick (ask (ours 1)) (ask (ours 2))
          where
            n : length whole ≡ 10 + length rest
            n = omega arith

            pick : Answer (ours 1) → Answer (ours 2) → driven_of (through rest ten).device.frame ≡ driven d.part d.straps whole (found whole (world d image))
            pick (yes x) y = rw (x, n) (reads rest ten to r (rw x at ten_frame))
            pick (no x) (yes y) = rw (x, y, n) (writing_drives _ _ (writing rest ten 10 r (omega arith) (rw (rw (x, y) at ten_frame) (on refl refl (omega arith)))))
            pick (no x) (no y) = rw (x, y) (ap driven_of (rests rest ten (calm_high rest r) (rw (x, y) at ten_frame)) ∙ driven_idle)

pub frame_drives : FrameDrives
unfolding FrameDrives
frame_drives d image first others low e n =
    last_answer first others (world d image) ∙ pick others (head others) (calmly others e (up_others first others n))
  where
    up : is_reset first ≡ false
    up = up_first first others n

    pick : (ss : List ℕ) → Head ss → Calm ss → driven_of (through (first ∷ ss) (world d image)).device.frame ≡ driven d.part d.straps (first ∷ ss) (found (first ∷ ss) (world d image))
    pick ss (short _ l) k =
        let b = begun_clock d.part (lines first) in
        let c = folded_clock ss d.part d.straps (begun d.part (lines first)) k in
        ap driven_of (from_first d image first ss low up k (omega arith))
        ∙ early_undriven (folded d.part d.straps (begun d.part (lines first)) ss) (omega arith)
        ∙ sym (nothing_yet d.part d.straps (first ∷ ss) (found (first ∷ ss) (world d image)) (omega arith))
    pick _ (long s a b c e f g h t rest) k =
        let ss = s ∷ a ∷ b ∷ c ∷ e ∷ f ∷ g ∷ h ∷ t ∷ [] in
        drives d image first s a b c e f g h t (calm_front ss rest k) low up rest (calm_back ss rest k)

-- behind clock 12 of a write no other acts within n clocks: none comes to its clock 12, or this one still goes on
data Quiet (n : ℕ) (f : Frame) : Type 0 where
  writeless : broken.Writeless n f → Quiet n f
  behind : (c : ℕ) → 12 ≤ c → Writing c f → Quiet n f

behind_asked : (c : ℕ) (f : Frame) → 13 ≤ c → Writing c f → broken.is_written (asked_of f) ≡ false
unfolding asked_of
behind_asked c f h (on k e m) = rw (k, e, ne_eqb c 12 (λ x. omega arith))
behind_asked c f h (over k m) = rw k

module _ (w : World) (s n : ℕ) where
  abbrev Goes : Type 0
  Goes = (broken.writes w s ≡ false) × Quiet n (onward w s).device.frame

  goes_writeless : broken.Writeless n (broken.framed w s) → Goes
  goes_writeless k = (broken.writeless_writes n w s k, writeless (broken.writeless_onward n w s k))

  goes_behind : (c : ℕ) → 13 ≤ c → Writing c (broken.framed w s) → Goes
  unfolding broken.writes
  goes_behind c h k = pick (ask (is_reset s))
    where
      pick : Answer (is_reset s) → Goes
      pick (yes r) = rw r (refl, rw (reset_idle w s r) (writeless (broken.other refl)))
      pick (no r) = rw r (behind_asked c (broken.framed w s) h k, behind c (omega arith) (writing_alike c _ _ (framed_alike w s r) k))

  goes : n ≤ 10 → Quiet (suc n) w.device.frame → Goes
  goes h q = pick (ask (eqb (frame_line s) 0)) q
    where
      pick : Answer (eqb (frame_line s) 0) → Quiet (suc n) w.device.frame → Goes
      pick (yes l) q = goes_writeless (broken.writeless_low n w.device.part w.device.straps w.device.frame s (eqb-true _ _ l) h)
      pick (no l) (writeless k) = goes_writeless (broken.writeless_next n w.device.part w.device.straps w.device.frame s (high_line s l) k)
      pick (no l) (behind c m k) = goes_behind (c + 1) (omega arith) (writing_clock w.device.part w.device.straps c w.device.frame s (high_line s l) (omega arith) k)

settled : (ss : List ℕ) (w : World) → length ss ≤ 11 → Quiet (length ss) w.device.frame → broken.never broken.writes ss w ≡ true
settled [] w h q = refl
settled (s ∷ ss) w h q =
    let g = goes w s (length ss) (omega arith) q in rw g.0 (settled ss (onward w s) (omega arith) g.1)

-- a write takes its data on its clocks 11 and 12, and acts on 12
lower : (w : World) (s a : ℕ) → frame_line s ≡ 1 → is_reset s ≡ false → w.device.frame ≡ frame 2 10 0 a → (onward w s).device.frame ≡ frame 2 11 (lines s) a
unfolding onward device_clock served_of frame_clock next_of write_on asked_of
lower w s a l r e = rw (r, e, l)

module _ (w : World) (s byte a : ℕ) (l : frame_line s ≡ 1) (e : w.device.frame ≡ frame 2 11 (lines byte) a) where
  act_clock : broken.framed w s ≡ frame 2 12 (lines byte + 16 * lines s) a
  act_clock =
      let x : lines byte % 16 ≡ lines byte = omega arith in
      rw e (last_nibble w.device.part w.device.straps (lines byte) a s (rw l) ∙ ap (λ (n : ℕ). frame 2 12 (n + 16 * lines s) a) x)

  asks : asked_of (broken.framed w s) ≡ Write a (lines byte + 16 * lines s)
  asks = ap asked_of act_clock ∙ acts_on_12 (lines byte + 16 * lines s) a

  acts : is_reset s ≡ false → SameButForFrame (onward w s).device (reached_of (after_controller w.device) s a (lines byte + 16 * lines s)).after
  unfolding onward device_clock served_of
  acts r =
      rw (r, act_clock, acts_on_12 (lines byte + 16 * lines s) a)
      (reached_same (after_controller w.device) s a (lines byte + 16 * lines s) (frame 2 12 (lines byte + 16 * lines s) a))

  acts_behind : is_reset s ≡ false → Writing 12 (onward w s).device.frame
  acts_behind r = writing_alike 12 (onward w s).device.frame (broken.framed w s) (framed_alike w s r) (rw act_clock (on refl refl (omega arith)))

-- whatever comes behind it is as with the bus idle
silent_behind : (ss others : List ℕ) (w : World)
    → length others ≤ 11
    → Writing 12 (through ss w).device.frame
    → SameBehindTheBus (through (ss ++ others) w) (unheard others (through ss w))
silent_behind ss others w h k =
    rw (through_append ss others w)
    (unwritten others (through ss w) (settled others (through ss w) h (behind 12 (omega arith) k)))

pub write_acts : WriteActs
unfolding WriteActs
write_acts d image first others later low e n len own h =
    pick others (head others) (calmly others e (up_others first others n)) len own
  where
    up : is_reset first ≡ false
    up = up_first first others n

    Acts : List ℕ → Type 0
    Acts ss =
        (asked_of (broken.framed (through (take 11 ss) (world d image)) (get_or ss 11 0)) ≡ Write (address_in d.part ss) (data_in ss))
        × SameButForFrame (through ss (world d image)).device
        (reached_of (after_controller (through (take 11 ss) (world d image)).device) (get_or ss 11 0) (address_in d.part ss) (data_in ss)).after
        × SameBehindTheBus (through (ss ++ later) (world d image)) (unheard later (through ss (world d image)))

    pick : (ss : List ℕ) → Head ss → Calm ss → length ss ≡ 11 → is_for d.part d.straps 2 (first ∷ ss) ≡ true → Acts (first ∷ ss)
    pick ss (short _ l) k len own = absurd (omega arith)
    pick _ (long s a b c e f g i t []) k len own = absurd (omega arith)
    pick _ (long s a b c e f g i t (x ∷ [])) k len own = absurd (omega arith)
    pick _ (long s a b c e f g i t (x ∷ y ∷ z ∷ zs)) k len own = absurd (omega arith)
    pick _ (long s a b c e f g i t (x ∷ y ∷ [])) k len own =
        let ss = s ∷ a ∷ b ∷ c ∷ e ∷ f ∷ g ∷ i ∷ t ∷ [] in
        let w = through (first ∷ ss) (world d image) in
        let to = address_in d.part (first ∷ ss) in
        let p = ten_write d image first s a b c e f g i t (calm_front ss (x ∷ y ∷ []) k) low up own in
        let q = calm_back ss (x ∷ y ∷ []) k in
        let m = calm_others x (y ∷ []) q in
        let j = lower w x to (calm_line x (y ∷ []) q) (calm_up x (y ∷ []) q) p in (
          asks (onward w x) y x to (calm_line y [] m) j,
          acts (onward w x) y x to (calm_line y [] m) j (calm_up y [] m),
          silent_behind (first ∷ (ss ++ (x ∷ y ∷ []))) later (world d image) h (acts_behind (onward w x) y x to (calm_line y [] m) j (calm_up y [] m)),
        )
