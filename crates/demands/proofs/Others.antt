-- Frames that give no command: no write for this part, not yet at clock 12, or cut off by a reset: demand 2. Assumes
-- nothing.
use Prim.Native.Nat.{ℕ, zero, suc, ◌≤◌}
use mathlib.Core.Path.{◌≡◌, ◌∙◌, sym, refl}
use mathlib.Core.Bool.{Bool, true, false, cond}
use mathlib.Core.List.{List, [], ◌∷◌, ◌++◌}
use native.Mathlib.Omega.{arith}
use lib.Dec.{leb}
use lib.ListN.{length, take}
use borrow.Author.Tests.{leb-false}
use Rattle.basics.specs.All.{all}
use Rattle.basics.proofs.All.{none, also}
use Rattle.basics.proofs.Rules.{Answer, yes, no, ask, clash}
use Rattle.record.specs.declared.Device.{Device}
use Rattle.record.specs.Record.{frame, idle}
use Rattle.record.specs.Sample.{frame_line, is_reset}
use Rattle.clock.specs.Fold.{World, world, onward, through}
use Rattle.clock.proofs.Broken as broken
use Rattle.demands.specs.Demand2.{all_high, none_resets, address_in, is_for, OtherFramesGiveNothing}
use Rattle.demands.proofs.Frames.{high_first, high_others, reset_idle, unwritten, Calm, up_first, up_others, calmly, calm_high, calm_front, Head, short, long, head, ten_frame}

-- on none of the clocks a byte is written
abbrev Unwritten : List ℕ → World → Type 0
Unwritten ss w = broken.never broken.writes ss w ≡ true

unwritten_both : (ss ts : List ℕ) (w : World) → Unwritten ss w → Unwritten ts (through ss w) → Unwritten (ss ++ ts) w
unwritten_both [] ts w n m = m
unwritten_both (s ∷ ss) ts w n m =
    rw (broken.not_now broken.writes s ss w n)
    (unwritten_both ss ts (onward w s) (broken.not_later broken.writes s ss w n) m)

-- of samples with the frame line high some, and those behind them
high_some : (n : ℕ) (ss : List ℕ) → all_high ss ≡ true → all_high (take n ss) ≡ true
high_some zero ss e = refl
high_some (suc n) [] e = refl
high_some (suc n) (s ∷ ss) e = rw (high_first s ss e) (high_some n ss (high_others s ss e))

high_back : (ss ts : List ℕ) → all_high (ss ++ ts) ≡ true → all_high ts ≡ true
high_back [] ts e = e
high_back (s ∷ ss) ts e = high_back ss ts (high_others s (ss ++ ts) e)

-- where the frame line stays high: a frame that comes to no byte in time, and an idle bus
in_time : (ss : List ℕ) (w : World) → all_high ss ≡ true → broken.Writeless (length ss) w.device.frame → Unwritten ss w
in_time [] w e k = refl
in_time (s ∷ ss) w e k =
    let c = broken.writeless_next (length ss) w.device.part w.device.straps w.device.frame s (high_first s ss e) k in
    rw (broken.writeless_writes (length ss) w s c)
    (in_time ss (onward w s) (high_others s ss e) (broken.writeless_onward (length ss) w s c))

at_rest : (ss : List ℕ) (w : World) → all_high ss ≡ true → w.device.frame ≡ idle → Unwritten ss w
at_rest ss w e i = in_time ss w e (rw i (broken.other refl))

-- a reset writes nothing, and nothing is written from it on
unless_reset : (s : ℕ) (ss : List ℕ) (w : World)
    → all_high ss ≡ true
    → (is_reset s ≡ false → Unwritten (s ∷ ss) w)
    → Unwritten (s ∷ ss) w
unfolding broken.writes
unless_reset s ss w e f = elim (ask (is_reset s)) [ yes r ↦ rw r (at_rest ss (onward w s) e (reset_idle w s r)) | no r ↦ f r ]

-- a reset within n clocks and one more, of a frame that writes no byte within n
cut : (n : ℕ) (ss : List ℕ) (w : World)
    → all_high ss ≡ true
    → none_resets (take (suc n) ss) ≡ false
    → broken.Writeless n w.device.frame
    → Unwritten ss w
cut n [] w e r k = refl
cut zero (s ∷ ss) w e r k = unless_reset s ss w (high_others s ss e) (λ x. clash (sym (rw x at r)))
cut (suc n) (s ∷ ss) w e r k =
    let c = broken.writeless_next n w.device.part w.device.straps w.device.frame s (high_first s ss e) k in
    let o = high_others s ss e in
    let k = broken.writeless_onward n w s c in
    unless_reset s ss w o (λ x. rw (broken.writeless_writes n w s c) (cut n ss (onward w s) o (rw x at r) k))

-- a frame from its first sample on
module _ (w : World) (first : ℕ) (others : List ℕ) (low : frame_line first ≡ 0) (e : all_high others ≡ true) where
  starts : (n : ℕ) → broken.Writeless n (broken.framed w first) → Unwritten others (onward w first) → Unwritten (first ∷ others) w
  starts n k u = rw (broken.writeless_writes n w first k) u

  from_start : broken.Writeless (length others) (broken.framed w first) → Unwritten (first ∷ others) w
  from_start k = starts (length others) k (in_time others (onward w first) e (broken.writeless_onward (length others) w first k))

  -- it has not come to clock 12
  not_yet : length others ≤ 10 → Unwritten (first ∷ others) w
  not_yet h = from_start (broken.writeless_low (length others) w.device.part w.device.straps w.device.frame first low h)

  -- it is cut off by a reset, on clock 12 at the latest
  cut_off : none_resets (take 12 (first ∷ others)) ≡ false → Unwritten (first ∷ others) w
  cut_off r =
      let k = broken.writeless_low 10 w.device.part w.device.straps w.device.frame first low (omega arith) in
      unless_reset first others w e
      (λ x. starts 10 k (cut 10 others (onward w first) e (rw x at r) (broken.writeless_onward 10 w first k)))

-- a frame that is no write for this part: after its clock 10 it is a read, or none
module _ (d : Device) (image : List ℕ) (first : ℕ) (low : frame_line first ≡ 0) where
  for_another : (others : List ℕ)
      → Head others
      → all_high others ≡ true
      → none_resets (take 12 (first ∷ others)) ≡ true
      → is_for d.part d.straps 2 (first ∷ others) ≡ false
      → Unwritten (first ∷ others) (world d image)
  for_another others (short _ h) e n own = not_yet (world d image) first others low e (omega arith)
  for_another _ (long s a b c f g h i t rest) e n own =
      unwritten_both (first ∷ nine) rest (world d image) (not_yet (world d image) first nine low (calm_high nine k) (omega arith))
      (in_time rest ten (high_back nine rest e) (pick (ask (is_for d.part d.straps 1 (first ∷ nine)))))
    where
      nine : List ℕ
      nine = s ∷ a ∷ b ∷ c ∷ f ∷ g ∷ h ∷ i ∷ t ∷ []

      ten : World
      ten = through (first ∷ nine) (world d image)

      k : Calm nine
      k = calm_front nine (take 2 rest) (calmly (take 11 (nine ++ rest)) (high_some 11 (nine ++ rest) e) (up_others first (take 11 (nine ++ rest)) n))

      p : ten.device.frame
          ≡ cond (is_for d.part d.straps 1 (first ∷ nine)) (frame 1 10 0 (address_in d.part (first ∷ nine)))
          (cond (is_for d.part d.straps 2 (first ∷ nine)) (frame 2 10 0 (address_in d.part (first ∷ nine))) idle)
      p = ten_frame d image first s a b c f g h i t k low (up_first first (take 11 (nine ++ rest)) n)

      pick : Answer (is_for d.part d.straps 1 (first ∷ nine)) → broken.Writeless (length rest) ten.device.frame
      pick (yes x) = rw (rw x at p) (broken.other refl)
      pick (no x) = rw (rw (x, own) at p) (broken.other refl)

-- of three clauses that do not all hold the first does not, if the others do
not_first : (a b c : Bool) → all (a ∷ b ∷ c ∷ []) ≡ false → b ≡ true → c ≡ true → a ≡ false
not_first a b c n y z = elim (ask a) [ yes x ↦ clash (sym n ∙ also _ x (also _ y (also _ z none))) | no x ↦ x ]

pub other_frames : OtherFramesGiveNothing
unfolding OtherFramesGiveNothing
other_frames d image first others low e n =
    unwritten (first ∷ others) (world d image) (pick (ask (leb 12 (length (first ∷ others)))) (ask up))
  where
    up : Bool
    up = none_resets (take 12 (first ∷ others))

    pick : Answer (leb 12 (length (first ∷ others))) → Answer up → Unwritten (first ∷ others) (world d image)
    pick (no h) r =
        let l = leb-false 12 (length (first ∷ others)) h in not_yet (world d image) first others low e (omega arith)
    pick (yes h) (no r) = cut_off (world d image) first others low e r
    pick (yes h) (yes r) = for_another d image first low others (head others) e r (not_first _ _ _ n h r)
