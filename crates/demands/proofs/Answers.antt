-- The answer byte is 00h or 10h to 1Fh: a byte that is driven nibble by nibble is below 256, whichever place it is from.
-- Assumes nothing.
use Prim.Native.Nat.{ℕ, zero, suc, ◌+◌, ◌-◌, ◌*◌, ◌/◌, ◌%◌, ◌<◌}
use mathlib.Core.Path.{◌≡◌, ◌∙◌, sym, refl}
use mathlib.Core.Bool.{Bool, true, ◌&&◌, ◌||◌}
use mathlib.Core.List.{List, [], ◌∷◌, ◌++◌}
use native.Mathlib.Omega.{arith}
use Rattle.std.proofs.Common.{Option, Some, None}
use lib.Bits.{bit_and, and_le_l, or_lt}
use lib.Dec.{eqb, ltb, leb}
use lib.ListN.{get_or, set, take, drop, replicate}
use borrow.Author.Tests.{ltb-true, lt-ltb}
use Rattle.basics.proofs.Rules.{Answer, yes, no, ask, and_left, and_right, and_both}
use Rattle.basics.proofs.All.{holds}
use Rattle.basics.proofs.Table.{at}
use Rattle.record.specs.declared.Frame.{Frame}
use Rattle.record.specs.declared.Operation.{Operation}
use Rattle.record.specs.declared.Controller.{Controller}
use Rattle.record.specs.declared.Device.{Device}
use Rattle.record.specs.Record.{is_lpc, is_idle, is_read, is_write, is_begun, is_program, block_of}
use Rattle.record.specs.Sample.{lines, frame_line, is_reset}
use Rattle.part.specs.declared.Register.{Register}
use Rattle.part.specs.declared.Register.TheVariants.{Lock, Inputs, MakerCode, DeviceCode}
use Rattle.part.specs.Parts.{device_code}
use Rattle.part.specs.Registers.{register_at}
use Rattle.effect.specs.declared.Effect.TheVariants.{Program, Fill}
use Rattle.effect.specs.Effect.{applied}
use Rattle.status.specs.declared.Condition.{Condition}
use Rattle.status.specs.declared.Condition.TheVariants.{Ready, Running, Pausing, ProgramSuspended, EraseSuspended, ProgramInside}
use Rattle.status.specs.Status.{condition_of, condition_bits, status_of}
use Rattle.soundness.specs.Sound.{all_below}
use Rattle.operation.specs.Clock.{active, is_still, controller_clock}
use Rattle.operation.proofs.Due.{due, effect_due}
use Rattle.bus.specs.declared.Asked.{Asked}
use Rattle.bus.specs.declared.Asked.TheVariants.{Nothing as Silent, Read, Write}
use Rattle.bus.specs.Frames.{begun, shifted, headed, cycled, is_chosen, addressed, headed_lpc, read_on, write_on, next_of, frame_clock, asked_of, driven_of}
use Rattle.access.specs.Read.{is_array, array_address, lock_of, standing, register_value, signature_of, array_value, value_of}
use Rattle.access.specs.Write.{reached_of}
use Rattle.clock.specs.Clock.{with_frame, after_controller, answered_to, served_of, device_clock}
use Rattle.demands.specs.Demand2.{AnswerByte}
use Rattle.demands.proofs.Operations.{clocked_errors}

-- 00h or 10h to 1Fh
abbrev is_answer : ℕ → Bool
is_answer x = eqb x 0 || (leb 0x10 x && leb x 0x1F)

nibbled : (n : ℕ) → n < 16 → is_answer (0x10 + n) ≡ true
nibbled n h = sym (at (λ (i : ℕ). is_answer (0x10 + i)) 16 n true h) ∙ at (λ (i : ℕ). true) 16 n true h

driven : (f : Frame) → f.byte < 256 → is_answer (driven_of f) ≡ true
unfolding driven_of
driven f h = pick (ask (is_read f)) (ask (is_write f)) (ask (ltb f.clock 13)) (ask (ltb f.clock 15)) (ask (eqb f.clock 15)) (ask (eqb f.clock 16)) (ask (eqb f.clock 17))
  where
    pick : Answer (is_read f)
        → Answer (is_write f)
        → Answer (ltb f.clock 13)
        → Answer (ltb f.clock 15)
        → Answer (eqb f.clock 15)
        → Answer (eqb f.clock 16)
        → Answer (eqb f.clock 17)
        → is_answer (driven_of f) ≡ true
    pick (yes r) w (yes a) b c d e = rw (r, a)
    pick (yes r) w (no a) (yes b) c d e = rw (r, a, b)
    pick (yes r) w (no a) (no b) (yes c) d e = rw (r, a, b, c)
    pick (yes r) w (no a) (no b) (no c) (yes d) e = rw (r, a, b, c, d) (nibbled (f.byte % 16) (omega arith))
    pick (yes r) w (no a) (no b) (no c) (no d) (yes e) = rw (r, a, b, c, d, e) (nibbled (f.byte / 16) (omega arith))
    pick (yes r) w (no a) (no b) (no c) (no d) (no e) = rw (r, a, b, c, d, e)
    pick (no r) (no w) a b c d e = rw (r, w)
    pick (no r) (yes w) a b (yes c) d e = rw (r, w, c)
    pick (no r) (yes w) a b (no c) (yes d) e = rw (r, w, c, d)
    pick (no r) (yes w) a b (no c) (no d) e = rw (r, w, c, d)

-- the byte of a frame: 0, a nibble, two nibbles, or as it was
begun_byte : (part n : ℕ) → (begun part n).byte < 256
unfolding begun
begun_byte part n = pick (ask (is_lpc part)) (ask (eqb n 0)) (ask (eqb n 13)) (ask (eqb n 14))
  where
    pick : Answer (is_lpc part) → Answer (eqb n 0) → Answer (eqb n 13) → Answer (eqb n 14) → (begun part n).byte < 256
    pick (yes l) (yes z) a b = rw (l, z) (omega arith)
    pick (yes l) (no z) a b = rw (l, z) (omega arith)
    pick (no l) z (yes a) b = rw (l, a) (omega arith)
    pick (no l) z (no a) (yes b) = rw (l, a, b) (omega arith)
    pick (no l) z (no a) (no b) = rw (l, a, b) (omega arith)

headed_byte : (straps : ℕ) (f : Frame) (n : ℕ) → (headed straps f n).byte < 256
unfolding headed
headed_byte straps f n = pick (ask (eqb f.clock 1)) (ask (eqb n straps)) (ask (ltb f.clock 9)) (ask (eqb n 0))
  where
    pick : Answer (eqb f.clock 1) → Answer (eqb n straps) → Answer (ltb f.clock 9) → Answer (eqb n 0) → (headed straps f n).byte < 256
    pick (yes a) (yes b) c d = rw (a, b) (omega arith)
    pick (yes a) (no b) c d = rw (a, b) (omega arith)
    pick (no a) b (yes c) d = rw (a, c) (omega arith)
    pick (no a) b (no c) (yes d) = rw (a, c, d) (omega arith)
    pick (no a) b (no c) (no d) = rw (a, c, d) (omega arith)

headed_lpc_byte : (straps : ℕ) (f : Frame) (n : ℕ) → (headed_lpc straps f n).byte < 256
unfolding headed_lpc cycled addressed
headed_lpc_byte straps f n = pick (ask (is_begun f)) (ask (eqb (n / 2) 2)) (ask (eqb (n / 2) 3)) (ask (ltb f.clock 9)) (ask (is_chosen straps (shifted 1 f.address n)))
  where
    pick : Answer (is_begun f) → Answer (eqb (n / 2) 2) → Answer (eqb (n / 2) 3) → Answer (ltb f.clock 9) → Answer (is_chosen straps (shifted 1 f.address n)) → (headed_lpc straps f n).byte < 256
    pick (yes g) (yes a) b c d = rw (g, a) (omega arith)
    pick (yes g) (no a) (yes b) c d = rw (g, a, b) (omega arith)
    pick (yes g) (no a) (no b) c d = rw (g, a, b) (omega arith)
    pick (no g) a b (yes c) d = rw (g, c) (omega arith)
    pick (no g) a b (no c) (yes d) = rw (g, c, d) (omega arith)
    pick (no g) a b (no c) (no d) = rw (g, c, d) (omega arith)

read_byte : (f : Frame) → f.byte < 256 → (read_on f).byte < 256
unfolding read_on
read_byte f h = pick (ask (ltb f.clock 18))
  where
    pick : Answer (ltb f.clock 18) → (read_on f).byte < 256
    pick (yes a) = rw a h
    pick (no a) = rw a (omega arith)

write_byte : (f : Frame) (n : ℕ) → n < 16 → f.byte < 256 → (write_on f n).byte < 256
unfolding write_on
write_byte f n l h = pick (ask (eqb f.clock 10)) (ask (eqb f.clock 11)) (ask (ltb f.clock 16))
  where
    pick : Answer (eqb f.clock 10) → Answer (eqb f.clock 11) → Answer (ltb f.clock 16) → (write_on f n).byte < 256
    pick (yes a) b c = rw a (omega arith)
    pick (no a) (yes b) c = rw (a, b) (omega arith)
    pick (no a) (no b) (yes c) = rw (a, b, c) h
    pick (no a) (no b) (no c) = rw (a, b, c) (omega arith)

frame_byte : (part straps : ℕ) (f : Frame) (s : ℕ) → f.byte < 256 → (frame_clock part straps f s).byte < 256
unfolding frame_clock next_of
frame_byte part straps f s h = pick (ask (eqb (frame_line s) 0)) (ask (is_idle f)) (ask (ltb f.clock 10)) (ask (is_lpc part)) (ask (is_read f))
  where
    pick : Answer (eqb (frame_line s) 0) → Answer (is_idle f) → Answer (ltb f.clock 10) → Answer (is_lpc part) → Answer (is_read f) → (frame_clock part straps f s).byte < 256
    pick (yes a) b c l d = rw a (begun_byte part (lines s))
    pick (no a) (yes b) c l d = rw (a, b) h
    pick (no a) (no b) (yes c) (yes l) d = rw (a, b, c, l) (headed_lpc_byte straps f (lines s))
    pick (no a) (no b) (yes c) (no l) d = rw (a, b, c, l) (headed_byte straps f (lines s))
    pick (no a) (no b) (no c) l (yes d) = rw (a, b, c, d) (read_byte f h)
    pick (no a) (no b) (no c) l (no d) = rw (a, b, c, d) (write_byte f (lines s) (omega arith) h)

-- lists of bytes
below_at : (xs : List ℕ) (i : ℕ) → all_below 256 xs ≡ true → get_or xs i 0 < 256
below_at [] i e = omega arith
below_at (x ∷ xs) zero e = ltb-true x 256 (and_left (ltb x 256) (all_below 256 xs) e)
below_at (x ∷ xs) (suc i) e = below_at xs i (and_right (ltb x 256) (all_below 256 xs) e)

below_set : (xs : List ℕ) (i v : ℕ) → all_below 256 xs ≡ true → v < 256 → all_below 256 (set xs i v) ≡ true
below_set [] i v e h = refl
below_set (x ∷ xs) zero v e h = and_both (ltb v 256) (all_below 256 xs) (lt-ltb v 256 h) (and_right (ltb x 256) (all_below 256 xs) e)
below_set (x ∷ xs) (suc i) v e h =
    and_both (ltb x 256) (all_below 256 (set xs i v)) (and_left (ltb x 256) (all_below 256 xs) e) (below_set xs i v (and_right (ltb x 256) (all_below 256 xs) e) h)

below_take : (n : ℕ) (xs : List ℕ) → all_below 256 xs ≡ true → all_below 256 (take n xs) ≡ true
below_take zero xs e = refl
below_take (suc n) [] e = refl
below_take (suc n) (x ∷ xs) e =
    and_both (ltb x 256) (all_below 256 (take n xs)) (and_left (ltb x 256) (all_below 256 xs) e) (below_take n xs (and_right (ltb x 256) (all_below 256 xs) e))

below_drop : (n : ℕ) (xs : List ℕ) → all_below 256 xs ≡ true → all_below 256 (drop n xs) ≡ true
below_drop zero xs e = e
below_drop (suc n) [] e = refl
below_drop (suc n) (x ∷ xs) e = below_drop n xs (and_right (ltb x 256) (all_below 256 xs) e)

below_append : (xs ys : List ℕ) → all_below 256 xs ≡ true → all_below 256 ys ≡ true → all_below 256 (xs ++ ys) ≡ true
below_append [] ys e f = f
below_append (x ∷ xs) ys e f =
    and_both (ltb x 256) (all_below 256 (xs ++ ys)) (and_left (ltb x 256) (all_below 256 xs) e) (below_append xs ys (and_right (ltb x 256) (all_below 256 xs) e) f)

below_replicate : (n v : ℕ) → v < 256 → all_below 256 (replicate n v) ≡ true
below_replicate zero v h = refl
below_replicate (suc n) v h = and_both (ltb v 256) (all_below 256 (replicate n v)) (lt-ltb v 256 h) (below_replicate n v h)

-- the image after the controller's part of a clock
module _ (image : List ℕ) (e : all_below 256 image ≡ true) where
  below_programmed : (a v : ℕ) → all_below 256 (applied (Program a v) image) ≡ true
  below_programmed a v =
      let h = below_at image a e in
      let l = and_le_l (get_or image a 0) v in
      below_set image a (bit_and (get_or image a 0) v) e (omega arith)

  below_filled : (s n : ℕ) → all_below 256 (applied (Fill s n 255) image) ≡ true
  below_filled s n =
      below_append (take s image ++ replicate n 255) (drop (s + n) image)
      (below_append (take s image) (replicate n 255) (below_take s image e) (below_replicate n 255 (omega arith)))
      (below_drop (s + n) image e)

  below_due : (o : Operation) → all_below 256 (applied (due o) image) ≡ true
  below_due o = pick (ask (ltb 1 o.left.0)) (ask (is_program o))
    where
      pick : Answer (ltb 1 o.left.0) → Answer (is_program o) → all_below 256 (applied (due o) image) ≡ true
      pick (yes l) p = rw l e
      pick (no l) (yes p) = rw (l, p) (below_programmed o.address o.«data»)
      pick (no l) (no p) = rw (l, p) (below_filled (block_of o.address * 65536 + (256 - o.slices) * 256) 256)

  below_after : (c : Controller) → all_below 256 (applied (controller_clock c).effect image) ≡ true
  unfolding controller_clock
  below_after c = pick (ask (is_still (active c)))
    where
      pick : Answer (is_still (active c)) → all_below 256 (applied (controller_clock c).effect image) ≡ true
      pick (yes m) = rw m e
      pick (no m) = rw (m, effect_due (active c)) (below_due (active c))

-- what a read finds
condition_below : (k : Condition) → condition_bits k < 256
condition_below Ready = omega arith
condition_below Running = omega arith
condition_below Pausing = omega arith
condition_below ProgramSuspended = omega arith
condition_below EraseSuspended = omega arith
condition_below ProgramInside = omega arith

status_below : (c : Controller) → c.errors < 256 → status_of c < 256
unfolding status_of
status_below c h = or_lt 8 c.errors (condition_bits (condition_of c)) h (condition_below (condition_of c))

standing_below : (locks : List ℕ) (s : ℕ) (r : Option Register) → all_below 256 locks ≡ true → s < 65536 → standing locks s r < 256
standing_below locks s (Some (Lock b)) e h = below_at locks b e
standing_below locks s (Some Inputs) e h = omega arith
standing_below locks s (Some MakerCode) e h = omega arith
standing_below locks s (Some DeviceCode) e h = omega arith
standing_below locks s None e h = omega arith

signature_below : (part a : ℕ) → signature_of part a < 256
unfolding signature_of device_code
signature_below part a = pick (ask (eqb a 0)) (ask (eqb a 1)) (ask (is_lpc part))
  where
    pick : Answer (eqb a 0) → Answer (eqb a 1) → Answer (is_lpc part) → signature_of part a < 256
    pick (yes x) y l = rw x (omega arith)
    pick (no x) (yes y) (yes l) = rw (x, y, l) (omega arith)
    pick (no x) (yes y) (no l) = rw (x, y, l) (omega arith)
    pick (no x) (no y) l = rw (x, y) (omega arith)

array_below : (part : ℕ) (c : Controller) (lock a byte : ℕ) → c.errors < 256 → byte < 256 → array_value part c lock a byte < 256
unfolding array_value
array_below part c lock a byte e h = pick (ask (eqb c.mode 0)) (ask (eqb (lock / 4 % 2) 1)) (ask (eqb c.mode 1))
  where
    pick : Answer (eqb c.mode 0) → Answer (eqb (lock / 4 % 2) 1) → Answer (eqb c.mode 1) → array_value part c lock a byte < 256
    pick (yes m) (yes l) n = rw (m, l) (omega arith)
    pick (yes m) (no l) n = rw (m, l) h
    pick (no m) l (yes n) = rw (m, n) (status_below c e)
    pick (no m) l (no n) = rw (m, n) (signature_below part a)

value_below : (d : Device) (s a byte : ℕ)
    → all_below 256 d.locks ≡ true
    → d.controller.errors < 256
    → s < 65536
    → byte < 256
    → value_of d s a byte < 256
unfolding value_of register_value
value_below d s a byte l e h b = pick (ask (is_array a))
  where
    pick : Answer (is_array a) → value_of d s a byte < 256
    pick (yes x) = rw x (array_below d.part d.controller (lock_of d.locks (array_address a)) (array_address a) byte e b)
    pick (no x) = rw x (standing_below d.locks s (register_at d.part d.straps a) l h)

reached_frame : (d : Device) (s a byte : ℕ) → (reached_of d s a byte).after.frame ≡ d.frame
unfolding reached_of
reached_frame d s a byte = elim (ask (is_array a)) [ yes x ↦ rw x | no x ↦ rw x ]

-- the frame's byte behind the bus
module _ (d : Device) (image : List ℕ) (s : ℕ)
    (l : all_below 256 d.locks ≡ true)
    (e : d.controller.errors < 256)
    (i : all_below 256 image ≡ true)
    (h : s < 65536)
  where
    answered_byte : (a : Asked) → d.frame.byte < 256 → (answered_to a d image s).after.frame.byte < 256
    answered_byte Silent f = f
    answered_byte (Read address) f = value_below d s address (get_or image (array_address address) 0) l e h (below_at image (array_address address) i)
    answered_byte (Write address byte) f = rw (reached_frame d s address byte) f

pub answer_byte : AnswerByte
unfolding AnswerByte device_clock served_of
answer_byte d image sample w = pick (ask (is_reset sample))
  where
    errors : (controller_clock d.controller).after.errors < 256
    errors = rw (clocked_errors d.controller) (ltb-true d.controller.errors 256 (holds _ 2 w))

    pick : Answer (is_reset sample) → is_answer (device_clock d image sample).answer ≡ true
    pick (yes r) = rw r
    pick (no r) =
        rw r
        (driven _
        (answered_byte (with_frame (after_controller d) (frame_clock d.part d.straps d.frame sample)) (applied (controller_clock d.controller).effect image) sample
        (holds _ 1 w) errors (below_after image (holds _ 3 w) d.controller) (ltb-true sample 65536 (holds _ 4 w))
        (asked_of (frame_clock d.part d.straps d.frame sample))
        (frame_byte d.part d.straps d.frame sample (ltb-true d.frame.byte 256 (holds _ 0 w)))))
