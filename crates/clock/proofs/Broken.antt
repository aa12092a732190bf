-- A frame that is broken off before its last data nibble gives no command: but for the frame, all is as on the same
-- clocks with the bus idle. Of every device, sound or not. Assumes nothing.
use Rattle.std.proofs.lemmas.Bool.Decides.{nat_tests}
use mathlib.Core.Path.{◌≡◌, ◌∙◌, sym, refl, ap}
use mathlib.Core.Bool.{Bool, true, false, cond, not, ◌&&◌, ◌||◌}
use mathlib.Core.List.{List, [], ◌∷◌, ◌++◌, map}
use Prim.Native.Nat.{ℕ, suc, ◌+◌, ◌/◌, ◌≤◌}
use native.Mathlib.Omega.{arith}
use lib.Dec.{eqb, ltb}
use lib.ListN.{length, get_or}
use borrow.Author.Tests.{eqb-true, not-true}
use Rattle.basics.proofs.Rules.{Answer, yes, no, ask, clash, and_left, and_right}
use Rattle.record.specs.declared.Frame.{Frame}
use Rattle.record.specs.declared.Device.{Device}
use Rattle.record.specs.Record.{is_lpc, frame, idle, is_idle, is_read, is_write, is_begun}
use Rattle.record.specs.Sample.{lines, frame_line, is_reset}
use Rattle.effect.specs.Effect.{applied}
use Rattle.operation.specs.Clock.{controller_clock}
use Rattle.bus.specs.declared.Asked.{Asked}
use Rattle.bus.specs.declared.Asked.TheVariants.{Nothing as Silent, Read, Write}
use Rattle.bus.specs.Frames.{begun, headed, cycled, addressed, headed_lpc, read_on, write_on, next_of, frame_clock, asked_of}
use Rattle.clock.specs.Clock.{reset_device, with_frame, answered_to, served_of, after_controller, image_after, device_clock}
use Rattle.clock.specs.Fold.{World, world, onward, through}
use Rattle.clock.proofs.Fixed.{fixed_onward}

-- one of two
or_left : (a b : Bool) → a ≡ true → (a || b) ≡ true
or_left a b e = rw e

or_right : (a b : Bool) → b ≡ true → (a || b) ≡ true
or_right true b e = refl
or_right false b e = e

-- the sample with its frame line high
unfoldable pub raised : ℕ → ℕ
raised sample = cond (eqb (frame_line sample) 0) (sample + 16) sample

-- the frame line is high on each of the samples
abbrev pub high : List ℕ → Bool
high [] = true
high (s ∷ ss) = eqb (frame_line s) 1 && high ss

-- a frame is a read: on FWH by its first nibble, on LPC by the cycle type on its second clock
abbrev pub is_reading : ℕ → ℕ → List ℕ → Bool
is_reading part first others = cond (is_lpc part) (eqb (lines (get_or others 0 0) / 2) 2) (eqb (lines first) 13)

-- samples on which a frame is broken off before its last data nibble: the frame line is low where it begins, then
-- high, and low again, on clock 12 at the latest; on any clock for a read, which gives no command at all
pub data BrokenOff (part : ℕ) : List ℕ → Type 0 where
  early : (first : ℕ) (others : List ℕ) (last : ℕ)
      → frame_line first ≡ 0
      → high others ≡ true
      → length others ≤ 10
      → frame_line last ≡ 0
      → BrokenOff part (first ∷ (others ++ (last ∷ [])))
  reading : (first : ℕ) (others : List ℕ) (last : ℕ)
      → frame_line first ≡ 0
      → is_reading part first others ≡ true
      → high others ≡ true
      → frame_line last ≡ 0
      → BrokenOff part (first ∷ (others ++ (last ∷ [])))

-- the frame is a write, or may become one
abbrev pub may_write : Frame → Bool
may_write f = is_write f || is_begun f

-- within n clocks more the frame writes no byte: it does not come to clock 12, or is no write
pub data Writeless (n : ℕ) (f : Frame) : Type 0 where
  before : f.clock + n ≤ 11 → Writeless n f
  other : may_write f ≡ false → Writeless n f

-- the world with its bus idle
abbrev pub silenced : World → World
silenced w = world (with_frame w.device idle) w.image

-- a byte is to be written
abbrev pub is_written : Asked → Bool
is_written Silent = false
is_written (Read address) = false
is_written (Write address byte) = true

-- a byte is written on the clock of this sample
unfoldable pub writes : World → ℕ → Bool
writes w sample =
    cond (is_reset sample) false (is_written (asked_of (frame_clock w.device.part w.device.straps w.device.frame sample)))

-- what is tested for happens on none of the clocks
abbrev pub never : (World → ℕ → Bool) → List ℕ → World → Bool
never test [] w = true
never test (s ∷ ss) w = not (test w s) && never test ss (onward w s)

module _ (test : World → ℕ → Bool) (s : ℕ) (ss : List ℕ) (w : World) (e : never test (s ∷ ss) w ≡ true) where
  pub not_now : test w s ≡ false
  not_now = not-true (test w s) (and_left (not (test w s)) (never test ss (onward w s)) e)

  pub not_later : never test ss (onward w s) ≡ true
  not_later = and_right (not (test w s)) (never test ss (onward w s)) e

-- a raised sample resets where the sample does, and its frame line is high
raised_reset : (s : ℕ) → is_reset (raised s) ≡ is_reset s
unfolding raised is_reset
raised_reset s = grind (arith, nat_tests)

raised_high : (s : ℕ) → eqb (frame_line (raised s)) 0 ≡ false
unfolding raised
raised_high s = grind (arith, nat_tests)

-- an idle bus stays idle
stays : (part straps s : ℕ) → frame_clock part straps idle (raised s) ≡ idle
unfolding frame_clock
stays part straps s = rw (raised_high s)

-- the frame after the bus's clock
abbrev pub framed : World → ℕ → Frame
framed w s = frame_clock w.device.part w.device.straps w.device.frame s

-- but for the frame, a clock on which no byte is written is one with the bus idle
answered_silent : (a : Asked) (d : Device) (image : List ℕ) (s : ℕ)
    → is_written a ≡ false
    → with_frame (answered_to a d image s).after idle ≡ with_frame d idle
answered_silent Silent d image s e = refl
answered_silent (Read address) d image s e = refl
answered_silent (Write address byte) d image s e = clash (sym e)

pub unheard_once : (w : World) (s : ℕ) → writes w s ≡ false → silenced (onward w s) ≡ onward (silenced w) (raised s)
unfolding onward device_clock image_after reset_device served_of writes asked_of
unheard_once w s = pick (ask (is_reset s))
  where
    pick : Answer (is_reset s) → writes w s ≡ false → silenced (onward w s) ≡ onward (silenced w) (raised s)
    pick (yes a) e = rw (raised_reset s, a)
    pick (no a) e =
        rw (raised_reset s, a, stays w.device.part w.device.straps s)
        (ap (λ (d : Device). world d (applied (controller_clock w.device.controller).effect w.image))
        (answered_silent (asked_of (framed w s)) (with_frame (after_controller w.device) (framed w s)) _ s (rw a at e)))

pub unheard : (ss : List ℕ) (w : World) → never writes ss w ≡ true → silenced (through ss w) ≡ through (map raised ss) (silenced w)
unheard [] w e = refl
unheard (s ∷ ss) w e =
    unheard ss (onward w s) (not_later writes s ss w e)
    ∙ ap (through (map raised ss)) (unheard_once w s (not_now writes s ss w e))

-- where the frame line is high, the frame goes one clock on at most, and its kind stays, or the bus is idle
pub record Follows (f g : Frame) : Type 0 where
  pub clock : g.clock ≤ f.clock + 1
  pub kind : may_write f ≡ false → may_write g ≡ false

goes : (f : Frame) (c b a : ℕ) → c ≤ f.clock + 1 → Follows f (frame f.kind c b a)
goes f c b a h = record { clock = h; kind = λ e. e }

stops : (f : Frame) → Follows f idle
stops f = record { clock = omega arith; kind = λ e. refl }

headed_follows : (straps : ℕ) (f : Frame) (n : ℕ) → Follows f (headed straps f n)
unfolding headed
headed_follows straps f n = grind (arith, nat_tests)

-- LPC's head, of a frame that is there
cycled_follows : (f : Frame) (n : ℕ) → is_begun f ≡ true → Follows f (cycled f n)
unfolding cycled
cycled_follows f n g = grind (arith, nat_tests)

addressed_follows : (straps : ℕ) (f : Frame) (a : ℕ) → Follows f (addressed straps f a)
unfolding addressed
addressed_follows straps f a = grind (arith, nat_tests)

headed_lpc_follows : (straps : ℕ) (f : Frame) (n : ℕ) → Follows f (headed_lpc straps f n)
unfolding headed_lpc
headed_lpc_follows straps f n = pick (ask (is_begun f))
  where
    pick : Answer (is_begun f) → Follows f (headed_lpc straps f n)
    pick (yes g) = rw g (cycled_follows f n g)
    pick (no g) = rw g (addressed_follows straps f _)

read_follows : (f : Frame) → Follows f (read_on f)
unfolding read_on
read_follows f = grind (arith, nat_tests)

write_follows : (f : Frame) (n : ℕ) → Follows f (write_on f n)
unfolding write_on
write_follows f n = grind (arith, nat_tests)

pub follows : (part straps : ℕ) (f : Frame) (s : ℕ) → frame_line s ≡ 1 → Follows f (frame_clock part straps f s)
unfolding frame_clock next_of
follows part straps f s e = pick (ask (is_idle f)) (ask (ltb f.clock 10)) (ask (is_lpc part)) (ask (is_read f))
  where
    pick : Answer (is_idle f) → Answer (ltb f.clock 10) → Answer (is_lpc part) → Answer (is_read f) → Follows f (frame_clock part straps f s)
    pick (yes b) c l d = rw (e, b) (goes f f.clock _ _ (omega arith))
    pick (no b) (yes c) (yes l) d = rw (e, b, c, l) (headed_lpc_follows straps f (lines s))
    pick (no b) (yes c) (no l) d = rw (e, b, c, l) (headed_follows straps f (lines s))
    pick (no b) (no c) l (yes d) = rw (e, b, c, d) (read_follows f)
    pick (no b) (no c) l (no d) = rw (e, b, c, d) (write_follows f (lines s))

pub writeless_next : (n part straps : ℕ) (f : Frame) (s : ℕ) → frame_line s ≡ 1 → Writeless (suc n) f → Writeless n (frame_clock part straps f s)
writeless_next n part straps f s e (before h) = let q = follows part straps f s e in before (omega arith)
writeless_next n part straps f s e (other h) = other ((follows part straps f s e).kind h)

-- where the frame line is low, a frame is at clock 1 at most
begun_writeless : (n part nibble : ℕ) → n ≤ 10 → Writeless n (begun part nibble)
unfolding begun
begun_writeless n part nibble h = grind (arith, nat_tests)

pub writeless_low : (n part straps : ℕ) (f : Frame) (s : ℕ) → frame_line s ≡ 0 → n ≤ 10 → Writeless n (frame_clock part straps f s)
unfolding frame_clock
writeless_low n part straps f s e h = rw e (begun_writeless n part (lines s) h)

-- a read is none that writes: on FWH from its first clock on, on LPC from its second
writeless_read : (n part straps : ℕ) (f : Frame) (s : ℕ) → is_lpc part ≡ false → frame_line s ≡ 0 → eqb (lines s) 13 ≡ true → Writeless n (frame_clock part straps f s)
unfolding frame_clock begun
writeless_read n part straps f s l e h = rw (e, l, h) (other refl)

-- a byte is written on clock 12 of a write
writeless_asked : (n : ℕ) (f : Frame) → Writeless n f → is_written (asked_of f) ≡ false
unfolding asked_of
writeless_asked n f = grind (arith, nat_tests)

pub writeless_writes : (n : ℕ) (w : World) (s : ℕ) → Writeless n (framed w s) → writes w s ≡ false
unfolding writes
writeless_writes n w s k = pick (ask (is_reset s))
  where
    pick : Answer (is_reset s) → writes w s ≡ false
    pick (yes a) = rw a
    pick (no a) = rw a (writeless_asked n (framed w s) k)

-- the rest of a clock leaves kind and clock of the frame, or drops the frame
answered_writeless : (n : ℕ) (a : Asked) (d : Device) (image : List ℕ) (s : ℕ)
    → Writeless n d.frame
    → is_written a ≡ false
    → Writeless n (answered_to a d image s).after.frame
answered_writeless n Silent d image s k e = k
answered_writeless n (Read address) d image s (before h) e = before h
answered_writeless n (Read address) d image s (other h) e = other h
answered_writeless n (Write address byte) d image s k e = clash (sym e)

pub writeless_onward : (n : ℕ) (w : World) (s : ℕ) → Writeless n (framed w s) → Writeless n (onward w s).device.frame
unfolding onward device_clock reset_device served_of
writeless_onward n w s k = pick (ask (is_reset s))
  where
    pick : Answer (is_reset s) → Writeless n (onward w s).device.frame
    pick (yes a) = rw a (other refl)
    pick (no a) =
        rw a
        (answered_writeless n (asked_of (framed w s)) (with_frame (after_controller w.device) (framed w s)) _ s k (writeless_asked n (framed w s) k))

-- no byte is written: from a frame in progress, and from its first clock on
pub unwritten_on : (hs : List ℕ) (t : ℕ) (w : World)
    → Writeless (length hs) w.device.frame
    → high hs ≡ true
    → frame_line t ≡ 0
    → never writes (hs ++ (t ∷ [])) w ≡ true
unwritten_on [] t w k e f = rw (writeless_writes 0 w t (writeless_low 0 w.device.part w.device.straps w.device.frame t f (omega arith)))
unwritten_on (h ∷ hs) t w k e f =
    let a = eqb-true (frame_line h) 1 (and_left (eqb (frame_line h) 1) (high hs) e) in
    let c = writeless_next (length hs) w.device.part w.device.straps w.device.frame h a k in
    rw (writeless_writes (length hs) w h c)
    (unwritten_on hs t (onward w h) (writeless_onward (length hs) w h c) (and_right (eqb (frame_line h) 1) (high hs) e) f)

begins : (s : ℕ) (hs : List ℕ) (t : ℕ) (w : World)
    → Writeless (length hs) (framed w s)
    → high hs ≡ true
    → frame_line t ≡ 0
    → never writes (s ∷ (hs ++ (t ∷ []))) w ≡ true
begins s hs t w c e f =
    rw (writeless_writes (length hs) w s c) (unwritten_on hs t (onward w s) (writeless_onward (length hs) w s c) e f)

-- an LPC frame after its first clock: its direction is not known yet, or there is none that writes
data Opened (f : Frame) : Type 0 where
  waiting : f ≡ frame 3 1 0 0 → Opened f
  writing_not : may_write f ≡ false → Opened f

begun_opened : (part n : ℕ) → is_lpc part ≡ true → Opened (begun part n) × (asked_of (begun part n) ≡ Silent)
unfolding begun asked_of
begun_opened part n l =
    elim (ask (eqb n 0)) [ yes z ↦ rw (l, z) (waiting refl, refl) | no z ↦ rw (l, z) (writing_not refl, refl) ]

opened_onward : (w : World) (s : ℕ) → is_lpc w.device.part ≡ true → frame_line s ≡ 0 → Opened (onward w s).device.frame
unfolding onward device_clock reset_device served_of frame_clock
opened_onward w s l e = pick (ask (is_reset s))
  where
    pick : Answer (is_reset s) → Opened (onward w s).device.frame
    pick (yes a) = rw a (writing_not refl)
    pick (no a) = let o = begun_opened w.device.part (lines s) l in rw (a, e, o.1) o.0

-- a cycle type that reads
opened_reads : (n part straps : ℕ) (f : Frame) (s : ℕ)
    → is_lpc part ≡ true
    → frame_line s ≡ 1
    → eqb (lines s / 2) 2 ≡ true
    → Opened f
    → Writeless n (frame_clock part straps f s)
unfolding frame_clock next_of headed_lpc cycled
opened_reads n part straps f s l e t (waiting o) = rw (o, e, l, t) (other refl)
opened_reads n part straps f s l e t (writing_not m) = other ((follows part straps f s e).kind m)

lpc_reading : (s : ℕ) (hs : List ℕ) (t : ℕ) (w : World)
    → is_lpc w.device.part ≡ true
    → frame_line s ≡ 0
    → eqb (lines (get_or hs 0 0) / 2) 2 ≡ true
    → high hs ≡ true
    → frame_line t ≡ 0
    → never writes (s ∷ (hs ++ (t ∷ []))) w ≡ true
lpc_reading s [] t w l b r e f = clash r
lpc_reading s (h ∷ hs) t w l b r e f =
    let v = onward w s in
    let p = (fixed_onward w s).part in
    let a = eqb-true (frame_line h) 1 (and_left (eqb (frame_line h) 1) (high hs) e) in
    let k = opened_reads (length hs) v.device.part v.device.straps v.device.frame h (ap is_lpc p ∙ l) a r (opened_onward w s l b) in
    rw (writeless_writes 0 w s (writeless_low 0 w.device.part w.device.straps w.device.frame s b (omega arith)))
    (begins h hs t v k (and_right (eqb (frame_line h) 1) (high hs) e) f)

pub unwritten : (ss : List ℕ) (w : World) → BrokenOff w.device.part ss → never writes ss w ≡ true
unwritten ss w (early s hs t b e l f) = begins s hs t w (writeless_low (length hs) w.device.part w.device.straps w.device.frame s b l) e f
unwritten ss w (reading s hs t b r e f) = pick (ask (is_lpc w.device.part))
  where
    pick : Answer (is_lpc w.device.part) → never writes (s ∷ (hs ++ (t ∷ []))) w ≡ true
    pick (yes l) = lpc_reading s hs t w l b (rw l at r) e f
    pick (no l) = begins s hs t w (writeless_read (length hs) w.device.part w.device.straps w.device.frame s l b (rw l at r)) e f

-- but for the frame, the world is as with the bus idle: from a frame in progress, and from its first clock on
pub broken_on : (hs : List ℕ) (t : ℕ) (w : World)
    → Writeless (length hs) w.device.frame
    → high hs ≡ true
    → frame_line t ≡ 0
    → silenced (through (hs ++ (t ∷ [])) w) ≡ through (map raised (hs ++ (t ∷ []))) (silenced w)
broken_on hs t w k e f = unheard (hs ++ (t ∷ [])) w (unwritten_on hs t w k e f)

pub broken : (ss : List ℕ) (w : World) → BrokenOff w.device.part ss → silenced (through ss w) ≡ through (map raised ss) (silenced w)
broken ss w b = unheard ss w (unwritten ss w b)
