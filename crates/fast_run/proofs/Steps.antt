-- The steps of the bus alone and of a stretch, each from a place where the controller is n clocks behind. Assumes nothing.
use mathlib.Core.Path.{◌≡◌, ◌∙◌, sym, refl, ap}
use mathlib.Core.Bool.{true, false}
use mathlib.Core.List.{List, [], ◌∷◌}
use Prim.Native.Nat.{ℕ, suc, ◌+◌, ◌-◌, ◌*◌, ◌<◌, ◌≤◌}
use native.Mathlib.Numerals.{add-one}
use native.Mathlib.Omega.{arith}
use lib.ListN.{length, get_or, set, take, drop, replicate, length-replicate}
use lib.Seq.{set_split, append_snoc}
use Rattle.basics.proofs.Rules.{ask, yes, no, clash}
use Rattle.record.specs.declared.Frame.{Frame}
use Rattle.record.specs.declared.Device.{Device}
use Rattle.record.specs.Record.{frame}
use Rattle.basics.specs.Bytes.{filled, put}
use Rattle.soundness.specs.Sound.{controller_fits, sound_of}
use Rattle.soundness.proofs.Clauses.{controller_sound}
use Rattle.fast_forward.specs.Forward.{controller_before_due}
use Rattle.fast_forward.proofs.NothingDue.{free_image, free_status, later_mode}
use Rattle.bus.specs.declared.Asked.TheVariants.{Nothing as Silent}
use Rattle.bus.specs.Frames.{frame_clock, asked_of, driven_of}
use Rattle.access.specs.Read.{array_address, array_value, value_of}
use Rattle.clock.specs.declared.DeviceClocked.{DeviceClocked}
use Rattle.record.specs.Sample.{is_reset, sample_at, is_idle_sample}
use Rattle.clock.specs.Clock.{device_clock, image_after}
use Rattle.clock.specs.Fold.{World, world, onward, answer_to}
use Rattle.lookahead.specs.Lookahead.{address_at, is_frame_over, stays_idle, ended_frame, whole_frame, read_answers, Skipped}
use Rattle.fast_run.specs.Stretch.{device_later, world_later, Simulates, Alone}
use Rattle.fast_run.proofs.Leads.{one, lands, stays, simulates_on}
use Rattle.fast_run.proofs.Apart.{silent, silent_answer}
use Rattle.fast_run.proofs.Whole.{whole_room, whole_read, whole_write, written_world, resting}

-- the bus rests, and the sample is idle
pub over : (f : Frame) (x : ℕ) → stays_idle f x ≡ true → (is_idle_sample x ≡ true) × (is_frame_over f ≡ true)
unfolding stays_idle
over f x e = elim (ask (is_idle_sample x)) [ yes p ↦ (p, rw p at e) | no p ↦ clash (rw p at e) ]

put_set : (b : List ℕ) (k y : ℕ) → k < length b → set b k y ≡ put b k (y ∷ [])
put_set b k y h = set_split b k y h ∙ sym (append_snoc (take k b) y (drop (suc k) b)) ∙ rw (add-one k)

put_filled : (b : List ℕ) (k n : ℕ) → filled b k n 0 ≡ put b k (replicate n 0)
put_filled b k n = rw length-replicate

-- what a read finds, while nothing is due
found : (n : ℕ) (f : Frame) (d : Device) (x address byte : ℕ)
    → controller_fits d.controller ≡ true
    → n ≤ controller_before_due d.controller
    → value_of (device_later n f d) x address byte ≡ value_of d x address byte
unfolding value_of array_value
found n f d x address byte c h = rw (later_mode n d.controller, free_status n d.controller c h)

-- any clock
pub clock_step : (d : Device) (image s : List ℕ) (k : ℕ) (b : List ℕ) (a : DeviceClocked) (later c : List ℕ)
    → 2 * k + 1 < length s
    → k < length b
    → a ≡ device_clock d image (sample_at s k)
    → later ≡ image_after d image (sample_at s k)
    → c ≡ set b k a.answer
    → Simulates s k (world d image) b (k + 1) (world a.device later) c
unfolding onward answer_to
clock_step d image s k b a later c h l e g z =
    lands s k (k + 1) _ _ (a.answer ∷ []) b c (one s k (world d image) (world a.device later) a.answer h (rw (e, g)) (rw e)) (omega arith) (z ∙ put_set b k a.answer l)

module _ (d : Device) (image s : List ℕ) (k : ℕ) (f : Frame) (b : List ℕ) where
  -- along idle samples, whatever falls due
  pub rest_step : (n m : ℕ) (c : List ℕ)
      → is_frame_over f ≡ true
      → k < m
      → 2 * m ≤ length s
      → m ≤ length b
      → Skipped s b k m c
      → Simulates s k (world_later d image n f) b m (world_later d image (n + (m - k)) (ended_frame f)) c
  rest_step n m c v h l r q =
      let j = m - k - 1 in
      let ej : m - k ≡ suc j = omega arith in
      let em : k + suc j ≡ m = omega arith in
      let t = resting d image s j k n f v (omega arith) (rw ej at q.idle) in
      let z : c ≡ put b k (replicate (suc j) 0) = q.zeros ∙ ap (λ (i : ℕ). filled b k i 0) ej ∙ put_filled b k (suc j) in
      rw ej (lands s k m _ _ (replicate (suc j) 0) b c (rw em at t) r z)

  -- a whole write up to the clock on which it acts
  pub write_step : (n to : ℕ) (c : List ℕ)
      → 2 * to ≤ length s
      → to ≤ length b
      → whole_frame s d.part d.straps 2 k to 12 ≡ true
      → c ≡ filled b k 12 0
      → Simulates s k (world_later d image n f) b (k + 12) (written_world d image s k n) c
  write_step n to c l r q z =
      let room = whole_room s d.part d.straps 2 k to 12 q in
      lands s k (k + 12) _ _ (replicate 12 0) b c (whole_write d image s k to n f q l) (omega arith) (z ∙ put_filled b k 12)

  -- the bus alone: not at all
  pub alone_none : Alone d image s k f b k f b
  alone_none =
      record {
        forward = omega arith;
        size = refl;
        goes = λ n h. let e : n + (k - k) ≡ n = omega arith in rw e (stays s k (world_later d image n f) b);
      }

  -- along idle samples
  pub alone_rest : (to m : ℕ) (c : List ℕ)
      → 2 * to ≤ length s
      → to ≤ length b
      → k < m
      → m ≤ to
      → stays_idle f (sample_at s k) ≡ true
      → Skipped s b k m c
      → length c ≡ length b
      → Alone d image s k f b m (ended_frame f) c
  alone_rest to m c g w h l e q z =
      record { forward = omega arith; size = z; goes = λ n i. rest_step n m c (over _ _ e).1 h (omega arith) (omega arith) q }

  by : (j : ℕ) (g : Frame) (c : List ℕ)
      → length c ≡ length b
      → ((n : ℕ) → n + j ≤ controller_before_due d.controller → Simulates s k (world_later d image n f) b (k + j) (world_later d image (n + j) g) c)
      → Alone d image s k f b (k + j) g c
  by j g c z t =
      let e : k + j - k ≡ j = omega arith in
      record { forward = omega arith; size = z; goes = λ n h. rw e (t n (rw e at h)) }

  -- a clock
  pub alone_clock : (e : Frame) (c : List ℕ)
      → 2 * k + 1 < length s
      → k < length b
      → is_reset (sample_at s k) ≡ false
      → e ≡ frame_clock d.part d.straps f (sample_at s k)
      → asked_of e ≡ Silent
      → c ≡ set b k (driven_of e)
      → length c ≡ length b
      → Alone d image s k f b (k + 1) e c
  alone_clock e c h l r fe ask-e z size =
      by 1 e c size
      (λ n _. lands s k (k + 1) _ _ (driven_of e ∷ []) b c (one s k (world_later d image n f) (world_later d image (n + 1) e) (driven_of e) h (silent d image n f e (sample_at s k) r (sym fe) ask-e) (silent_answer d image n f e (sample_at s k) r (sym fe) ask-e)) (omega arith) (z ∙ put_set b k (driven_of e) l))

  -- a whole read
  pub alone_read : (to byte : ℕ) (c : List ℕ)
      → sound_of d ≡ true
      → 2 * to ≤ length s
      → to ≤ length b
      → whole_frame s d.part d.straps 1 k to 18 ≡ true
      → byte ≡ value_of d (sample_at s (k + 14)) (address_at d.part s (k + 2)) (get_or image (array_address (address_at d.part s (k + 2))) 0)
      → c ≡ put b k (read_answers byte)
      → length c ≡ length b
      → Alone d image s k f b (k + 18) (frame 1 18 byte (address_at d.part s (k + 2))) c
  alone_read to byte c r g w q e z size =
      let fit = controller_sound d r in
      let room = whole_room s d.part d.straps 1 k to 18 q in
      let a = address_at d.part s (k + 2) in
      by 18 (frame 1 18 byte a) c size
      (λ n h.
      let near : n + 15 ≤ controller_before_due d.controller = omega arith in
      let y = found (n + 15) (frame 1 15 0 a) d (sample_at s (k + 14)) a (get_or image (array_address a) 0) fit near ∙ sym e in
      lands s k (k + 18) _ _ (read_answers byte) b c (rw (free_image (n + 15) d.controller image fit near, y) at (whole_read d image s k to n f q g)) (omega arith) z)

-- one step of the bus alone behind those before it
pub alone_on : (d : Device) {image s a b c : List ℕ} {from k m : ℕ} (to : ℕ) {w : World} {f g : Frame}
    → to - from ≤ controller_before_due d.controller
    → m ≤ to
    → Simulates s from w a k (world_later d image (k - from) f) b
    → Alone d image s k f b m g c
    → Simulates s from w a m (world_later d image (m - from) g) c
alone_on d {from = from} {k = k} {m = m} to h l o p =
    let e : k - from + (m - k) ≡ m - from = omega (arith, o.forward, p.forward) in
    simulates_on o (rw e at (p.goes (k - from) (rw e (omega arith))))
