-- Stretches that are known by looking ahead, as so many clocks: an idle bus, a whole read, and a whole write up to the clock on
-- which it acts. Assumes nothing.
use mathlib.Core.Path.{◌≡◌, ◌∙◌, refl, ap}
use mathlib.Core.Bool.{Bool, true, false, cond}
use mathlib.Core.List.{List, [], ◌∷◌}
use Prim.Native.Nat.{ℕ, zero, suc, ◌+◌, ◌-◌, ◌*◌, ◌/◌, ◌<◌, ◌≤◌}
use native.Mathlib.Nat.{add-zero}
use native.Mathlib.Omega.{arith}
use lib.Dec.{eqb}
use lib.ListN.{length, get_or, replicate}
use borrow.Author.Tests.{eqb-true, ne_eqb, lt-ltb, le-ltb, leb-true}
use Rattle.basics.proofs.Rules.{Answer, yes, no, ask, clash, and_left, and_right, and_both}
use Rattle.record.specs.declared.Frame.{Frame}
use Rattle.record.specs.declared.Device.{Device}
use Rattle.record.specs.Record.{is_lpc, frame, idle, is_idle, is_read}
use Rattle.record.specs.Sample.{lines, frame_line, is_reset, sample_at, is_idle_sample}
use Rattle.fast_forward.specs.Forward.{image_later}
use Rattle.bus.specs.declared.Asked.TheVariants.{Nothing as Silent}
use Rattle.bus.specs.Frames.{begun, shifted, is_chosen, read_on, write_on, next_of, frame_clock, asked_of, driven_of}
use Rattle.bus.proofs.Heads.{Kind}
use Rattle.bus.proofs.Heads as heads
use Rattle.bus.proofs.Laws.{idle_silent}
use Rattle.access.specs.Read.{is_array, array_address, value_of}
use Rattle.access.specs.Write.{reached_of}
use Rattle.record.proofs.Samples.{Idle, idle_sample}
use Rattle.clock.specs.Fold.{World, world}
use Rattle.lookahead.specs.Lookahead.{is_start, all_idle, address_over, address_at, start_of, head_fits, is_frame_over, ended_frame, whole_frame, byte_at, read_answers}
use Rattle.lookahead.proofs.Looks.{seven_nibbles, eight_nibbles}
use Rattle.fast_run.specs.Stretch.{device_later, world_later}
use Rattle.fast_run.proofs.Leads.{Leads, none, one, join}
use Rattle.fast_run.proofs.Apart.{silent, silent_answer, reads, reads_answer, writes, writes_answer}

-- what a sample is that begins a frame
record Start (x nibble : ℕ) : Type 0 where
  low : frame_line x ≡ 0
  up : is_reset x ≡ false
  says : lines x ≡ nibble

starts : (x nibble : ℕ) → is_start nibble x ≡ true → Start x nibble
unfolding is_start
starts x nibble e = pick (ask (is_reset x)) (ask (eqb (frame_line x) 0))
  where
    pick : Answer (is_reset x) → Answer (eqb (frame_line x) 0) → Start x nibble
    pick (yes r) f = clash (rw r at e)
    pick (no r) (no f) = clash (rw (r, f) at e)
    pick (no r) (yes f) = record { low = eqb-true _ _ f; up = r; says = eqb-true (lines x) nibble (rw (r, f) at e) }

-- of some idle samples the first, the others, one of them, and some of them
module _ (s : List ℕ) (k n : ℕ) (e : all_idle s k (suc n) ≡ true) where
  pub first_idle : is_idle_sample (sample_at s k) ≡ true
  first_idle = and_left (is_idle_sample (sample_at s k)) (all_idle s (k + 1) n) e

  pub others_idle : all_idle s (k + 1) n ≡ true
  others_idle = and_right (is_idle_sample (sample_at s k)) (all_idle s (k + 1) n) e

idle_at : (s : List ℕ) (k n i : ℕ) → all_idle s k n ≡ true → i < n → is_idle_sample (sample_at s (k + i)) ≡ true
idle_at s k zero i e h = absurd (omega arith)
idle_at s k (suc n) zero e h = rw add-zero (first_idle s k n e)
idle_at s k (suc n) (suc i) e h =
    let x : k + suc i ≡ k + 1 + i = omega arith in
    rw x (idle_at s (k + 1) n i (others_idle s k n e) (omega arith))

some_idle : (s : List ℕ) (k n m i : ℕ) → all_idle s k n ≡ true → i + m ≤ n → all_idle s (k + i) m ≡ true
some_idle s k n zero i e h = refl
some_idle s k n (suc m) i e h =
    let x : k + i + 1 ≡ k + (i + 1) = omega arith in
    rw x
    (and_both (is_idle_sample (sample_at s (k + i))) (all_idle s (k + (i + 1)) m) (idle_at s k n i e (omega arith)) (some_idle s k n m (i + 1) e (omega arith)))

-- the tests of a frame that lies whole in the stream
record Whole (s : List ℕ) (part straps kind k to n : ℕ) : Type 0 where
  begins : is_start (start_of part kind) (sample_at s k) ≡ true
  room : n ≤ to - k
  fits : head_fits s part straps kind k ≡ true
  others : all_idle s (k + 1) (n - 1) ≡ true

both : (t u : Bool) → cond t u false ≡ true → (t ≡ true) × (u ≡ true)
both true u e = (refl, e)
both false u e = clash e

whole : (s : List ℕ) (part straps kind k to n : ℕ) → whole_frame s part straps kind k to n ≡ true → Whole s part straps kind k to n
unfolding whole_frame
whole s part straps kind k to n e =
    let a = both _ _ e in
    let b = both _ _ a.1 in
    let c = both _ _ b.1 in
    record { begins = a.0; room = leb-true _ _ b.0; fits = c.0; others = c.1 }

pub whole_room : (s : List ℕ) (part straps kind k to n : ℕ) → whole_frame s part straps kind k to n ≡ true → n ≤ to - k
whole_room s part straps kind k to n e = (whole s part straps kind k to n e).room

-- a kind of frame: how it begins on either part, and that its head asks and drives nothing
record Quiet (kind : ℕ) : Type 0 where
  sort : Kind kind
  begin : (part : ℕ) → is_lpc part ≡ false → begun part (12 + kind) ≡ frame kind 1 0 0
  type : (n : ℕ) → n ≡ 1 + kind → cond (eqb n 2) (frame 1 2 0 0) (cond (eqb n 3) (frame 2 2 0 0) idle) ≡ frame kind 2 0 0
  asks : (c a : ℕ) → c ≤ 10 → asked_of (frame kind c 0 a) ≡ Silent
  drives : (c a : ℕ) → c ≤ 10 → driven_of (frame kind c 0 a) ≡ 0

read_kind : Quiet 1
unfolding begun asked_of driven_of
read_kind =
    record {
      sort = heads.reading;
      begin = λ part l. rw l;
      type = λ n e. rw e;
      asks = λ c a h. let z : (c ≡ 15 → ⊥) = λ e. omega arith in rw (ne_eqb _ _ z);
      drives = λ c a h. rw (lt-ltb c 13 (omega arith));
    }

write_kind : Quiet 2
unfolding begun asked_of driven_of
write_kind =
    record {
      sort = heads.writing;
      begin = λ part l. rw l;
      type = λ n e. rw e;
      asks = λ c a h. let z : (c ≡ 12 → ⊥) = λ e. omega arith in rw (ne_eqb _ _ z);
      drives = λ c a h.
          let y : (c ≡ 15 → ⊥) = λ e. omega arith in
          let z : (c ≡ 16 → ⊥) = λ e. omega arith in
          rw (ne_eqb _ _ y, ne_eqb _ _ z);
    }

-- an LPC frame on its first clock
begun_lpc : (part : ℕ) → is_lpc part ≡ true → begun part 0 ≡ frame 3 1 0 0
unfolding begun
begun_lpc part l = rw l

begun_silent : (asked_of (frame 3 1 0 0) ≡ Silent) × (driven_of (frame 3 1 0 0) ≡ 0)
unfolding asked_of driven_of
begun_silent = (refl, refl)

module _ (d : Device) (image s : List ℕ) where
  -- a clock on which nothing is asked
  quietly : (k m n l : ℕ) (f g : Frame) (byte : ℕ)
      → m ≡ k + 1
      → l ≡ n + 1
      → 2 * k + 1 < length s
      → is_reset (sample_at s k) ≡ false
      → frame_clock d.part d.straps f (sample_at s k) ≡ g
      → asked_of g ≡ Silent
      → driven_of g ≡ byte
      → Leads s k (world_later d image n f) m (world_later d image l g) (byte ∷ [])
  quietly k m n l f g byte em el h r e a b =
      rw (em, el)
      (one s k (world_later d image n f) (world_later d image (n + 1) g) byte h (silent d image n f g (sample_at s k) r e a) (silent_answer d image n f g (sample_at s k) r e a ∙ b))

  module _ (kind : ℕ) (q : Quiet kind) where
    -- the nibbles of an address
    address : (j k n c a : ℕ)
        → 2 ≤ c
        → c + j ≤ 9
        → 2 * (k + j) ≤ length s
        → all_idle s k j ≡ true
        → Leads s k (world_later d image n (frame kind c 0 a)) (k + j) (world_later d image (n + j) (frame kind (c + j) 0 (address_over d.part s k j a))) (replicate j 0)
    address zero k n c a l h m p = rw (add-zero, add-zero, add-zero) (none s k (world_later d image n (frame kind c 0 a)))
    address (suc j) k n c a l h m p =
        let x = idle_sample (sample_at s k) (first_idle s k j p) in
        let ek : k + suc j ≡ k + 1 + j = omega arith in
        let en : n + suc j ≡ n + 1 + j = omega arith in
        let ec : c + suc j ≡ c + 1 + j = omega arith in
        let b = shifted d.part a (lines (sample_at s k)) in
        let f = heads.nibble_in d.part d.straps (sample_at s k) x.high kind q.sort c a l (omega arith) in
        let t = quietly k (k + 1) n (n + 1) (frame kind c 0 a) (frame kind (c + 1) 0 b) 0 refl refl (omega arith) x.up f (q.asks (c + 1) b (omega arith)) (q.drives (c + 1) b (omega arith)) in
        rw (ek, en, ec)
        (join s k (k + 1) (k + 1 + j) _ _ _ (0 ∷ []) (replicate j 0) t (address j (k + 1) (n + 1) (c + 1) b (omega arith) (omega arith) (omega arith) (others_idle s k j p)))

    -- the first ten clocks
    module _ (k to l n : ℕ) (f : Frame) (w : Whole s d.part d.straps kind k to l) (h : 10 ≤ l) (e : 2 * to ≤ length s) where
      abbrev at : ℕ
      at = address_at d.part s (k + 2)

      -- as far as its clock 9
      abbrev nine : ℕ
      nine = address_over d.part s (k + 2) 7 0

      other : (i : ℕ) → i + 1 < l → Idle (sample_at s (k + 1 + i))
      other i b = idle_sample (sample_at s (k + 1 + i)) (idle_at s (k + 1) (l - 1) i w.others (omega arith))

      second : Idle (sample_at s (k + 1))
      second = rw add-zero at (other 0 (omega arith))

      tenth : Idle (sample_at s (k + 9))
      tenth = let p : k + 1 + 8 ≡ k + 9 = omega arith in rw p at (other 8 (omega arith))

      addressed : Leads s (k + 2) (world_later d image (n + 2) (frame kind 2 0 0)) (k + 9) (world_later d image (n + 9) (frame kind 9 0 nine)) (replicate 7 0)
      addressed =
          let ek : k + 9 ≡ k + 2 + 7 = omega arith in
          let en : n + 9 ≡ n + 2 + 7 = omega arith in
          let p : k + 1 + 1 ≡ k + 2 = omega arith in
          rw (ek, en)
          (address 7 (k + 2) (n + 2) 2 0 (omega arith) (omega arith) (omega (arith, w.room)) (rw p at (some_idle s (k + 1) (l - 1) 7 1 w.others (omega arith))))

      -- the clocks that are each part's own: the first, on which the frame becomes `one`, the second and the tenth
      record Own (one : Frame) : Type 0 where
        begins : frame_clock d.part d.straps f (sample_at s k) ≡ one
        silent : asked_of one ≡ Silent
        undriven : driven_of one ≡ 0
        goes_on : frame_clock d.part d.straps one (sample_at s (k + 1)) ≡ frame kind 2 0 0
        ends : frame_clock d.part d.straps (frame kind 9 0 nine) (sample_at s (k + 9)) ≡ frame kind 10 0 at

      head_by : (one : Frame) → Own one → Leads s k (world_later d image n f) (k + 10) (world_later d image (n + 10) (frame kind 10 0 at)) (replicate 10 0)
      head_by one o =
          join s k (k + 1) (k + 10) _ _ _ (0 ∷ []) (replicate 9 0)
          (quietly k (k + 1) n (n + 1) f one 0 refl refl (omega (arith, w.room)) (starts (sample_at s k) _ w.begins).up o.begins o.silent o.undriven)
          (join s (k + 1) (k + 2) (k + 10) _ _ _ (0 ∷ []) (replicate 8 0)
          (quietly (k + 1) (k + 2) (n + 1) (n + 2) one (frame kind 2 0 0) 0 (omega arith) (omega arith) (omega (arith, w.room)) second.up o.goes_on (q.asks 2 0 (omega arith)) (q.drives 2 0 (omega arith)))
          (join s (k + 2) (k + 9) (k + 10) _ _ _ (replicate 7 0) (0 ∷ []) addressed
          (quietly (k + 9) (k + 10) (n + 9) (n + 10) (frame kind 9 0 nine) (frame kind 10 0 at) 0 (omega arith) (omega arith) (omega (arith, w.room)) tenth.up o.ends (q.asks 10 at (omega arith)) (q.drives 10 at (omega arith)))))

      -- FWH: the start nibble, the straps, the size
      fwh_fits : is_lpc d.part ≡ false → (eqb (lines (sample_at s (k + 1))) d.straps ≡ true) × (eqb (lines (sample_at s (k + 9))) 0 ≡ true)
      unfolding head_fits
      fwh_fits p = both (eqb (lines (sample_at s (k + 1))) d.straps) (eqb (lines (sample_at s (k + 9))) 0) (rw p at w.fits)

      fwh : is_lpc d.part ≡ false → Own (frame kind 1 0 0)
      unfolding frame_clock start_of
      fwh p =
          let x = starts (sample_at s k) _ w.begins in
          let t = fwh_fits p in
          let c : frame_clock d.part d.straps f (sample_at s k) ≡ frame kind 1 0 0 = rw (x.low, x.says, p) (q.begin d.part p) in
          record {
            begins = c;
            silent = q.asks 1 0 (omega arith);
            undriven = q.drives 1 0 (omega arith);
            goes_on = heads.strap d.part d.straps (sample_at s (k + 1)) second.high kind q.sort p ∙ rw t.0;
            ends = heads.size d.part d.straps (sample_at s (k + 9)) tenth.high kind q.sort p nine ∙ rw (t.1, seven_nibbles d.part s (k + 2) p);
          }

      -- LPC: the start nibble, the cycle type, the last nibble of the address
      lpc_fits : is_lpc d.part ≡ true → (eqb (lines (sample_at s (k + 1)) / 2) (1 + kind) ≡ true) × (is_chosen d.straps at ≡ true)
      unfolding head_fits
      lpc_fits p = both (eqb (lines (sample_at s (k + 1)) / 2) (1 + kind)) (is_chosen d.straps at) (rw p at w.fits)

      lpc : is_lpc d.part ≡ true → Own (frame 3 1 0 0)
      unfolding frame_clock start_of
      lpc p =
          let x = starts (sample_at s k) _ w.begins in
          let t = lpc_fits p in
          let c : frame_clock d.part d.straps f (sample_at s k) ≡ frame 3 1 0 0 = rw (x.low, x.says, p) (begun_lpc d.part p) in
          let v : k + 2 + 7 ≡ k + 9 = omega arith in
          record {
            begins = c;
            silent = begun_silent.0;
            undriven = begun_silent.1;
            goes_on = heads.cycle d.part d.straps (sample_at s (k + 1)) second.high p ∙ q.type _ (eqb-true _ _ t.0);
            ends =
                heads.last d.part d.straps (sample_at s (k + 9)) tenth.high kind q.sort nine p
                ∙ rw (rw v at (eight_nibbles d.part s (k + 2) p), t.1);
          }

      head : Leads s k (world_later d image n f) (k + 10) (world_later d image (n + 10) (frame kind 10 0 at)) (replicate 10 0)
      head = elim (ask (is_lpc d.part)) [ yes p ↦ head_by (frame 3 1 0 0) (lpc p) | no p ↦ head_by (frame kind 1 0 0) (fwh p) ]

  -- a read on its way: its answers, and the clocks that ask nothing
  abbrev driven : ℕ → ℕ → ℕ → ℕ → List ℕ
  driven byte a c zero = []
  driven byte a c (suc j) = driven_of (frame 1 (c + 1) byte a) ∷ driven byte a (c + 1) j

  silent_read : (c byte a : ℕ) → (c ≡ 15 → ⊥) → asked_of (frame 1 c byte a) ≡ Silent
  unfolding asked_of
  silent_read c byte a z = rw (ne_eqb _ _ z)

  goes_on : (c byte a x : ℕ) → 10 ≤ c → c < 18 → Idle x → frame_clock d.part d.straps (frame 1 c byte a) x ≡ frame 1 (c + 1) byte a
  unfolding frame_clock next_of read_on
  goes_on c byte a x l h p = rw (p.high, le-ltb c 10 l, lt-ltb c 18 h)

  reading : (j k n c byte a : ℕ)
      → 10 ≤ c
      → c + j ≤ 18
      → ((i : ℕ) → i < j → c + 1 + i ≡ 15 → ⊥)
      → 2 * (k + j) ≤ length s
      → all_idle s k j ≡ true
      → Leads s k (world_later d image n (frame 1 c byte a)) (k + j) (world_later d image (n + j) (frame 1 (c + j) byte a)) (driven byte a c j)
  reading zero k n c byte a l h z m p = rw (add-zero, add-zero, add-zero) (none s k (world_later d image n (frame 1 c byte a)))
  reading (suc j) k n c byte a l h z m p =
      let x = idle_sample (sample_at s k) (first_idle s k j p) in
      let ek : k + suc j ≡ k + 1 + j = omega arith in
      let en : n + suc j ≡ n + 1 + j = omega arith in
      let ec : c + suc j ≡ c + 1 + j = omega arith in
      let y : (c + 1 ≡ 15 → ⊥) = λ e. z 0 (omega arith) (omega arith) in
      let t = quietly k (k + 1) n (n + 1) (frame 1 c byte a) (frame 1 (c + 1) byte a) _ refl refl (omega arith) x.up (goes_on c byte a (sample_at s k) l (omega arith) x) (silent_read (c + 1) byte a y) refl in
      rw (ek, en, ec)
      (join s k (k + 1) (k + 1 + j) _ _ _ (driven_of (frame 1 (c + 1) byte a) ∷ []) (driven byte a (c + 1) j) t (reading j (k + 1) (n + 1) (c + 1) byte a (omega arith) (omega arith) (λ i b e. z (i + 1) (omega arith) (omega arith)) (omega arith) (others_idle s k j p)))

  -- a whole read, its value as it is found on its fifteenth clock
  module _ (k to n : ℕ) (f : Frame) (t : whole_frame s d.part d.straps 1 k to 18 ≡ true) (e : 2 * to ≤ length s) where
    w : Whole s d.part d.straps 1 k to 18
    w = whole s d.part d.straps 1 k to 18 t

    abbrev pub read_address : ℕ
    read_address = address_at d.part s (k + 2)

    abbrev pub read_value : ℕ
    read_value =
        value_of (device_later (n + 15) (frame 1 15 0 read_address) d) (sample_at s (k + 14)) read_address
        (get_or (image_later (n + 15) d.controller image) (array_address read_address) 0)

    turned : Leads s (k + 10) (world_later d image (n + 10) (frame 1 10 0 read_address)) (k + 14) (world_later d image (n + 14) (frame 1 14 0 read_address)) (driven 0 read_address 10 4)
    turned =
        let ek : k + 14 ≡ k + 10 + 4 = omega arith in
        let en : n + 14 ≡ n + 10 + 4 = omega arith in
        let p : k + 1 + 9 ≡ k + 10 = omega arith in
        rw (ek, en)
        (reading 4 (k + 10) (n + 10) 10 0 read_address (omega arith) (omega arith) (λ i b x. omega arith) (omega (arith, w.room)) (rw p at (some_idle s (k + 1) 17 4 9 w.others (omega arith))))

    fixed : Leads s (k + 14) (world_later d image (n + 14) (frame 1 14 0 read_address)) (k + 15) (world_later d image (n + 15) (frame 1 15 read_value read_address)) (16 ∷ [])
    unfolding asked_of driven_of
    fixed =
        let p : k + 1 + 13 ≡ k + 14 = omega arith in
        let ek : k + 15 ≡ k + 14 + 1 = omega arith in
        let en : n + 15 ≡ n + 14 + 1 = omega arith in
        let x = rw p at (idle_sample (sample_at s (k + 1 + 13)) (idle_at s (k + 1) 17 13 w.others (omega arith))) in
        let g = goes_on 14 0 read_address (sample_at s (k + 14)) (omega arith) (omega arith) x in
        rw (ek, en)
        (one s (k + 14) _ _ 16 (omega (arith, w.room))
        (reads d image (n + 14) (frame 1 14 0 read_address) (frame 1 15 0 read_address) (sample_at s (k + 14)) x.up g read_address refl)
        (reads_answer d image (n + 14) (frame 1 14 0 read_address) (frame 1 15 0 read_address) (sample_at s (k + 14)) x.up g read_address refl))

    tail : Leads s (k + 15) (world_later d image (n + 15) (frame 1 15 read_value read_address)) (k + 18) (world_later d image (n + 18) (frame 1 18 read_value read_address)) (driven read_value read_address 15 3)
    tail =
        let ek : k + 18 ≡ k + 15 + 3 = omega arith in
        let en : n + 18 ≡ n + 15 + 3 = omega arith in
        let p : k + 1 + 14 ≡ k + 15 = omega arith in
        rw (ek, en)
        (reading 3 (k + 15) (n + 15) 15 read_value read_address (omega arith) (omega arith) (λ i b x. omega arith) (omega (arith, w.room)) (rw p at (some_idle s (k + 1) 17 3 14 w.others (omega arith))))

    pub whole_read : Leads s k (world_later d image n f) (k + 18) (world_later d image (n + 18) (frame 1 18 read_value read_address)) (read_answers read_value)
    unfolding driven_of
    whole_read =
        join s k (k + 10) (k + 18) _ _ _ (replicate 10 0) _ (head 1 read_kind k to 18 n f w (omega arith) e)
        (join s (k + 10) (k + 14) (k + 18) _ _ _ (driven 0 read_address 10 4) _ turned
        (join s (k + 14) (k + 15) (k + 18) _ _ _ (16 ∷ []) (driven read_value read_address 15 3) fixed tail))

  -- what a write does leaves the frame
  reached_frame : (x : Device) (sample a byte : ℕ) → (reached_of x sample a byte).after.frame ≡ x.frame
  unfolding reached_of
  reached_frame x sample a byte =
      elim (ask (is_array a)) [ yes i ↦ rw i | no i ↦ rw i ]

  -- a whole write, up to its twelfth clock
  abbrev pub written_world : ℕ → ℕ → World
  written_world k n =
      world
      (reached_of (device_later (n + 12) (frame 2 12 (byte_at s k) (address_at d.part s (k + 2))) d) (sample_at s (k + 11)) (address_at d.part s (k + 2)) (byte_at s k)).after
      (image_later (n + 12) d.controller image)

  module _ (k to n : ℕ) (f : Frame) (t : whole_frame s d.part d.straps 2 k to 12 ≡ true) (e : 2 * to ≤ length s) where
    v : Whole s d.part d.straps 2 k to 12
    v = whole s d.part d.straps 2 k to 12 t

    abbrev pub write_address : ℕ
    write_address = address_at d.part s (k + 2)

    abbrev low : ℕ
    low = lines (sample_at s (k + 10))

    lower : Leads s (k + 10) (world_later d image (n + 10) (frame 2 10 0 write_address)) (k + 11) (world_later d image (n + 11) (frame 2 11 low write_address)) (0 ∷ [])
    unfolding frame_clock next_of write_on asked_of driven_of
    lower =
        let p : k + 1 + 9 ≡ k + 10 = omega arith in
        let x = rw p at (idle_sample (sample_at s (k + 1 + 9)) (idle_at s (k + 1) 11 9 v.others (omega arith))) in
        let g : frame_clock d.part d.straps (frame 2 10 0 write_address) (sample_at s (k + 10)) ≡ frame 2 11 low write_address = rw x.high in
        quietly (k + 10) (k + 11) (n + 10) (n + 11) (frame 2 10 0 write_address) (frame 2 11 low write_address) 0 (omega arith) (omega arith) (omega (arith, v.room)) x.up g refl refl

    acts : Leads s (k + 11) (world_later d image (n + 11) (frame 2 11 low write_address)) (k + 12)
        (written_world k n) (0 ∷ [])
    unfolding frame_clock next_of write_on asked_of driven_of byte_at
    acts =
        let p : k + 1 + 10 ≡ k + 11 = omega arith in
        let ek : k + 12 ≡ k + 11 + 1 = omega arith in
        let en : n + 12 ≡ n + 11 + 1 = omega arith in
        let x = rw p at (idle_sample (sample_at s (k + 1 + 10)) (idle_at s (k + 1) 11 10 v.others (omega arith))) in
        let g : frame_clock d.part d.straps (frame 2 11 low write_address) (sample_at s (k + 11)) ≡ frame 2 12 (byte_at s k) write_address = rw x.high in
        rw (ek, en)
        (one s (k + 11) _ _ 0 (omega (arith, v.room))
        (writes d image (n + 11) (frame 2 11 low write_address) (frame 2 12 (byte_at s k) write_address) (sample_at s (k + 11)) x.up g write_address (byte_at s k) refl)
        (writes_answer d image (n + 11) (frame 2 11 low write_address) (frame 2 12 (byte_at s k) write_address) (sample_at s (k + 11)) x.up g write_address (byte_at s k) refl
        ∙ ap driven_of (reached_frame _ (sample_at s (k + 11)) write_address (byte_at s k))))

    pub whole_write : Leads s k (world_later d image n f) (k + 12)
        (written_world k n) (replicate 12 0)
    whole_write =
        join s k (k + 10) (k + 12) _ _ _ (replicate 10 0) (0 ∷ 0 ∷ []) (head 2 write_kind k to 12 n f v (omega arith) e)
        (join s (k + 10) (k + 11) (k + 12) _ _ _ (0 ∷ []) (0 ∷ []) lower acts)

  -- an idle bus
  rests : (f : Frame) → is_frame_over f ≡ true → (x : ℕ) → Idle x → frame_clock d.part d.straps f x ≡ ended_frame f
  unfolding is_frame_over ended_frame frame_clock next_of read_on write_on
  rests f o x p = pick (ask (is_idle f)) (ask (is_read f))
    where
      pick : Answer (is_idle f) → Answer (is_read f) → frame_clock d.part d.straps f x ≡ ended_frame f
      pick (yes i) r = rw (p.high, i)
      pick (no i) (yes r) = let c = eqb-true f.clock 18 (rw (i, r) at o) in rw (p.high, i, r, c)
      pick (no i) (no r) = let c = eqb-true f.clock 16 (rw (i, r) at o) in rw (p.high, i, r, c)

  silent_rest : (f : Frame) → (asked_of (ended_frame f) ≡ Silent) × (driven_of (ended_frame f) ≡ 0)
  unfolding ended_frame asked_of driven_of
  silent_rest f = pick (ask (is_idle f))
    where
      pick : Answer (is_idle f) → (asked_of (ended_frame f) ≡ Silent) × (driven_of (ended_frame f) ≡ 0)
      pick (yes i) = rw i (idle_silent f (eqb-true f.kind 0 i))
      pick (no i) = rw i (refl, refl)

  over_rest : (f : Frame) → (is_frame_over (ended_frame f) ≡ true) × (ended_frame (ended_frame f) ≡ ended_frame f)
  unfolding ended_frame is_frame_over
  over_rest f = pick (ask (is_idle f))
    where
      pick : Answer (is_idle f) → (is_frame_over (ended_frame f) ≡ true) × (ended_frame (ended_frame f) ≡ ended_frame f)
      pick (yes i) = rw (i, i) (refl, refl)
      pick (no i) = rw i (refl, refl)

  at_rest : (k n : ℕ) (f : Frame) → is_frame_over f ≡ true → 2 * k + 1 < length s → is_idle_sample (sample_at s k) ≡ true
      → Leads s k (world_later d image n f) (k + 1) (world_later d image (n + 1) (ended_frame f)) (0 ∷ [])
  at_rest k n f o m p =
      let x = idle_sample (sample_at s k) p in
      let q = silent_rest f in
      quietly k (k + 1) n (n + 1) f (ended_frame f) 0 refl refl m x.up (rests f o (sample_at s k) x) q.0 q.1

  pub resting : (j k n : ℕ) (f : Frame)
      → is_frame_over f ≡ true
      → 2 * (k + suc j) ≤ length s
      → all_idle s k (suc j) ≡ true
      → Leads s k (world_later d image n f) (k + suc j) (world_later d image (n + suc j) (ended_frame f)) (replicate (suc j) 0)
  resting zero k n f o m p = at_rest k n f o (omega arith) (first_idle s k 0 p)
  resting (suc j) k n f o m p =
      let ek : k + suc (suc j) ≡ k + 1 + suc j = omega arith in
      let en : n + suc (suc j) ≡ n + 1 + suc j = omega arith in
      let r = over_rest f in
      rw (ek, en)
      (join s k (k + 1) (k + 1 + suc j) _ _ _ (0 ∷ []) (replicate (suc j) 0) (at_rest k n f o (omega arith) (first_idle s k (suc j) p))
      (rw r.1 at (resting j (k + 1) (n + 1) (ended_frame f) r.0 (omega arith) (others_idle s k (suc j) p))))
