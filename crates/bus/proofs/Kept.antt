-- A clock of the bus takes a frame whose stage is one of the part's to another. Assumes nothing.
use mathlib.Core.Path.{◌≡◌, ◌∙◌, sym, refl}
use mathlib.Core.Bool.{true, false}
use Prim.Native.Nat.{ℕ, ◌+◌, ◌*◌, ◌/◌, ◌%◌, ◌≤◌, ◌<◌}
use native.Mathlib.Omega.{arith}
use lib.Dec.{eqb, ltb}
use borrow.Author.Tests.{ltb-true, ltb-false, leb-true, eqb-true, eq-eqb, ne_eqb, lt-ltb, le-leb}
use Rattle.basics.specs.All.{all}
use Rattle.basics.proofs.Rules.{Answer, yes, no, ask, clash}
use Rattle.basics.proofs.All.{holds, also, none}
use Rattle.record.specs.declared.Frame.{Frame}
use Rattle.record.specs.Record.{is_lpc, frame, idle, is_idle, is_read, is_write}
use Rattle.record.specs.Sample.{lines, frame_line}
use Rattle.soundness.specs.Sound.{known_from, address_limit, stage_fits, begun_fits, frame_fits}
use Rattle.bus.specs.Frames.{begun, shifted, headed, cycled, is_chosen, addressed, headed_lpc, read_on, write_on, next_of, frame_clock}

module _ (part : ℕ) where
  abbrev Fits : Frame → Type 0
  Fits f = frame_fits part f ≡ true

  -- a frame in progress: a read, a write, or an LPC frame at its clock 1
  data Stage (f : Frame) : Type 0 where
    reads : f.kind ≡ 1 → known_from part ≤ f.clock → f.address < address_limit part → Stage f
    writes : f.kind ≡ 2 → known_from part ≤ f.clock → f.address < address_limit part → Stage f
    begins : f.kind ≡ 3 → is_lpc part ≡ true → f.clock ≡ 1 → Stage f

  stage : (f : Frame) → Fits f → is_idle f ≡ false → Stage f
  unfolding frame_fits stage_fits begun_fits
  stage f e i = pick (ask (is_read f)) (ask (is_write f))
    where
      pick : Answer (is_read f) → Answer (is_write f) → Stage f
      pick (yes r) w =
          let h = rw (i, r) at e in reads (eqb-true _ _ r) (leb-true _ _ (holds _ 0 h)) (ltb-true _ _ (holds _ 2 h))
      pick (no r) (yes w) =
          let h = rw (i, r, w) at e in writes (eqb-true _ _ w) (leb-true _ _ (holds _ 0 h)) (ltb-true _ _ (holds _ 2 h))
      pick (no r) (no w) =
          let h = rw (i, r, w) at e in begins (eqb-true _ _ (holds _ 0 h)) (holds _ 1 h) (eqb-true _ _ (holds _ 2 h))

  -- a frame that is there
  read_at : (c b a : ℕ) → known_from part ≤ c → c ≤ 18 → a < address_limit part → Fits (frame 1 c b a)
  unfolding frame_fits stage_fits
  read_at c b a l m h = also _ (le-leb _ c l) (also _ (le-leb c 18 m) (also _ (lt-ltb a _ h) none))

  write_at : (c b a : ℕ) → known_from part ≤ c → c ≤ 16 → a < address_limit part → Fits (frame 2 c b a)
  unfolding frame_fits stage_fits
  write_at c b a l m h = also _ (le-leb _ c l) (also _ (le-leb c 16 m) (also _ (lt-ltb a _ h) none))

  pub rests : Fits idle
  unfolding frame_fits
  rests = refl

  -- the limits of each part
  module _ (l : is_lpc part ≡ true) where
    lpc_known : known_from part ≡ 2
    unfolding known_from
    lpc_known = rw l

    lpc_limit : address_limit part ≡ 0x100000000
    unfolding address_limit
    lpc_limit = rw l

  module _ (l : is_lpc part ≡ false) where
    fwh_known : known_from part ≡ 1
    unfolding known_from
    fwh_known = rw l

    fwh_limit : address_limit part ≡ 0x10000000
    unfolding address_limit
    fwh_limit = rw l

  begun_fits_lem : (n : ℕ) → Fits (begun part n)
  unfolding begun frame_fits begun_fits all
  begun_fits_lem n = pick (ask (is_lpc part)) (ask (eqb n 0)) (ask (eqb n 13)) (ask (eqb n 14))
    where
      pick : Answer (is_lpc part) → Answer (eqb n 0) → Answer (eqb n 13) → Answer (eqb n 14) → Fits (begun part n)
      pick (yes l) (yes z) a b = rw (l, z, lpc_limit l)
      pick (yes l) (no z) a b = rw (l, z)
      pick (no l) z (yes a) b = rw (l, a) (read_at 1 0 0 (omega (arith, fwh_known l)) (omega arith) (omega (arith, fwh_limit l)))
      pick (no l) z (no a) (yes b) = rw (l, a, b) (write_at 1 0 0 (omega (arith, fwh_known l)) (omega arith) (omega (arith, fwh_limit l)))
      pick (no l) z (no a) (no b) = rw (l, a, b)

  -- the frame goes on: the same kind at another clock
  on : (f : Frame) (c b a : ℕ) → Stage f → (f.kind ≡ 3 → ⊥) → known_from part ≤ c → c ≤ 16 → a < address_limit part → Fits (frame f.kind c b a)
  on f c b a (reads k _ _) z l m h = rw k (read_at c b a l (omega arith) h)
  on f c b a (writes k _ _) z l m h = rw k (write_at c b a l m h)
  on f c b a (begins k _ _) z l m h = absurd (z k)

  headed_fits : (straps : ℕ) (f : Frame) (n : ℕ) → is_lpc part ≡ false → Stage f → n < 16 → Fits (headed straps f n)
  unfolding headed shifted
  headed_fits straps f n p s h = pick (ask (eqb f.clock 1)) (ask (eqb n straps)) (ask (ltb f.clock 9)) (ask (eqb n 0)) s
    where
      z : f.kind ≡ 3 → ⊥
      z k = elim s [ reads j _ _ ↦ omega arith | writes j _ _ ↦ omega arith | begins _ l _ ↦ clash (sym p ∙ l) ]

      q : known_from part ≡ 1
      q = fwh_known p

      m : address_limit part ≡ 0x10000000
      m = fwh_limit p

      stays : Stage f → f.address < address_limit part
      stays (reads _ _ a) = a
      stays (writes _ _ a) = a
      stays (begins _ l _) = clash (sym p ∙ l)

      pick : Answer (eqb f.clock 1) → Answer (eqb n straps) → Answer (ltb f.clock 9) → Answer (eqb n 0) → Stage f → Fits (headed straps f n)
      pick (yes a) (yes b) c d s = rw (a, b) (on f 2 0 0 s z (omega (arith, q)) (omega arith) (omega (arith, m)))
      pick (yes a) (no b) c d s = rw (a, b) rests
      pick (no a) b (yes c) d s =
          let l = ltb-true f.clock 9 c in
          rw (a, c) (on f (f.clock + 1) 0 (f.address % 0x1000000 * 16 + n) s z (omega (arith, q)) (omega arith) (omega (arith, m)))
      pick (no a) b (no c) (yes d) s = rw (a, c, d) (on f 10 0 f.address s z (omega (arith, q)) (omega arith) (stays s))
      pick (no a) b (no c) (no d) s = rw (a, c, d) rests

  module _ (p : is_lpc part ≡ true) where
    cycled_fits : (f : Frame) (n : ℕ) → f.clock ≡ 1 → Fits (cycled f n)
    unfolding cycled
    cycled_fits f n c = pick (ask (eqb (n / 2) 2)) (ask (eqb (n / 2) 3))
      where
        q : known_from part ≡ 2
        q = lpc_known p

        m : address_limit part ≡ 0x100000000
        m = lpc_limit p

        pick : Answer (eqb (n / 2) 2) → Answer (eqb (n / 2) 3) → Fits (cycled f n)
        pick (yes a) b = rw a (read_at (f.clock + 1) 0 0 (omega (arith, q)) (omega arith) (omega (arith, m)))
        pick (no a) (yes b) = rw (a, b) (write_at (f.clock + 1) 0 0 (omega (arith, q)) (omega arith) (omega (arith, m)))
        pick (no a) (no b) = rw (a, b) rests

    addressed_fits : (straps : ℕ) (f : Frame) (a : ℕ) → Stage f → (f.kind ≡ 3 → ⊥) → a < 0x100000000 → Fits (addressed straps f a)
    unfolding addressed
    addressed_fits straps f a s z h = pick (ask (ltb f.clock 9)) (ask (is_chosen straps a))
      where
        q : known_from part ≡ 2
        q = lpc_known p

        m : address_limit part ≡ 0x100000000
        m = lpc_limit p

        known : Stage f → known_from part ≤ f.clock
        known (reads _ l _) = l
        known (writes _ l _) = l
        known (begins k _ _) = absurd (z k)

        pick : Answer (ltb f.clock 9) → Answer (is_chosen straps a) → Fits (addressed straps f a)
        pick (yes c) d =
            let l = ltb-true f.clock 9 c in
            rw c (on f (f.clock + 1) 0 a s z (omega (arith, known s)) (omega arith) (omega (arith, m)))
        pick (no c) (yes d) = rw (c, d) (on f 10 0 a s z (omega (arith, q)) (omega arith) (omega (arith, m)))
        pick (no c) (no d) = rw (c, d) rests

    headed_lpc_fits : (straps : ℕ) (f : Frame) (n : ℕ) → Stage f → n < 16 → Fits (headed_lpc straps f n)
    unfolding headed_lpc shifted
    headed_lpc_fits straps f n s h = pick s
      where
        a : ℕ
        a = f.address % 0x10000000 * 16 + n

        pick : Stage f → Fits (headed_lpc straps f n)
        pick (reads k l b) = rw (ne_eqb f.kind 3 (λ x. omega arith)) (addressed_fits straps f a s (λ x. omega arith) (omega arith))
        pick (writes k l b) = rw (ne_eqb f.kind 3 (λ x. omega arith)) (addressed_fits straps f a s (λ x. omega arith) (omega arith))
        pick (begins k l c) = rw (eq-eqb f.kind 3 k) (cycled_fits f n c)

  read_fits : (f : Frame) → f.kind ≡ 1 → Stage f → Fits (read_on f)
  unfolding read_on
  read_fits f k s = pick (ask (ltb f.clock 18)) s
    where
      pick : Answer (ltb f.clock 18) → Stage f → Fits (read_on f)
      pick (yes a) (reads _ l b) =
          let m = ltb-true f.clock 18 a in rw (a, k) (read_at (f.clock + 1) f.byte f.address (omega arith) (omega arith) b)
      pick (yes a) (writes j _ _) = absurd (omega arith)
      pick (yes a) (begins j _ _) = absurd (omega arith)
      pick (no a) s = rw a rests

  write_fits : (f : Frame) (n : ℕ) → f.kind ≡ 2 → Stage f → Fits (write_on f n)
  unfolding write_on
  write_fits f n k (reads j _ _) = absurd (omega arith)
  write_fits f n k (begins j _ _) = absurd (omega arith)
  write_fits f n k (writes _ l h) = pick (ask (eqb f.clock 10)) (ask (eqb f.clock 11)) (ask (ltb f.clock 16))
    where
      pick : Answer (eqb f.clock 10) → Answer (eqb f.clock 11) → Answer (ltb f.clock 16) → Fits (write_on f n)
      pick (yes a) b c = let m = eqb-true f.clock 10 a in rw (a, k) (write_at 11 n f.address (omega arith) (omega arith) h)
      pick (no a) (yes b) c = let m = eqb-true f.clock 11 b in rw (a, b, k) (write_at 12 _ f.address (omega arith) (omega arith) h)
      pick (no a) (no b) (yes c) =
          let m = ltb-true f.clock 16 c in rw (a, b, c, k) (write_at (f.clock + 1) f.byte f.address (omega arith) (omega arith) h)
      pick (no a) (no b) (no c) = rw (a, b, c) rests

  next_fits : (straps : ℕ) (f : Frame) (n : ℕ) → Stage f → n < 16 → Fits (next_of part straps f n)
  unfolding next_of
  next_fits straps f n s h = pick (ask (ltb f.clock 10)) (ask (is_lpc part)) s
    where
      pick : Answer (ltb f.clock 10) → Answer (is_lpc part) → Stage f → Fits (next_of part straps f n)
      pick (yes c) (yes l) s = rw (c, l) (headed_lpc_fits l straps f n s h)
      pick (yes c) (no l) s = rw (c, l) (headed_fits straps f n l s h)
      pick (no c) l (reads k a b) = rw (c, eq-eqb f.kind 1 k) (read_fits f k s)
      pick (no c) l (writes k a b) = rw (c, ne_eqb f.kind 1 (λ x. omega arith)) (write_fits f n k s)
      pick (no c) l (begins k a b) = let m = ltb-false f.clock 10 c in absurd (omega arith)

  pub frame_kept : (straps : ℕ) (f : Frame) (sample : ℕ) → Fits f → Fits (frame_clock part straps f sample)
  unfolding frame_clock
  frame_kept straps f sample e = pick (ask (eqb (frame_line sample) 0)) (ask (is_idle f))
    where
      pick : Answer (eqb (frame_line sample) 0) → Answer (is_idle f) → Fits (frame_clock part straps f sample)
      pick (yes a) b = rw a (begun_fits_lem (lines sample))
      pick (no a) (yes b) = rw (a, b) e
      pick (no a) (no b) = rw (a, b) (next_fits straps f (lines sample) (stage f e b) (omega arith))
