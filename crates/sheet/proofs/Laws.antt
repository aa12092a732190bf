-- Which number reading and writing give when; reading what was written gives the values back, and writing what was read
-- gives the bytes back. Assumes nothing.
use mathlib.Core.Path.{◌≡◌, ◌∙◌, refl, ap}
use mathlib.Core.Bool.{true, false}
use mathlib.Core.List.{List, [], ◌∷◌, ◌++◌}
use Prim.Native.Nat.{ℕ, ◌<◌, ◌≤◌}
use native.Mathlib.Omega.{arith}
use borrow.Author.Tests.{lt-ltb, le-ltb, ltb-true, ltb-false}
use lib.Dec.{ltb}
use lib.ListN.{length, get_or, take, drop}
use lib.Seq.{take_at}
use Rattle.basics.specs.All.{all}
use Rattle.basics.proofs.All.{holds}
use Rattle.basics.proofs.Rules.{ask, yes, no}
use Rattle.units.specs.declared.Times.{Times}
use Rattle.units.specs.Units.{times, times_fit}
use Rattle.std.specs.Prelude.{Ok, Err}
use Rattle.basics.specs.declared.refusal.Refusal.TheVariants.{Layout, Straps, Times as BadTimes}
use Rattle.basics.specs.Bytes.{two_at}
use Rattle.sheet.specs.declared.Bay.{Bay}
use Rattle.sheet.specs.Sheet.{laid, bay, field_at, of_layout, straps_in, times_in, read_of, sheet_written, write_of}
use Rattle.sheet.proofs.Places.{thirteen, head, spelled, halves, halved}

-- document 01's example
pub example : laid 0 10 3906 30
    ≡ 0x01 ∷ 0x01 ∷ 0x00 ∷ 0x00 ∷ 0x02 ∷ 0x06 ∷ 0x00 ∷ 0x0A ∷ 0x00 ∷ 0x42 ∷ 0x0F ∷ 0x1E ∷ 0x00 ∷ []
unfolding laid
example = refl

-- 8 wherever the layout is missed, 3 only where it is not, 4 only where neither is
module _ (s : List ℕ) where
  pub read_8 : of_layout s ≡ false → read_of s ≡ Err Layout
  unfolding read_of
  read_8 e = rw e

  module _ (e : of_layout s ≡ true) where
    pub read_3 : 15 < straps_in s → read_of s ≡ Err Straps
    unfolding read_of
    read_3 h = rw (e, lt-ltb 15 (straps_in s) h)

    module _ (h : straps_in s ≤ 15) where
      pub read_4 : times_fit (times_in s) ≡ false → read_of s ≡ Err BadTimes
      unfolding read_of
      read_4 f = rw (e, le-ltb 15 (straps_in s) h, f)

      pub read_0 : times_fit (times_in s) ≡ true → read_of s ≡ Ok (bay (straps_in s) (times_in s))
      unfolding read_of
      read_0 f = rw (e, le-ltb 15 (straps_in s) h, f)

-- 3 before 4 before 6
module _ (buffer : List ℕ) (straps program slice pause : ℕ) where
  pub write_3 : 15 < straps → write_of buffer straps program slice pause ≡ sheet_written 3 buffer
  unfolding write_of
  write_3 h = rw (lt-ltb 15 straps h)

  module _ (h : straps ≤ 15) where
    pub write_4 : times_fit (times program slice pause) ≡ false
        → write_of buffer straps program slice pause ≡ sheet_written 4 buffer
    unfolding write_of
    write_4 f = rw (le-ltb 15 straps h, f)

    module _ (f : times_fit (times program slice pause) ≡ true) where
      pub write_6 : length buffer < 13 → write_of buffer straps program slice pause ≡ sheet_written 6 buffer
      unfolding write_of
      write_6 l = rw (le-ltb 15 straps h, f, lt-ltb (length buffer) 13 l)

      pub write_0 : 13 ≤ length buffer
          → write_of buffer straps program slice pause ≡ sheet_written 0 (laid straps program slice pause ++ drop 13 buffer)
      unfolding write_of
      write_0 l = rw (le-ltb 15 straps h, f, le-ltb (length buffer) 13 l)

-- whatever is laid has the layout, and whatever has the layout is laid of the values in it
module _ (straps program slice pause : ℕ) where
  pub laid_length : length (laid straps program slice pause) ≡ 13
  unfolding laid
  laid_length = refl

  pub laid_layout : of_layout (laid straps program slice pause) ≡ true
  unfolding laid of_layout field_at all
  laid_layout = refl

  laid_straps : straps_in (laid straps program slice pause) ≡ straps
  unfolding laid
  laid_straps = refl

  laid_times : times_in (laid straps program slice pause) ≡ times program slice pause
  unfolding laid
  laid_times = rw (halves program, halves slice, halves pause)

module _ (s : List ℕ) (bytes : (i : ℕ) → get_or s i 0 < 256) (e : of_layout s ≡ true) where
  first : (get_or s 0 0 ≡ 1) × (get_or s 1 0 ≡ 1) × (get_or s 2 0 ≡ 0)
  unfolding of_layout
  first = head s 0 1 1 (omega arith) (holds _ 1 e)

  second : (get_or s 4 0 ≡ 2) × (get_or s 5 0 ≡ 6) × (get_or s 6 0 ≡ 0)
  unfolding of_layout
  second = head s 4 2 6 (omega arith) (holds _ 2 e)

  pub layout_laid : s ≡ laid (straps_in s) (two_at s 7) (two_at s 9) (two_at s 11)
  unfolding laid
  layout_laid =
      let f = first in
      let g = second in
      let p = halved (get_or s 7 0) (get_or s 8 0) (bytes 7) in
      let q = halved (get_or s 9 0) (get_or s 10 0) (bytes 9) in
      let r = halved (get_or s 11 0) (get_or s 12 0) (bytes 11) in
      spelled s 13 (thirteen s e)
      ∙ rw (f.0, f.1, f.2, g.0, g.1, g.2, p.0, p.1, q.0, q.1, r.0, r.1)

-- reading what was written
module _ (straps program slice pause : ℕ) (h : straps ≤ 15) (fits : times_fit (times program slice pause) ≡ true) where
  pub read_laid : read_of (laid straps program slice pause) ≡ Ok (bay straps (times program slice pause))
  read_laid =
      let l = laid_layout straps program slice pause in
      let n = laid_straps straps program slice pause in
      let t = laid_times straps program slice pause in
      rw (n, t) at (read_0 (laid straps program slice pause) l (rw n h) (rw t fits))

  pub read_written : (buffer : List ℕ)
      → 13 ≤ length buffer
      → read_of (take 13 (write_of buffer straps program slice pause).buffer) ≡ Ok (bay straps (times program slice pause))
  read_written buffer room =
      let l = laid_length straps program slice pause in
      rw (write_0 buffer straps program slice pause h fits room, take_at (laid straps program slice pause) (drop 13 buffer) 13 l)
      read_laid

-- a reading that holds has passed the three tests, and holds what stands in the bytes
pub record Held (s : List ℕ) (straps : ℕ) (t : Times) : Type 0 where
  pub layout : of_layout s ≡ true
  pub straps_in_lem : straps_in s ≡ straps
  pub times_in_lem : times_in s ≡ t
  pub most : straps_in s ≤ 15
  pub fits : times_fit (times_in s) ≡ true

never : {A : Type 0} → ◌≡◌ {A = ℕ} 0 1 → A
never e = absurd (omega arith)

pub held : (s : List ℕ) (straps : ℕ) (t : Times) → read_of s ≡ Ok (bay straps t) → Held s straps t
held s straps t e =
    elim (ask (of_layout s)) [
      | no a ↦ never (cc (read_8 s a))
      | yes a ↦ elim (ask (ltb 15 (straps_in s))) [
        | yes b ↦ never (cc (read_3 s a (ltb-true 15 (straps_in s) b)))
        | no b ↦ let h : straps_in s ≤ 15 = ltb-false 15 (straps_in s) b in
            elim (ask (times_fit (times_in s))) [
              | no f ↦ never (cc (read_4 s a h f))
              | yes f ↦
                  let r = read_0 s a h f in
                  let same : bay (straps_in s) (times_in s) ≡ bay straps t = (cc) in
                  record {
                    layout = a;
                    straps_in_lem = ap (λ (b : Bay). b.straps) same;
                    times_in_lem = ap (λ (b : Bay). b.times) same;
                    most = h;
                    fits = f;
                  }
            ]
      ]
    ]

-- writing what was read
module _ (s : List ℕ) (bytes : (i : ℕ) → get_or s i 0 < 256) (straps : ℕ) (t : Times) (e : read_of s ≡ Ok (bay straps t)) where
  pub laid_read : s ≡ laid straps t.program.0 t.slice.0 t.pause.0
  laid_read = let g = held s straps t e in layout_laid s bytes g.layout ∙ rw (← g.times_in_lem, g.straps_in_lem)

  pub write_read : (buffer : List ℕ)
      → 13 ≤ length buffer
      → write_of buffer straps t.program.0 t.slice.0 t.pause.0 ≡ sheet_written 0 (s ++ drop 13 buffer)
  write_read buffer room =
      let g = held s straps t e in
      let most : straps ≤ 15 = rw g.straps_in_lem at g.most in
      let fits : times_fit t ≡ true = rw g.times_in_lem at g.fits in
      write_0 buffer straps t.program.0 t.slice.0 t.pause.0 most fits room ∙ rw (← laid_read)
