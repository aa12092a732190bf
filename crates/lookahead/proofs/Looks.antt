-- The loops that look over samples, turn by turn. Assumes nothing.
use mathlib.Core.Path.{◌≡◌, ◌∙◌, sym, refl}
use mathlib.Core.Bool.{Bool, true, false, ◌&&◌}
use mathlib.Core.List.{List}
use Prim.Native.Nat.{ℕ, zero, suc, ◌+◌, ◌-◌, ◌<◌, ◌≤◌}
use native.Mathlib.Nat.{add-zero}
use native.Mathlib.Numerals.{add-one}
use native.Mathlib.Omega.{arith}
use lib.Dec.{leb, ltb}
use lib.ListN.{length, set, take, drop}
use lib.Seq.{set_split, append_snoc}
use borrow.Author.Tests.{le-leb, lt-leb, leb-true, ltb-true, ltb-false}
use Rattle.std.specs.List.{fold, range_with_len}
use Rattle.basics.proofs.Rules.{Answer, ask, yes, no, clash, and_left, and_right, and_both}
use Rattle.basics.specs.Bytes.{filled}
use Rattle.basics.proofs.Filled.{filled_none}
use Rattle.basics.proofs.Joined.{filled_filled}
use Rattle.bus.specs.Frames.{shifted}
use Rattle.record.specs.Record.{is_lpc}
use Rattle.record.specs.Sample.{lines, is_idle_sample, sample_at}
use Rattle.lookahead.specs.Lookahead.{is_start, all_idle, address_over, address_at, start_of, head_fits, whole_frame, sixteen_idle, Skipped}

-- a fold over the places of n samples: all are idle, and the address that they shift in
pub idle_fold : (s : List ℕ) (k n : ℕ) (all : Bool)
    → fold (λ (a : Bool) (i : ℕ). a && is_idle_sample (sample_at s i)) all (range_with_len k n) ≡ (all && all_idle s k n)
idle_fold s k zero true = refl
idle_fold s k zero false = refl
idle_fold s k (suc n) true = idle_fold s (k + 1) n (is_idle_sample (sample_at s k))
idle_fold s k (suc n) false = idle_fold s (k + 1) n false

pub address_fold : (part : ℕ) (s : List ℕ) (k n address : ℕ)
    → fold (λ (a i : ℕ). shifted part a (lines (sample_at s i))) address (range_with_len k n) ≡ address_over part s k n address
address_fold part s k zero address = refl
address_fold part s k (suc n) address = address_fold part s (k + 1) n (shifted part address (lines (sample_at s k)))

-- one nibble more
pub address_more : (part : ℕ) (s : List ℕ) (k n a : ℕ)
    → address_over part s k (suc n) a ≡ shifted part (address_over part s k n a) (lines (sample_at s (k + n)))
address_more part s k zero a = rw add-zero
address_more part s k (suc n) a =
    let e : k + suc n ≡ k + 1 + n = omega arith in
    rw e (address_more part s (k + 1) n (shifted part a (lines (sample_at s k))))

module _ (part : ℕ) (s : List ℕ) (k : ℕ) where
  pub eight_nibbles : is_lpc part ≡ true
      → shifted part (address_over part s k 7 0) (lines (sample_at s (k + 7))) ≡ address_at part s k
  unfolding address_at
  eight_nibbles l = rw l (sym (address_more part s k 7 0))

  pub seven_nibbles : is_lpc part ≡ false → address_over part s k 7 0 ≡ address_at part s k
  unfolding address_at
  seven_nibbles l = rw l

-- a frame that lies whole in the stream, test by test
module _ (s : List ℕ) (part straps kind k to n : ℕ) where
  abbrev Whole : Bool → Type 0
  Whole t = t ≡ whole_frame s part straps kind k to n

  pub whole_not_begun : is_start (start_of part kind) (sample_at s k) ≡ false → Whole false
  unfolding whole_frame
  whole_not_begun a = rw a

  module _ (a : is_start (start_of part kind) (sample_at s k) ≡ true) where
    pub whole_cut : to - k < n → Whole false
    unfolding whole_frame
    whole_cut b = rw (a, lt-leb n (to - k) b)

    module _ (b : n ≤ to - k) where
      pub whole_other : head_fits s part straps kind k ≡ false → Whole false
      unfolding whole_frame
      whole_other c = rw (a, le-leb n (to - k) b, c)

      pub whole_head : head_fits s part straps kind k ≡ true → Whole (all_idle s (k + 1) (n - 1))
      unfolding whole_frame
      whole_head c = rw (a, le-leb n (to - k) b, c)

-- and sixteen idle samples
module _ (s : List ℕ) (k to : ℕ) where
  pub sixteen_no : to - k < 16 → false ≡ sixteen_idle s k to
  unfolding sixteen_idle
  sixteen_no h = rw (lt-leb 16 (to - k) h)

  pub sixteen_yes : 16 ≤ to - k → all_idle s k 16 ≡ sixteen_idle s k to
  unfolding sixteen_idle
  sixteen_yes h = rw (le-leb 16 (to - k) h)

  pub sixteen : sixteen_idle s k to ≡ true → (16 ≤ to - k) × (all_idle s k 16 ≡ true)
  unfolding sixteen_idle
  sixteen e =
      elim (ask (leb 16 (to - k))) [ yes t ↦ (leb-true _ _ t, rw t at e) | no t ↦ clash (rw t at e) ]

-- idle samples and some more behind them
pub idle_join : (s : List ℕ) (k m n : ℕ) → all_idle s k m ≡ true → all_idle s (k + m) n ≡ true → all_idle s k (m + n) ≡ true
idle_join s k zero n a b =
    let x : 0 + n ≡ n = omega arith in
    let y : k + 0 ≡ k = omega arith in
    rw x (rw y at b)
idle_join s k (suc m) n a b =
    let x : suc m + n ≡ suc (m + n) = omega arith in
    let y : k + suc m ≡ k + 1 + m = omega arith in
    rw x
    (and_both (is_idle_sample (sample_at s k)) (all_idle s (k + 1) (m + n)) (and_left (is_idle_sample (sample_at s k)) (all_idle s (k + 1) m) a)
    (idle_join s (k + 1) m n (and_right (is_idle_sample (sample_at s k)) (all_idle s (k + 1) m) a) (rw y at b)))

-- nothing has been skipped up to where it began
pub skipped_none : (s answers : List ℕ) (k : ℕ) → Skipped s answers k k answers
skipped_none s answers k =
    let x : k - k ≡ 0 = omega arith in
    record { idle = rw x; zeros = rw x (filled_none answers k 0) }

-- sixteen at once, and one
pub sixteen_idle_lem : (s a : List ℕ) (k : ℕ) → all_idle s k 16 ≡ true → Skipped s a k (k + 16) (filled a k 16 0)
sixteen_idle_lem s a k e =
    let x : k + 16 - k ≡ 16 = omega arith in
    record { idle = rw x e; zeros = rw x }

pub one_idle : (s a : List ℕ) (k : ℕ) → is_idle_sample (sample_at s k) ≡ true → Skipped s a k (k + 1) (filled a k 1 0)
one_idle s a k e =
    let x : k + 1 - k ≡ 1 = omega arith in
    record { idle = rw (x, e); zeros = rw x }

-- what has been skipped up to a place, and from there to another
pub skipped_more : {s a b c : List ℕ} {k l m : ℕ}
    → k ≤ l
    → l ≤ m
    → m ≤ length a
    → Skipped s a k l b
    → Skipped s b l m c
    → Skipped s a k m c
skipped_more {s} {a} {b} {c} {k} {l} {m} h i j p q =
    let x : m - k ≡ l - k + (m - l) = omega arith in
    let y : k + (l - k) ≡ l = omega arith in
    record {
      idle = rw x (idle_join s k (l - k) (m - l) p.idle (rw y q.idle));
      zeros =
          q.zeros
          ∙ rw (p.zeros, x, ← filled_filled a k (l - k) (m - l) 0 (omega arith), y);
    }

-- and sixteen more at once, or one
module _ (s a b : List ℕ) (k l : ℕ) (h : k ≤ l) (p : Skipped s a k l b) where
  pub skipped_sixteen : (to : ℕ) → to ≤ length a → sixteen_idle s l to ≡ true → Skipped s a k (l + 16) (filled b l 16 0)
  skipped_sixteen to i e =
      let t = sixteen s l to e in
      skipped_more h (omega arith) (omega (arith, t.0)) p (sixteen_idle_lem s b l t.1)

  pub skipped_one : l < length b → length b ≡ length a → is_idle_sample (sample_at s l) ≡ true → Skipped s a k (l + 1) (set b l 0)
  skipped_one i j e =
      let x : set b l 0 ≡ filled b l 1 0 = set_split b l 0 i ∙ sym (append_snoc (take l b) 0 (drop (suc l) b)) ∙ rw (add-one l) in
      skipped_more h (omega arith) (omega arith) p (rw x (one_idle s b l e))

-- from an idle sample on to a place that is the end or not idle, it goes further
pub skipped_further : (s : List ℕ) (k m n : ℕ)
    → k < n
    → k ≤ m
    → is_idle_sample (sample_at s k) ≡ true
    → (m < n → is_idle_sample (sample_at s m) ≡ false)
    → k < m
skipped_further s k m n h i e f = pick (ask (ltb k m))
  where
    pick : Answer (ltb k m) → k < m
    pick (yes t) = ltb-true k m t
    pick (no t) =
        let l = ltb-false k m t in
        let q : m ≡ k = omega arith in
        clash (sym (rw q at (f (omega arith))) ∙ e)
