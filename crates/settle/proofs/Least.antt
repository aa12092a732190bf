-- Document 01, "the count is the least number of samples after which status bit 7 is 1": where the repeating stops, it
-- stops after that number of the definition's steps, and bit 7 is 0 after every smaller number. Assumes nothing.
use mathlib.Core.Path.{◌≡◌, ◌∙◌, sym, refl, ap}
use mathlib.Core.Bool.{Bool, true, false}
use Prim.Native.Nat.{ℕ, zero, suc, ◌+◌, ◌≤◌, ◌<◌}
use native.Mathlib.Nat.{not-suc-le-zero, le_of_suc-le-suc}
use native.Mathlib.Numerals.{add-one}
use native.Mathlib.Omega.{arith}
use lib.Dec.{ltb}
use borrow.Author.Tests.{ltb-true, ltb-false}
use Rattle.basics.proofs.Rules.{ask, yes, no, clash}
use Rattle.clock.specs.Fold.{World, onward, repeated}
use Rattle.settle.specs.Settle.{is_ready, Stop, stop, settling}

-- one sample more was done
abbrev later : Stop → Stop
later s = stop (s.count + 1) s.ready s.world

shifted : (sample n count : ℕ) (w : World)
    → settling sample n (count + 1) w ≡ later (settling sample n count w)
shifted sample zero count w = refl
shifted sample (suc n) count w =
    elim (ask (is_ready w.device)) [ yes e ↦ rw e | no e ↦ rw e (shifted sample n (count + 1) (onward w sample)) ]

stopped : (s : Stop) (count : ℕ) (ready : Bool) (w : World)
    → s.count ≡ count
    → s.ready ≡ ready
    → s.world ≡ w
    → s ≡ stop count ready w
stopped s count ready w e f g = rw (← e, ← f, ← g)

-- with n samples allowed from world w on, it stops at s
pub record Least (sample n : ℕ) (w : World) (s : Stop) : Type 0 where
  pub allowed : s.count ≤ n
  pub reached : s.world ≡ repeated sample s.count w
  pub told : s.ready ≡ is_ready (repeated sample s.count w).device
  pub waited : (j : ℕ) → j < s.count → is_ready (repeated sample j w).device ≡ false
  pub exhausted : s.ready ≡ false → s.count ≡ n

here : (sample n : ℕ) (w : World) → is_ready w.device ≡ true → Least sample n w (stop 0 true w)
here sample n w e =
    record {
      allowed = omega arith;
      reached = refl;
      told = sym e;
      waited = λ j h. absurd (not-suc-le-zero h);
      exhausted = λ f. clash (sym f);
    }

module _ (sample n : ℕ) (w : World) (e : is_ready w.device ≡ false) (s : Stop)
    (l : Least sample n (onward w sample) s)
  where
    none_before : (j : ℕ) → j < suc s.count → is_ready (repeated sample j w).device ≡ false
    none_before zero h = e
    none_before (suc j) h = l.waited j (le_of_suc-le-suc h)

    onwards : Least sample (suc n) w (later s)
    onwards =
        record {
          allowed = omega (arith, l.allowed);
          reached = rw (add-one s.count) l.reached;
          told = rw (add-one s.count) l.told;
          waited = rw (add-one s.count) none_before;
          exhausted = λ f. add-one s.count ∙ ap suc (l.exhausted f);
        }

pub least : (sample n : ℕ) (w : World) → Least sample n w (settling sample n 0 w)
least sample zero w =
    record {
      allowed = omega arith;
      reached = refl;
      told = refl;
      waited = λ j h. absurd (not-suc-le-zero h);
      exhausted = λ f. refl;
    }
least sample (suc n) w =
    elim (ask (is_ready w.device)) [
      | yes e ↦ rw e (here sample (suc n) w e)
      | no e ↦ rw (e, shifted sample n 0 (onward w sample)) (onwards sample n w e (settling sample n 0 (onward w sample)) (least sample n (onward w sample)))
    ]

module _ (sample n : ℕ) (w : World) where
  -- it stops with bit 7 at 1, after the first number of samples at which it is
  pub ready_least : (settling sample n 0 w).ready ≡ true
      → (is_ready (repeated sample (settling sample n 0 w).count w).device ≡ true)
      × ((j : ℕ) → j < (settling sample n 0 w).count → is_ready (repeated sample j w).device ≡ false)
      × ((settling sample n 0 w).world ≡ repeated sample (settling sample n 0 w).count w)
  ready_least e = let l = least sample n w in (sym l.told ∙ e, l.waited, l.reached)

  -- bit 7 is 0 after every number of samples, N included
  pub never : (settling sample n 0 w).ready ≡ false
      → (j : ℕ)
      → j ≤ n
      → is_ready (repeated sample j w).device ≡ false
  never e j h =
      let l = least sample n w in
      elim (ask (ltb j (settling sample n 0 w).count)) [
        | yes f ↦ l.waited j (ltb-true j _ f)
        | no f ↦
            let g : (settling sample n 0 w).count ≤ j = ltb-false j _ f in
            let m : (settling sample n 0 w).count ≡ n = l.exhausted e in
            let k : (settling sample n 0 w).count ≡ j = omega arith in
            rw k at (sym l.told ∙ e)
      ]

  -- all n samples are done then
  pub exhausted_all : (settling sample n 0 w).ready ≡ false
      → ((settling sample n 0 w).count ≡ n)
      × ((j : ℕ) → j ≤ n → is_ready (repeated sample j w).device ≡ false)
      × ((settling sample n 0 w).world ≡ repeated sample n w)
  exhausted_all e =
      let l = least sample n w in
      (l.exhausted e, never e, rw (l.exhausted e) at l.reached)

  -- never more than are allowed
  pub count_most : (settling sample n 0 w).count ≤ n
  count_most = (least sample n w).allowed

  -- the first number of samples after which bit 7 is 1, if it is allowed, is the count
  pub first_is_count : (m : ℕ)
      → m ≤ n
      → is_ready (repeated sample m w).device ≡ true
      → ((j : ℕ) → j < m → is_ready (repeated sample j w).device ≡ false)
      → settling sample n 0 w ≡ stop m true (repeated sample m w)
  first_is_count m h r f =
      let l = least sample n w in
      elim (ask (ltb (settling sample n 0 w).count m)) [
        | yes a ↦
            let g : (settling sample n 0 w).count < m = ltb-true _ m a in
            let k : (settling sample n 0 w).count ≡ n = l.exhausted (l.told ∙ f _ g) in absurd (omega arith)
        | no a ↦ elim (ask (ltb m (settling sample n 0 w).count)) [
          | yes b ↦ clash (sym (l.waited m (ltb-true m _ b)) ∙ r)
          | no b ↦
              let g : m ≤ (settling sample n 0 w).count = ltb-false _ m a in
              let i : (settling sample n 0 w).count ≤ m = ltb-false m _ b in
              let k : (settling sample n 0 w).count ≡ m = omega arith in
              stopped (settling sample n 0 w) m true (repeated sample m w) k (rw k at l.told ∙ r) (rw k at l.reached)
        ]
      ]
