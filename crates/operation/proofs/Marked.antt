-- The marks: setting or clearing one block's mark touches that one alone, and only an erase that finishes removes one.
-- Assumes nothing.
use Rattle.std.proofs.lemmas.Bool.Decides.{nat_tests}
use mathlib.Core.Path.{◌≡◌, ◌∙◌, sym, ap}
use mathlib.Core.Bool.{true, false, cond}
use mathlib.Core.List.{[]}
use Prim.Native.Nat.{ℕ, ◌-◌, ◌/◌, ◌%◌, ◌^◌, ◌<◌}
use native.Mathlib.Omega.{arith}
use lib.Bits.{bit_and, bit_or, and_shr, or_shr, and_mod, or_mod}
use lib.Dec.{eqb}
use borrow.Author.Tests.{eq-eqb, ne_eqb}
use Rattle.basics.proofs.Rules.{Answer, yes, no, ask, clash}
use Rattle.basics.proofs.Table.{at, at2}
use Rattle.record.specs.declared.Controller.{Controller}
use Rattle.record.specs.Record.{is_erase}
use Rattle.operation.specs.Marks.{marked, marking, clearing}
use Rattle.operation.specs.Clock.{active, is_still, marks_after, replaced, controller_clock}

-- the bit of block b in a number
abbrev bit : ℕ → ℕ → ℕ
bit n b = n / 2 ^ b % 2

or_bit : (m n b : ℕ) → bit (bit_or m n) b ≡ bit_or (bit m b) (bit n b)
or_bit m n b = ap (λ (x : ℕ). x % 2) (or_shr m n b) ∙ or_mod (m / 2 ^ b) (n / 2 ^ b) 1

and_bit : (m n b : ℕ) → bit (bit_and m n) b ≡ bit_and (bit m b) (bit n b)
and_bit m n b = ap (λ (x : ℕ). x % 2) (and_shr m n b) ∙ and_mod (m / 2 ^ b) (n / 2 ^ b) 1

-- the bits of a block's number, and of its complement: one computed test of sixteen by sixteen
bit_of : (c b : ℕ) → c < 16 → b < 16 → bit (2 ^ c) b ≡ cond (eqb b c) 1 0
bit_of c b h l =
    sym (at2 (λ (i j : ℕ). bit (2 ^ i) j) 16 16 c b [] 0 h l) ∙ at2 (λ (i j : ℕ). cond (eqb j i) 1 0) 16 16 c b [] 0 h l

bit_off : (c b : ℕ) → c < 16 → b < 16 → bit (65535 - 2 ^ c) b ≡ cond (eqb b c) 0 1
bit_off c b h l =
    sym (at2 (λ (i j : ℕ). bit (65535 - 2 ^ i) j) 16 16 c b [] 0 h l) ∙ at2 (λ (i j : ℕ). cond (eqb j i) 0 1) 16 16 c b [] 0 h l

-- a bit with a 1 or a 0 put to it
module _ (x : ℕ) (h : x < 2) where
  or_one : bit_or x 1 ≡ 1
  or_one = sym (at (λ (k : ℕ). bit_or k 1) 2 x 0 h) ∙ at (λ (k : ℕ). 1) 2 x 0 h

  or_none : bit_or x 0 ≡ x
  or_none = sym (at (λ (k : ℕ). bit_or k 0) 2 x 0 h) ∙ at (λ (k : ℕ). k) 2 x 0 h

  and_one : bit_and x 1 ≡ x
  and_one = sym (at (λ (k : ℕ). bit_and k 1) 2 x 0 h) ∙ at (λ (k : ℕ). k) 2 x 0 h

  and_none : bit_and x 0 ≡ 0
  and_none = sym (at (λ (k : ℕ). bit_and k 0) 2 x 0 h) ∙ at (λ (k : ℕ). 0) 2 x 0 h

module _ (m c b : ℕ) (h : c < 16) (l : b < 16) where
  pub marking_same : b ≡ c → marked (marking m c) b ≡ true
  unfolding marking
  marking_same e =
      rw (or_bit m (2 ^ c) b, bit_of c b h l, eq-eqb b c e, or_one (bit m b) (omega arith))

  pub marking_other : (b ≡ c → ⊥) → marked (marking m c) b ≡ marked m b
  unfolding marking
  marking_other n =
      rw (or_bit m (2 ^ c) b, bit_of c b h l, ne_eqb b c n, or_none (bit m b) (omega arith))

  pub clearing_same : b ≡ c → marked (clearing m c) b ≡ false
  unfolding clearing
  clearing_same e =
      rw (and_bit m (65535 - 2 ^ c) b, bit_off c b h l, eq-eqb b c e, and_none (bit m b) (omega arith))

  pub clearing_other : (b ≡ c → ⊥) → marked (clearing m c) b ≡ marked m b
  unfolding clearing
  clearing_other n =
      rw (and_bit m (65535 - 2 ^ c) b, bit_off c b h l, ne_eqb b c n, and_one (bit m b) (omega arith))

-- the marks after a clock
pub controller_clock_marks : (c : Controller)
    → (controller_clock c).after.marks
    ≡ cond (is_still (active c)) c.marks (marks_after c.marks (active c) (controller_clock c).finished)
unfolding controller_clock replaced
controller_clock_marks c = grind (arith, nat_tests)

-- a clock on which no erase finishes leaves every mark
pub marks_left : (c : Controller) → cond (controller_clock c).finished (is_erase (active c)) false ≡ false → (controller_clock c).after.marks ≡ c.marks
unfolding marks_after
marks_left c e = controller_clock_marks c ∙ pick (ask (is_still (active c))) (ask (controller_clock c).finished) (ask (is_erase (active c)))
  where
    pick : Answer (is_still (active c))
        → Answer (controller_clock c).finished
        → Answer (is_erase (active c))
        → cond (is_still (active c)) c.marks (marks_after c.marks (active c) (controller_clock c).finished) ≡ c.marks
    pick (yes a) f k = rw a
    pick (no a) (no f) k = rw (a, f)
    pick (no a) (yes f) (no k) = rw (a, f, k)
    pick (no a) (yes f) (yes k) = clash (sym (rw (f, k) at e))
