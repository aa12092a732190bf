-- Request #103: at every offset the rule finds what the list of a part's registers has. Computed tests of both parts show
-- that it finds each entry where that entry stands, so no entry stands where it finds nothing; and where it finds a register,
-- that one stands there. Assumes nothing.
use mathlib.Core.Path.{◌≡◌, ◌∙◌, ap, sym, refl}
use mathlib.Core.Bool.{Bool, true, false, cond}
use Rattle.std.proofs.Common.{Option, Some, None}
use Prim.Native.Nat.{ℕ, ◌+◌, ◌/◌, ◌%◌, ◌<◌}
use native.Mathlib.Omega.{arith}
use lib.ListN.{length, get_or}
use lib.Dec.{eqb, ltb}
use borrow.Author.Tests.{eqb-true, ltb-true}
use Rattle.part.specs.declared.Register.{Register}
use Rattle.part.specs.declared.Register.TheVariants.{Lock, Inputs, MakerCode, DeviceCode}
use Rattle.part.specs.Registers.{Entry, lock_offset, registers, first_at}
use Rattle.part.specs.Rule.{register_in}
use Rattle.basics.proofs.Rules.{clash}
use Rattle.basics.proofs.Table.{at}
use Rattle.part.proofs.Rule.{none_of, lock_found, inputs_found, codes_found}

abbrev default : Entry
default = record { at = 0; what = Inputs }

abbrev is_found : Option Register → Bool
is_found (Some r) = true
is_found None = false

-- one test of the rule, by its answer
asked : {G : Type 0} {r : Option Register} {t : Bool} {x y : Option Register}
    → r ≡ cond t x y
    → (t ≡ true → r ≡ x → G)
    → (t ≡ false → r ≡ y → G)
    → G
asked {t = true} e f g = f refl e
asked {t = false} e f g = g refl e

-- it finds each entry where it stands
abbrev entry_at : Bool → ℕ → Entry
entry_at lpc k = get_or (registers lpc) k default

entry_ruled : (lpc : Bool) (k : ℕ) → k < length (registers lpc) → register_in lpc (entry_at lpc k).at ≡ Some (entry_at lpc k).what
unfolding register_in
entry_ruled true k h =
    sym (at (λ (i : ℕ). register_in true (entry_at true i).at) 17 k None h) ∙ at (λ (i : ℕ). Some (entry_at true i).what) 17 k None h
entry_ruled false k h =
    sym (at (λ (i : ℕ). register_in false (entry_at false i).at) 19 k None h) ∙ at (λ (i : ℕ). Some (entry_at false i).what) 19 k None h

module _ (lpc : Bool) (o : ℕ) where
  abbrev block : ℕ
  block = o / 0x10000

  abbrev low : ℕ
  low = o % 0x10000

  abbrev Ruled : Type 0
  Ruled = register_in lpc o ≡ first_at (registers lpc) o

  -- where it finds nothing no entry stands
  none : register_in lpc o ≡ None → Ruled
  none m =
      m
      ∙ sym
      (none_of (registers lpc) o default (λ k h e.
      clash (ap is_found (sym m ∙ sym (ap (register_in lpc) e) ∙ entry_ruled lpc k h))))

  -- and where it finds one, that one stands there
  lock : ltb block 16 ≡ true → eqb low 2 ≡ true → register_in lpc o ≡ Some (Lock block) → Ruled
  lock inside two e =
      let i : lock_offset block ≡ o = omega (arith, eqb-true low 2 two) in
      e ∙ sym (lock_found lpc block (ltb-true block 16 inside)) ∙ ap (first_at (registers lpc)) i

  own : (k : ℕ) (r : Register)
      → first_at (registers lpc) (0xC0000 + k) ≡ Some r
      → eqb block 12 ≡ true
      → eqb low k ≡ true
      → register_in lpc o ≡ Some r
      → Ruled
  own k r stands twelve there e =
      let i : 0xC0000 + k ≡ o = omega (arith, eqb-true block 12 twelve, eqb-true low k there) in
      e ∙ sym stands ∙ ap (first_at (registers lpc)) i

  code : (k : ℕ) (r : Register) → first_at (registers false) k ≡ Some r → lpc ≡ false → first_at (registers lpc) k ≡ Some r
  code k r stands l = rw l stands

  pub ruled : Ruled
  unfolding register_in
  ruled =
      asked refl (λ inside e.
      asked e (λ t. lock inside t) (λ t e.
      asked e (λ twelve e.
      asked e (λ t. own 0x100 Inputs (inputs_found lpc) twelve t) (λ t e.
      asked e (λ t. none) (λ fwh e.
      asked e (λ t. own 0 MakerCode (code 0xC0000 MakerCode codes_found.0 fwh) twelve t) (λ t e.
      asked e (λ t. own 1 DeviceCode (code 0xC0001 DeviceCode codes_found.1 fwh) twelve t) (λ t. none)))))
      (λ t. none)))
      (λ t. none)
