-- A part's registers by the list of their offsets: where each stands, none where no entry does, and what a lookup that finds a
-- lock knows of it. Of both parts; the locks are one computed test. Assumes nothing.
use mathlib.Core.Path.{◌≡◌, ◌∙◌, ap, sym, refl}
use mathlib.Core.Bool.{Bool, true, false, cond, ◌&&◌}
use mathlib.Core.List.{List, [], ◌∷◌}
use Rattle.std.proofs.Common.{Option, Some, None}
use Prim.Native.Nat.{ℕ, suc, ◌+◌, ◌-◌, ◌*◌, ◌<◌, zero-le, suc-le-suc}
use native.Mathlib.Omega.{arith}
use lib.ListN.{length, get_or}
use lib.Dec.{eqb, ltb}
use borrow.Author.Tests.{eqb-true, ne_eqb, ltb-true, ltb-false, le-ltb}
use Rattle.record.specs.Record.{is_lpc}
use Rattle.part.specs.declared.Register.{Register}
use Rattle.part.specs.declared.Register.TheVariants.{Lock, Inputs, MakerCode, DeviceCode}
use Rattle.part.specs.Registers.{Entry, register_base, lock_offset, registers, first_at, register_at}
use Rattle.basics.proofs.Rules.{Answer, yes, no, ask, clash, and_left, and_right}
use Rattle.basics.proofs.Table.{at}

pub none_of : (es : List Entry) (o : ℕ) (d : Entry)
    → ((k : ℕ) → k < length es → (get_or es k d).at ≡ o → ⊥)
    → first_at es o ≡ None
none_of [] o d h = refl
none_of (e ∷ es) o d h =
    rw (ne_eqb e.at o (h 0 (suc-le-suc zero-le))) (none_of es o d (λ k l. h (suc k) (suc-le-suc l)))

-- what is tested for holds of every entry, and so of what a lookup finds
module _ (test : ℕ → Register → Bool) where
  abbrev every_one : List Entry → Bool
  every_one [] = true
  every_one (e ∷ es) = test e.at e.what && every_one es

  abbrev of_found : ℕ → Option Register → Bool
  of_found o (Some r) = test o r
  of_found o None = true

  chosen : (o : ℕ) (t : Bool) (x y : Option Register)
      → (t ≡ true → of_found o x ≡ true)
      → of_found o y ≡ true
      → of_found o (cond t x y) ≡ true
  chosen o true x y f g = f refl
  chosen o false x y f g = g

  found : (es : List Entry) (o : ℕ) → every_one es ≡ true → of_found o (first_at es o) ≡ true
  found [] o h = refl
  found (e ∷ es) o h =
      chosen o (eqb e.at o) (Some e.what) (first_at es o)
      (λ k.
      ap (λ (i : ℕ). test i e.what) (sym (eqb-true e.at o k))
      ∙ and_left (test e.at e.what) (every_one es) h)
      (found es o (and_right (test e.at e.what) (every_one es) h))

-- a lock that a lookup finds is that of one of the sixteen blocks, and stands where that block's lock does
abbrev is_its_lock : ℕ → Register → Bool
is_its_lock o (Lock b) = ltb b 16 && eqb o (lock_offset b)
is_its_lock o Inputs = true
is_its_lock o MakerCode = true
is_its_lock o DeviceCode = true

abbrev is_missing : Option Register → Bool
is_missing (Some r) = false
is_missing None = true

pub its_lock : (lpc : Bool) (o : ℕ) → of_found is_its_lock o (first_at (registers lpc) o) ≡ true
its_lock true o = found is_its_lock (registers true) o refl
its_lock false o = found is_its_lock (registers false) o refl

-- where each stands: the lock of each block, and a part's own
pub lock_found : (lpc : Bool) (b : ℕ) → b < 16 → first_at (registers lpc) (lock_offset b) ≡ Some (Lock b)
lock_found lpc b h =
    sym (at (λ (k : ℕ). first_at (registers lpc) (lock_offset k)) 16 b None h) ∙ at (λ (k : ℕ). Some (Lock k)) 16 b None h

pub inputs_found : (lpc : Bool) → first_at (registers lpc) 0xC0100 ≡ Some Inputs
inputs_found lpc = refl

pub codes_found : (first_at (registers false) 0xC0000 ≡ Some MakerCode) × (first_at (registers false) 0xC0001 ≡ Some DeviceCode)
codes_found = (refl, refl)

-- what is found at an address: the block of a lock, and that it stands at its own address
module _ (part straps address b : ℕ) where
  abbrev base : ℕ
  base = register_base part straps

  lock_in : register_at part straps address ≡ Some (Lock b) → (ltb address base ≡ false) × (is_its_lock (address - base) (Lock b) ≡ true)
  unfolding register_at
  lock_in e = pick (ask (ltb address base))
    where
      pick : Answer (ltb address base) → (ltb address base ≡ false) × (is_its_lock (address - base) (Lock b) ≡ true)
      pick (yes l) = clash (sym (ap is_missing (rw l at e)))
      pick (no l) = (l, ap (of_found is_its_lock (address - base)) (sym (rw l at e)) ∙ its_lock (is_lpc part) (address - base))

  pub lock_below : register_at part straps address ≡ Some (Lock b) → b < 16
  lock_below e = ltb-true b 16 (and_left (ltb b 16) _ (lock_in e).1)

  pub lock_stands : register_at part straps address ≡ Some (Lock b) → address ≡ base + lock_offset b
  lock_stands e =
      let p = lock_in e in
      let l = ltb-false address base p.0 in
      let o = eqb-true (address - base) (lock_offset b) (and_right (ltb b 16) _ p.1) in
      omega arith

-- an offset from the base
at_offset : (part straps o : ℕ) → register_at part straps (register_base part straps + o) ≡ first_at (registers (is_lpc part)) o
unfolding register_at
at_offset part straps o =
    let base = register_base part straps in
    let e : base + o - base ≡ o = omega arith in
    rw (le-ltb (base + o) base (omega arith), e)

pub lock_at : (part straps b : ℕ) → b < 16 → register_at part straps (register_base part straps + lock_offset b) ≡ Some (Lock b)
lock_at part straps b h = at_offset part straps (lock_offset b) ∙ lock_found (is_lpc part) b h

-- a part's own by their whole addresses
pub own_at : (straps : ℕ)
    → (register_at 0 straps 0xFBC0100 ≡ Some Inputs)
    × (register_at 0 straps 0xFBC0000 ≡ Some MakerCode)
    × (register_at 0 straps 0xFBC0001 ≡ Some DeviceCode)
    × (register_at 1 straps (0xFF8C0100 + (3 - straps) * 0x100000) ≡ Some Inputs)
    × (register_at 1 straps (0xFF8C0000 + (3 - straps) * 0x100000) ≡ None)
    × (register_at 1 straps (0xFF8C0001 + (3 - straps) * 0x100000) ≡ None)
unfolding register_base
own_at straps =
    let w = (3 - straps) * 0x100000 in
    let i : 0xFF8C0100 + w ≡ 0xFF800000 + w + 0xC0100 = omega arith in
    let m : 0xFF8C0000 + w ≡ 0xFF800000 + w + 0xC0000 = omega arith in
    let d : 0xFF8C0001 + w ≡ 0xFF800000 + w + 0xC0001 = omega arith in (
      at_offset 0 straps 0xC0100,
      at_offset 0 straps 0xC0000,
      at_offset 0 straps 0xC0001,
      rw i (at_offset 1 straps 0xC0100),
      rw m (at_offset 1 straps 0xC0000),
      rw d (at_offset 1 straps 0xC0001),
    )
