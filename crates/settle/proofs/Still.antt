-- Status bit 7 of a sound controller is 1 just where no operation counts. Assumes nothing.
use mathlib.Core.Path.{◌≡◌, ◌∙◌, sym, refl}
use mathlib.Core.Bool.{Bool, true, false, cond}
use Prim.Native.Nat.{ℕ, ◌/◌, ◌%◌, ◌<◌}
use native.Mathlib.Omega.{arith}
use lib.Bits.{bit_and, bit_or, and_le_r}
use lib.Dec.{eqb}
use borrow.Author.Tests.{eqb-true}
use Rattle.basics.proofs.Rules.{Answer, yes, no, ask}
use Rattle.basics.proofs.All.{holds}
use Rattle.basics.proofs.Table.{at}
use Rattle.record.specs.declared.Controller.{Controller}
use Rattle.record.specs.declared.Device.{Device}
use Rattle.record.specs.Record.{is_absent, is_program, is_running, is_pausing}
use Rattle.status.specs.declared.Condition.{Condition}
use Rattle.status.specs.declared.Condition.TheVariants.{Ready, Running, Pausing, ProgramSuspended, EraseSuspended, ProgramInside}
use Rattle.status.specs.Status.{condition_of, condition_bits, status_of}
use Rattle.soundness.specs.Sound.{controller_fits, inner_fits, inside}
use Rattle.soundness.proofs.Clauses.{clauses}
use Rattle.operation.specs.Clock.{active, is_still}
use Rattle.operation.proofs.Facts.{outer_fits_lem}
use Rattle.operation.proofs.Kept.{suspended_else}
use Rattle.settle.specs.Settle.{is_ready}

-- in this condition no operation counts
abbrev stands : Condition → Bool
stands Ready = true
stands Running = false
stands Pausing = false
stands ProgramSuspended = true
stands EraseSuspended = true
stands ProgramInside = false

-- a computed test of every byte of error bits, for each condition
told : Condition → ℕ → Bool
told k e = cond (eqb (bit_and e 0x3A) e) (eqb (bit_or e (condition_bits k) / 128 % 2) 1) (stands k)

module _ (e : ℕ) (h : e < 256) where
  told_of : (k : Condition) → told k e ≡ stands k
  unfolding told
  told_of Ready = sym (at (told Ready) 256 e true h) ∙ at (λ (i : ℕ). true) 256 e true h
  told_of Running = sym (at (told Running) 256 e false h) ∙ at (λ (i : ℕ). false) 256 e false h
  told_of Pausing = sym (at (told Pausing) 256 e false h) ∙ at (λ (i : ℕ). false) 256 e false h
  told_of ProgramSuspended = sym (at (told ProgramSuspended) 256 e true h) ∙ at (λ (i : ℕ). true) 256 e true h
  told_of EraseSuspended = sym (at (told EraseSuspended) 256 e true h) ∙ at (λ (i : ℕ). true) 256 e true h
  told_of ProgramInside = sym (at (told ProgramInside) 256 e false h) ∙ at (λ (i : ℕ). false) 256 e false h

ready_stands : (d : Device) → controller_fits d.controller ≡ true → is_ready d ≡ stands (condition_of d.controller)
unfolding is_ready status_of told
ready_stands d f =
    let c = d.controller in
    let k = (clauses c f).errors in
    let x = eqb-true (bit_and c.errors 0x3A) c.errors k in
    let l = and_le_r c.errors 0x3A in
    rw k at (told_of c.errors (omega (arith, x, l)) (condition_of c))

not_suspended : (s t : ℕ) → eqb s t ≡ true → eqb t 2 ≡ false → eqb s 2 ≡ false
not_suspended s t e f = rw (eqb-true s t e) f

still_stands : (c : Controller) → controller_fits c ≡ true → is_still (active c) ≡ stands (condition_of c)
unfolding is_still active condition_of inner_fits inside
still_stands c f = pick (ask (is_absent c.inner)) (ask (is_absent c.outer)) (ask (is_running c.outer)) (ask (is_pausing c.outer)) (ask (is_program c.outer))
  where
    pick : Answer (is_absent c.inner)
        → Answer (is_absent c.outer)
        → Answer (is_running c.outer)
        → Answer (is_pausing c.outer)
        → Answer (is_program c.outer)
        → is_still (active c) ≡ stands (condition_of c)
    pick (no i) o r p g =
        let h = rw i at (clauses c f).inner in
        rw (i, i, not_suspended c.inner.state 0 (holds _ 1 h) refl)
    pick (yes i) (yes o) r p g = rw (i, o)
    pick (yes i) (no o) (yes r) p g = rw (i, o, r, not_suspended c.outer.state 0 r refl)
    pick (yes i) (no o) (no r) (yes p) g = rw (i, o, r, p, not_suspended c.outer.state 1 p refl)
    pick (yes i) (no o) (no r) (no p) (yes g) = rw (i, o, r, p, g, suspended_else c.outer (outer_fits_lem c f o) r p)
    pick (yes i) (no o) (no r) (no p) (no g) = rw (i, o, r, p, g, suspended_else c.outer (outer_fits_lem c f o) r p)

pub ready_still : (d : Device) → controller_fits d.controller ≡ true → is_ready d ≡ is_still (active d.controller)
ready_still d f = ready_stands d f ∙ sym (still_stands d.controller f)
