-- The bits of the status register: which operation they tell of, and the kept error bits. Assumes nothing.
use Prim.Native.Nat.{ℕ, ◌/◌, ◌%◌, ◌<◌}
use mathlib.Core.Path.{◌≡◌, ◌∙◌, sym, refl}
use mathlib.Core.Bool.{Bool, true, false, cond, ◌&&◌}
use mathlib.Core.List.{[], ◌∷◌}
use native.Mathlib.Omega.{arith}
use lib.Bits.{bit_and, bit_or, and_le_r}
use lib.Dec.{eqb, ltb}
use borrow.Author.Tests.{eqb-true, eqb-false, eq-eqb, ltb-true}
use Rattle.basics.specs.All.{all}
use Rattle.basics.proofs.All.{holds}
use Rattle.basics.proofs.Rules.{Answer, yes, no, ask}
use Rattle.basics.proofs.Table.{at}
use Rattle.record.specs.declared.Controller.{Controller}
use Rattle.record.specs.Record.{is_absent, is_program, is_erase, is_running, is_pausing, is_suspended}
use Rattle.status.specs.declared.Condition.{Condition}
use Rattle.status.specs.declared.Condition.TheVariants.{Ready, Running, Pausing, ProgramSuspended, EraseSuspended, ProgramInside}
use Rattle.status.specs.Status.{condition_of, condition_bits, status_of}
use Rattle.soundness.specs.Sound.{outer_fits, inner_fits, inside, controller_fits}
use Rattle.soundness.proofs.Clauses.{clauses, parts}
use Rattle.operation.specs.Clock.{active, is_still}
use Rattle.operation.proofs.Facts.{outer_fits_lem}
use Rattle.operation.proofs.Kept.{suspended_else}
use Rattle.demands.specs.Demand2.{StatusBits}

-- bits 7, 6 and 2 of a condition
abbrev seven : Condition → ℕ
seven k = condition_bits k / 128 % 2

abbrev six : Condition → ℕ
six k = condition_bits k / 64 % 2

abbrev two : Condition → ℕ
two k = condition_bits k / 4 % 2

-- what error bits within 3Ah and the bits of a condition come to: a computed test of every byte
told : Condition → ℕ → Bool
told k e =
    cond (eqb (bit_and e 0x3A) e)
    (all
    (eqb (bit_or e (condition_bits k) / 128 % 2) (seven k)
    ∷ eqb (bit_or e (condition_bits k) / 64 % 2) (six k)
    ∷ eqb (bit_or e (condition_bits k) / 4 % 2) (two k)
    ∷ eqb (bit_or e (condition_bits k) % 2) 0
    ∷ eqb (bit_and (bit_or e (condition_bits k)) 0x3A) e
    ∷ []))
    true

module _ (e : ℕ) (h : e < 256) where
  told_of : (k : Condition) → told k e ≡ true
  unfolding told all
  told_of Ready = sym (at (told Ready) 256 e true h) ∙ at (λ (i : ℕ). true) 256 e true h
  told_of Running = sym (at (told Running) 256 e true h) ∙ at (λ (i : ℕ). true) 256 e true h
  told_of Pausing = sym (at (told Pausing) 256 e true h) ∙ at (λ (i : ℕ). true) 256 e true h
  told_of ProgramSuspended = sym (at (told ProgramSuspended) 256 e true h) ∙ at (λ (i : ℕ). true) 256 e true h
  told_of EraseSuspended = sym (at (told EraseSuspended) 256 e true h) ∙ at (λ (i : ℕ). true) 256 e true h
  told_of ProgramInside = sym (at (told ProgramInside) 256 e true h) ∙ at (λ (i : ℕ). true) 256 e true h

-- a kind or a state is one of 0, 1 and 2
other : (n i j : ℕ) → eqb n i ≡ true → eqb i j ≡ false → eqb n j ≡ false
other n i j e f = rw (eqb-true n i e) f

third : (n : ℕ) → ltb n 3 ≡ true → eqb n 0 ≡ false → eqb n 1 ≡ false → eqb n 2 ≡ true
third n l z o =
    let a = ltb-true n 3 l in
    let b = eqb-false n 0 z in
    let c = eqb-false n 1 o in
    let e : n ≡ 2 = omega arith in
    eq-eqb n 2 e

and_false : (t : Bool) → (t && false) ≡ false
and_false true = refl
and_false false = refl

-- what the bits of a condition say of the operations
record Said (c : Controller) : Type 0 where
  counts : seven (condition_of c) ≡ cond (is_still (active c)) 1 0
  erase : six (condition_of c) ≡ cond (is_erase c.outer && is_suspended c.outer) 1 0
  program : two (condition_of c) ≡ cond (is_program c.outer && is_suspended c.outer) 1 0

said : (c : Controller) → controller_fits c ≡ true → Said c
unfolding is_still active condition_of outer_fits inner_fits inside
said c f = pick (ask (is_absent c.inner)) (ask (is_absent c.outer)) (ask (is_running c.outer)) (ask (is_pausing c.outer)) (ask (is_program c.outer))
  where
    pick : Answer (is_absent c.inner)
        → Answer (is_absent c.outer)
        → Answer (is_running c.outer)
        → Answer (is_pausing c.outer)
        → Answer (is_program c.outer)
        → Said c
    pick (no i) a r p g =
        let h = rw i at (clauses c f).inner in
        let u = other c.inner.state 0 2 (holds _ 1 h) refl in
        let x = holds _ 2 h in
        let s = holds _ 3 h in
        let y = other c.outer.kind 2 1 x refl in
        record { counts = rw (i, i, u); erase = rw (i, x, s); program = rw (i, y) }
    pick (yes i) (yes a) r p g =
        let x = other c.outer.kind 0 2 a refl in
        let y = other c.outer.kind 0 1 a refl in
        record { counts = rw (i, a); erase = rw (i, a, x); program = rw (i, a, y) }
    pick (yes i) (no a) (yes r) p g =
        let s = other c.outer.state 0 2 r refl in
        record {
          counts = rw (i, a, r, s);
          erase = rw (i, a, r, s, and_false (is_erase c.outer));
          program = rw (i, a, r, s, and_false (is_program c.outer));
        }
    pick (yes i) (no a) (no r) (yes p) g =
        let s = other c.outer.state 1 2 p refl in
        record {
          counts = rw (i, a, r, p, s);
          erase = rw (i, a, r, p, s, and_false (is_erase c.outer));
          program = rw (i, a, r, p, s, and_false (is_program c.outer));
        }
    pick (yes i) (no a) (no r) (no p) (yes g) =
        let s = suspended_else c.outer (outer_fits_lem c f a) r p in
        let x = other c.outer.kind 1 2 g refl in
        record { counts = rw (i, a, r, p, g, s); erase = rw (i, a, r, p, g, x); program = rw (i, a, r, p, g, s) }
    pick (yes i) (no a) (no r) (no p) (no g) =
        let s = suspended_else c.outer (outer_fits_lem c f a) r p in
        let x = third c.outer.kind (holds _ 0 (rw a at (clauses c f).outer)) a g in
        record { counts = rw (i, a, r, p, g, s); erase = rw (i, a, r, p, g, x, s); program = rw (i, a, r, p, g) }

pub status_bits : StatusBits
unfolding StatusBits status_of told
status_bits d e =
    let c = d.controller in
    let f = (parts d e).controller in
    let k = (clauses c f).errors in
    let x = eqb-true (bit_and c.errors 0x3A) c.errors k in
    let l = and_le_r c.errors 0x3A in
    let t = rw k at (told_of c.errors (omega (arith, x, l)) (condition_of c)) in
    let s = said c f in (
      eqb-true _ _ (holds _ 0 t) ∙ s.counts,
      eqb-true _ _ (holds _ 1 t) ∙ s.erase,
      eqb-true _ _ (holds _ 2 t) ∙ s.program,
      eqb-true _ _ (holds _ 3 t),
      eqb-true _ _ (holds _ 4 t),
    )
