-- A byte written to the array takes a sound controller to a sound controller. Assumes nothing.
use mathlib.Core.Path.{◌≡◌, ◌∙◌, sym, refl}
use mathlib.Core.Bool.{Bool, true, false, cond}
use Rattle.std.specs.Prelude.{Result, Ok, Err}
use Prim.Native.Nat.{ℕ, ◌<◌}
use native.Mathlib.Omega.{arith}
use lib.Dec.{eqb, ltb}
use lib.Bits.{bit_and, bit_or, and_le_r}
use borrow.Author.Tests.{ltb-true, eqb-true, eqb-false, eq-eqb, lt-ltb}
use Rattle.basics.proofs.Rules.{Answer, yes, no, ask, clash}
use Rattle.basics.proofs.All.{holds, also, none}
use Rattle.basics.proofs.Table.{from, at, at2}
use mathlib.Core.List.{[]}
use Rattle.std.proofs.lemmas.Bool.Decides.{nat_tests}
use lib.ListN.{get_or}
use Rattle.units.specs.declared.Times.{Times}
use Rattle.units.specs.Units.{in_clocks, times_fit}
use Rattle.units.proofs.Ranges.{ranges}
use Rattle.record.specs.declared.Operation.{Operation}
use Rattle.record.specs.declared.Controller.{Controller}
use Rattle.record.specs.Record.{is_absent, is_program, is_erase, is_running, is_pausing, is_suspended, with_pause}
use Rattle.status.specs.declared.Condition.{Condition}
use Rattle.status.specs.declared.Condition.TheVariants.{Ready, Running, Pausing, ProgramSuspended, EraseSuspended, ProgramInside}
use Rattle.status.specs.Status.{condition_of}
use Rattle.soundness.specs.Sound.{left_fits, state_fits, operation_fits, outer_fits, apart, inside, inner_fits, controller_fits}
use Rattle.soundness.proofs.Clauses.{clauses, made}
use Rattle.operation.proofs.Facts.{fits, outer_fits_lem}
use Rattle.operation.proofs.Kept.{count_full, restate, none_inside, suspended_else, unset_made}
use Rattle.command.specs.declared.Action.{Action}
use Rattle.command.specs.declared.Action.TheVariants.{Array, Status, Signature, Clear, Program, Erase, Pause, Resume, Nothing}
use Rattle.permission.specs.declared.Denial.{Denial}
use Rattle.permission.specs.declared.Denial.TheVariants.{Voltage, Pin, Lock, Suspended}
use Rattle.command.specs.Commands.{row_of, column_of, action_at, action_of, acted}
use Rattle.permission.specs.Permission.{into_suspended, judged}
use Rattle.permission.proofs.Granted.{granted}
use Rattle.command.specs.Setup.{accepted_of, starting, failing, answered, unconfirmed, written_of}

-- the table as the machine reads it, inside its rows and columns
pub in_table : (r k : ℕ) → r < 6 → k < 9 → get_or (get_or (from (λ (i : ℕ). from (action_at i) 0 9) 0 6) r []) k Array ≡ action_at r k
in_table r k h l = at2 action_at 6 9 r k [] Array h l

-- what a condition says of the operations
pub data View (c : Controller) : Condition → Type 0 where
  ready : is_absent c.inner ≡ true → is_absent c.outer ≡ true → View c Ready
  running : is_absent c.inner ≡ true → is_absent c.outer ≡ false → is_running c.outer ≡ true → View c Running
  pausing : is_absent c.inner ≡ true → is_absent c.outer ≡ false → View c Pausing
  program_suspended : is_absent c.inner ≡ true → is_absent c.outer ≡ false → View c ProgramSuspended
  erase_suspended : is_absent c.inner ≡ true
      → is_absent c.outer ≡ false
      → is_running c.outer ≡ false
      → is_pausing c.outer ≡ false
      → is_program c.outer ≡ false
      → View c EraseSuspended
  within : is_absent c.inner ≡ false → View c ProgramInside

pub view : (c : Controller) → View c (condition_of c)
unfolding condition_of
view c = pick (ask (is_absent c.inner)) (ask (is_absent c.outer)) (ask (is_running c.outer)) (ask (is_pausing c.outer)) (ask (is_program c.outer))
  where
    pick : Answer (is_absent c.inner)
        → Answer (is_absent c.outer)
        → Answer (is_running c.outer)
        → Answer (is_pausing c.outer)
        → Answer (is_program c.outer)
        → View c (condition_of c)
    pick (no i) o r p g = rw i (within i)
    pick (yes i) (yes o) r p g = rw (i, o) (ready i o)
    pick (yes i) (no o) (yes r) p g = rw (i, o, r) (running i o r)
    pick (yes i) (no o) (no r) (yes p) g = rw (i, o, r, p) (pausing i o)
    pick (yes i) (no o) (no r) (no p) (yes g) = rw (i, o, r, p, g) (program_suspended i o)
    pick (yes i) (no o) (no r) (no p) (no g) = rw (i, o, r, p, g) (erase_suspended i o r p g)

-- which actions the table has in a condition, where that matters: one computed test of the rows
abbrev may_program : Condition → Bool
may_program Ready = true
may_program Running = false
may_program Pausing = false
may_program ProgramSuspended = false
may_program EraseSuspended = true
may_program ProgramInside = false

abbrev may_erase : Condition → Bool
may_erase Ready = true
may_erase Running = false
may_erase Pausing = false
may_erase ProgramSuspended = false
may_erase EraseSuspended = false
may_erase ProgramInside = false

abbrev may_pause : Condition → Bool
may_pause Ready = false
may_pause Running = true
may_pause Pausing = false
may_pause ProgramSuspended = false
may_pause EraseSuspended = false
may_pause ProgramInside = false

abbrev may_resume : Condition → Bool
may_resume Ready = false
may_resume Running = false
may_resume Pausing = false
may_resume ProgramSuspended = true
may_resume EraseSuspended = true
may_resume ProgramInside = false

abbrev pub permitted : Condition → Action → Bool
permitted k Array = true
permitted k Status = true
permitted k Signature = true
permitted k Clear = true
permitted k Program = may_program k
permitted k Erase = may_erase k
permitted k Pause = may_pause k
permitted k Resume = may_resume k
permitted k Nothing = true

in_row : (k : Condition) (j : ℕ) → j < 9 → permitted k (action_at (row_of k) j) ≡ true
unfolding action_at
in_row Ready j h = sym (at (λ (i : ℕ). permitted Ready (action_at 0 i)) 9 j true h) ∙ at (λ (i : ℕ). true) 9 j true h
in_row Running j h = sym (at (λ (i : ℕ). permitted Running (action_at 1 i)) 9 j true h) ∙ at (λ (i : ℕ). true) 9 j true h
in_row Pausing j h = sym (at (λ (i : ℕ). permitted Pausing (action_at 2 i)) 9 j true h) ∙ at (λ (i : ℕ). true) 9 j true h
in_row ProgramSuspended j h =
    sym (at (λ (i : ℕ). permitted ProgramSuspended (action_at 3 i)) 9 j true h) ∙ at (λ (i : ℕ). true) 9 j true h
in_row EraseSuspended j h =
    sym (at (λ (i : ℕ). permitted EraseSuspended (action_at 4 i)) 9 j true h) ∙ at (λ (i : ℕ). true) 9 j true h
in_row ProgramInside j h =
    sym (at (λ (i : ℕ). permitted ProgramInside (action_at 5 i)) 9 j true h) ∙ at (λ (i : ℕ). true) 9 j true h

-- the nine columns cover every byte
pub column_below : (byte : ℕ) → column_of byte < 9
unfolding column_of
column_below byte = grind (arith, nat_tests)

pub actions_permitted : (k : Condition) (byte : ℕ) → permitted k (action_of k byte) ≡ true
unfolding action_of
actions_permitted k byte = in_row k (column_of byte) (column_below byte)

-- an operation that is there, in another state
restated : (o : Operation) (s : ℕ) (p : _) → outer_fits o ≡ true → is_absent o ≡ false → state_fits (with_pause o s p) ≡ true → outer_fits (with_pause o s p) ≡ true
unfolding outer_fits
restated o s p e a f = rw a (also _ (holds _ 0 (rw a at e)) (also _ (restate o s p (holds _ 1 (rw a at e)) f) none))

pauses : (o : Operation) → outer_fits o ≡ true → is_absent o ≡ false → state_fits (with_pause o 1 (in_clocks o.times.pause)) ≡ true
unfolding state_fits outer_fits
pauses o e a = count_full o.times.pause (fits o (holds _ 1 (rw a at e))).ranges.pause_least

runs : (o : Operation) → state_fits (with_pause o 0 o.pause) ≡ true
unfolding state_fits
runs o = refl

unset_of : (s : ℕ) → eqb s 0 ≡ true → ltb s 1 ≡ true
unset_of s e = let h = eqb-true s 0 e in lt-ltb s 1 (omega arith)

-- what an action of the table does keeps soundness
acted_kept : (a : Action) (k : Condition) (c : Controller)
    → View c k
    → controller_fits c ≡ true
    → eqb c.setup 0 ≡ true
    → permitted k a ≡ true
    → controller_fits (acted a c) ≡ true
unfolding condition_of
acted_kept Array k c v e s p = let q = clauses c e in unset_made _ refl q.errors q.outer q.inner (unset_of c.setup s)
acted_kept Status k c v e s p = let q = clauses c e in unset_made _ refl q.errors q.outer q.inner (unset_of c.setup s)
acted_kept Signature k c v e s p = let q = clauses c e in unset_made _ refl q.errors q.outer q.inner (unset_of c.setup s)
acted_kept Clear k c v e s p = let q = clauses c e in unset_made _ q.mode refl q.outer q.inner (unset_of c.setup s)
acted_kept Program Ready c (ready i o) e s p =
    let q = clauses c e in made _ (record { mode = refl; errors = q.errors; outer = q.outer; inner = q.inner; setup = rw (i, o) })
acted_kept Program EraseSuspended c (erase_suspended i o r u g) e s p =
    let q = clauses c e in made _ (record { mode = refl; errors = q.errors; outer = q.outer; inner = q.inner; setup = rw (i, o, r, u, g) })
acted_kept Program Running c v e s p = clash p
acted_kept Program Pausing c v e s p = clash p
acted_kept Program ProgramSuspended c v e s p = clash p
acted_kept Program ProgramInside c v e s p = clash p
acted_kept Erase Ready c (ready i o) e s p =
    let q = clauses c e in made _ (record { mode = refl; errors = q.errors; outer = q.outer; inner = q.inner; setup = rw (i, o) })
acted_kept Erase Running c v e s p = clash p
acted_kept Erase Pausing c v e s p = clash p
acted_kept Erase ProgramSuspended c v e s p = clash p
acted_kept Erase EraseSuspended c v e s p = clash p
acted_kept Erase ProgramInside c v e s p = clash p
acted_kept Pause Running c (running i o r) e s p =
    let q = clauses c e in
    unset_made _ q.mode q.errors
    (restated c.outer 1 _ q.outer o (pauses c.outer q.outer o))
    (none_inside _ c.inner i)
    (unset_of c.setup s)
acted_kept Pause Ready c v e s p = clash p
acted_kept Pause Pausing c v e s p = clash p
acted_kept Pause ProgramSuspended c v e s p = clash p
acted_kept Pause EraseSuspended c v e s p = clash p
acted_kept Pause ProgramInside c v e s p = clash p
acted_kept Resume ProgramSuspended c (program_suspended i o) e s p =
    let q = clauses c e in
    unset_made _ refl q.errors
    (restated c.outer 0 _ q.outer o (runs c.outer))
    (none_inside _ c.inner i)
    (unset_of c.setup s)
acted_kept Resume EraseSuspended c (erase_suspended i o r u g) e s p =
    let q = clauses c e in
    unset_made _ refl q.errors
    (restated c.outer 0 _ q.outer o (runs c.outer))
    (none_inside _ c.inner i)
    (unset_of c.setup s)
acted_kept Resume Ready c v e s p = clash p
acted_kept Resume Running c v e s p = clash p
acted_kept Resume Pausing c v e s p = clash p
acted_kept Resume ProgramInside c v e s p = clash p
acted_kept Nothing k c v e s p = e

-- error bits within 3Ah stay there when another of them is set: a computed test of every byte
goes : ℕ → ℕ → Bool
goes bits e = cond (eqb (bit_and e 0x3A) e) (eqb (bit_and (bit_or e bits) 0x3A) (bit_or e bits)) true

kept_bits : (bits : ℕ) → ((e : ℕ) → e < 256 → goes bits e ≡ true) → (e : ℕ) → eqb (bit_and e 0x3A) e ≡ true → eqb (bit_and (bit_or e bits) 0x3A) (bit_or e bits) ≡ true
unfolding goes
kept_bits bits law e h =
    let x = eqb-true (bit_and e 0x3A) e h in
    let l = and_le_r e 0x3A in
    rw h at (law e (omega (arith, x, l)))

module _ (e : ℕ) (h : e < 256) where
  bit_1 : goes 0x02 e ≡ true
  unfolding goes
  bit_1 = sym (at (goes 0x02) 256 e true h) ∙ at (λ (k : ℕ). true) 256 e true h

  bit_3 : goes 0x08 e ≡ true
  unfolding goes
  bit_3 = sym (at (goes 0x08) 256 e true h) ∙ at (λ (k : ℕ). true) 256 e true h

  bit_4 : goes 0x10 e ≡ true
  unfolding goes
  bit_4 = sym (at (goes 0x10) 256 e true h) ∙ at (λ (k : ℕ). true) 256 e true h

  bits_4_5 : goes 0x30 e ≡ true
  unfolding goes
  bits_4_5 = sym (at (goes 0x30) 256 e true h) ∙ at (λ (k : ℕ). true) 256 e true h

failing_kept : (c : Controller) (bits : ℕ) → ((e : ℕ) → e < 256 → goes bits e ≡ true) → controller_fits c ≡ true → controller_fits (failing c bits) ≡ true
unfolding failing
failing_kept c bits law e =
    let q = clauses c e in unset_made _ q.mode (kept_bits bits law c.errors q.errors) q.outer q.inner refl

-- an operation as it is accepted is sound, and runs
pub accepted_fits : (ts : Times) (setup address byte : ℕ) → times_fit ts ≡ true → address < 1048576 → operation_fits (accepted_of ts setup address byte) ≡ true
unfolding operation_fits accepted_of left_fits state_fits
accepted_fits ts setup address byte t a = pick (ask (eqb setup 1))
  where
    pick : Answer (eqb setup 1) → operation_fits (accepted_of ts setup address byte) ≡ true
    pick (yes s) =
        rw s
        (also _ t (also _ (lt-ltb address 1048576 a) (also _ (count_full ts.program (ranges ts t).program_least) (also _ refl none))))
    pick (no s) =
        rw s
        (also _ t
        (also _ (lt-ltb address 1048576 a)
        (also _ (also _ refl (also _ refl (also _ (count_full ts.slice (ranges ts t).slice_least) none))) (also _ refl none))))

kind_below : (ts : Times) (setup address byte : ℕ) → ltb (accepted_of ts setup address byte).kind 3 ≡ true
unfolding accepted_of
kind_below ts setup address byte = grind (arith, nat_tests)

two : (n : ℕ) → n < 3 → (n ≡ 0 → ⊥) → (n ≡ 1 → ⊥) → n ≡ 2
two n l x y = omega arith

one : (n : ℕ) → n < 2 → (n ≡ 0 → ⊥) → n ≡ 1
one n l x = omega arith

-- a setup beside a condition that allows none
pub refuse : (s : ℕ) → eqb s 0 ≡ false → ltb s 1 ≡ true → false ≡ true
refuse s e h =
    let l = ltb-true s 1 h in
    let z : s ≡ 0 = omega arith in
    sym e ∙ eq-eqb s 0 z

accepted_outer : (ts : Times) (setup address byte : ℕ) → times_fit ts ≡ true → address < 1048576 → outer_fits (accepted_of ts setup address byte) ≡ true
unfolding outer_fits
accepted_outer ts setup address byte t a = pick (ask (is_absent (accepted_of ts setup address byte)))
  where
    below : ltb (accepted_of ts setup address byte).kind 3 ≡ true
    below = kind_below ts setup address byte

    pick : Answer (is_absent (accepted_of ts setup address byte)) → outer_fits (accepted_of ts setup address byte) ≡ true
    pick (yes x) = rw x
    pick (no x) = rw x (also _ below (also _ (accepted_fits ts setup address byte t a) none))

-- an erase that is suspended, told from what it is not
erase_kind : (o : Operation) → outer_fits o ≡ true → is_absent o ≡ false → is_program o ≡ false → is_erase o ≡ true
unfolding outer_fits
erase_kind o e a p =
    let l = ltb-true o.kind 3 (holds _ 0 (rw a at e)) in
    let x = eqb-false o.kind 0 a in
    let y = eqb-false o.kind 1 p in
    eq-eqb o.kind 2 (two o.kind l x y)

program_of : (s : ℕ) → eqb s 0 ≡ false → ltb s 2 ≡ true → eqb s 1 ≡ true
program_of s e h =
    let l = ltb-true s 2 h in
    let n = eqb-false s 0 e in
    eq-eqb s 1 (one s l n)

accepted_inner : (outer : Operation) (ts : Times) (setup address byte : ℕ)
    → eqb setup 1 ≡ true
    → is_erase outer ≡ true
    → is_suspended outer ≡ true
    → into_suspended setup outer address ≡ false
    → operation_fits (accepted_of ts setup address byte) ≡ true
    → inner_fits outer (accepted_of ts setup address byte) ≡ true
unfolding inner_fits inside apart accepted_of into_suspended
accepted_inner outer ts setup address byte s k u n f =
    rw s
    (also _ refl
    (also _ refl (also _ k (also _ u (also _ (rw (rw (s, k, u) at n)) (also _ (rw s at f) none))))))

starting_kept : (k : Condition) (c : Controller) (ts : Times) (address byte : ℕ)
    → View c k
    → condition_of c ≡ k
    → controller_fits c ≡ true
    → times_fit ts ≡ true
    → address < 1048576
    → eqb c.setup 0 ≡ false
    → into_suspended c.setup c.outer address ≡ false
    → controller_fits (starting c (accepted_of ts c.setup address byte)) ≡ true
unfolding starting
starting_kept Ready c ts address byte (ready i o) x e t a s n =
    let q = clauses c e in
    rw o
    (unset_made _ q.mode q.errors (accepted_outer ts c.setup address byte t a) (none_inside _ c.inner i) refl)
starting_kept EraseSuspended c ts address byte (erase_suspended i o r u g) x e t a s n =
    let q = clauses c e in
    let h = rw x at q.setup in
    rw o
    (unset_made _ q.mode q.errors q.outer
    (accepted_inner c.outer ts c.setup address byte (program_of c.setup s h) (erase_kind c.outer q.outer o g)
    (suspended_else c.outer (outer_fits_lem c e o) r u) n (accepted_fits ts c.setup address byte t a))
    refl)
starting_kept Running c ts address byte v x e t a s n = clash (refuse c.setup s (rw x at (clauses c e).setup))
starting_kept Pausing c ts address byte v x e t a s n = clash (refuse c.setup s (rw x at (clauses c e).setup))
starting_kept ProgramSuspended c ts address byte v x e t a s n = clash (refuse c.setup s (rw x at (clauses c e).setup))
starting_kept ProgramInside c ts address byte v x e t a s n = clash (refuse c.setup s (rw x at (clauses c e).setup))

answered_kept : (j : Result Unit Denial) (c : Controller) (ts : Times) (sample lock address byte : ℕ)
    → judged c.setup c.outer sample lock address ≡ j
    → controller_fits c ≡ true
    → times_fit ts ≡ true
    → address < 1048576
    → eqb c.setup 0 ≡ false
    → controller_fits (answered j c (accepted_of ts c.setup address byte)) ≡ true
answered_kept (Ok u) c ts sample lock address byte g e t a s =
    starting_kept (condition_of c) c ts address byte (view c) refl e t a s (granted c.setup c.outer sample lock address g).apart
answered_kept (Err Voltage) c ts sample lock address byte g e t a s = failing_kept c 0x08 bit_3 e
answered_kept (Err Pin) c ts sample lock address byte g e t a s = failing_kept c 0x02 bit_1 e
answered_kept (Err Lock) c ts sample lock address byte g e t a s = failing_kept c 0x02 bit_1 e
answered_kept (Err Suspended) c ts sample lock address byte g e t a s = failing_kept c 0x10 bit_4 e

pub written_kept : (c : Controller) (ts : Times) (sample lock address byte : ℕ)
    → controller_fits c ≡ true
    → times_fit ts ≡ true
    → address < 1048576
    → controller_fits (written_of c ts sample lock address byte).after ≡ true
unfolding written_of
written_kept c ts sample lock address byte e t a = pick (ask (eqb c.setup 0)) (ask (unconfirmed c.setup byte))
  where
    pick : Answer (eqb c.setup 0) → Answer (unconfirmed c.setup byte) → controller_fits (written_of c ts sample lock address byte).after ≡ true
    pick (yes s) u = rw s (acted_kept (action_of (condition_of c) byte) (condition_of c) c (view c) e s (actions_permitted (condition_of c) byte))
    pick (no s) (yes u) = rw (s, u) (failing_kept c 0x30 bits_4_5 e)
    pick (no s) (no u) = rw (s, u) (answered_kept _ c ts sample lock address byte refl e t a s)
