-- A clock of the controller, and reset, take a sound controller to a sound controller. Assumes nothing.
use Rattle.std.proofs.lemmas.Bool.Decides.{nat_tests}
use mathlib.Core.Path.{◌≡◌, ◌∙◌, sym, refl, ap}
use mathlib.Core.Bool.{true, false, not}
use Prim.Native.Nat.{ℕ, ◌-◌, ◌*◌, ◌≤◌, ◌<◌}
use native.Mathlib.Omega.{arith}
use lib.Dec.{eqb, ltb}
use lib.Bits.{bit_and}
use borrow.Author.Tests.{ltb-true, leb-true, eqb-true, eqb-false, lt-ltb, le-leb, ne_eqb}
use Rattle.basics.specs.All.{all}
use Rattle.basics.proofs.Rules.{Answer, yes, no, ask, clash}
use Rattle.basics.proofs.All.{holds, also, none}
use Rattle.units.specs.declared.Clocks.{Clocks}
use Rattle.units.specs.declared.Micros.{Micros}
use Rattle.units.specs.Units.{clocks, in_clocks}
use Rattle.record.specs.declared.Operation.{Operation}
use Rattle.record.specs.declared.Controller.{Controller}
use Rattle.record.specs.Record.{is_absent, is_program, is_running, is_pausing, is_suspended, with_pause, with_left, absent, block_of}
use Rattle.part.specs.Fresh.{resting}
use Rattle.soundness.proofs.Clauses.{Clauses, clauses, made}
use Rattle.status.specs.declared.Condition.{Condition}
use Rattle.status.specs.declared.Condition.TheVariants.{Ready, Running, Pausing, ProgramSuspended, EraseSuspended, ProgramInside}
use Rattle.status.specs.Status.{condition_of}
use Rattle.soundness.specs.Sound.{counts, left_fits, state_fits, operation_fits, outer_fits, apart, inside, inner_fits, setup_kinds, controller_fits}
use Rattle.operation.specs.Clock.{active, is_still, paused_of, operation_clock, replaced, controller_clock}
use Rattle.operation.specs.Reset.{reset_of}
use Rattle.operation.proofs.Facts.{fits, slices, outer_fits_lem, active_fits, moving}

-- a controller at rest, whatever its marks
pub resting_fits : (marks : ℕ) → controller_fits (resting marks) ≡ true
unfolding controller_fits outer_fits inner_fits condition_of all
resting_fits marks = refl

-- clocks and the time they are of
count_made : (n : ℕ) (m : Micros) → 1 ≤ n → n ≤ m.0 * 33 → counts (clocks n) m ≡ true
unfolding counts in_clocks
count_made n m l h = also _ (le-leb 1 n l) (also _ (le-leb n (m.0 * 33) h) none)

count_most : (c : Clocks) (m : Micros) → counts c m ≡ true → c.0 ≤ m.0 * 33
unfolding counts in_clocks
count_most c m e = leb-true _ _ (holds _ 1 e)

pub count_full : (m : Micros) → 1 ≤ m.0 → counts (in_clocks m) m ≡ true
unfolding in_clocks
count_full m l = count_made (m.0 * 33) m (omega arith) (omega arith)

-- an operation with another count, or in another state
relleft : (o : Operation) (s : ℕ) (l : Clocks) → operation_fits o ≡ true → left_fits (with_left o s l) ≡ true → operation_fits (with_left o s l) ≡ true
unfolding operation_fits state_fits
relleft o s l e f = also _ (holds _ 0 e) (also _ (holds _ 1 e) (also _ f (also _ (holds _ 3 e) none)))

pub restate : (o : Operation) (s : ℕ) (p : Clocks) → operation_fits o ≡ true → state_fits (with_pause o s p) ≡ true → operation_fits (with_pause o s p) ≡ true
unfolding operation_fits left_fits
restate o s p e f = also _ (holds _ 0 e) (also _ (holds _ 1 e) (also _ (holds _ 2 e) (also _ f none)))

-- a pausing operation is no running one, and its pause is within its time
pausing_only : (o : Operation) → is_pausing o ≡ true → is_running o ≡ false
pausing_only o p = ne_eqb o.state 0 (λ z. eqb-false 1 0 refl (sym (eqb-true o.state 1 p) ∙ z))

pause_most : (o : Operation) → operation_fits o ≡ true → is_pausing o ≡ true → o.pause.0 ≤ o.times.pause.0 * 33
unfolding state_fits
pause_most o e p = count_most o.pause o.times.pause (rw (pausing_only o p, p) at (fits o e).state)

pause_less : (o : Operation)
    → operation_fits o ≡ true
    → is_pausing o ≡ true
    → ltb 1 o.pause.0 ≡ true
    → state_fits (with_pause o o.state (clocks (o.pause.0 - 1))) ≡ true
unfolding state_fits
pause_less o e p l =
    let h = ltb-true 1 o.pause.0 l in
    let m = pause_most o e p in
    rw (pausing_only o p, p) (count_made (o.pause.0 - 1) o.times.pause (omega arith) (omega arith))

over : (o : Operation) → state_fits (with_pause o 2 (clocks 0)) ≡ true
unfolding state_fits
over o = refl

pub paused_fits : (o : Operation) → operation_fits o ≡ true → operation_fits (paused_of o) ≡ true
unfolding paused_of
paused_fits o e = pick (ask (is_pausing o)) (ask (ltb 1 o.pause.0))
  where
    pick : Answer (is_pausing o) → Answer (ltb 1 o.pause.0) → operation_fits (paused_of o) ≡ true
    pick (yes p) (yes l) = rw (p, l) (restate o o.state (clocks (o.pause.0 - 1)) e (pause_less o e p l))
    pick (yes p) (no l) = rw (p, l) (restate o 2 (clocks 0) e (over o))
    pick (no p) l = rw p e

-- what a pause leaves of an operation: all but its state and its pause; a running one it leaves whole
pub record Same (o n : Operation) : Type 0 where
  pub kind : n.kind ≡ o.kind
  pub address : n.address ≡ o.address
  pub byte : n.«data» ≡ o.«data»
  pub slices : n.slices ≡ o.slices
  pub left : n.left ≡ o.left
  pub times : n.times ≡ o.times
  pub running : is_running o ≡ true → is_running n ≡ true

pub paused_same : (o : Operation) → Same o (paused_of o)
unfolding paused_of
paused_same o = grind (arith, nat_tests)

-- a count that goes on
left_most : (o : Operation) → operation_fits o ≡ true → (is_program o ≡ true → o.left.0 ≤ o.times.program.0 * 33) × (is_program o ≡ false → o.left.0 ≤ o.times.slice.0 * 33)
unfolding left_fits
left_most o e = (
  λ p. count_most o.left o.times.program (rw p at (fits o e).left),
  λ p. count_most o.left o.times.slice (holds _ 2 (rw p at (fits o e).left)),
)

left_less : (o : Operation)
    → operation_fits o ≡ true
    → ltb 1 o.left.0 ≡ true
    → left_fits (with_left o o.slices (clocks (o.left.0 - 1))) ≡ true
unfolding left_fits
left_less o e l = pick (ask (is_program o))
  where
    h : 1 < o.left.0
    h = ltb-true 1 o.left.0 l

    pick : Answer (is_program o) → left_fits (with_left o o.slices (clocks (o.left.0 - 1))) ≡ true
    pick (yes p) =
        let m = (left_most o e).0 p in
        rw p (count_made (o.left.0 - 1) o.times.program (omega (arith, h)) (omega (arith, h)))
    pick (no p) =
        let m = (left_most o e).1 p in
        let s = slices o e (eqb-false o.kind 1 p) in
        rw p
        (also _ (le-leb 1 o.slices s.least)
        (also _ (le-leb o.slices 256 s.most)
        (also _ (count_made (o.left.0 - 1) o.times.slice (omega (arith, h)) (omega (arith, h))) none)))

slice_less : (o : Operation)
    → operation_fits o ≡ true
    → is_program o ≡ false
    → ltb 1 o.slices ≡ true
    → left_fits (with_left o (o.slices - 1) (in_clocks o.times.slice)) ≡ true
unfolding left_fits
slice_less o e p l =
    let h = ltb-true 1 o.slices l in
    let s = slices o e (eqb-false o.kind 1 p) in
    rw p
    (also _ (le-leb 1 (o.slices - 1) (omega arith))
    (also _ (le-leb (o.slices - 1) 256 (omega arith))
    (also _ (count_full o.times.slice (fits o e).ranges.slice_least) none)))

-- after a clock an operation is gone, or goes on: sound, of the same kind and address, running if it was
pub data After (o n : Operation) : Type 0 where
  gone : n ≡ absent → After o n
  goes : operation_fits n ≡ true → n.kind ≡ o.kind → n.address ≡ o.address → (is_running o ≡ true → is_running n ≡ true) → After o n

paused_after : (o n : Operation) → operation_fits n ≡ true → n.kind ≡ o.kind → n.address ≡ o.address → n.state ≡ o.state → After o (paused_of n)
paused_after o n e k a s =
    let m = paused_same n in
    goes (paused_fits n e) (m.kind ∙ k) (m.address ∙ a) (λ r. m.running (ap (λ (x : ℕ). eqb x 0) s ∙ r))

pub operation_clock_after : (o : Operation) → operation_fits o ≡ true → After o (operation_clock o).after
unfolding operation_clock
operation_clock_after o e = pick (ask (ltb 1 o.left.0)) (ask (is_program o)) (ask (ltb 1 o.slices))
  where
    pick : Answer (ltb 1 o.left.0) → Answer (is_program o) → Answer (ltb 1 o.slices) → After o (operation_clock o).after
    pick (yes a) p s =
        rw a
        (paused_after o (with_left o o.slices (clocks (o.left.0 - 1))) (relleft o o.slices (clocks (o.left.0 - 1)) e (left_less o e a)) refl refl refl)
    pick (no a) (yes p) s = rw (a, p) (gone refl)
    pick (no a) (no p) (yes s) =
        rw (a, p, s)
        (paused_after o (with_left o (o.slices - 1) (in_clocks o.times.slice)) (relleft o (o.slices - 1) (in_clocks o.times.slice) e (slice_less o e p s)) refl refl refl)
    pick (no a) (no p) (no s) = rw (a, p, s) (gone refl)

-- every condition may stand beside no setup
any_setup : (s : ℕ) (k : Condition) → ltb s 1 ≡ true → ltb s (setup_kinds k) ≡ true
any_setup s Ready e = let h = ltb-true s 1 e in lt-ltb s 3 (omega arith)
any_setup s Running e = e
any_setup s Pausing e = e
any_setup s ProgramSuspended e = e
any_setup s EraseSuspended e = let h = ltb-true s 1 e in lt-ltb s 2 (omega arith)
any_setup s ProgramInside e = e

pub suspended_else : (o : Operation) → operation_fits o ≡ true → is_running o ≡ false → is_pausing o ≡ false → is_suspended o ≡ true
unfolding state_fits
suspended_else o e r p = rw (r, p) at (fits o e).state

-- while an operation counts there is no setup
pub unset : (c : Controller) → controller_fits c ≡ true → is_still (active c) ≡ false → ltb c.setup 1 ≡ true
unfolding controller_fits condition_of active is_still
unset c e m = pick (ask (is_absent c.inner)) (ask (is_absent c.outer)) (ask (is_running c.outer)) (ask (is_pausing c.outer)) (ask (is_suspended c.outer))
  where
    h : ltb c.setup (setup_kinds (condition_of c)) ≡ true
    h = holds _ 4 e

    pick : Answer (is_absent c.inner)
        → Answer (is_absent c.outer)
        → Answer (is_running c.outer)
        → Answer (is_pausing c.outer)
        → Answer (is_suspended c.outer)
        → ltb c.setup 1 ≡ true
    pick (no i) o r p s = rw i at h
    pick (yes i) (yes o) r p s = clash (sym (rw (i, o) at m))
    pick (yes i) (no o) (yes r) p s = rw (i, o, r) at h
    pick (yes i) (no o) (no r) (yes p) s = rw (i, o, r, p) at h
    pick (yes i) (no o) (no r) (no p) (yes s) = clash (sym (rw (i, o, s) at m))
    pick (yes i) (no o) (no r) (no p) (no s) = clash (sym s ∙ suspended_else c.outer (outer_fits_lem c e o) r p)

-- nor beside a program inside a suspended erase
pub unset_inside : (c : Controller) → controller_fits c ≡ true → is_absent c.inner ≡ false → ltb c.setup 1 ≡ true
unfolding controller_fits condition_of
unset_inside c e i = rw i at (holds _ 4 e)

outer_after : (o n : Operation) → outer_fits o ≡ true → is_absent o ≡ false → After o n → outer_fits n ≡ true
unfolding outer_fits
outer_after o n e a (gone g) = rw g
outer_after o n e a (goes f k d r) = pick (ask (is_absent n))
  where
    pick : Answer (is_absent n) → outer_fits n ≡ true
    pick (yes x) = rw x
    pick (no x) = rw x (also _ (ap (λ (t : ℕ). ltb t 3) k ∙ holds _ 0 (rw a at e)) (also _ f none))

inner_after : (o i n : Operation) → inner_fits o i ≡ true → is_absent i ≡ false → After i n → inner_fits o n ≡ true
unfolding inner_fits inside apart
inner_after o i n e a (gone g) = rw g
inner_after o i n e a (goes f k d r) = pick (ask (is_absent n))
  where
    pick : Answer (is_absent n) → inner_fits o n ≡ true
    pick (yes x) = rw x
    pick (no x) =
        let h = rw a at e in
        rw x
        (also _ (ap (λ (t : ℕ). eqb t 1) k ∙ holds _ 0 h)
        (also _ (r (holds _ 1 h))
        (also _ (holds _ 2 h)
        (also _ (holds _ 3 h)
        (also _ (ap (λ (t : ℕ). not (eqb (block_of o.address) (block_of t))) d ∙ holds _ 4 h) (also _ f none))))))

pub none_inside : (o i : Operation) → is_absent i ≡ true → inner_fits o i ≡ true
unfolding inner_fits
none_inside o i e = rw e

-- a controller with no setup is sound where its other clauses hold
pub unset_made : (c : Controller)
    → ltb c.mode 3 ≡ true
    → eqb (bit_and c.errors 0x3A) c.errors ≡ true
    → outer_fits c.outer ≡ true
    → inner_fits c.outer c.inner ≡ true
    → ltb c.setup 1 ≡ true
    → controller_fits c ≡ true
unset_made c m e o i s =
    made c (record { mode = m; errors = e; outer = o; inner = i; setup = any_setup c.setup (condition_of c) s })

-- the active operation is replaced by what a clock makes of it
replaced_fits : (c : Controller) (n : Operation) (marks : ℕ)
    → controller_fits c ≡ true
    → is_still (active c) ≡ false
    → After (active c) n
    → controller_fits (replaced c n marks) ≡ true
unfolding replaced active
replaced_fits c n marks e m = pick (ask (is_absent c.inner))
  where
    k : Clauses c
    k = clauses c e

    present : is_absent (active c) ≡ false
    present = moving (active c) m

    pick : Answer (is_absent c.inner) → After (active c) n → controller_fits (replaced c n marks) ≡ true
    pick (yes i) = λ f.
        rw i
        (unset_made _ k.mode k.errors
        (outer_after c.outer n k.outer (rw i at present) (rw i at f))
        (none_inside n c.inner i)
        (unset c e m))
    pick (no i) = λ f.
        rw i
        (unset_made _ k.mode k.errors k.outer
        (inner_after c.outer c.inner n k.inner i (rw i at f))
        (unset c e m))

pub controller_clock_kept : (c : Controller) → controller_fits c ≡ true → controller_fits (controller_clock c).after ≡ true
unfolding controller_clock
controller_clock_kept c e = pick (ask (is_still (active c)))
  where
    pick : Answer (is_still (active c)) → controller_fits (controller_clock c).after ≡ true
    pick (yes a) = rw a e
    pick (no a) =
        rw a
        (replaced_fits c _ _ e a (operation_clock_after (active c) (active_fits c e (moving (active c) a))))

pub reset_kept : (c : Controller) → controller_fits (reset_of c) ≡ true
unfolding reset_of
reset_kept c = resting_fits _
