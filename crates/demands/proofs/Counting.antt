-- What the controller's part of a clock does to one block: its operation goes on, with what is left of it the same, or
-- it reaches its last clock and the whole is done. Assumes nothing.
use Prim.Native.Nat.{ℕ, ◌-◌, ◌<◌}
use mathlib.Core.Path.{◌≡◌, ◌∙◌, sym, refl, ap}
use mathlib.Core.Bool.{Bool, true, false}
use mathlib.Core.List.{List}
use native.Mathlib.Omega.{arith}
use lib.Dec.{eqb, ltb}
use lib.ListN.{length}
use borrow.Author.Tests.{eqb-true, eqb-false, ne_eqb, not-true}
use Rattle.basics.proofs.Rules.{Answer, yes, no, ask, clash}
use Rattle.basics.proofs.All.{holds}
use Rattle.units.specs.Units.{clocks, in_clocks}
use Rattle.record.specs.declared.Operation.{Operation}
use Rattle.record.specs.declared.Controller.{Controller}
use Rattle.record.specs.Record.{is_absent, is_program, is_erase, is_running, is_suspended, with_left, absent, block_of}
use Rattle.effect.specs.Effect.{applied}
use Rattle.soundness.specs.Sound.{operation_fits, apart, inside, inner_fits, controller_fits}
use Rattle.soundness.proofs.Clauses.{clauses}
use Rattle.operation.specs.Marks.{marked}
use Rattle.operation.specs.Clock.{active, is_still, operation_clock, marks_after, replaced, controller_clock}
use Rattle.operation.specs.Whole.{rest}
use Rattle.operation.proofs.Facts.{fits, outer_fits_lem, moving}
use Rattle.operation.proofs.FitsIn.{operation_clock_in}
use Rattle.operation.proofs.Kept.{paused_same}
use Rattle.operation.proofs.Rest.{operation_clock_rest}
use Rattle.operation.proofs.Marked.{clearing_same, clearing_other}
use Rattle.demands.specs.History.{is_on, op_of, is_last, contents}
use Rattle.clock.proofs.Kept.{applied_length}
use Rattle.demands.proofs.Block.{inside_image, contents_other, contents_rest, rest_in}

-- what an operation keeps from its acceptance to its end
pub record Like (o n : Operation) : Type 0 where
  pub kind : n.kind ≡ o.kind
  pub address : n.address ≡ o.address
  pub byte : n.«data» ≡ o.«data»

pub itself : (o : Operation) → Like o o
itself o = record { kind = refl; address = refl; byte = refl }

-- one clock of an operation that counts
data OneClock (o : Operation) : Type 0 where
  over : is_last o ≡ true → (operation_clock o).after ≡ absent → (operation_clock o).finished ≡ true → OneClock o
  on : is_last o ≡ false → (operation_clock o).finished ≡ false → Like o (operation_clock o).after → OneClock o

-- what counts is not suspended
stirring : (o : Operation) → is_still o ≡ false → is_suspended o ≡ false
unfolding is_still
stirring o e = rw (moving o e) at e

one_clock : (o : Operation) → is_still o ≡ false → OneClock o
unfolding operation_clock is_last
one_clock o m = pick (ask (ltb 1 o.left.0)) (ask (is_program o)) (ask (ltb 1 o.slices))
  where
    a : is_absent o ≡ false
    a = moving o m

    u : is_suspended o ≡ false
    u = stirring o m

    pick : Answer (ltb 1 o.left.0) → Answer (is_program o) → Answer (ltb 1 o.slices) → OneClock o
    pick (yes l) p s =
        let k = paused_same (with_left o o.slices (clocks (o.left.0 - 1))) in
        on (rw (a, u, l)) (rw l) (record { kind = rw l k.kind; address = rw l k.address; byte = rw l k.byte })
    pick (no l) (yes p) s = over (rw (a, u, l, p)) (rw (l, p)) (rw (l, p))
    pick (no l) (no p) (yes s) =
        let k = paused_same (with_left o (o.slices - 1) (in_clocks o.times.slice)) in
        on (rw (a, u, l, p, s)) (rw (l, p, s))
        (record { kind = rw (l, p, s) k.kind; address = rw (l, p, s) k.address; byte = rw (l, p, s) k.byte })
    pick (no l) (no p) (no s) = over (rw (a, u, l, p, s)) (rw (l, p, s)) (rw (l, p, s))

still_last : (o : Operation) → is_still o ≡ true → is_last o ≡ false
unfolding is_still is_last
still_last o e = pick (ask (is_absent o))
  where
    pick : Answer (is_absent o) → is_last o ≡ false
    pick (yes a) = rw a
    pick (no a) = rw (a, rw a at e)

suspended_last : (o : Operation) → is_absent o ≡ false → is_suspended o ≡ true → is_last o ≡ false
unfolding is_last
suspended_last o a s = rw (a, s)

absent_last : is_last absent ≡ false
unfolding is_last
absent_last = refl

-- the controller's part of a clock, seen from a block
pub data Counting (b : ℕ) (c : Controller) (d : List ℕ) : Type 0 where
  goes : is_last (op_of b c) ≡ false
      → is_absent (op_of b (controller_clock c).after) ≡ is_absent (op_of b c)
      → Like (op_of b c) (op_of b (controller_clock c).after)
      → contents b (rest (op_of b (controller_clock c).after) (applied (controller_clock c).effect d)) ≡ contents b (rest (op_of b c) d)
      → marked (controller_clock c).after.marks b ≡ marked c.marks b
      → Counting b c d
  ends : is_still (active c) ≡ false
      → is_last (op_of b c) ≡ true
      → is_absent (op_of b c) ≡ false
      → is_absent (op_of b (controller_clock c).after) ≡ true
      → contents b (applied (controller_clock c).effect d) ≡ contents b (rest (op_of b c) d)
      → (is_erase (op_of b c) ≡ false → marked (controller_clock c).after.marks b ≡ marked c.marks b)
      → (is_erase (op_of b c) ≡ true → marked (controller_clock c).after.marks b ≡ false)
      → Counting b c d

-- a block's operation, by where it stands
on_outer : (b : ℕ) (c : Controller) → is_on b c.outer ≡ true → op_of b c ≡ c.outer
unfolding op_of
on_outer b c e = rw e

on_inner : (b : ℕ) (c : Controller) → is_on b c.outer ≡ false → is_on b c.inner ≡ true → op_of b c ≡ c.inner
unfolding op_of
on_inner b c e f = rw (e, f)

on_none : (b : ℕ) (c : Controller) → is_on b c.outer ≡ false → is_on b c.inner ≡ false → op_of b c ≡ absent
unfolding op_of
on_none b c e f = rw (e, f)

pub on_here : (b : ℕ) (o : Operation) → is_on b o ≡ true → (is_absent o ≡ false) × (block_of o.address ≡ b)
unfolding is_on
on_here b o e = pick (ask (is_absent o))
  where
    pick : Answer (is_absent o) → (is_absent o ≡ false) × (block_of o.address ≡ b)
    pick (yes a) = clash (rw a at e)
    pick (no a) = (a, eqb-true (block_of o.address) b (rw a at e))

off_there : (b : ℕ) (o : Operation) → is_absent o ≡ false → is_on b o ≡ false → b ≡ block_of o.address → ⊥
unfolding is_on
off_there b o a e x = eqb-false (block_of o.address) b (rw a at e) (sym x)

pub off_absent : (b : ℕ) (o : Operation) → is_absent o ≡ true → is_on b o ≡ false
unfolding is_on
off_absent b o a = rw a

off_none : (b : ℕ) → is_on b absent ≡ false
unfolding is_on
off_none b = refl

like_absent : (o n : Operation) → Like o n → is_absent n ≡ is_absent o
like_absent o n k = ap (λ (x : ℕ). eqb x 0) k.kind

like_on : (b : ℕ) (o n : Operation) → Like o n → is_on b n ≡ is_on b o
unfolding is_on
like_on b o n k = rw (k.kind, k.address)

pub absent_rest : (o : Operation) (d : List ℕ) → is_absent o ≡ true → rest o d ≡ d
unfolding rest
absent_rest o d a = rw a

-- the marks after a clock: as they were, but for a finished erase's own block
marks_on : (m : ℕ) (o : Operation) → marks_after m o false ≡ m
unfolding marks_after
marks_on m o = refl

marks_program : (m : ℕ) (o : Operation) (f : Bool) → is_erase o ≡ false → marks_after m o f ≡ m
unfolding marks_after
marks_program m o true k = rw k
marks_program m o false k = refl

marks_other : (m b : ℕ) (o : Operation) (f : Bool)
    → b < 16
    → block_of o.address < 16
    → (b ≡ block_of o.address → ⊥)
    → marked (marks_after m o f) b ≡ marked m b
unfolding marks_after
marks_other m b o false h l n = refl
marks_other m b o true h l n = pick (ask (is_erase o))
  where
    pick : Answer (is_erase o) → marked (marks_after m o true) b ≡ marked m b
    pick (yes k) = rw k (clearing_other m (block_of o.address) b l h n)
    pick (no k) = rw k

marks_own : (m b : ℕ) (o : Operation) → b < 16 → block_of o.address ≡ b → is_erase o ≡ true → marked (marks_after m o true) b ≡ false
unfolding marks_after
marks_own m b o h e k = rw k (clearing_same m (block_of o.address) b (rw e h) h (sym e))

-- a clock of an operation leaves the image's length
size : (o : Operation) (d : List ℕ) → operation_fits o ≡ true → length d ≡ 1048576 → length (applied (operation_clock o).effect d) ≡ 1048576
size o d f l =
    let w = fits o f in
    let hk : block_of o.address < 16 = omega arith in
    applied_length (operation_clock o).effect d (inside_image (block_of o.address) (operation_clock o).effect (length d) hk l (operation_clock_in o f)) ∙ l

-- the operation that counts is the block's own
turning : (b : ℕ) (c : Controller) (d : List ℕ) (o : Operation)
    → b < 16
    → block_of o.address ≡ b
    → op_of b c ≡ o
    → is_absent o ≡ false
    → operation_fits o ≡ true
    → is_still o ≡ false
    → is_still (active c) ≡ false
    → (controller_clock c).effect ≡ (operation_clock o).effect
    → (controller_clock c).after.marks ≡ marks_after c.marks o (operation_clock o).finished
    → ((operation_clock o).after ≡ absent → op_of b (controller_clock c).after ≡ absent)
    → (Like o (operation_clock o).after → op_of b (controller_clock c).after ≡ (operation_clock o).after)
    → length d ≡ 1048576
    → Counting b c d
turning b c d o h u e a f m w x y g k l = pick (one_clock o m)
  where
    r : rest (operation_clock o).after (applied (operation_clock o).effect d) ≡ rest o d
    r = operation_clock_rest o d f a l

    pick : OneClock o → Counting b c d
    pick (over t n q) =
        let z = ap (λ (v : Operation). rest v (applied (operation_clock o).effect d)) n ∙ absent_rest absent (applied (operation_clock o).effect d) refl in
        ends w (rw e t) (rw e a) (rw (g n)) (rw (x, e) (ap (contents b) (sym z ∙ r)))
        (λ v. rw y (ap (λ (z : ℕ). marked z b) (marks_program c.marks o (operation_clock o).finished (rw e at v))))
        (λ v. rw (y, q) (marks_own c.marks b o h u (rw e at v)))
    pick (on t q n) =
        goes (rw e t) (rw (e, k n) (like_absent o (operation_clock o).after n)) (rw (e, k n) n)
        (rw (e, k n, x) (ap (contents b) r))
        (rw (y, q) (ap (λ (u : ℕ). marked u b) (marks_on c.marks o)))

-- the operation that counts stands on another block, and the block's own, if there is one, stays
elsewhere : (b : ℕ) (c : Controller) (d : List ℕ) (o p : Operation)
    → b < 16
    → op_of b c ≡ p
    → op_of b (controller_clock c).after ≡ p
    → is_last p ≡ false
    → (is_absent p ≡ false → (operation_fits p ≡ true) × (block_of p.address ≡ b))
    → operation_fits o ≡ true
    → (b ≡ block_of o.address → ⊥)
    → (controller_clock c).effect ≡ (operation_clock o).effect
    → (controller_clock c).after.marks ≡ marks_after c.marks o (operation_clock o).finished
    → length d ≡ 1048576
    → Counting b c d
elsewhere b c d o p h e e' t q f n x y l =
    let w = fits o f in
    let hk : block_of o.address < 16 = omega arith in
    let z = contents_other b (block_of o.address) (operation_clock o).effect d h hk n l (operation_clock_in o f) in
    goes (rw e t) (rw (e, e')) (rw (e, e') (itself p)) (rw (e, e', x) (kept (ask (is_absent p)) z))
    (rw y (marks_other c.marks b o (operation_clock o).finished h hk n))
  where
    kept : Answer (is_absent p) → contents b (applied (operation_clock o).effect d) ≡ contents b d → contents b (rest p (applied (operation_clock o).effect d)) ≡ contents b (rest p d)
    kept (yes a) z = rw (absent_rest p (applied (operation_clock o).effect d) a, absent_rest p d a) z
    kept (no a) z = contents_rest b p (applied (operation_clock o).effect d) h (q a).0 (q a).1 (size o d f l) ∙ ap (rest_in p) z ∙ sym (contents_rest b p d h (q a).0 (q a).1 l)

-- the operation that counts, and the one beside it: with no program inside the outer and the inner, else the other way
abbrev own : Bool → Controller → Operation
own true c = c.outer
own false c = c.inner

abbrev beside : Bool → Controller → Operation
beside true c = c.inner
beside false c = c.outer

active_own : (t : Bool) (c : Controller) → is_absent c.inner ≡ t → active c ≡ own t c
unfolding active
active_own true c i = rw i
active_own false c i = rw i

record Turn (t : Bool) (c : Controller) : Type 0 where
  next : own t (controller_clock c).after ≡ (operation_clock (own t c)).after
  side : beside t (controller_clock c).after ≡ beside t c
  effect : (controller_clock c).effect ≡ (operation_clock (own t c)).effect
  marks : (controller_clock c).after.marks ≡ marks_after c.marks (own t c) (operation_clock (own t c)).finished

turn : (t : Bool) (c : Controller) → is_absent c.inner ≡ t → is_still (own t c) ≡ false → Turn t c
unfolding controller_clock replaced
turn true c i m =
    let a = active_own true c i in
    record { next = rw (a, m, i); side = rw (a, m, i); effect = rw (a, m); marks = rw (a, m, i) }
turn false c i m =
    let a = active_own false c i in
    record { next = rw (a, m, i); side = rw (a, m, i); effect = rw (a, m); marks = rw (a, m, i) }

-- nothing counts
resting_on : (b : ℕ) (c : Controller) (d : List ℕ) → is_still (active c) ≡ true → is_last (op_of b c) ≡ false → Counting b c d
unfolding controller_clock
resting_on b c d m l = goes l (rw m) (rw m (itself (op_of b c))) (rw m) (rw m)

-- a program inside a suspended erase, and the erase
record Inside (c : Controller) : Type 0 where
  program : is_erase c.inner ≡ false
  moves : is_still c.inner ≡ false
  there : is_absent c.outer ≡ false
  rests : is_suspended c.outer ≡ true
  apart_from : block_of c.outer.address ≡ block_of c.inner.address → ⊥
  sound : operation_fits c.inner ≡ true

running_moves : (o : Operation) → is_absent o ≡ false → is_running o ≡ true → is_still o ≡ false
unfolding is_still
running_moves o a r =
    rw a (ne_eqb o.state 2 (λ z. eqb-false 0 2 refl (sym (eqb-true o.state 0 r) ∙ z)))

other_kind : (k m n : ℕ) → eqb k m ≡ true → (m ≡ n → ⊥) → eqb k n ≡ false
other_kind k m n e h = ne_eqb k n (λ z. h (sym (eqb-true k m e) ∙ z))

within_erase : (c : Controller) → controller_fits c ≡ true → is_absent c.inner ≡ false → Inside c
unfolding inner_fits inside apart
within_erase c e i =
    let h = rw i at (clauses c e).inner in
    record {
      program = other_kind c.inner.kind 1 2 (holds _ 0 h) (eqb-false 1 2 refl);
      moves = running_moves c.inner i (holds _ 1 h);
      there = other_kind c.outer.kind 2 0 (holds _ 2 h) (eqb-false 2 0 refl);
      rests = holds _ 3 h;
      apart_from = eqb-false (block_of c.outer.address) (block_of c.inner.address) (not-true _ (holds _ 4 h));
      sound = holds _ 5 h;
    }

-- a clock with no program inside
alone : (b : ℕ) (c : Controller) (d : List ℕ)
    → b < 16
    → controller_fits c ≡ true
    → length d ≡ 1048576
    → is_absent c.inner ≡ true
    → Counting b c d
alone b c d h e l i = pick (ask (is_still c.outer)) (ask (is_on b c.outer))
  where
    side : is_on b c.inner ≡ false
    side = off_absent b c.inner i

    quiet : is_still c.outer ≡ true → Answer (is_on b c.outer) → is_last (op_of b c) ≡ false
    quiet m (yes x) = rw (on_outer b c x) (still_last c.outer m)
    quiet m (no x) = rw (on_none b c x side) absent_last

    gone_off : OneClock c.outer → is_on b c.outer ≡ false → is_on b (operation_clock c.outer).after ≡ false
    gone_off (over t n q) x = rw n (off_none b)
    gone_off (on t q n) x = like_on b c.outer (operation_clock c.outer).after n ∙ x

    pick : Answer (is_still c.outer) → Answer (is_on b c.outer) → Counting b c d
    pick (yes m) x = resting_on b c d (rw (active_own true c i) m) (quiet m x)
    pick (no m) (yes x) =
        let f = outer_fits_lem c e (moving c.outer m) in
        turning b c d c.outer h (on_here b c.outer x).1 (on_outer b c x) (moving c.outer m) f m (rw (active_own true c i) m) (turn true c i m).effect (turn true c i m).marks
        (λ g. on_none b (controller_clock c).after (rw ((turn true c i m).next, g) (off_none b)) (rw (turn true c i m).side side))
        (λ k. on_outer b (controller_clock c).after (rw (turn true c i m).next (like_on b c.outer _ k ∙ x)) ∙ (turn true c i m).next)
        l
    pick (no m) (no x) =
        let a = moving c.outer m in
        let f = outer_fits_lem c e a in
        elsewhere b c d c.outer absent h (on_none b c x side)
        (on_none b (controller_clock c).after (rw (turn true c i m).next (gone_off (one_clock c.outer m) x)) (rw (turn true c i m).side side))
        absent_last (λ z. clash (sym z)) f (off_there b c.outer a x) (turn true c i m).effect (turn true c i m).marks l

-- a clock with one
inside_erase : (b : ℕ) (c : Controller) (d : List ℕ)
    → b < 16
    → controller_fits c ≡ true
    → length d ≡ 1048576
    → is_absent c.inner ≡ false
    → Counting b c d
inside_erase b c d h e l i = pick (ask (is_on b c.outer)) (ask (is_on b c.inner))
  where
    n : Inside c
    n = within_erase c e i

    m : is_still c.inner ≡ false
    m = n.moves

    gone_off : OneClock c.inner → is_on b c.inner ≡ false → is_on b (operation_clock c.inner).after ≡ false
    gone_off (over t g q) x = rw g (off_none b)
    gone_off (on t q k) x = like_on b c.inner (operation_clock c.inner).after k ∙ x

    pick : Answer (is_on b c.outer) → Answer (is_on b c.inner) → Counting b c d
    pick (yes x) y =
        let f = outer_fits_lem c e n.there in
        let k = (on_here b c.outer x).1 in
        elsewhere b c d c.inner c.outer h (on_outer b c x)
        (on_outer b (controller_clock c).after (rw (turn false c i m).side x) ∙ (turn false c i m).side)
        (suspended_last c.outer n.there n.rests) (λ z. (f, k)) n.sound (λ z. n.apart_from (k ∙ z))
        (turn false c i m).effect (turn false c i m).marks l
    pick (no x) (yes y) =
        turning b c d c.inner h (on_here b c.inner y).1 (on_inner b c x y) i n.sound m (rw (active_own false c i) m) (turn false c i m).effect (turn false c i m).marks
        (λ g. on_none b (controller_clock c).after (rw (turn false c i m).side x) (rw ((turn false c i m).next, g) (off_none b)))
        (λ k. on_inner b (controller_clock c).after (rw (turn false c i m).side x) (rw (turn false c i m).next (like_on b c.inner _ k ∙ y)) ∙ (turn false c i m).next)
        l
    pick (no x) (no y) =
        elsewhere b c d c.inner absent h (on_none b c x y)
        (on_none b (controller_clock c).after (rw (turn false c i m).side x) (rw (turn false c i m).next (gone_off (one_clock c.inner m) y)))
        absent_last (λ z. clash (sym z)) n.sound (off_there b c.inner i y) (turn false c i m).effect (turn false c i m).marks l

pub counting : (b : ℕ) (c : Controller) (d : List ℕ) → b < 16 → controller_fits c ≡ true → length d ≡ 1048576 → Counting b c d
counting b c d h e l = pick (ask (is_absent c.inner))
  where
    pick : Answer (is_absent c.inner) → Counting b c d
    pick (yes i) = alone b c d h e l i
    pick (no i) = inside_erase b c d h e l i
