-- What the bus's part of a clock does to one block: its operation stays, or one is accepted that was allowed.
-- Assumes nothing.
use Prim.Native.Nat.{ℕ, ◌%◌, ◌<◌}
use mathlib.Core.Path.{◌≡◌, ◌∙◌, sym, refl, ap}
use mathlib.Core.Bool.{true, false}
use mathlib.Core.List.{List, ◌++◌, append-nil}
use native.Mathlib.Nat.{zero-add}
use native.Mathlib.Omega.{arith}
use lib.Dec.{eqb, ltb}
use lib.ListN.{length, get_or, replicate}
use lib.Seq.{drop-length}
use borrow.Author.Tests.{eqb-true, eqb-false, eq-eqb}
use Rattle.basics.proofs.Rules.{Answer, yes, no, ask, clash}
use Rattle.basics.proofs.All.{also, none}
use Rattle.units.specs.declared.Times.{Times}
use Rattle.units.specs.Units.{times_fit, in_clocks}
use Rattle.record.specs.declared.Operation.{Operation}
use Rattle.record.specs.declared.Controller.{Controller}
use Rattle.record.specs.Record.{is_absent, with_pause, absent, block_of}
use Rattle.record.specs.Sample.{tbl, wp}
use Rattle.basics.specs.Bytes.{filled}
use Rattle.status.specs.declared.Condition.{Condition}
use Rattle.status.specs.declared.Condition.TheVariants.{Ready, Running, Pausing, ProgramSuspended, EraseSuspended, ProgramInside}
use Rattle.status.specs.Status.{condition_of}
use Rattle.soundness.specs.Sound.{operation_fits, setup_kinds, controller_fits}
use Rattle.soundness.proofs.Clauses.{clauses}
use Rattle.command.specs.declared.Action.{Action}
use Rattle.command.specs.declared.Action.TheVariants.{Array, Status, Signature, Clear, Program, Erase, Pause, Resume, Nothing}
use Rattle.std.specs.Prelude.{Result, Ok, Err}
use Rattle.permission.specs.declared.Denial.{Denial}
use Rattle.permission.specs.declared.Denial.TheVariants.{Voltage, Pin, Lock, Suspended}
use Rattle.command.specs.Commands.{acted, action_of}
use Rattle.permission.specs.Permission.{pin_low, judged}
use Rattle.permission.proofs.Granted.{Allowed, granted}
use Rattle.command.specs.Setup.{accepted_of, starting, failing, answered, unconfirmed, written_of}
use Rattle.command.proofs.Kept.{View, ready, running, pausing, program_suspended, erase_suspended, within, view, refuse, accepted_fits}
use Rattle.demands.specs.History.{is_on, op_of, allowed, erased, whole}
use Rattle.demands.proofs.Block.{rest_in}
use Rattle.demands.proofs.Counting.{Like, itself, off_absent}

-- an operation that only the state and the pause of has changed
pub record Alike (o n : Operation) : Type 0 where
  pub like : Like o n
  pub slices : n.slices ≡ o.slices

same : (o : Operation) → Alike o o
same o = record { like = itself o; slices = refl }

-- an operation as it is accepted: what is left of it is the whole
pub record Fresh (b : ℕ) (o : Operation) : Type 0 where
  pub sound : operation_fits o ≡ true
  pub block : block_of o.address ≡ b
  pub all_left : (x : List ℕ) → length x ≡ 65536 → rest_in o x ≡ whole o x

-- the bus's part of a clock, seen from a block
pub data Moving (b : ℕ) (sample : ℕ) (locks : List ℕ) (c n : Controller) : Type 0 where
  stays : is_absent (op_of b n) ≡ is_absent (op_of b c) → Alike (op_of b c) (op_of b n) → n.marks ≡ c.marks → Moving b sample locks c n
  begins : eqb c.setup 0 ≡ false
      → is_absent (op_of b c) ≡ true
      → is_absent (op_of b n) ≡ false
      → Fresh b (op_of b n)
      → n.marks ≡ c.marks
      → allowed b sample locks ≡ true
      → Moving b sample locks c n

pub unmoved : (b sample : ℕ) (locks : List ℕ) (c : Controller) → Moving b sample locks c c
unmoved b sample locks c = stays refl (same (op_of b c)) refl

-- the operations of two controllers that differ in other things
equal : (b sample : ℕ) (locks : List ℕ) (c n : Controller) → n.outer ≡ c.outer → n.inner ≡ c.inner → n.marks ≡ c.marks → Moving b sample locks c n
unfolding op_of
equal b sample locks c n o i m = stays (rw (o, i)) (rw (o, i) (same (op_of b c))) m

-- a state changed on the outer operation
paused_on : (b : ℕ) (o : Operation) (s : ℕ) (p : _) → is_on b (with_pause o s p) ≡ is_on b o
unfolding is_on
paused_on b o s p = refl

restated : (b sample : ℕ) (locks : List ℕ) (c n : Controller) (s : ℕ) (p : _)
    → n.outer ≡ with_pause c.outer s p
    → n.inner ≡ c.inner
    → n.marks ≡ c.marks
    → Moving b sample locks c n
unfolding op_of
restated b sample locks c n s p o i m = pick (ask (is_on b c.outer))
  where
    pick : Answer (is_on b c.outer) → Moving b sample locks c n
    pick (yes x) =
        stays (rw (o, i, paused_on b c.outer s p, x))
        (rw (o, i, paused_on b c.outer s p, x) (record { like = record { kind = refl; address = refl; byte = refl }; slices = refl }))
        m
    pick (no x) = stays (rw (o, i, paused_on b c.outer s p, x)) (rw (o, i, paused_on b c.outer s p, x) (same _)) m

acting : (a : Action) (b sample : ℕ) (locks : List ℕ) (c : Controller) → Moving b sample locks c (acted a c)
acting Array b sample locks c = equal b sample locks c _ refl refl refl
acting Status b sample locks c = equal b sample locks c _ refl refl refl
acting Signature b sample locks c = equal b sample locks c _ refl refl refl
acting Clear b sample locks c = equal b sample locks c _ refl refl refl
acting Program b sample locks c = equal b sample locks c _ refl refl refl
acting Erase b sample locks c = equal b sample locks c _ refl refl refl
acting Pause b sample locks c = restated b sample locks c _ 1 (in_clocks c.outer.times.pause) refl refl refl
acting Resume b sample locks c = restated b sample locks c _ 0 c.outer.pause refl refl refl
acting Nothing b sample locks c = unmoved b sample locks c

fails : (bits b sample : ℕ) (locks : List ℕ) (c : Controller) → Moving b sample locks c (failing c bits)
unfolding failing
fails bits b sample locks c = equal b sample locks c _ refl refl refl

-- what was granted was allowed
one : (n : ℕ) → n < 2 → (n ≡ 0 → ⊥) → n ≡ 1
one n h z = omega arith

high : (n : ℕ) → n < 2 → eqb n 0 ≡ false → eqb n 1 ≡ true
high n h e = let z = eqb-false n 0 e in eq-eqb n 1 (one n h z)

zero_of : (n : ℕ) → n < 2 → (n ≡ 1 → ⊥) → n ≡ 0
zero_of n h z = omega arith

low : (n : ℕ) → n < 2 → eqb n 1 ≡ false → eqb n 0 ≡ true
low n h e = let z = eqb-false n 1 e in eq-eqb n 0 (zero_of n h z)

granted_allowed : (setup : ℕ) (outer : Operation) (sample : ℕ) (locks : List ℕ) (address : ℕ)
    → judged setup outer sample (get_or locks (block_of address) 0) address ≡ Ok tt
    → allowed (block_of address) sample locks ≡ true
unfolding allowed pin_low
granted_allowed setup outer sample locks address e = pick (ask (eqb (block_of address) 15))
  where
    a : Allowed setup outer sample (get_or locks (block_of address) 0) address
    a = granted setup outer sample (get_or locks (block_of address) 0) address e

    lock : eqb (get_or locks (block_of address) 0 % 2) 0 ≡ true
    lock = low (get_or locks (block_of address) 0 % 2) (omega arith) a.unlocked

    pick : Answer (eqb (block_of address) 15) → allowed (block_of address) sample locks ≡ true
    pick (yes k) =
        rw (a.powered, k) (also _ refl (also _ (high (tbl sample) (omega arith) (rw k at a.pin_high)) (also _ lock none)))
    pick (no k) =
        rw (a.powered, k) (also _ refl (also _ (high (wp sample) (omega arith) (rw k at a.pin_high)) (also _ lock none)))

-- a fill of the whole block
filled_whole : (n v : ℕ) (x : List ℕ) → length x ≡ n → filled x 0 n v ≡ replicate n v
filled_whole n v x l = ap (λ (y : List ℕ). replicate n v ++ y) (rw (zero-add n, ← l, drop-length x)) ∙ append-nil (replicate n v)

erased_whole : (x : List ℕ) → length x ≡ 65536 → filled x 0 65536 255 ≡ erased
unfolding erased
erased_whole x l = filled_whole 65536 255 x l

-- an accepted operation has all of it left
fresh_rest : (ts : Times) (setup address byte : ℕ) (x : List ℕ) → length x ≡ 65536 → rest_in (accepted_of ts setup address byte) x ≡ whole (accepted_of ts setup address byte) x
unfolding rest_in whole accepted_of
fresh_rest ts setup address byte x l = pick (ask (eqb setup 1))
  where
    pick : Answer (eqb setup 1) → rest_in (accepted_of ts setup address byte) x ≡ whole (accepted_of ts setup address byte) x
    pick (yes s) = rw s
    pick (no s) = rw s (erased_whole x l)

accepted_there : (ts : Times) (setup address byte : ℕ) → is_absent (accepted_of ts setup address byte) ≡ false
unfolding accepted_of
accepted_there ts setup address byte = pick (ask (eqb setup 1))
  where
    pick : Answer (eqb setup 1) → is_absent (accepted_of ts setup address byte) ≡ false
    pick (yes s) = rw s
    pick (no s) = rw s

accepted_address : (ts : Times) (setup address byte : ℕ) → (accepted_of ts setup address byte).address ≡ address
unfolding accepted_of
accepted_address ts setup address byte = pick (ask (eqb setup 1))
  where
    pick : Answer (eqb setup 1) → (accepted_of ts setup address byte).address ≡ address
    pick (yes s) = rw s
    pick (no s) = rw s

accepted_on : (b : ℕ) (ts : Times) (setup address byte : ℕ) → is_on b (accepted_of ts setup address byte) ≡ eqb (block_of address) b
unfolding is_on
accepted_on b ts setup address byte = rw (accepted_there ts setup address byte, accepted_address ts setup address byte)

-- an accepted operation takes its place: outside, or inside a suspended erase
module _ (b sample : ℕ) (locks : List ℕ) (c : Controller) (ts : Times) (address byte : ℕ) (s : eqb c.setup 0 ≡ false) (t : times_fit ts ≡ true) (a : address < 1048576) (i : is_absent c.inner ≡ true) (g : judged c.setup c.outer sample (get_or locks (block_of address) 0) address ≡ Ok tt) where
  abbrev new : Operation
  new = accepted_of ts c.setup address byte

  fresh : eqb (block_of address) b ≡ true → Fresh b new
  fresh x =
      record {
        sound = accepted_fits ts c.setup address byte t a;
        block = ap block_of (accepted_address ts c.setup address byte) ∙ eqb-true (block_of address) b x;
        all_left = fresh_rest ts c.setup address byte;
      }

  permit : eqb (block_of address) b ≡ true → allowed b sample locks ≡ true
  permit x =
      ap (λ (k : ℕ). allowed k sample locks) (sym (eqb-true (block_of address) b x)) ∙ granted_allowed c.setup c.outer sample locks address g

  side : is_on b c.inner ≡ false
  side = off_absent b c.inner i

  outside : is_absent c.outer ≡ true → Moving b sample locks c (starting c new)
  unfolding starting op_of
  outside o = pick (ask (eqb (block_of address) b))
    where
      off : is_on b c.outer ≡ false
      off = off_absent b c.outer o

      at : is_on b new ≡ eqb (block_of address) b
      at = accepted_on b ts c.setup address byte

      pick : Answer (eqb (block_of address) b) → Moving b sample locks c (starting c new)
      pick (yes x) =
          begins s (rw (off, side)) (rw (o, at, x) (accepted_there ts c.setup address byte)) (rw (o, at, x) (fresh x)) (rw o) (permit x)
      pick (no x) = stays (rw (o, at, x, side, off)) (rw (o, at, x, side, off) (same absent)) (rw o)

  inside : is_absent c.outer ≡ false → Moving b sample locks c (starting c new)
  unfolding starting op_of
  inside o = pick (ask (is_on b c.outer)) (ask (eqb (block_of address) b))
    where
      at : is_on b new ≡ eqb (block_of address) b
      at = accepted_on b ts c.setup address byte

      pick : Answer (is_on b c.outer) → Answer (eqb (block_of address) b) → Moving b sample locks c (starting c new)
      pick (yes y) x = stays (rw (o, y)) (rw (o, y) (same c.outer)) (rw o)
      pick (no y) (yes x) =
          begins s (rw (y, side)) (rw (o, y, at, x) (accepted_there ts c.setup address byte)) (rw (o, y, at, x) (fresh x)) (rw o) (permit x)
      pick (no y) (no x) = stays (rw (o, y, at, x, side)) (rw (o, y, at, x, side) (same absent)) (rw o)

-- a setup stands only where there is no program inside
bare : (k : Condition) (c : Controller) → View c k → ltb c.setup (setup_kinds k) ≡ true → eqb c.setup 0 ≡ false → is_absent c.inner ≡ true
bare Ready c (ready i o) e s = i
bare Running c (running i o r) e s = i
bare Pausing c (pausing i o) e s = i
bare ProgramSuspended c (program_suspended i o) e s = i
bare EraseSuspended c (erase_suspended i o r p g) e s = i
bare ProgramInside c (within i) e s = clash (refuse c.setup s e)

answering : (j : Result Unit Denial) (b sample : ℕ) (locks : List ℕ) (c : Controller) (ts : Times) (address byte : ℕ)
    → judged c.setup c.outer sample (get_or locks (block_of address) 0) address ≡ j
    → controller_fits c ≡ true
    → times_fit ts ≡ true
    → address < 1048576
    → eqb c.setup 0 ≡ false
    → Moving b sample locks c (answered j c (accepted_of ts c.setup address byte))
answering (Ok u) b sample locks c ts address byte g e t a s = pick (ask (is_absent c.outer))
  where
    i : is_absent c.inner ≡ true
    i = bare (condition_of c) c (view c) (clauses c e).setup s

    pick : Answer (is_absent c.outer) → Moving b sample locks c (answered (Ok tt) c (accepted_of ts c.setup address byte))
    pick (yes o) = outside b sample locks c ts address byte s t a i g o
    pick (no o) = inside b sample locks c ts address byte s t a i g o
answering (Err Voltage) b sample locks c ts address byte g e t a s = fails 0x08 b sample locks c
answering (Err Pin) b sample locks c ts address byte g e t a s = fails 0x02 b sample locks c
answering (Err Lock) b sample locks c ts address byte g e t a s = fails 0x02 b sample locks c
answering (Err Suspended) b sample locks c ts address byte g e t a s = fails 0x10 b sample locks c

pub writing : (b sample : ℕ) (locks : List ℕ) (c : Controller) (ts : Times) (address byte : ℕ)
    → controller_fits c ≡ true
    → times_fit ts ≡ true
    → address < 1048576
    → Moving b sample locks c (written_of c ts sample (get_or locks (block_of address) 0) address byte).after
unfolding written_of
writing b sample locks c ts address byte e t a = pick (ask (eqb c.setup 0)) (ask (unconfirmed c.setup byte))
  where
    pick : Answer (eqb c.setup 0)
        → Answer (unconfirmed c.setup byte)
        → Moving b sample locks c (written_of c ts sample (get_or locks (block_of address) 0) address byte).after
    pick (yes s) u = rw s (acting (action_of (condition_of c) byte) b sample locks c)
    pick (no s) (yes u) = rw (s, u) (fails 0x30 b sample locks c)
    pick (no s) (no u) = rw (s, u) (answering _ b sample locks c ts address byte refl e t a s)
