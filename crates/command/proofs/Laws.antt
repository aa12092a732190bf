-- What a byte written to the array looks at, and what becomes of the error bits: a command looks at no sample and at no
-- lock register, the end of a setup only by way of the judgement; the clear command clears error bits, a failure adds its
-- own, and nothing else touches them. Assumes nothing.
use mathlib.Core.Path.{◌≡◌, ◌∙◌, sym, refl, ap}
use mathlib.Core.Bool.{Bool, true, false, cond}
use mathlib.Core.List.{List}
use Rattle.std.proofs.Common.{arith}
use Rattle.std.proofs.lemmas.Bool.Decides.{nat_tests}
use lib.ListN.{get_or}
use Rattle.std.specs.Prelude.{Option, Some, None, Result, Ok, Err}
use Prim.Native.Nat.{ℕ, ◌<◌}
use lib.Bits.{bit_or, or_zero_r}
use lib.Dec.{eqb}
use Rattle.basics.proofs.Rules.{Answer, yes, no, ask}
use Rattle.basics.proofs.Table.{from, at}
use Rattle.units.specs.declared.Times.{Times}
use Rattle.record.specs.declared.Operation.{Operation}
use Rattle.record.specs.declared.Controller.{Controller}
use Rattle.units.specs.Units.{in_clocks}
use Rattle.record.specs.Record.{is_absent, is_running, is_pausing, with_pause}
use Rattle.status.specs.declared.Condition.{Condition}
use Rattle.status.specs.declared.Condition.TheVariants.{Ready, Running, Pausing, ProgramSuspended, EraseSuspended, ProgramInside}
use Rattle.status.specs.Status.{condition_of}
use Rattle.permission.specs.declared.Denial.{Denial}
use Rattle.permission.specs.declared.Denial.TheVariants.{Voltage, Pin, Lock, Suspended}
use Rattle.permission.specs.Permission.{judged}
use Rattle.command.specs.declared.Action.{Action}
use Rattle.command.specs.declared.Action.TheVariants.{Array, Status, Signature, Clear, Program, Erase, Pause, Resume, Nothing}
use Rattle.command.specs.Commands.{row_of, column_of, action_at, action_of, acted}
use Rattle.command.specs.Setup.{accepted_of, starting, failing, answered, unconfirmed, written_of}
use Rattle.command.proofs.Kept.{column_below}

-- a command outside a setup, pause and resume among them, hangs on no sample, lock register, address or time of the device
pub command_alone : (c : Controller) (ts us : Times) (s t l m a b byte : ℕ)
    → eqb c.setup 0 ≡ true
    → written_of c ts s l a byte ≡ written_of c us t m b byte
unfolding written_of
command_alone c ts us s t l m a b byte e = rw e

-- a failed judgement has its own error bit, and a granted one none
abbrev pub bits_of : Result Unit Denial → ℕ
bits_of (Ok u) = 0
bits_of (Err Voltage) = 0x08
bits_of (Err Pin) = 0x02
bits_of (Err Lock) = 0x02
bits_of (Err Suspended) = 0x10

abbrev pub verdict_bits : Option (Result Unit Denial) → ℕ
verdict_bits None = 0
verdict_bits (Some j) = bits_of j

-- the end of a setup looks at sample and lock register only for that bit
by_bits : (j : Result Unit Denial) (c : Controller) (o : Operation) → answered j c o ≡ cond (eqb (bits_of j) 0) (starting c o) (failing c (bits_of j))
by_bits (Ok u) c o = refl
by_bits (Err Voltage) c o = refl
by_bits (Err Pin) c o = refl
by_bits (Err Lock) c o = refl
by_bits (Err Suspended) c o = refl

pub written_alike : (c : Controller) (ts : Times) (s t l m a byte : ℕ)
    → verdict_bits (written_of c ts s l a byte).verdict ≡ verdict_bits (written_of c ts t m a byte).verdict
    → (written_of c ts s l a byte).after ≡ (written_of c ts t m a byte).after
unfolding written_of
written_alike c ts s t l m a byte = grind (arith, nat_tests)

-- the end of a setup leaves an operation that stands, and no write touches a mark
acted_marks : (a : Action) (c : Controller) → (acted a c).marks ≡ c.marks
acted_marks Array c = refl
acted_marks Status c = refl
acted_marks Signature c = refl
acted_marks Clear c = refl
acted_marks Program c = refl
acted_marks Erase c = refl
acted_marks Pause c = refl
acted_marks Resume c = refl
acted_marks Nothing c = refl

module _ (c : Controller) (o : Operation) where
  answered_marks : (j : Result Unit Denial) → (answered j c o).marks ≡ c.marks
  unfolding starting failing
  answered_marks (Ok u) = grind (arith, nat_tests)
  answered_marks (Err Voltage) = refl
  answered_marks (Err Pin) = refl
  answered_marks (Err Lock) = refl
  answered_marks (Err Suspended) = refl

  answered_outer : (j : Result Unit Denial) → is_absent c.outer ≡ false → (answered j c o).outer ≡ c.outer
  unfolding starting failing
  answered_outer (Ok u) a = rw a
  answered_outer (Err Voltage) a = refl
  answered_outer (Err Pin) a = refl
  answered_outer (Err Lock) a = refl
  answered_outer (Err Suspended) a = refl

pub written_marks : (c : Controller) (ts : Times) (s l a byte : ℕ) → (written_of c ts s l a byte).after.marks ≡ c.marks
unfolding written_of failing
written_marks c ts s l a byte = pick (ask (eqb c.setup 0)) (ask (unconfirmed c.setup byte))
  where
    pick : Answer (eqb c.setup 0) → Answer (unconfirmed c.setup byte) → (written_of c ts s l a byte).after.marks ≡ c.marks
    pick (yes n) u = rw n (acted_marks (action_of (condition_of c) byte) c)
    pick (no n) (yes u) = rw (n, u)
    pick (no n) (no u) = rw (n, u) (answered_marks c _ (judged c.setup c.outer s l a))

pub written_outer : (c : Controller) (ts : Times) (s t l m a byte : ℕ)
    → is_absent c.outer ≡ false
    → (written_of c ts s l a byte).after.outer ≡ (written_of c ts t m a byte).after.outer
unfolding written_of failing
written_outer c ts s t l m a byte o = pick (ask (eqb c.setup 0)) (ask (unconfirmed c.setup byte))
  where
    pick : Answer (eqb c.setup 0)
        → Answer (unconfirmed c.setup byte)
        → (written_of c ts s l a byte).after.outer ≡ (written_of c ts t m a byte).after.outer
    pick (yes n) u = rw n
    pick (no n) (yes u) = rw (n, u)
    pick (no n) (no u) =
        rw (n, u)
        (answered_outer c _ (judged c.setup c.outer s l a) o ∙ sym (answered_outer c _ (judged c.setup c.outer t m a) o))

-- B0h pauses a running operation, D0h resumes a suspended one, and no other command touches it: a computed test of the rows
abbrev is_pause : Action → Bool
is_pause Array = false
is_pause Status = false
is_pause Signature = false
is_pause Clear = false
is_pause Program = false
is_pause Erase = false
is_pause Pause = true
is_pause Resume = false
is_pause Nothing = false

abbrev is_resume : Action → Bool
is_resume Array = false
is_resume Status = false
is_resume Signature = false
is_resume Clear = false
is_resume Program = false
is_resume Erase = false
is_resume Pause = false
is_resume Resume = true
is_resume Nothing = false

abbrev pub is_running_row : Condition → Bool
is_running_row Ready = false
is_running_row Running = true
is_running_row Pausing = false
is_running_row ProgramSuspended = false
is_running_row EraseSuspended = false
is_running_row ProgramInside = false

abbrev pub is_suspended_row : Condition → Bool
is_suspended_row Ready = false
is_suspended_row Running = false
is_suspended_row Pausing = false
is_suspended_row ProgramSuspended = true
is_suspended_row EraseSuspended = true
is_suspended_row ProgramInside = false

-- a rule over the columns of a row, by computation
module _ (test : Action → Bool) (rule : ℕ → Bool) (row j : ℕ) (h : j < 9) where
  by_row : from (λ (i : ℕ). test (action_at row i)) 0 9 ≡ from rule 0 9 → test (action_at row j) ≡ rule j
  by_row e = sym (at (λ (i : ℕ). test (action_at row i)) 9 j false h) ∙ ap (λ (t : List Bool). get_or t j false) e ∙ at rule 9 j false h

module _ (j : ℕ) (h : j < 9) where
  pause_in : (k : Condition) → is_pause (action_at (row_of k) j) ≡ cond (is_running_row k) (eqb j 6) false
  unfolding action_at
  pause_in Ready = by_row is_pause (λ (i : ℕ). false) 0 j h refl
  pause_in Running = by_row is_pause (λ (i : ℕ). eqb i 6) 1 j h refl
  pause_in Pausing = by_row is_pause (λ (i : ℕ). false) 2 j h refl
  pause_in ProgramSuspended = by_row is_pause (λ (i : ℕ). false) 3 j h refl
  pause_in EraseSuspended = by_row is_pause (λ (i : ℕ). false) 4 j h refl
  pause_in ProgramInside = by_row is_pause (λ (i : ℕ). false) 5 j h refl

  resume_in : (k : Condition) → is_resume (action_at (row_of k) j) ≡ cond (is_suspended_row k) (eqb j 7) false
  unfolding action_at
  resume_in Ready = by_row is_resume (λ (i : ℕ). false) 0 j h refl
  resume_in Running = by_row is_resume (λ (i : ℕ). false) 1 j h refl
  resume_in Pausing = by_row is_resume (λ (i : ℕ). false) 2 j h refl
  resume_in ProgramSuspended = by_row is_resume (λ (i : ℕ). eqb i 7) 3 j h refl
  resume_in EraseSuspended = by_row is_resume (λ (i : ℕ). eqb i 7) 4 j h refl
  resume_in ProgramInside = by_row is_resume (λ (i : ℕ). false) 5 j h refl

acted_outer : (a : Action) (c : Controller)
    → (acted a c).outer
    ≡ cond (is_pause a) (with_pause c.outer 1 (in_clocks c.outer.times.pause)) (cond (is_resume a) (with_pause c.outer 0 c.outer.pause) c.outer)
acted_outer Array c = refl
acted_outer Status c = refl
acted_outer Signature c = refl
acted_outer Clear c = refl
acted_outer Program c = refl
acted_outer Erase c = refl
acted_outer Pause c = refl
acted_outer Resume c = refl
acted_outer Nothing c = refl

acted_inner : (a : Action) (c : Controller) → (acted a c).inner ≡ c.inner
acted_inner Array c = refl
acted_inner Status c = refl
acted_inner Signature c = refl
acted_inner Clear c = refl
acted_inner Program c = refl
acted_inner Erase c = refl
acted_inner Pause c = refl
acted_inner Resume c = refl
acted_inner Nothing c = refl

-- the table has the clear command in the row of ready, under 50h: a computed test of the rows
abbrev is_clear : Action → Bool
is_clear Array = false
is_clear Status = false
is_clear Signature = false
is_clear Clear = true
is_clear Program = false
is_clear Erase = false
is_clear Pause = false
is_clear Resume = false
is_clear Nothing = false

abbrev pub is_ready_row : Condition → Bool
is_ready_row Ready = true
is_ready_row Running = false
is_ready_row Pausing = false
is_ready_row ProgramSuspended = false
is_ready_row EraseSuspended = false
is_ready_row ProgramInside = false

module _ (j : ℕ) (h : j < 9) where
  clear_in : (k : Condition) → is_clear (action_at (row_of k) j) ≡ cond (is_ready_row k) (eqb j 3) false
  unfolding action_at
  clear_in Ready = by_row is_clear (λ (i : ℕ). eqb i 3) 0 j h refl
  clear_in Running = by_row is_clear (λ (i : ℕ). false) 1 j h refl
  clear_in Pausing = by_row is_clear (λ (i : ℕ). false) 2 j h refl
  clear_in ProgramSuspended = by_row is_clear (λ (i : ℕ). false) 3 j h refl
  clear_in EraseSuspended = by_row is_clear (λ (i : ℕ). false) 4 j h refl
  clear_in ProgramInside = by_row is_clear (λ (i : ℕ). false) 5 j h refl

-- the columns of 50h, B0h and D0h have no other byte
column_3 : (byte : ℕ) → eqb (column_of byte) 3 ≡ eqb byte 0x50
unfolding column_of
column_3 byte = grind (arith, nat_tests)

column_6 : (byte : ℕ) → eqb (column_of byte) 6 ≡ eqb byte 0xB0
unfolding column_of
column_6 byte = grind (arith, nat_tests)

column_7 : (byte : ℕ) → eqb (column_of byte) 7 ≡ eqb byte 0xD0
unfolding column_of
column_7 byte = grind (arith, nat_tests)

pub clear_where : (k : Condition) (byte : ℕ) → is_clear (action_of k byte) ≡ cond (is_ready_row k) (eqb byte 0x50) false
unfolding action_of
clear_where k byte = clear_in (column_of byte) (column_below byte) k ∙ ap (λ (t : Bool). cond (is_ready_row k) t false) (column_3 byte)

pause_where : (k : Condition) (byte : ℕ) → is_pause (action_of k byte) ≡ cond (is_running_row k) (eqb byte 0xB0) false
unfolding action_of
pause_where k byte = pause_in (column_of byte) (column_below byte) k ∙ ap (λ (t : Bool). cond (is_running_row k) t false) (column_6 byte)

resume_where : (k : Condition) (byte : ℕ) → is_resume (action_of k byte) ≡ cond (is_suspended_row k) (eqb byte 0xD0) false
unfolding action_of
resume_where k byte = resume_in (column_of byte) (column_below byte) k ∙ ap (λ (t : Bool). cond (is_suspended_row k) t false) (column_7 byte)

-- what stands after a byte written outside a setup
module _ (c : Controller) (ts : Times) (s l a byte : ℕ) (n : eqb c.setup 0 ≡ true) where
  pub commanded_outer : (written_of c ts s l a byte).after.outer
      ≡ cond (cond (is_running_row (condition_of c)) (eqb byte 0xB0) false) (with_pause c.outer 1 (in_clocks c.outer.times.pause))
      (cond (cond (is_suspended_row (condition_of c)) (eqb byte 0xD0) false) (with_pause c.outer 0 c.outer.pause) c.outer)
  unfolding written_of
  commanded_outer =
      rw (n, ← pause_where (condition_of c) byte, ← resume_where (condition_of c) byte) (acted_outer (action_of (condition_of c) byte) c)

  pub commanded_inner : (written_of c ts s l a byte).after.inner ≡ c.inner
  unfolding written_of
  commanded_inner = rw n (acted_inner (action_of (condition_of c) byte) c)

-- the rows of running and of suspended, by what stands
module _ (c : Controller) where
  pub running_row : is_running_row (condition_of c) ≡ cond (is_absent c.inner) (cond (is_absent c.outer) false (is_running c.outer)) false
  unfolding condition_of
  running_row = grind (arith, nat_tests)

  pub suspended_row : is_suspended_row (condition_of c)
      ≡ cond (is_absent c.inner) (cond (is_absent c.outer) false (cond (is_running c.outer) false (cond (is_pausing c.outer) false true))) false
  unfolding condition_of
  suspended_row = grind (arith, nat_tests)

-- a command leaves error bits, but for the clear command
acted_errors : (a : Action) (c : Controller) → (acted a c).errors ≡ cond (is_clear a) 0 c.errors
acted_errors Array c = refl
acted_errors Status c = refl
acted_errors Signature c = refl
acted_errors Clear c = refl
acted_errors Program c = refl
acted_errors Erase c = refl
acted_errors Pause c = refl
acted_errors Resume c = refl
acted_errors Nothing c = refl

-- a failed judgement adds its bit, and the start of an operation clears nothing
starting_errors : (c : Controller) (o : Operation) → (starting c o).errors ≡ c.errors
unfolding starting
starting_errors c o = grind (arith, nat_tests)

answered_errors : (j : Result Unit Denial) (c : Controller) (o : Operation) → (answered j c o).errors ≡ bit_or c.errors (bits_of j)
unfolding failing
answered_errors (Ok u) c o = starting_errors c o ∙ sym (or_zero_r c.errors)
answered_errors (Err Voltage) c o = refl
answered_errors (Err Pin) c o = refl
answered_errors (Err Lock) c o = refl
answered_errors (Err Suspended) c o = refl

pub written_errors : (c : Controller) (ts : Times) (s l a byte : ℕ)
    → (written_of c ts s l a byte).after.errors
    ≡ cond (eqb c.setup 0) (cond (cond (is_ready_row (condition_of c)) (eqb byte 0x50) false) 0 c.errors)
    (bit_or c.errors (cond (unconfirmed c.setup byte) 0x30 (bits_of (judged c.setup c.outer s l a))))
unfolding written_of failing
written_errors c ts s l a byte = pick (ask (eqb c.setup 0)) (ask (unconfirmed c.setup byte))
  where
    pick : Answer (eqb c.setup 0)
        → Answer (unconfirmed c.setup byte)
        → (written_of c ts s l a byte).after.errors
        ≡ cond (eqb c.setup 0) (cond (cond (is_ready_row (condition_of c)) (eqb byte 0x50) false) 0 c.errors)
        (bit_or c.errors (cond (unconfirmed c.setup byte) 0x30 (bits_of (judged c.setup c.outer s l a))))
    pick (yes n) u =
        rw n (acted_errors (action_of (condition_of c) byte) c ∙ ap (λ (t : Bool). cond t 0 c.errors) (clear_where (condition_of c) byte))
    pick (no n) (yes u) = rw (n, u)
    pick (no n) (no u) = rw (n, u) (answered_errors (judged c.setup c.outer s l a) c (accepted_of ts c.setup a byte))
