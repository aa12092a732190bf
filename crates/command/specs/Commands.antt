-- Document 01, "Commands": six rows by nine columns decide each command byte outside a setup, and what each action does.
-- Assumes nothing.
use Rattle.std.specs.Prelude.{ℕ, cond, ◌||◌, List, [], ◌∷◌, eqb, get_or}
use Rattle.units.specs.Units.{in_clocks}
use Rattle.record.specs.declared.Operation.{Operation}
use Rattle.record.specs.declared.Controller.{Controller}
use Rattle.record.specs.Record.{with_pause, controller}
use Rattle.status.specs.declared.Condition.{Condition}
use Rattle.status.specs.declared.Condition.TheVariants.{Ready, Running, Pausing, ProgramSuspended, EraseSuspended, ProgramInside}
use Rattle.command.specs.declared.Action.{Action}
use Rattle.command.specs.declared.Action.TheVariants.{Array, Status, Signature, Clear, Program, Erase, Pause, Resume, Nothing}

-- columns: FF, 70, 90 and 98, 50, 40 and 10, 20, B0, D0, other
unfoldable pub column_of : ℕ → ℕ
column_of byte =
    cond (eqb byte 0xFF) 0
    (cond (eqb byte 0x70) 1
    (cond (eqb byte 0x90 || eqb byte 0x98) 2
    (cond (eqb byte 0x50) 3
    (cond (eqb byte 0x40 || eqb byte 0x10) 4
    (cond (eqb byte 0x20) 5
    (cond (eqb byte 0xB0) 6
    (cond (eqb byte 0xD0) 7 8)))))))

abbrev pub row_of : Condition → ℕ
row_of Ready = 0
row_of Running = 1
row_of Pausing = 2
row_of ProgramSuspended = 3
row_of EraseSuspended = 4
row_of ProgramInside = 5

-- ready; running; pausing; program suspended; erase suspended; program inside suspended erase
abbrev rows : List (List Action)
rows =
    (Array ∷ Status ∷ Signature ∷ Clear ∷ Program ∷ Erase ∷ Nothing ∷ Nothing ∷ Nothing ∷ [])
    ∷ (Nothing ∷ Status ∷ Nothing ∷ Nothing ∷ Nothing ∷ Nothing ∷ Pause ∷ Nothing ∷ Nothing ∷ [])
    ∷ (Nothing ∷ Nothing ∷ Nothing ∷ Nothing ∷ Nothing ∷ Nothing ∷ Nothing ∷ Nothing ∷ Nothing ∷ [])
    ∷ (Array ∷ Status ∷ Signature ∷ Nothing ∷ Nothing ∷ Nothing ∷ Nothing ∷ Resume ∷ Nothing ∷ [])
    ∷ (Array ∷ Status ∷ Signature ∷ Nothing ∷ Program ∷ Nothing ∷ Nothing ∷ Resume ∷ Nothing ∷ [])
    ∷ (Nothing ∷ Status ∷ Nothing ∷ Nothing ∷ Nothing ∷ Nothing ∷ Nothing ∷ Nothing ∷ Nothing ∷ [])
    ∷ []

unfoldable pub action_at : ℕ → ℕ → Action
action_at row column = get_or (get_or rows row []) column Nothing

unfoldable pub action_of : Condition → ℕ → Action
action_of c byte = action_at (row_of c) (column_of byte)

abbrev pub with_mode : Controller → ℕ → ℕ → Controller
with_mode c mode setup = controller mode c.errors setup c.marks c.outer c.inner

abbrev pub with_outer : Controller → ℕ → Operation → Controller
with_outer c mode outer = controller mode c.errors c.setup c.marks outer c.inner

-- A, S, G set array, status, signature mode; C clears bits 1, 3, 4, 5; P, E begin a setup and set status mode; Z asks
-- for a pause, by the operation's own copy of its time; R resumes and sets status mode
abbrev pub acted : Action → Controller → Controller
acted Array c = with_mode c 0 c.setup
acted Status c = with_mode c 1 c.setup
acted Signature c = with_mode c 2 c.setup
acted Clear c = controller c.mode 0 c.setup c.marks c.outer c.inner
acted Program c = with_mode c 1 1
acted Erase c = with_mode c 1 2
acted Pause c = with_outer c c.mode (with_pause c.outer 1 (in_clocks c.outer.times.pause))
acted Resume c = with_outer c 1 (with_pause c.outer 0 c.outer.pause)
acted Nothing c = c
