-- Document 01, "Address bit 22 set means array" and "Array reads by mode", and document 02, #101 (000, Tables 9 and 12): the
-- value that a read finds. Assumes nothing.
use Rattle.std.specs.Prelude.{ℕ, ◌/◌, ◌%◌, Bool, cond, Option, Some, None, List, eqb, get_or}
use Rattle.record.specs.declared.Controller.{Controller}
use Rattle.record.specs.declared.Device.{Device}
use Rattle.record.specs.Record.{block_of}
use Rattle.record.specs.Sample.{inputs}
use Rattle.part.specs.declared.Register.{Register}
use Rattle.part.specs.declared.Register.TheVariants.{Lock, Inputs, MakerCode, DeviceCode}
use Rattle.part.specs.Parts.{device_code}
use Rattle.part.specs.Registers.{register_at}
use Rattle.status.specs.Status.{status_of}

-- bit 22 set means array
abbrev pub is_array : ℕ → Bool
is_array address = eqb (address / 0x400000 % 2) 1

-- of which bits 0-19 are used
abbrev pub array_address : ℕ → ℕ
array_address address = address % 1048576

-- the lock register of an array address's block
unfoldable pub lock_of : List ℕ → ℕ → ℕ
lock_of locks address = get_or locks (block_of address) 0

-- a register is known by all bits of its address (house): a lock as it stands, the inputs with FGPI0 in bit 0; on FWH
-- alone maker 20h and device 2Dh; others read 00h
abbrev pub standing : List ℕ → ℕ → Option Register → ℕ
standing locks sample (Some (Lock b)) = get_or locks b 0
standing locks sample (Some Inputs) = inputs sample
standing locks sample (Some MakerCode) = 0x20
standing locks sample (Some DeviceCode) = 0x2D
standing locks sample None = 0

unfoldable pub register_value : ℕ → ℕ → List ℕ → ℕ → ℕ → ℕ
register_value part straps locks sample address = standing locks sample (register_at part straps address)

-- signature: 20h at 00000h, the device code at 00001h, 00h elsewhere (house)
unfoldable pub signature_of : ℕ → ℕ → ℕ
signature_of part address = cond (eqb address 0) 0x20 (cond (eqb address 1) (device_code part) 0)

-- by mode: the array byte, 00h if lock bit 2 is set; status at any address; signature. A suspended block reads as it
-- stands (house): no operation is among the arguments but in the status
unfoldable pub array_value : ℕ → Controller → ℕ → ℕ → ℕ → ℕ
array_value part c lock address byte =
    cond (eqb c.mode 0) (cond (eqb (lock / 4 % 2) 1) 0 byte)
    (cond (eqb c.mode 1) (status_of c) (signature_of part address))

-- `byte` is what the image holds at the array address: the one place where the image reaches the device
unfoldable pub value_of : Device → ℕ → ℕ → ℕ → ℕ
value_of d sample address byte =
    cond (is_array address)
    (array_value d.part d.controller (lock_of d.locks (array_address address)) (array_address address) byte)
    (register_value d.part d.straps d.locks sample address)
