-- What an effect does to the array. Assumes nothing.
use Rattle.std.specs.Prelude.{ℕ, ◌+◌, ◌*◌, ◌≤◌, ◌<◌, List, get_or, set}
use Rattle.std.specs.Int.Bits.{bit_and}
use Rattle.basics.specs.Bytes.{filled}
use Rattle.effect.specs.declared.Effect.{Effect}
use Rattle.effect.specs.declared.Effect.TheVariants.{Nothing, Program, Fill}

-- an effect lies inside an array of n bytes
abbrev pub FitsIn : Effect → ℕ → Type 0
FitsIn Nothing n = Unit
FitsIn (Program address byte) n = address < n
FitsIn (Fill start count value) n = start + count ≤ n

-- an effect lies inside a block
abbrev pub InBlock : ℕ → Effect → Type 0
InBlock block Nothing = Unit
InBlock block (Program address byte) = (block * 65536 ≤ address) × (address < block * 65536 + 65536)
InBlock block (Fill start count value) = (block * 65536 ≤ start) × (start + count ≤ block * 65536 + 65536)

-- a program stores old AND data
abbrev pub applied : Effect → List ℕ → List ℕ
applied Nothing d = d
applied (Program address byte) d = set d address (bit_and (get_or d address 0) byte)
applied (Fill start count value) d = filled d start count value
