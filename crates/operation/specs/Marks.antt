-- The spoiled marks: bit b of a number for block b. Assumes nothing.
use Rattle.std.specs.Prelude.{ℕ, ◌-◌, ◌/◌, ◌%◌, ◌^◌, Bool, eqb}
use Rattle.std.specs.Int.Bits.{bit_and, bit_or}

-- whether a block is marked
abbrev pub marked : ℕ → ℕ → Bool
marked marks block = eqb (marks / 2 ^ block % 2) 1

unfoldable pub marking : ℕ → ℕ → ℕ
marking marks block = bit_or marks (2 ^ block)

unfoldable pub clearing : ℕ → ℕ → ℕ
clearing marks block = bit_and marks (65535 - 2 ^ block)
