-- Bytes in a buffer: a number in two of them, many of one value, some put over others. Assumes nothing.
use Rattle.std.specs.Prelude.{ℕ, ◌+◌, ◌*◌, List, ◌++◌, length, get_or, take, drop, replicate}

-- the number in the two bytes from a place on, lower first
abbrev pub two_at : List ℕ → ℕ → ℕ
two_at s at = get_or s at 0 + 256 * get_or s (at + 1) 0

-- `count` bytes from `start` on become `value`
abbrev pub filled : List ℕ → ℕ → ℕ → ℕ → List ℕ
filled d start count value = take start d ++ replicate count value ++ drop (start + count) d

-- bytes put into a buffer from place k on
abbrev pub put : List ℕ → ℕ → List ℕ → List ℕ
put buffer k bytes = take k buffer ++ bytes ++ drop (k + length bytes) buffer
