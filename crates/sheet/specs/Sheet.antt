-- Document 01, "Bay sheet": fields of a one-byte tag, a two-byte length and a value, the straps under tag 01h, then the
-- three times under tag 02h, and nothing else; what reading some bytes gives, and what writing leaves. Assumes nothing.
use Rattle.std.specs.Prelude.{ℕ, ◌+◌, ◌/◌, ◌%◌, ◌≡◌, Bool, cond, List, [], ◌∷◌, ◌++◌, eqb, ltb, length, get_or, drop, Result, Ok, Err}
use Rattle.basics.specs.All.{all}
use Rattle.basics.specs.Bytes.{two_at}
use Rattle.basics.specs.declared.refusal.Refusal.{Refusal}
use Rattle.basics.specs.declared.refusal.Refusal.TheVariants.{Layout, Straps, Times as BadTimes}
use Rattle.basics.specs.Refusals.{code_of}
use Rattle.units.specs.declared.Times.{Times}
use Rattle.units.specs.Units.{times, times_fit}
use Rattle.sheet.specs.declared.Bay.{Bay}
use Rattle.sheet.specs.declared.Sheet.{Sheet}

-- a number in two bytes, lower first
abbrev pub two : ℕ → List ℕ
two n = n % 256 ∷ n / 256 ∷ []

-- a field: its tag, the length of its value, its value
abbrev pub field : ℕ → List ℕ → List ℕ
field tag value = (tag ∷ two (length value)) ++ value

-- tag 01h with the straps, then tag 02h with program, slice and pause: thirteen bytes
unfoldable pub laid : ℕ → ℕ → ℕ → ℕ → List ℕ
laid straps program slice pause = field 1 (straps ∷ []) ++ field 2 (two program ++ two slice ++ two pause)

-- a field of this tag and length starts at a place
unfoldable pub field_at : List ℕ → ℕ → ℕ → ℕ → Bool
field_at s at tag size = all (eqb (get_or s at 0) tag ∷ eqb (two_at s (at + 1)) size ∷ [])

-- tag 01h of length 1, tag 02h of length 6, and nothing else
unfoldable pub of_layout : List ℕ → Bool
of_layout s = all (eqb (length s) 13 ∷ field_at s 0 1 1 ∷ field_at s 4 2 6 ∷ [])

-- the values where the layout has them
abbrev pub straps_in : List ℕ → ℕ
straps_in s = get_or s 3 0

abbrev pub times_in : List ℕ → Times
times_in s = times (two_at s 7) (two_at s 9) (two_at s 11)

abbrev pub bay : ℕ → Times → Bay
bay straps ts = record { straps = straps; times = ts }

-- what some bytes are as a sheet
abbrev pub Reading : Type 0
Reading = Result Bay Refusal

-- the layout is tested first, then the straps, then the times
unfoldable pub read_of : List ℕ → Reading
read_of s =
    cond (of_layout s)
    (cond (ltb 15 (straps_in s)) (Err Straps)
    (cond (times_fit (times_in s)) (Ok (bay (straps_in s) (times_in s))) (Err BadTimes)))
    (Err Layout)

abbrev pub sheet : ℕ → ℕ → ℕ → ℕ → ℕ → Sheet
sheet number straps program slice pause =
    record { number = number; straps = straps; program = program; slice = slice; pause = pause }

-- the numbered answer of a reading: 0 with the values; 8, 3 and 4 with zeros
abbrev pub numbers_of : Reading → Sheet
numbers_of (Ok b) = sheet 0 b.straps b.times.program.0 b.times.slice.0 b.times.pause.0
numbers_of (Err r) = sheet (code_of r) 0 0 0 0

-- a number, and the buffer as it is left
pub record SheetWritten : Type 0 where
  pub number : ℕ
  pub buffer : List ℕ

abbrev pub sheet_written : ℕ → List ℕ → SheetWritten
sheet_written number buffer = record { number = number; buffer = buffer }

-- 3 for straps above 15, 4 for a time outside its range, 6 for a buffer shorter than 13 bytes, each with the buffer as it
-- was; else the sheet in front, and the bytes past it as they were
unfoldable pub write_of : List ℕ → ℕ → ℕ → ℕ → ℕ → SheetWritten
write_of buffer straps program slice pause =
    cond (ltb 15 straps) (sheet_written 3 buffer)
    (cond (times_fit (times program slice pause))
    (cond (ltb (length buffer) 13) (sheet_written 6 buffer) (sheet_written 0 (laid straps program slice pause ++ drop 13 buffer)))
    (sheet_written 4 buffer))

-- what reading gives for some bytes
abbrev pub Reads : List ℕ → Reading → Type 0
Reads s r = r ≡ read_of s

-- the same as numbers
abbrev pub ReadsNumbers : List ℕ → Sheet → Type 0
ReadsNumbers s r = r ≡ numbers_of (read_of s)

-- what writing gives for a buffer, straps and three times: the number, and the buffer after
abbrev pub WritesSheet : List ℕ → ℕ → ℕ → ℕ → ℕ → ℕ → List ℕ → Type 0
WritesSheet buffer straps program slice pause r after = sheet_written r after ≡ write_of buffer straps program slice pause
