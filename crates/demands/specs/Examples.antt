-- Document 01, "Proved examples": the ten as one table, of FWH with straps 0; and document 02, #101: a second table, of LPC. The
-- device is fresh, with times 1, 3, 2; the image is any image with 5Ah at F0005h, in block 15. Assumes nothing.
use Rattle.std.specs.Prelude.{ℕ, ◌+◌, ◌-◌, ◌/◌, ◌%◌, ◌<◌, ◌≡◌, List, [], ◌∷◌, ◌++◌, map, length, get_or, take, drop, replicate}
use Rattle.units.specs.Units.{times}
use Rattle.part.specs.Fresh.{fresh_of}
use Rattle.status.specs.Status.{status_of}
use Rattle.clock.specs.Fold.{World, world, through, answers_to}

-- a sample with the frame line low: RP, INIT, TBL and WP high and voltage class 1; with class 0; with TBL low; in reset
abbrev normal : ℕ
normal = 992

abbrev unpowered : ℕ
unpowered = 480

abbrev top_low : ℕ
top_low = 864

abbrev in_reset : ℕ
in_reset = 960

-- the host leaves a nibble on the lines, the frame line high
abbrev leaves : ℕ → ℕ → ℕ
leaves pins nibble = pins + 16 + nibble

-- nothing on the lines, n times
abbrev idles : ℕ → ℕ → List ℕ
idles pins n = replicate n (leaves pins 15)

-- the head of a frame: strap 0, the address with its highest nibble first, size 0
abbrev head : ℕ → ℕ → List ℕ
head pins address =
    leaves pins 0
    ∷ leaves pins (address / 0x1000000 % 16)
    ∷ leaves pins (address / 0x100000 % 16)
    ∷ leaves pins (address / 0x10000 % 16)
    ∷ leaves pins (address / 0x1000 % 16)
    ∷ leaves pins (address / 0x100 % 16)
    ∷ leaves pins (address / 0x10 % 16)
    ∷ leaves pins (address % 16)
    ∷ leaves pins 0
    ∷ []

-- a read of 19 clocks, and a write of 17
abbrev reads : ℕ → List ℕ
reads address = (normal + 13) ∷ (head normal address ++ idles normal 9)

abbrev writes : ℕ → ℕ → ℕ → List ℕ
writes pins address byte =
    (pins + 14) ∷ (head pins address ++ (leaves pins (byte % 16) ∷ leaves pins (byte / 16) ∷ idles pins 5))

-- a write as far as its clock n
abbrev writes_to : ℕ → ℕ → ℕ → List ℕ
writes_to n address byte = take n (writes normal address byte)

abbrev target : ℕ
target = 0xFFF0005

abbrev lock15 : ℕ
lock15 = 0xFBF0002

abbrev lock14 : ℕ
lock14 = 0xFBE0002

abbrev maker : ℕ
maker = 0xFBC0000

-- what is asked of a row: the answers to its last samples, the status register, the byte at F0005h, the marks, or the
-- read mode and the setup
pub data Question : Type 0 where
  answers : ℕ → Question
  status : Question
  byte : Question
  marks : Question
  controls : Question

abbrev pub shows : Question → List ℕ → World → List ℕ
shows (answers n) ss w = drop (length ss - n) (answers_to ss w)
shows status ss w = status_of (through ss w).device.controller ∷ []
shows byte ss w = get_or (through ss w).image 0xF0005 0 ∷ []
shows marks ss w = (through ss w).device.controller.marks ∷ []
shows controls ss w = (through ss w).device.controller.mode ∷ (through ss w).device.controller.setup ∷ []

-- the part and its straps, the samples, what is asked of them, and what is to be seen
pub record Row : Type 0 where
  pub part : ℕ
  pub straps : ℕ
  pub samples : List ℕ
  pub question : Question
  pub seen : List ℕ

abbrev row : List ℕ → Question → List ℕ → Row
row ss q seen = record { part = 0; straps = 0; samples = ss; question = q; seen = seen }

-- a program of 0Fh with lock 15 open, up to its acceptance
abbrev up_to_acceptance : List ℕ
up_to_acceptance = writes normal lock15 0 ++ (writes normal target 0x40 ++ writes_to 12 target 0x0F)

-- an erase of block 15, suspended
abbrev suspended : List ℕ
suspended =
    writes normal lock15 0
    ++ (writes normal target 0x20 ++ (writes normal target 0xD0 ++ (writes normal target 0xB0 ++ idles normal 70)))

abbrev pub table : List Row
table =
    row (reads maker) (answers 19) (replicate 12 0 ++ (0x15 ∷ 0x15 ∷ 0x10 ∷ 0x10 ∷ 0x12 ∷ 0x1F ∷ 0 ∷ []))
    ∷ row (writes normal target 0x40 ++ writes normal target 0x0F) status (0x82 ∷ [])
    ∷ row (writes normal target 0x40 ++ (writes normal target 0x0F ++ idles normal 40)) byte (0x5A ∷ [])
    ∷ row (writes unpowered target 0x40 ++ writes unpowered target 0x0F) status (0x88 ∷ [])
    ∷ row (writes unpowered target 0x40 ++ (writes unpowered target 0x0F ++ idles unpowered 40)) byte (0x5A ∷ [])
    ∷ row (up_to_acceptance ++ idles normal 32) byte (0x5A ∷ [])
    ∷ row (up_to_acceptance ++ idles normal 33) byte (0x0A ∷ [])
    ∷ row (up_to_acceptance ++ idles top_low 32) byte (0x5A ∷ [])
    ∷ row (up_to_acceptance ++ idles top_low 33) byte (0x0A ∷ [])
    ∷ row (writes normal target 0x20 ++ writes normal target 0) status (0xB0 ∷ [])
    ∷ row (writes normal lock15 3 ++ (writes normal lock15 0 ++ reads lock15)) (answers 4) (0x13 ∷ 0x10 ∷ 0x1F ∷ 0 ∷ [])
    ∷ row (writes normal lock14 0xFF ++ reads lock14) (answers 4) (0x17 ∷ 0x10 ∷ 0x1F ∷ 0 ∷ [])
    ∷ row (writes_to 11 target 0x90 ++ ((normal + 9) ∷ idles normal 5)) controls (0 ∷ 0 ∷ [])
    ∷ row suspended status (0xC0 ∷ [])
    ∷ row (suspended ++ (writes normal target 0x40 ++ writes normal target 0)) status (0xD0 ∷ [])
    ∷ row (up_to_acceptance ++ ((in_reset + 31) ∷ [])) marks (0x8000 ∷ [])
    ∷ row (up_to_acceptance ++ ((in_reset + 31) ∷ [])) status (0x80 ∷ [])
    ∷ []

-- on LPC: the cycle type, and the address with its highest nibble first
abbrev lpc_head : ℕ → ℕ → List ℕ
lpc_head type address =
    leaves normal type
    ∷ leaves normal (address / 0x10000000 % 16)
    ∷ leaves normal (address / 0x1000000 % 16)
    ∷ leaves normal (address / 0x100000 % 16)
    ∷ leaves normal (address / 0x10000 % 16)
    ∷ leaves normal (address / 0x1000 % 16)
    ∷ leaves normal (address / 0x100 % 16)
    ∷ leaves normal (address / 0x10 % 16)
    ∷ leaves normal (address % 16)
    ∷ []

-- a frame of 19 clocks with nothing on the lines behind its head, and one of 17 with a byte there
abbrev lpc_reads : ℕ → ℕ → List ℕ
lpc_reads type address = normal ∷ (lpc_head type address ++ idles normal 9)

abbrev lpc_writes : ℕ → ℕ → ℕ → List ℕ
lpc_writes type address value =
    normal ∷ (lpc_head type address ++ (leaves normal (value % 16) ∷ leaves normal (value / 16) ∷ idles normal 5))

abbrev lpc_target : ℕ
lpc_target = 0xFFFF0005

-- a program of 0Fh with lock 15 open, up to its acceptance
abbrev lpc_acceptance : List ℕ
lpc_acceptance = lpc_writes 6 0xFFBF0002 0 ++ (lpc_writes 6 lpc_target 0x40 ++ take 12 (lpc_writes 6 lpc_target 0x0F))

abbrev lpc : ℕ → List ℕ → Question → List ℕ → Row
lpc straps ss q seen = record { part = 1; straps = straps; samples = ss; question = q; seen = seen }

abbrev pub lpc_table : List Row
lpc_table =
    lpc 0 (lpc_reads 4 0xFFBF0002) (answers 19) (replicate 12 0 ++ (0x15 ∷ 0x15 ∷ 0x10 ∷ 0x11 ∷ 0x10 ∷ 0x1F ∷ 0 ∷ []))
    ∷ lpc 0 (lpc_reads 4 0xFFBC0000) (answers 4) (0x10 ∷ 0x10 ∷ 0x1F ∷ 0 ∷ [])
    ∷ lpc 0 (lpc_writes 6 0xFFF00000 0x90 ++ lpc_reads 4 0xFFF00001) (answers 4) (0x1F ∷ 0x12 ∷ 0x1F ∷ 0 ∷ [])
    ∷ lpc 1 (lpc_reads 4 0xFFAF0002) (answers 4) (0x11 ∷ 0x10 ∷ 0x1F ∷ 0 ∷ [])
    ∷ lpc 1 (lpc_reads 4 0xFFBF0002) (answers 19) (replicate 19 0)
    ∷ lpc 0 (lpc_reads 5 0xFFBF0002) (answers 4) (0x11 ∷ 0x10 ∷ 0x1F ∷ 0 ∷ [])
    ∷ lpc 0 (lpc_writes 7 0xFFF00000 0x90) controls (2 ∷ 0 ∷ [])
    ∷ lpc 0 (lpc_reads 0 0xFFBF0002) (answers 19) (replicate 19 0)
    ∷ lpc 0 (lpc_acceptance ++ idles normal 32) byte (0x5A ∷ [])
    ∷ lpc 0 (lpc_acceptance ++ idles normal 33) byte (0x0A ∷ [])
    ∷ lpc 0 (take 11 (lpc_writes 6 lpc_target 0x90) ++ ((normal + 9) ∷ idles normal 5)) controls (0 ∷ 0 ∷ [])
    ∷ []

abbrev start : Row → List ℕ → World
start r image = world (fresh_of r.part r.straps (times 1 3 2)) image

-- every row shows what is to be seen
unfoldable pub Examples : Type 0
Examples =
    (image : List ℕ)
    → 0xF0005 < length image
    → get_or image 0xF0005 0 ≡ 0x5A
    → map (λ (r : Row). shows r.question r.samples (start r image)) (table ++ lpc_table)
    ≡ map (λ (r : Row). r.seen) (table ++ lpc_table)
