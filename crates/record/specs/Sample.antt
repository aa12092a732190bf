-- Document 01, "Sample, answer, times": the sixteen bits of a sample, what they say together, and a stream of bytes as
-- samples. Assumes nothing.
use Rattle.std.specs.Prelude.{ℕ, ◌+◌, ◌*◌, ◌/◌, ◌%◌, Bool, true, false, cond, List, [], ◌∷◌, eqb, get_or}

-- bits 0-3, the lines as the host leaves them
abbrev pub lines : ℕ → ℕ
lines sample = sample % 16

-- bit 4, the frame line
abbrev pub frame_line : ℕ → ℕ
frame_line sample = sample / 16 % 2

-- bit 5
abbrev pub rp : ℕ → ℕ
rp sample = sample / 32 % 2

-- bit 6
abbrev pub init : ℕ → ℕ
init sample = sample / 64 % 2

-- bit 7
abbrev pub tbl : ℕ → ℕ
tbl sample = sample / 128 % 2

-- bit 8
abbrev pub wp : ℕ → ℕ
wp sample = sample / 256 % 2

-- bits 9-10: 0 below lockout, 1 normal, 2 twelve volts
abbrev pub voltage : ℕ → ℕ
voltage sample = sample / 512 % 4

-- bits 11-15, FGPI0 to FGPI4
abbrev pub inputs : ℕ → ℕ
inputs sample = sample / 2048

-- RP or INIT low
unfoldable pub is_reset : ℕ → Bool
is_reset sample = cond (eqb (rp sample) 0) true (eqb (init sample) 0)

-- frame line, RP and INIT are high: the sample neither resets, nor ends or begins a frame
unfoldable pub is_idle_sample : ℕ → Bool
is_idle_sample sample = cond (is_reset sample) false (eqb (frame_line sample) 1)

-- a sample is two bytes, lower first
abbrev pub samples : List ℕ → List ℕ
samples [] = []
samples (l ∷ []) = []
samples (l ∷ h ∷ bytes) = (l + 256 * h) ∷ samples bytes

-- the sample at place k of a stream
abbrev pub sample_at : List ℕ → ℕ → ℕ
sample_at stream k = get_or stream (2 * k) 0 + 256 * get_or stream (2 * k + 1) 0
