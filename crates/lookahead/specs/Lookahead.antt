-- What of a stream is known by looking ahead: stretches of an idle bus, and frames that lie in it whole. Whole means a read up
-- to clock 18, the last that drives, and a write up to clock 12, on which it acts. Assumes nothing.
use Rattle.std.specs.Prelude.{ℕ, zero, suc, ◌+◌, ◌-◌, ◌*◌, ◌%◌, ◌/◌, ◌≡◌, Bool, true, false, cond, ◌&&◌, List, [], ◌∷◌, ◌++◌, eqb, leb, replicate}
use Rattle.record.specs.declared.Frame.{Frame}
use Rattle.record.specs.Record.{is_lpc, idle, is_idle, is_read}
use Rattle.record.specs.Sample.{lines, frame_line, is_reset, is_idle_sample, sample_at}
use Rattle.basics.specs.Bytes.{filled}
use Rattle.lookahead.specs.declared.FrameKind.{FrameKind}
use Rattle.lookahead.specs.declared.FrameKind.TheVariants.{NoFrame, Read, Write}
use Rattle.bus.specs.Frames.{shifted, is_chosen}

-- a frame begins with this nibble: the frame line is low, and nothing resets
unfoldable pub is_start : ℕ → ℕ → Bool
is_start nibble sample = cond (is_reset sample) false (cond (eqb (frame_line sample) 0) (eqb (lines sample) nibble) false)

-- n samples from place k on are idle
abbrev pub all_idle : List ℕ → ℕ → ℕ → Bool
all_idle s k zero = true
all_idle s k (suc n) = is_idle_sample (sample_at s k) && all_idle s (k + 1) n

-- the address that n samples from place k on shift in behind one that stands already
abbrev pub address_over : ℕ → List ℕ → ℕ → ℕ → ℕ → ℕ
address_over part s k zero address = address
address_over part s k (suc n) address = address_over part s (k + 1) n (shifted part address (lines (sample_at s k)))

-- the address whose nibbles, highest first, stand from place k on: seven, on LPC eight
unfoldable pub address_at : ℕ → List ℕ → ℕ → ℕ
address_at part s k = address_over part s k (cond (is_lpc part) 8 7) 0

-- no frame, or one with only its last clock to come, on which nothing is driven
unfoldable pub is_frame_over : Frame → Bool
is_frame_over f = cond (is_idle f) true (cond (is_read f) (eqb f.clock 18) (eqb f.clock 16))

-- the bus stays idle on this sample, and the frame after it then
unfoldable pub stays_idle : Frame → ℕ → Bool
stays_idle f sample = cond (is_idle_sample sample) (is_frame_over f) false

unfoldable pub ended_frame : Frame → Frame
ended_frame f = cond (is_idle f) f idle

-- a kind of frame as the number that it has in a frame
abbrev pub number_of : FrameKind → ℕ
number_of NoFrame = 0
number_of Read = 1
number_of Write = 2

-- the nibble with which a frame of a kind (1 reads, 2 writes) begins
unfoldable pub start_of : ℕ → ℕ → ℕ
start_of part kind = cond (is_lpc part) 0 (12 + kind)

-- the head of a frame that begins at place k is for this part: the straps match and the size is 0; on LPC the cycle type is of
-- the kind, and the address is chosen
unfoldable pub head_fits : List ℕ → ℕ → ℕ → ℕ → ℕ → Bool
head_fits s part straps kind k =
    cond (is_lpc part)
    (cond (eqb (lines (sample_at s (k + 1)) / 2) (1 + kind)) (is_chosen straps (address_at part s (k + 2))) false)
    (cond (eqb (lines (sample_at s (k + 1))) straps) (eqb (lines (sample_at s (k + 9))) 0) false)

-- at place k begins a frame of this kind whose first n clocks lie before place `to`: on the first the frame line is low, RP and
-- INIT high, all others are idle, and its head fits
unfoldable pub whole_frame : List ℕ → ℕ → ℕ → ℕ → ℕ → ℕ → ℕ → Bool
whole_frame s part straps kind k to n =
    cond (is_start (start_of part kind) (sample_at s k))
    (cond (leb n (to - k)) (cond (head_fits s part straps kind k) (all_idle s (k + 1) (n - 1)) false) false)
    false

-- the sixteen samples from place k on are idle and lie before place `to`
unfoldable pub sixteen_idle : List ℕ → ℕ → ℕ → Bool
sixteen_idle s k to = cond (leb 16 (to - k)) (all_idle s k 16) false

-- the data byte of a write that begins at place k
unfoldable pub byte_at : List ℕ → ℕ → ℕ
byte_at s k = lines (sample_at s (k + 10)) % 16 + 16 * lines (sample_at s (k + 11))

-- the answers to clocks 1 to 18 of a read that finds this byte
abbrev pub read_answers : ℕ → List ℕ
read_answers byte =
    replicate 12 0 ++ (0x15 ∷ 0x15 ∷ 0x10 ∷ (0x10 + byte % 16) ∷ (0x10 + byte / 16) ∷ 0x1F ∷ [])

-- from place k to place m all samples are idle, and each has the answer 0 in the buffer as it is later, which is
-- otherwise as it was
pub record Skipped (s : List ℕ) (buffer : List ℕ) (k m : ℕ) (later : List ℕ) : Type 0 where
  pub idle : all_idle s k (m - k) ≡ true
  pub zeros : later ≡ filled buffer k (m - k) 0
