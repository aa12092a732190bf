-- Document 01, "Frames" (Tables 4 and 5 of 004), and document 02, #101 (Tables 3, 7 and 8 of 000): what each clock of a frame
-- takes, asks and drives. A frame's clock is the last one done. The two parts have each a head, clocks 1 to 10; from clock 11
-- on a frame is the same on both. Assumes nothing.
use Rattle.std.specs.Prelude.{ℕ, ◌+◌, ◌*◌, ◌/◌, ◌%◌, Bool, false, cond, eqb, ltb}
use Rattle.record.specs.declared.Frame.{Frame}
use Rattle.record.specs.Record.{is_lpc, frame, idle, is_idle, is_read, is_write, is_begun}
use Rattle.record.specs.Sample.{lines, frame_line}
use Rattle.part.specs.Parts.{window_of}
use Rattle.bus.specs.declared.Asked.{Asked}
use Rattle.bus.specs.declared.Asked.TheVariants.{Nothing, Read, Write}

-- a low frame line ends the frame in progress. On FWH 1101b begins a read and 1110b a write; on LPC 0000b begins a frame whose
-- direction is not known yet; otherwise the bus is idle
unfoldable pub begun : ℕ → ℕ → Frame
begun part nibble =
    cond (is_lpc part) (cond (eqb nibble 0) (frame 3 1 0 0) idle)
    (cond (eqb nibble 13) (frame 1 1 0 0) (cond (eqb nibble 14) (frame 2 1 0 0) idle))

-- the address takes a nibble, highest first: a register of 28 bits that is shifted, on LPC of 32
unfoldable pub shifted : ℕ → ℕ → ℕ → ℕ
shifted part address nibble = address % cond (is_lpc part) 0x10000000 0x1000000 * 16 + nibble

-- FWH's head: clock 2 strap match, 3-9 address, 10 size; a mismatch or a size other than 0000b drops the frame (house)
unfoldable pub headed : ℕ → Frame → ℕ → Frame
headed straps f nibble =
    cond (eqb f.clock 1) (cond (eqb nibble straps) (frame f.kind 2 0 0) idle)
    (cond (ltb f.clock 9) (frame f.kind (f.clock + 1) 0 (shifted 0 f.address nibble))
    (cond (eqb nibble 0) (frame f.kind 10 0 f.address) idle))

-- LPC's head. Clock 2 has the cycle type: 010X reads, 011X writes, X free; another drops the frame (house)
unfoldable pub cycled : Frame → ℕ → Frame
cycled f nibble =
    cond (eqb (nibble / 2) 2) (frame 1 (f.clock + 1) 0 0) (cond (eqb (nibble / 2) 3) (frame 2 (f.clock + 1) 0 0) idle)

-- an address is for this part: bits 23-31 all 1, bits 21 and 20 as the pins say (000, Table 3)
unfoldable pub is_chosen : ℕ → ℕ → Bool
is_chosen straps address =
    cond (eqb (address / 0x800000) 0x1FF) (eqb (address / 0x100000 % 4) (window_of straps)) false

-- clocks 3-10 have the address; on clock 10 it is judged, whole, and one that is not for this part drops the frame (house)
unfoldable pub addressed : ℕ → Frame → ℕ → Frame
addressed straps f address =
    cond (ltb f.clock 9) (frame f.kind (f.clock + 1) 0 address)
    (cond (is_chosen straps address) (frame f.kind 10 0 address) idle)

unfoldable pub headed_lpc : ℕ → Frame → ℕ → Frame
headed_lpc straps f nibble =
    cond (is_begun f) (cycled f nibble) (addressed straps f (shifted 1 f.address nibble))

-- a read goes on to clock 19, after which the bus is idle; turnaround nibbles are not tested (house)
unfoldable pub read_on : Frame → Frame
read_on f = cond (ltb f.clock 18) (frame f.kind (f.clock + 1) f.byte f.address) idle

-- a write takes data on 11-12, low nibble first, and goes on to clock 17
unfoldable pub write_on : Frame → ℕ → Frame
write_on f nibble =
    cond (eqb f.clock 10) (frame f.kind 11 nibble f.address)
    (cond (eqb f.clock 11) (frame f.kind 12 (f.byte % 16 + 16 * nibble) f.address)
    (cond (ltb f.clock 16) (frame f.kind (f.clock + 1) f.byte f.address) idle))

unfoldable pub next_of : ℕ → ℕ → Frame → ℕ → Frame
next_of part straps f nibble =
    cond (ltb f.clock 10) (cond (is_lpc part) (headed_lpc straps f nibble) (headed straps f nibble))
    (cond (is_read f) (read_on f) (write_on f nibble))

-- one clock of the bus
unfoldable pub frame_clock : ℕ → ℕ → Frame → ℕ → Frame
frame_clock part straps f sample =
    cond (eqb (frame_line sample) 0) (begun part (lines sample))
    (cond (is_idle f) f (next_of part straps f (lines sample)))

-- the read value is fixed on clock 15; a write acts on clock 12
unfoldable pub asked_of : Frame → Asked
asked_of f =
    cond (is_read f) (cond (eqb f.clock 15) (Read f.address) Nothing)
    (cond (is_write f) (cond (eqb f.clock 12) (Write f.address f.byte) Nothing) Nothing)

-- the answer byte: bit 4 set when the device drives, the nibble below it. A read drives 0101b on 13-14, 0000b on 15,
-- the data on 16-17, low nibble first, 1111b on 18; a write 0000b on 15, 1111b on 16
unfoldable pub driven_of : Frame → ℕ
driven_of f =
    cond (is_read f)
    (cond (ltb f.clock 13) 0
    (cond (ltb f.clock 15) 0x15
    (cond (eqb f.clock 15) 0x10
    (cond (eqb f.clock 16) (0x10 + f.byte % 16)
    (cond (eqb f.clock 17) (0x10 + f.byte / 16) 0x1F)))))
    (cond (is_write f) (cond (eqb f.clock 15) 0x10 (cond (eqb f.clock 16) 0x1F 0)) 0)
