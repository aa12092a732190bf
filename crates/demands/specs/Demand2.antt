-- Demand 2 of the bus: what a clock does is the definition `device_clock`; here stand the properties that a reader checks it
-- by. What a frame does is said from its samples, the first of them its clock 1. Assumes nothing.
use Rattle.std.specs.Prelude.{ℕ, ◌+◌, ◌-◌, ◌*◌, ◌/◌, ◌%◌, ◌≤◌, ◌≡◌, Bool, true, false, cond, ◌&&◌, ◌||◌, List, [], ◌∷◌, ◌++◌, map, eqb, ltb, leb, length, get_or, take}
use Rattle.std.specs.Int.Bits.{bit_and}
use Rattle.basics.specs.All.{all}
use Rattle.units.specs.declared.Times.{Times}
use Rattle.record.specs.declared.Device.{Device}
use Rattle.record.specs.Record.{is_lpc, idle, is_program, is_erase, is_suspended}
use Rattle.record.specs.Sample.{lines, frame_line, is_reset}
use Rattle.part.specs.Fresh.{fresh_of}
use Rattle.soundness.specs.Sound.{all_below, sound_of}
use Rattle.status.specs.Status.{status_of}
use Rattle.operation.specs.Clock.{active, is_still}
use Rattle.bus.specs.declared.Asked.TheVariants.{Write}
use Rattle.bus.specs.Frames.{begun, frame_clock, asked_of}
use Rattle.access.specs.Read.{is_array, array_address, register_value, value_of}
use Rattle.access.specs.Write.{reached_of}
use Rattle.clock.specs.Clock.{with_frame, after_controller, device_clock, image_after}
use Rattle.clock.specs.Fold.{World, world, through, answers_to}

-- every sample has its frame line high; none has RP or INIT low
abbrev pub all_high : List ℕ → Bool
all_high [] = true
all_high (s ∷ ss) = cond (eqb (frame_line s) 1) (all_high ss) false

abbrev pub none_resets : List ℕ → Bool
none_resets [] = true
none_resets (s ∷ ss) = cond (is_reset s) false (none_resets ss)

-- the nibble that the host leaves on clock n of a frame
abbrev pub nibble : ℕ → List ℕ → ℕ
nibble n frame = lines (get_or frame (n - 1) 0)

-- the seven nibbles on clocks 3 to 9, highest first
abbrev pub seven_in : List ℕ → ℕ
seven_in frame =
    nibble 3 frame * 0x1000000
    + nibble 4 frame * 0x100000
    + nibble 5 frame * 0x10000
    + nibble 6 frame * 0x1000
    + nibble 7 frame * 0x100
    + nibble 8 frame * 0x10
    + nibble 9 frame

-- the address: these, and on LPC the nibble on clock 10 behind them
abbrev pub address_in : ℕ → List ℕ → ℕ
address_in part frame = cond (is_lpc part) (seven_in frame * 0x10 + nibble 10 frame) (seven_in frame)

-- the data of a write, on clocks 11 and 12, low nibble first
abbrev pub data_in : List ℕ → ℕ
data_in frame = nibble 11 frame + 16 * nibble 12 frame

-- a read (kind 1) or write (kind 2) that is for this part. FWH: 1101b or 1110b on clock 1, the straps on clock 2, 0000b on clock
-- 10. LPC: 0000b on clock 1, 010X or 011X on clock 2, and an address whose bits 23 to 31 are 1 and whose bits 21 and 20 are
-- the straps inverted
abbrev pub is_for : ℕ → ℕ → ℕ → List ℕ → Bool
is_for part straps kind frame =
    cond (is_lpc part)
    (all
    (eqb (nibble 1 frame) 0
    ∷ eqb (nibble 2 frame / 2) (1 + kind)
    ∷ eqb (address_in part frame / 0x800000) 0x1FF
    ∷ eqb (address_in part frame / 0x100000 % 4) (3 - straps)
    ∷ []))
    (all (eqb (nibble 1 frame) (12 + kind) ∷ eqb (nibble 2 frame) straps ∷ eqb (nibble 10 frame) 0 ∷ []))

-- what clock n of a read drives, and of a write
abbrev pub driven_by_read : ℕ → ℕ → ℕ
driven_by_read n value =
    cond (ltb n 13) 0
    (cond (ltb n 15) 0x15
    (cond (eqb n 15) 0x10
    (cond (eqb n 16) (0x10 + value % 16)
    (cond (eqb n 17) (0x10 + value / 16)
    (cond (eqb n 18) 0x1F 0)))))

abbrev pub driven_by_write : ℕ → ℕ
driven_by_write n = cond (eqb n 15) 0x10 (cond (eqb n 16) 0x1F 0)

-- what the last clock of a frame drives
abbrev pub driven : ℕ → ℕ → List ℕ → ℕ → ℕ
driven part straps frame value =
    cond (is_for part straps 1 frame) (driven_by_read (length frame) value)
    (cond (is_for part straps 2 frame) (driven_by_write (length frame)) 0)

-- the value of a read is fixed on clock 15, by that sample, after the controller's part of that clock
abbrev pub found : List ℕ → World → ℕ
found frame w =
    let v = through (take 14 frame) w in
    let sample = get_or frame 14 0 in
    let address = address_in w.device.part frame in
    value_of (after_controller v.device) sample address
    (get_or (image_after v.device v.image sample) (array_address address) 0)

-- which clocks drive which nibble, of a frame as far as it has come: the frame line is low on its first clock and high on
-- the others
unfoldable pub FrameDrives : Type 0
FrameDrives =
    (d : Device) (image : List ℕ) (first : ℕ) (others : List ℕ)
    → frame_line first ≡ 0
    → all_high others ≡ true
    → none_resets (first ∷ others) ≡ true
    → get_or (answers_to (first ∷ others) (world d image)) (length others) 0
    ≡ driven d.part d.straps (first ∷ others) (found (first ∷ others) (world d image))

-- and outside a frame none: from a reset and from power-up on, while the frame line stays high
unfoldable pub NothingDriven : Type 0
NothingDriven =
    (d : Device) (part straps : ℕ) (ts : Times) (image : List ℕ) (first : ℕ) (others : List ℕ)
    → all_high others ≡ true
    → (is_reset first ≡ true → get_or (answers_to (first ∷ others) (world d image)) (length others) 0 ≡ 0)
    × (frame_line first ≡ 1 → get_or (answers_to (first ∷ others) (world (fresh_of part straps ts) image)) (length others) 0 ≡ 0)

-- the numbers of a record, an image and a sample fit the widths that the code's types give them
abbrev pub fits_widths : Device → List ℕ → ℕ → Bool
fits_widths d image sample =
    all
    (ltb d.frame.byte 256
    ∷ all_below 256 d.locks
    ∷ ltb d.controller.errors 256
    ∷ all_below 256 image
    ∷ ltb sample 65536
    ∷ [])

-- the answer byte is 00h or 10h to 1Fh
unfoldable pub AnswerByte : Type 0
AnswerByte =
    (d : Device) (image : List ℕ) (sample : ℕ)
    → fits_widths d image sample ≡ true
    → eqb (device_clock d image sample).answer 0
    || (leb 0x10 (device_clock d image sample).answer && leb (device_clock d image sample).answer 0x1F)
    ≡ true

-- two devices that are the same but for the frame in progress: part, straps, lock registers, times, and the controller with its
-- setup, mode, error bits, operations and marks
abbrev pub SameButForFrame : Device → Device → Type 0
SameButForFrame d e =
    (d.part ≡ e.part)
    × (d.straps ≡ e.straps)
    × (d.locks ≡ e.locks)
    × (d.times ≡ e.times)
    × (d.controller ≡ e.controller)

-- the sample with its frame line high
abbrev pub raised : ℕ → ℕ
raised sample = cond (eqb (frame_line sample) 0) (sample + 16) sample

abbrev pub SameBehindTheBus : World → World → Type 0
SameBehindTheBus v w = SameButForFrame v.device w.device × (v.image ≡ w.image)

-- some clocks with the bus idle
abbrev pub unheard : List ℕ → World → World
unheard ss w = through (map raised ss) (world (with_frame w.device idle) w.image)

-- a frame is a read: on FWH by its first nibble, on LPC by the cycle type on clock 2
abbrev pub is_reading : ℕ → List ℕ → Bool
is_reading part frame = cond (is_lpc part) (eqb (nibble 2 frame / 2) 2) (eqb (nibble 1 frame) 13)

-- a frame that is broken off by a low frame line, a read on any clock, another on its clock 12 or before, gives no command:
-- all is as on the same clocks with the bus idle. The frame that is left is the one that the nibble begins; there is none if
-- it begins none, or if that sample resets
unfoldable pub BrokenOffGivesNothing : Type 0
BrokenOffGivesNothing =
    (d : Device) (image : List ℕ) (first : ℕ) (others : List ℕ) (last : ℕ)
    → frame_line first ≡ 0
    → all_high others ≡ true
    → is_reading d.part (first ∷ others) || leb (length others) 10 ≡ true
    → frame_line last ≡ 0
    → SameBehindTheBus
    (through (first ∷ (others ++ (last ∷ []))) (world d image))
    (unheard (first ∷ (others ++ (last ∷ []))) (world d image))
    × ((through (first ∷ (others ++ (last ∷ []))) (world d image)).device.frame
    ≡ cond (is_reset last) idle (begun d.part (lines last)))

-- a frame that is no write for this part (a read, another first nibble; on FWH other straps or another size; on LPC another
-- cycle type or an address that is not for it), or has not come to its clock 12, or was cut off by a reset on clock 12 or
-- before, gives no command either
unfoldable pub OtherFramesGiveNothing : Type 0
OtherFramesGiveNothing =
    (d : Device) (image : List ℕ) (first : ℕ) (others : List ℕ)
    → frame_line first ≡ 0
    → all_high others ≡ true
    → all
    (is_for d.part d.straps 2 (first ∷ others)
    ∷ leb 12 (length (first ∷ others))
    ∷ none_resets (take 12 (first ∷ others))
    ∷ [])
    ≡ false
    → SameBehindTheBus (through (first ∷ others) (world d image)) (unheard (first ∷ others) (world d image))

-- a write for this part asks for its byte to be written to its address as soon as its last data nibble is in, on clock 12,
-- and acts then, by that sample and after the controller's part of that clock. Whatever comes on the bus in the eleven
-- clocks after it, an abort of its turnaround included, takes nothing back: no other write can end within them, and they
-- are as with the bus idle
unfoldable pub WriteActs : Type 0
WriteActs =
    (d : Device) (image : List ℕ) (first : ℕ) (others later : List ℕ)
    → frame_line first ≡ 0
    → all_high others ≡ true
    → none_resets (first ∷ others) ≡ true
    → length others ≡ 11
    → is_for d.part d.straps 2 (first ∷ others) ≡ true
    → length later ≤ 11
    → let before = (through (take 11 (first ∷ others)) (world d image)).device in
    let address = address_in d.part (first ∷ others) in
    (asked_of (frame_clock before.part before.straps before.frame (get_or (first ∷ others) 11 0))
    ≡ Write address (data_in (first ∷ others)))
    × SameButForFrame
    (through (first ∷ others) (world d image)).device
    (reached_of (after_controller before)
    (get_or (first ∷ others) 11 0) address (data_in (first ∷ others))).after
    × SameBehindTheBus
    (through ((first ∷ others) ++ later) (world d image))
    (unheard later (through (first ∷ others) (world d image)))

-- status bit 7 is 0 while an operation runs or pauses, a program inside a suspended erase included; bit 6 is 1 while an
-- erase is suspended, that program or not; bit 2 while a program is; bit 0 never; the others are the kept error bits
unfoldable pub StatusBits : Type 0
StatusBits =
    (d : Device)
    → sound_of d ≡ true
    → let c = d.controller in
    let status = status_of c in
    (status / 128 % 2 ≡ cond (is_still (active c)) 1 0)
    × (status / 64 % 2 ≡ cond (is_erase c.outer && is_suspended c.outer) 1 0)
    × (status / 4 % 2 ≡ cond (is_program c.outer && is_suspended c.outer) 1 0)
    × (status % 2 ≡ 0)
    × (bit_and status 0x3A ≡ c.errors)

-- registers answer at all times: neither mode nor operation nor image plays a role
unfoldable pub RegistersAnswer : Type 0
RegistersAnswer =
    (d : Device) (sample address byte : ℕ)
    → is_array address ≡ false
    → value_of d sample address byte ≡ register_value d.part d.straps d.locks sample address
