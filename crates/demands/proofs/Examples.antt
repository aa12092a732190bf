-- The ten examples, and those of LPC, by computation of the definitions. Assumes nothing.
use lib.Bits.{bit_and}
use lib.ListN.{get_or}
use lib.Seq.{get_or-set_same}
use Rattle.units.specs.Units.{in_clocks}
use Rattle.part.specs.Fresh.{fresh_of}
use Rattle.part.specs.Parts.{device_code}
use Rattle.part.specs.Registers.{register_base, register_at}
use Rattle.status.specs.Status.{condition_of, status_of}
use Rattle.operation.specs.Marks.{marking, clearing}
use Rattle.operation.specs.Clock.{active, is_still, slice_at, paused_of, operation_clock, marks_after, replaced, controller_clock}
use Rattle.operation.specs.Reset.{marked_by, reset_of}
use Rattle.command.specs.Commands.{column_of, action_at, action_of}
use Rattle.permission.specs.Permission.{pin_low, into_suspended, judged}
use Rattle.command.specs.Setup.{accepted_of, starting, failing, unconfirmed, written_of}
use Rattle.bus.specs.Frames.{begun, shifted, headed, cycled, is_chosen, addressed, headed_lpc, read_on, write_on, next_of, frame_clock, asked_of, driven_of}
use Rattle.access.specs.Read.{lock_of, register_value, signature_of, array_value, value_of}
use Rattle.access.specs.Write.{lock_written, reached_of}
use Rattle.record.specs.Sample.{is_reset}
use Rattle.clock.specs.Clock.{reset_device, is_cut, served_of, device_clock, image_after}
use Rattle.clock.specs.Fold.{onward, answer_to}
use Rattle.demands.specs.Examples.{Examples}

pub examples : Examples
unfolding Examples device_clock image_after is_reset reset_device is_cut served_of frame_clock next_of headed headed_lpc cycled addressed is_chosen read_on write_on begun shifted asked_of driven_of value_of register_value register_at register_base device_code signature_of array_value lock_of status_of condition_of reached_of lock_written written_of action_of action_at column_of judged pin_low into_suspended accepted_of starting failing unconfirmed controller_clock active is_still paused_of operation_clock slice_at marks_after replaced marking clearing marked_by reset_of fresh_of in_clocks onward answer_to
examples image l h = rw (get_or-set_same image 0xF0005 (bit_and (get_or image 0xF0005 0) 0x0F) 0 l, h)
