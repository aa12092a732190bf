-- Document 01, step 1 of "One clock, in order", for the controller: setup dropped, mode read array, error bits cleared
-- (house); a running, pausing or suspended operation ends and its block is marked (house); marks stay. An unfinished
-- program leaves its byte: reset has no effect on the array. Assumes nothing.
use Rattle.std.specs.Prelude.{ℕ, cond}
use Rattle.record.specs.declared.Operation.{Operation}
use Rattle.record.specs.declared.Controller.{Controller}
use Rattle.record.specs.Record.{is_absent, block_of}
use Rattle.part.specs.Fresh.{resting}
use Rattle.operation.specs.Marks.{marking}

-- the block of an operation that is cut off is marked
unfoldable pub marked_by : Operation → ℕ → ℕ
marked_by o marks = cond (is_absent o) marks (marking marks (block_of o.address))

unfoldable pub reset_of : Controller → Controller
reset_of c = resting (marked_by c.inner (marked_by c.outer c.marks))
