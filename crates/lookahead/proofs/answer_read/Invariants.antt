use Rattle.std.proofs.Common.{◌≡◌, length}
use Rattle.std.proofs.Math.Seq.{paste}
use Rattle.lookahead.specs.Lookahead.{read_answers}
use Rattle.lookahead.proofs.answer_read.Given as goal

-- after i turns the first i answers stand in the buffer
abbrev pub invariant-loop-i : goal.invariant-loop-i
invariant-loop-i l =
    record {
      size : length l.answers ≡ length l.fn.answers;
      given : l.answers ≡ paste l.fn.answers l.from (read_answers l.byte) l.i;
    }
