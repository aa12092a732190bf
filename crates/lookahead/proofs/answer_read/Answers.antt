use Rattle.std.proofs.Common.{ℕ, ◌+◌, arith, add-one, length-set}
use Rattle.std.proofs.Math.Seq.{paste-suc}
use Rattle.basics.proofs.Table.{at}
use Rattle.record.specs.Record.{frame}
use Rattle.bus.specs.Frames.{driven_of}
use Rattle.lookahead.specs.Lookahead.{read_answers}
use Rattle.lookahead.proofs.answer_read.Goals as goal

pub loop-i-preserved : goal.loop-i-preserved
unfolding driven_of
loop-i-preserved c =
    let a = c.args in
    let i = c.loop-i.i in
    let e = at (λ (j : ℕ). driven_of (frame 1 (j + 1) a.byte 0)) 18 i 0 (omega arith) in
    record {
      size = simp length-set (omega arith);
      given =
          rw (c.loop-i.invariant.given, c.drive.ensures, ← e, add-one i)
          (paste-suc a.answers.now a.from (read_answers a.byte) i 0 (omega arith) (omega arith));
    }
