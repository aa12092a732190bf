use Rattle.std.proofs.Common.{◌∙◌, sym, arith}
use lib.ListN.{length-set}
use Rattle.lookahead.proofs.Looks.{skipped_one}
use Rattle.lookahead.proofs.Ahead.skip_singles.Goals as goal

pub loop-k-preserved : goal.loop-k-preserved
loop-k-preserved c =
    let m = c.loop-k.invariant in
    record {
      size = simp length-set m.size;
      skipped =
          skipped_one _ _ _ _ _ (omega arith) m.skipped (omega arith) m.size
          (rw c.sample_at.ensures at (sym c.is_idle_sample.ensures ∙ c.if-not-is_idle_sample.false));
    }
