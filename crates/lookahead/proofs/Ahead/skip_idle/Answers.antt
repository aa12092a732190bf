use Rattle.std.proofs.Common.{arith}
use Rattle.lookahead.proofs.Looks.{skipped_more}
use Rattle.lookahead.proofs.Ahead.skip_idle.Goals as goal

pub returns-clause-skipped : goal.returns-clause-skipped
returns-clause-skipped c = skipped_more (omega arith) (omega arith) (omega arith) c.skip_sixteens-k.ensures.skipped c.skip_singles.ensures.skipped
