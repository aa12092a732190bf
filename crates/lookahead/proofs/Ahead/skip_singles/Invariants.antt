use Rattle.std.proofs.Common.{◌≡◌, length}
use Rattle.lookahead.specs.Lookahead.{Skipped}
use Rattle.lookahead.proofs.Ahead.skip_singles.Given as goal

-- what was skipped grows by one
abbrev pub invariant-loop-k : goal.invariant-loop-k
invariant-loop-k l =
    record {
      size : length l.answers ≡ length l.fn.answers;
      skipped : Skipped l.self.stream.now l.fn.answers l.from l.k l.answers;
    }
