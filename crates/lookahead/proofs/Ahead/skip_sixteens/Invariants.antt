use Rattle.std.proofs.Common.{◌-◌, ◌≡◌, ◌≤◌, length}
use Rattle.lookahead.specs.Lookahead.{Skipped}
use Rattle.lookahead.proofs.Ahead.skip_sixteens.Given as goal

-- what was skipped grows by sixteen
abbrev pub invariant-loop-answers : goal.invariant-loop-answers
invariant-loop-answers l =
    record {
      behind : l.from ≤ l.k;
      before : l.k ≤ l.self.to;
      size : length l.answers ≡ length l.fn.answers;
      skipped : Skipped l.self.stream.now l.fn.answers l.from l.k l.answers;
    }

abbrev pub decreases-loop-answers : goal.decreases-loop-answers
decreases-loop-answers l = l.self.to - l.k
