use Rattle.std.proofs.Common.{◌∙◌, sym, arith}
use Rattle.lookahead.proofs.Looks.{skipped_sixteen}
use Rattle.lookahead.proofs.Ahead.skip_sixteens.Goals as goal

pub loop-answers-preserved : goal.loop-answers-preserved
loop-answers-preserved c =
    let m = c.loop-answers.invariant in
    let l = c.has_sixteen_idle.ensures.before_to c.loop-answers-test.true in
    let e = sym c.has_sixteen_idle.ensures.these ∙ c.loop-answers-test.true in
    record {
      behind = omega arith;
      before = l;
      size = omega (arith, c.fill.auto.buffer);
      skipped = rw c.fill.ensures (skipped_sixteen _ _ _ _ _ m.behind m.skipped c.args.self.now.to c.requires.to_in_bounds e);
    }
