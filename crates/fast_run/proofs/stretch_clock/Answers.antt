use Rattle.std.proofs.Common.{refl, arith}
use Rattle.fast_run.proofs.Steps.{clock_step}
use Rattle.fast_run.proofs.stretch_clock.Goals as goal

pub returns : goal.returns
returns c =
    let t = rw c.sample_at.ensures at c.clock_device-t.ensures in
    record {
      further = omega arith;
      within = omega arith;
      simulates = clock_step _ _ _ _ _ _ _ _ (omega arith) (omega arith) t.0 t.1 refl;
    }
