use Rattle.std.proofs.Common.{◌-◌, ◌+◌, ◌≡◌, arith}
use Rattle.fast_run.proofs.Steps.{over, rest_step}
use Rattle.fast_run.proofs.stretch_idle.Goals as goal

pub returns : goal.returns
returns c =
    let a = c.args.alone in
    let q = c.skip_idle-place.ensures in
    let t = c.device_later.ensures in
    let e : a.place - a.from + (c.skip_idle-place.result - a.place) ≡ c.skip_idle-place.result - a.from = omega arith in
    record {
      further = q.from_lt_result;
      within = q.result_le_to;
      simulates =
          rw (t.device, t.array, c.end_frame.ensures, ← e)
          (rest_step c.args.d.value _ _ _ _ _ _ _ _ (over _ _ c.requires.rests).1 q.from_lt_result (omega arith) (omega arith) q.skipped);
    }
