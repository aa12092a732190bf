use Rattle.std.proofs.Common.{◌≡◌, ◌/◌, length, arith}
use Rattle.record.proofs.Samples.{samples_end}
use Rattle.fast_run.proofs.Ends.{answers_end}
use Rattle.fast_run.proofs.Leads.{simulates_on}
use Rattle.fast_run.proofs.run_samples.Goals as goal

pub loop-k-preserved : goal.loop-k-preserved
loop-k-preserved c =
    let x = c.run_stretch-t.ensures in
    record { within = x.within; simulates = simulates_on c.loop-k.invariant.simulates x.simulates }

pub returns : goal.returns
returns c =
    let s = c.args.stream.now in
    let o = c.loop-k.invariant.simulates in
    let e : length s / 2 ≡ c.loop-k.k = omega arith in (
      rw (samples_end s c.loop-k.k (omega arith)) at o.leads,
      answers_end s c.loop-k.k _ _ _ _ e (rw (← e) at o.beyond) o.told,
    )
