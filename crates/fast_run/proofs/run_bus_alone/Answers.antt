-- Each step takes the bus further, behind those before it.
use Rattle.std.proofs.Common.{◌≡◌, ◌∙◌, ◌+◌, ◌≤◌, true, sym, arith}
use Rattle.record.specs.Sample.{sample_at}
use Rattle.lookahead.specs.Lookahead.{stays_idle, whole_frame}
use Rattle.fast_run.proofs.Whole.{whole_room}
use Rattle.fast_run.proofs.Steps.{alone_rest, alone_read, alone_on}
use Rattle.fast_run.proofs.run_bus_alone.Goals as goal

-- where the bus rests
pub loop-k-preserved-then-stays_idle : goal.loop-k-preserved-then-stays_idle
loop-k-preserved-then-stays_idle c =
    let a = c.args in
    let w = c.loop-k in
    let rests : stays_idle w.f (sample_at a.ahead.now.stream.now w.k) ≡ true = rw c.sample_at.ensures at (sym c.stays_idle.ensures ∙ c.if-stays_idle.true) in
    let q = c.skip_idle-k.ensures in
    let p = alone_rest _ _ _ w.k _ _ a.ahead.now.to _ _ (omega arith) (omega (arith, w.invariant.simulates.size)) q.from_lt_result q.result_le_to rests q.skipped c.skip_idle-k.auto.answers in
    record {
      within = q.result_le_to;
      simulates = alone_on a.d.value a.ahead.now.to c.requires.from_bound q.result_le_to w.invariant.simulates (rw c.end_frame-f.ensures p);
    }

-- where a whole read begins
pub loop-k-preserved-then-is_whole_frame : goal.loop-k-preserved-then-is_whole_frame
loop-k-preserved-then-is_whole_frame c =
    let a = c.args in
    let w = c.loop-k in
    let reads : whole_frame a.ahead.now.stream.now a.d.value.part a.d.value.straps 1 w.k a.ahead.now.to 18 ≡ true = rw (← c.chip-chip.ensures.part, ← c.chip-chip.ensures.straps) (sym c.is_whole_frame.ensures ∙ c.if-is_whole_frame.true) in
    let h = whole_room _ _ _ _ _ _ _ reads in
    let lies : w.k + 18 ≤ a.ahead.now.to = omega arith in
    let r = c.sought_at-r.ensures in
    let p = alone_read a.d.value _ _ w.k w.f _ _ _ _ a.d.sound (omega arith) (omega (arith, w.invariant.simulates.size)) reads (rw (r.address, r.place, r.sample) at c.value-byte.ensures) c.answer_read.ensures c.answer_read.auto.answers in
    record {
      within = lies;
      simulates = alone_on a.d.value a.ahead.now.to c.requires.from_bound lies w.invariant.simulates (rw r.address p);
    }

pub loop-k-preserved : goal.loop-k-preserved
loop-k-preserved c =
    let here : c.loop-k.k + 1 ≤ c.args.ahead.now.to = omega arith in
    record {
      within = here;
      simulates = alone_on c.args.d.value c.args.ahead.now.to c.requires.from_bound here c.loop-k.invariant.simulates (c.in-Some.ensures.alone _ _ (sym c.chip-chip.ensures.part) (sym c.chip-chip.ensures.straps));
    }
