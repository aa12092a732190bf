use Rattle.std.proofs.Common.{◌-◌, arith}
use Rattle.fast_run.proofs.Steps.{write_step}
use Rattle.fast_run.proofs.stretch_write.Goals as goal

pub returns : goal.returns
returns c =
    let a = c.args in
    let t = c.device_later-e.ensures in
    record {
      further = omega arith;
      within = omega arith;
      simulates =
          rw (c.reach-r.ensures, t.device, t.array, c.byte_at-byte.ensures, c.address_at-address.ensures, c.sample_at.ensures)
          (write_step a.d.value a.image.now _ _ _ _ (a.alone.place - a.alone.from) a.course.now.ahead.to _ (omega arith) c.requires.wide c.requires.writes c.fill.ensures);
    }
