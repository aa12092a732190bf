use Rattle.fast_run.proofs.Leads.{stretched_on}
use Rattle.fast_run.proofs.run_stretch.Goals as goal

-- one stretch behind what the bus did alone
pub returns-then-alone-course : goal.returns-then-alone-course
returns-then-alone-course c = stretched_on c.run_bus_alone-alone.ensures.simulates (rw c.run_bus_alone-alone.ensures.begun at c.stretch_on.ensures)
