-- The properties of demand 2. Assumes nothing.
use Rattle.access.specs.Read.{value_of}
use Rattle.demands.specs.Demand2.{RegistersAnswer}

pub registers_answer : RegistersAnswer
unfolding RegistersAnswer value_of
registers_answer d sample address byte a = rw a
