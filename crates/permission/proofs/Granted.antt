-- What is granted: the voltage is good, the pin is high, the lock bit is clear, and it is no program into the suspended
-- block. Assumes nothing.
use mathlib.Core.Path.{◌≡◌, ap}
use mathlib.Core.Bool.{Bool, true, false}
use Prim.Native.Nat.{ℕ, ◌%◌}
use lib.Dec.{eqb}
use Rattle.std.specs.Prelude.{Result, Ok, Err}
use Rattle.basics.proofs.Rules.{Answer, yes, no, ask, clash}
use Rattle.record.specs.declared.Operation.{Operation}
use Rattle.record.specs.Record.{block_of}
use Rattle.record.specs.Sample.{voltage}
use Rattle.permission.specs.declared.Denial.{Denial}
use Rattle.permission.specs.Permission.{pin_low, into_suspended, judged}

pub record Allowed (setup : ℕ) (outer : Operation) (sample lock address : ℕ) : Type 0 where
  pub powered : eqb (voltage sample) 0 ≡ false
  pub pin_high : pin_low sample (block_of address) ≡ false
  pub unlocked : eqb (lock % 2) 1 ≡ false
  pub apart : into_suspended setup outer address ≡ false

abbrev is_granted : Result Unit Denial → Bool
is_granted (Ok u) = true
is_granted (Err x) = false

pub granted : (setup : ℕ) (outer : Operation) (sample lock address : ℕ)
    → judged setup outer sample lock address ≡ Ok tt
    → Allowed setup outer sample lock address
unfolding judged
granted setup outer sample lock address e = pick (ask (eqb (voltage sample) 0)) (ask (pin_low sample (block_of address))) (ask (eqb (lock % 2) 1)) (ask (into_suspended setup outer address))
  where
    g : is_granted (judged setup outer sample lock address) ≡ true
    g = ap is_granted e

    pick : Answer (eqb (voltage sample) 0)
        → Answer (pin_low sample (block_of address))
        → Answer (eqb (lock % 2) 1)
        → Answer (into_suspended setup outer address)
        → Allowed setup outer sample lock address
    pick (yes v) p l s = clash (rw v at g)
    pick (no v) (yes p) l s = clash (rw (v, p) at g)
    pick (no v) (no p) (yes l) s = clash (rw (v, p, l) at g)
    pick (no v) (no p) (no l) (yes s) = clash (rw (v, p, l, s) at g)
    pick (no v) (no p) (no l) (no s) = record { powered = v; pin_high = p; unlocked = l; apart = s }
