use Rattle.std.proofs.Common.{◌∙◌, ◌/◌, ◌||◌, Bool, ℕ, false, refl, length, arith, rules, tests}
use lib.Dec.{eqb}
use Rattle.std.proofs.lemmas.Iterator.{YieldsList-from_range}
use Rattle.std.proofs.lemmas.Iterator.Consumers.{fold_from_yields_List}
use Rattle.record.specs.Sample.{voltage, sample_at}
use Rattle.stream.proofs.Turns.{over_fold}
use Rattle.stream.proofs.is_overvolted.Goals as goal

pub returns : goal.returns
returns c =
    fold_from_yields_List _ (λ (over : Bool) (k : ℕ). over || eqb (voltage (sample_at c.args.stream.now k)) 3) false _ c.fold.ensures.ran
    (YieldsList-from_range 0 (length c.args.stream.now / 2) (length c.args.stream.now / 2) refl (omega arith))
    (λ all k r f e. search (rules, tests))
    ∙ over_fold c.args.stream.now 0 (length c.args.stream.now / 2) false (omega arith) (omega arith)
