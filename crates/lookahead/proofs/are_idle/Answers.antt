use Rattle.std.proofs.Common.{◌∙◌, ◌+◌, ◌&&◌, Bool, ℕ, true, refl, arith, rules, tests}
use Rattle.std.proofs.lemmas.Iterator.{YieldsList-from_range}
use Rattle.std.proofs.lemmas.Iterator.Consumers.{fold_from_yields_List}
use Rattle.record.specs.Sample.{is_idle_sample, sample_at}
use Rattle.lookahead.proofs.Looks.{idle_fold}
use Rattle.lookahead.proofs.are_idle.Goals as goal

pub returns : goal.returns
returns c =
    let a = c.args in
    fold_from_yields_List _ (λ (all : Bool) (k : ℕ). all && is_idle_sample (sample_at a.stream.now k)) true _ c.fold.ensures.ran
    (YieldsList-from_range a.from (a.from + a.count) a.count refl (omega arith))
    (λ all k r f e. search (rules, tests))
    ∙ idle_fold a.stream.now a.from a.count true
