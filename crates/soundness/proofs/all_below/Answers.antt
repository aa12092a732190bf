use Rattle.std.proofs.Common.{rules, tests, ◌∙◌, ltb}
use Rattle.std.proofs.lemmas.Iterator.{YieldsList-from_slice}
use Rattle.std.proofs.lemmas.Iterator.Search.{all_from_yields_List}
use Rattle.soundness.proofs.Below.{all_tested}
use Rattle.soundness.proofs.all_below.Goals as goal

pub returns : goal.returns
returns c =
    all_from_yields_List (λ x. ltb x c.args.n) _ _ c.all.result c.all.ensures.ran (YieldsList-from_slice c.args.xs cc) (λ x b q k. search (rules, tests))
    ∙ all_tested c.args.n c.args.xs
