use Rattle.std.proofs.Common.{◌∙◌, ℕ, rules, tests}
use lib.Dec.{eqb}
use Rattle.std.proofs.lemmas.Iterator.{YieldsList-from_slice}
use Rattle.std.proofs.lemmas.Iterator.Search.{all_from_yields_List}
use Rattle.view.proofs.Zeros.{zeros}
use Rattle.view.proofs.all_zero.Goals as goal

pub returns : goal.returns
returns c =
    all_from_yields_List (λ (b : ℕ). eqb b 0) _ _ _ c.all.ensures.ran (YieldsList-from_slice c.args.bytes.now cc)
    (λ x b q k. search (rules, tests))
    ∙ zeros c.args.bytes.now
