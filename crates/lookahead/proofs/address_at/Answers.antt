use Rattle.std.proofs.Common.{◌∙◌, ◌+◌, ℕ, refl, arith, rules, tests}
use borrow.Author.Tests.{eq-eqb, ne_eqb}
use Rattle.std.proofs.lemmas.Iterator.{YieldsList-from_range}
use Rattle.std.proofs.lemmas.Iterator.Consumers.{fold_from_yields_List}
use Rattle.record.specs.Sample.{lines, sample_at}
use Rattle.bus.specs.Frames.{shifted}
use Rattle.lookahead.specs.Lookahead.{address_at}
use Rattle.lookahead.proofs.Looks.{address_fold}
use Rattle.lookahead.proofs.address_at.Goals as goal
use Rattle.lookahead.proofs.address_at.Goals.{then-part-eq-NUMBER, else-part-eq-NUMBER}

pub returns : goal.returns
unfolding address_at
returns c =
    let a = c.args in
    let n = c.if-part-eq-NUMBER.nibbles in
    let e = fold_from_yields_List _ (λ (address k : ℕ). shifted a.part address (lines (sample_at a.stream.now k))) 0 _ c.fold.ensures.ran
    (YieldsList-from_range a.from (a.from + n) n refl (omega arith))
    (λ all k r f e. search (rules, tests))
    ∙ address_fold a.part a.stream.now a.from n 0 in
    elim c.if-part-eq-NUMBER.branch [
      | then-part-eq-NUMBER w ↦ rw (eq-eqb _ _ w.if-part-eq-NUMBER.true) (rw w.nibbles-is at e)
      | else-part-eq-NUMBER w ↦ rw (ne_eqb _ _ w.if-part-eq-NUMBER.false) (rw w.nibbles-is at e)
    ]
