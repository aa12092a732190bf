-- `settle::wait`: behind an idle frame the controller's wait is the whole of it. Assumes nothing.
use Rattle.std.proofs.Common.{◌∙◌, ◌-◌, arith}
use borrow.Author.Tests.{eq-eqb}
use Rattle.soundness.proofs.Clauses.{parts}
use Rattle.settle.proofs.Idle.{waits}
use Rattle.settle.proofs.wait.Goals as goal

pub invariant_of-controller : goal.invariant_of-controller
invariant_of-controller c = record { sound = (parts c.loop-count.d c.loop-count.invariant.0).controller }

pub returns-then-d-eq0 : goal.returns-then-d-eq0
returns-then-d-eq0 c =
    let w = c.loop-count in
    waits _ c.requires (c.args.limit - w.count) w.count w.d w.image _ _ _ (parts w.d w.invariant.0).controller (eq-eqb w.d.frame.kind 0 (omega arith)) c.forward-p.ensures
    ∙ w.invariant.1
