use Rattle.ct_problem.proofs.Base.{rules, tests, YieldsList-from_slice, any_from_yields_List, is_line_end}
use Rattle.ct_problem.proofs.Cursors.{has_line_end-any}
use Rattle.ct_problem.proofs.reading.tokens.has_line_end.Goals as goal

pub returns : goal.returns
returns c =
    rw (has_line_end-any c.args.left.now)
    (any_from_yields_List (λ t. is_line_end t.symbol) _ _ _ c.any.ensures.ran (YieldsList-from_slice c.args.left.now cc)
    (λ x b q k. search (rules, tests)))
