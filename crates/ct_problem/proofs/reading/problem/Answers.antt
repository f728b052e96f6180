use Rattle.ct_problem.proofs.Base.{◌≡◌, length}
use Rattle.ct_problem.proofs.WellFormedProblems.{draft_formed}
use Rattle.ct_problem.proofs.reading.problem.Goals as goal

pub problem_of-requires : goal.problem_of-requires
problem_of-requires c =
    let each : length c.in_ok-draft.draft.names.lets ≡ length c.in_ok-draft.draft.lets =
    rw (c.in_ok-draft.ensures.names, c.in_ok-draft.ensures.lets) c.in_ok-names.ensures.a_name_each in
    draft_formed _ _ _ _ _ _ _ _ _ c.requires c.in_ok-names.ensures.reads c.in_ok-draft.ensures.reads c.in_ok-end.ensures each
