use Rattle.ct_problem.proofs.Base.{◌≡◌, ◌-◌, nested, term, factors_from}
use Rattle.ct_problem.proofs.reading.expressions.Grammar.term.Given as goal

abbrev pub invariant-loop-turn : goal.invariant-loop-turn
invariant-loop-turn g l = term l.self.names.now l.self.operators (nested l.self.names.now l.self.operators l.self.depth) l.fn.tokens ≡
    factors_from l.self.names.now l.self.operators (nested l.self.names.now l.self.operators l.self.depth) (l._turn-end - l._turn) l.found l.tokens
