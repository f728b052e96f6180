use Rattle.ct_problem.proofs.Base.{◌≡◌, ◌-◌, nested, summands, summands_from}
use Rattle.ct_problem.proofs.reading.expressions.Grammar.summands.Given as goal

abbrev pub invariant-loop-turn : goal.invariant-loop-turn
invariant-loop-turn g l =
    summands l.self.names.now l.self.operators (nested l.self.names.now l.self.operators l.self.depth) l.fn.first l.fn.negative l.fn.tokens ≡
    summands_from l.self.names.now l.self.operators (nested l.self.names.now l.self.operators l.self.depth) (l._turn-end - l._turn) l.found l.tokens
