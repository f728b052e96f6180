use Rattle.ct_problem.proofs.Base.{◌≡◌, Some, rules, spelling_in, symbol_of}
use Rattle.ct_token.specs.declared.token.Symbol.TheVariants.{Word}
use Rattle.ct_problem.proofs.Cursors.{word_spelled}
use Rattle.ct_problem.proofs.reading.tokens.Tokens.spelling.Goals as goal

pub returns-in-len1-up-clause-ascii : goal.returns-in-len1-up-clause-ascii
returns-in-len1-up-clause-ascii c e =
    let value : c.slice_of.result.now ≡ spelling_in c.self.inside.text.now c.self.inside.left.now = search rules in
    let word : symbol_of c.self.inside.left.now ≡ Some Word = cc in
    rw value (word_spelled c.self.inside.text.now c.self.inside.left.now c.self.invariant word)
