use Rattle.ct_frac.proofs.Base.{◌≡◌, ◌≢◌, IsTrue, false, [], sym, ◌∙◌, ap, ap₂, subst, arith, common_steps, IfOk-weaker, polys}
use Rattle.ct_frac.specs.Written.{IsWritten}
use Rattle.ct_frac.specs.Normal.{lowered, in_lowest_terms}
use Rattle.ct_frac.proofs.NormalLaws.{lowest_written, normal-zero, normal-nonzero}
use Rattle.ct_frac.proofs.normal.brought_to_normal.Goals as goal

pub returns-then-is_zero : goal.returns-then-is_zero
returns-then-is_zero c =
    let zero : c.args.n ≡ polys.zero = c.is_zero.ensures.0 c.if-is_zero.true in
    IfOk-weaker c.zero.result _ _ (λ r is. is ∙ normal-zero c.args.n c.args.den.now zero) c.zero.ensures.written

pub cancelled-requires-clause-written : goal.cancelled-requires-clause-written
cancelled-requires-clause-written c =
    let some : c.args.n ≢ polys.zero = λ zero. let told : IsTrue c.is_zero.result = c.is_zero.ensures.1 zero in
    let no : c.is_zero.result ≡ false = c.if-is_zero.false in grind (arith, common_steps) in
    subst IsWritten (sym (ap₂ in_lowest_terms (c.in_ok-rest.ensures ∙ ap (lowered c.args.n []) c.factors.ensures) c.whole.ensures))
    (lowest_written c.args.n c.args.den.now c.in_written_form.ensures some)

pub returns : goal.returns
returns c =
    let some : c.args.n ≢ polys.zero = λ zero. let told : IsTrue c.is_zero.result = c.is_zero.ensures.1 zero in
    let no : c.is_zero.result ≡ false = c.if-is_zero.false in grind (arith, common_steps) in
    c.in_ok-r.ensures ∙ ap₂ in_lowest_terms (c.in_ok-rest.ensures ∙ ap (lowered c.args.n []) c.factors.ensures) c.whole.ensures
    ∙ normal-nonzero c.args.n c.args.den.now some
