use Rattle.ct_cert.proofs.Base.{subst, sym, ◌∙◌, All, All-head, All-rest}
use Rattle.ct_cert.specs.Certificates.{IsSmall}
use Rattle.ct_cert.proofs.FreedomSteps.{name_found, coefficient_found, names_go_on}
use Rattle.ct_cert.proofs.freedom.term_is_free.Goals.{then-exp-ne0-via-then-exp-ne0, then-exp-ne0-via-else-exp-ne0+then-contains}
use Rattle.ct_cert.proofs.freedom.term_is_free.Goals as goal

pub returns-then-exp-ne0 : goal.returns-then-exp-ne0
returns-then-exp-ne0 c =
    let p = c.in-Some.part.now in
    let ps = c.in-Some.more.now in
    let whole = c.in-Some.ensures.cases.0 in
    let small = All-head IsSmall p ps (subst (All IsSmall) whole c.loop-part.invariant.small) in
    elim c.then-exp-ne0.branch [
      | then-exp-ne0-via-then-exp-ne0 w ↦
          name_found c.args.mono.now c.args.coef.now p ps c.loop-part.rest.now whole small
          (λ none. w.if-exp-ne0.true (c.exp.ensures ∙ none)) c.loop-part.invariant.same
      | then-exp-ne0-via-else-exp-ne0+then-contains w ↦
          coefficient_found c.args.mono.now c.args.coef.now p ps c.loop-part.rest.now whole small
          w.contains.result w.contains.ensures w.if-contains.true c.loop-part.invariant.same
    ]

pub loop-part-preserved : goal.loop-part-preserved
loop-part-preserved c =
    let p = c.in-Some.part.now in
    let ps = c.in-Some.more.now in
    let whole = c.in-Some.ensures.cases.0 in
    let small = All-head IsSmall p ps (subst (All IsSmall) whole c.loop-part.invariant.small) in
    record {
      same =
          names_go_on c.args.mono.now c.args.coef.now p ps c.loop-part.rest.now whole small
          c.contains.result c.contains.ensures (sym c.exp.ensures ∙ c.if-exp-ne0.false) c.if-contains.false c.loop-part.invariant.same;
      small = All-rest IsSmall p ps c.loop-part.rest.now whole c.loop-part.invariant.small;
    }
