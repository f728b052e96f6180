use Rattle.ct_ore.proofs.Base.{◌≡◌, ◌≢◌, IsTrue, false, [], ◌∷◌, ◌∙◌, ap, sym, rules, arith, common_steps, polys, term_of, term_of-zero}
use Rattle.ct_ore.specs.Terms.{op_entries}
use Rattle.ct_ore.proofs.WrittenOperators.{value_of_terms}
use Rattle.ct_ore.proofs.OperatorMeasures.{fits_of_terms, terms-term_of, term_fits}
use Rattle.ct_ore.proofs.op.Op.of_term.Goals as goal

pub returns-then-is_zero : goal.returns-then-is_zero
returns-then-is_zero c =
    let zero : c.args.p ≡ polys.zero = c.is_zero.ensures.0 (search rules) in
    record { value = c.zero.ensures ∙ sym (ap (term_of c.args.m.now) zero ∙ term_of-zero c.args.m.now) }

pub invariant_of-result : goal.invariant_of-result
invariant_of-result c =
    let some : c.args.p ≢ polys.zero = λ zero. let told : IsTrue c.is_zero.result = c.is_zero.ensures.1 zero in
    let no : c.is_zero.result ≡ false = c.if-is_zero.false in grind (arith, common_steps) in
    let pushed : c.push.new.self.items ≡ record { mono = c.args.m.now; coef = c.args.p } ∷ [] = search rules in
    fits_of_terms (term_of c.args.m.now c.args.p) c.push.new.self.items (ap op_entries pushed ∙ sym (terms-term_of c.args.m.now c.args.p some))
    (term_fits c.args.m.now c.args.p some c.within_limits.ensures.few c.within_limits.ensures.small)

pub returns : goal.returns
returns c =
    let some : c.args.p ≢ polys.zero = λ zero. let told : IsTrue c.is_zero.result = c.is_zero.ensures.1 zero in
    let no : c.is_zero.result ≡ false = c.if-is_zero.false in grind (arith, common_steps) in
    let pushed : c.push.new.self.items ≡ record { mono = c.args.m.now; coef = c.args.p } ∷ [] = search rules in
    record {
      value = value_of_terms {p = term_of c.args.m.now c.args.p} c.push.new.self.items
          (ap op_entries pushed ∙ sym (terms-term_of c.args.m.now c.args.p some));
    }
