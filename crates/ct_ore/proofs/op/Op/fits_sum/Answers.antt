use Rattle.ct_ore.proofs.Base.{◌≤◌, sym, ◌∙◌, subst, arith, most_terms, largest_norm}
use Rattle.ct_ore.specs.Terms.{op_entries}
use Rattle.ct_ore.proofs.OperatorMeasures.{listed_count, listed_norm}
use Rattle.ct_ore.proofs.OperatorSums.{sum_too_many, sum_too_large, sum_allowed}
use Rattle.ct_ore.proofs.op.Op.fits_sum.Goals as goal

pub term_count-requires : goal.term_count-requires
term_count-requires c =
    subst (λ n. n ≤ most_terms) (sym (listed_count c.args.self.now (op_entries c.terms.result.now) c.terms.ensures)) c.within_limits.ensures.few

pub term_count-requires-2 : goal.term_count-requires-2
term_count-requires-2 c =
    subst (λ n. n ≤ most_terms) (sym (listed_count c.args.other.now (op_entries c.terms-2.result.now) c.terms-2.ensures))
    c.within_limits-2.ensures.few

pub overflow_add-term_count : goal.overflow_add-term_count
overflow_add-term_count c =
    let mine = c.term_count.ensures ∙ listed_count c.args.self.now (op_entries c.terms.result.now) c.terms.ensures in
    let its = c.term_count-2.ensures ∙ listed_count c.args.other.now (op_entries c.terms-2.result.now) c.terms-2.ensures in
    let few = c.within_limits.ensures.few in
    let few_too = c.within_limits-2.ensures.few in
    omega (arith, mine, its, few, few_too)

pub returns-then-term_count-gt-MOST_TERMS : goal.returns-then-term_count-gt-MOST_TERMS
returns-then-term_count-gt-MOST_TERMS c =
    let mine = c.term_count.ensures ∙ listed_count c.args.self.now (op_entries c.terms.result.now) c.terms.ensures in
    let its = c.term_count-2.ensures ∙ listed_count c.args.other.now (op_entries c.terms-2.result.now) c.terms-2.ensures in
    sym (sum_too_many _ _ (omega (arith, mine, its)))

pub term_norm-requires : goal.term_norm-requires
term_norm-requires c =
    subst (λ n. n ≤ largest_norm) (sym (listed_norm c.args.self.now (op_entries c.terms-3.result.now) c.terms-3.ensures))
    c.within_limits.ensures.small

pub term_norm-requires-2 : goal.term_norm-requires-2
term_norm-requires-2 c =
    subst (λ n. n ≤ largest_norm) (sym (listed_norm c.args.other.now (op_entries c.terms-4.result.now) c.terms-4.ensures))
    c.within_limits-2.ensures.small

pub overflow_add-term_norm : goal.overflow_add-term_norm
overflow_add-term_norm c =
    let mine = c.term_norm.ensures ∙ listed_norm c.args.self.now (op_entries c.terms-3.result.now) c.terms-3.ensures in
    let its = c.term_norm-2.ensures ∙ listed_norm c.args.other.now (op_entries c.terms-4.result.now) c.terms-4.ensures in
    let small = c.within_limits.ensures.small in
    let small_too = c.within_limits-2.ensures.small in
    omega (arith, mine, its, small, small_too)

pub returns-then-term_norm-gt-LARGEST_NORM : goal.returns-then-term_norm-gt-LARGEST_NORM
returns-then-term_norm-gt-LARGEST_NORM c =
    let count = c.term_count.ensures ∙ listed_count c.args.self.now (op_entries c.terms.result.now) c.terms.ensures in
    let count_too = c.term_count-2.ensures ∙ listed_count c.args.other.now (op_entries c.terms-2.result.now) c.terms-2.ensures in
    let mine = c.term_norm.ensures ∙ listed_norm c.args.self.now (op_entries c.terms-3.result.now) c.terms-3.ensures in
    let its = c.term_norm-2.ensures ∙ listed_norm c.args.other.now (op_entries c.terms-4.result.now) c.terms-4.ensures in
    sym (sum_too_large _ _ (omega (arith, count, count_too)) (omega (arith, mine, its)))

pub returns : goal.returns
returns c =
    let count = c.term_count.ensures ∙ listed_count c.args.self.now (op_entries c.terms.result.now) c.terms.ensures in
    let count_too = c.term_count-2.ensures ∙ listed_count c.args.other.now (op_entries c.terms-2.result.now) c.terms-2.ensures in
    let mine = c.term_norm.ensures ∙ listed_norm c.args.self.now (op_entries c.terms-3.result.now) c.terms-3.ensures in
    let its = c.term_norm-2.ensures ∙ listed_norm c.args.other.now (op_entries c.terms-4.result.now) c.terms-4.ensures in
    sym (sum_allowed _ _ (omega (arith, count, count_too)) (omega (arith, mine, its)))
