use Rattle.ct_poly.proofs.Base.{◌≡◌, ℕ, List, ◌*◌, sym, ◌∙◌, ap, ap₂, arith, Polynomial, count, norm, degree, degree_of}
use Rattle.ct_poly.specs.declared.term.Term.{Term}
use Rattle.ct_poly.specs.Terms.{entries, IsFalling, poly_of_terms}
use Rattle.ct_poly.proofs.TermLists.{count_of-terms, degree_of-terms}
use Rattle.ct_poly.proofs.OverflowRules.{product_with_zero, product_too_high, product_too_many, product_too_large, product_fits}
use Rattle.ct_poly.proofs.poly.Poly.fits_product.Goals as goal

-- the degree that the code reads off the terms
degree_read : {p : Polynomial} {d : ℕ} (ts us : List Term) → IsFalling ts → poly_of_terms ts ≡ p → us ≡ ts → d ≡ degree_of (entries us) → d ≡ degree p
degree_read ts us falling value same read = read ∙ ap (λ w. degree_of (entries w)) same ∙ sym (degree_of-terms ts falling value)

pub returns-then-pairs-eq0 : goal.returns-then-pairs-eq0
returns-then-pairs-eq0 c =
    let mine : c.len.result ≡ count c.args.self.now = omega (arith, count_of-terms c.self.inside.terms.items c.self.invariant.0 c.self.view_is) in
    let its : c.len-2.result ≡ count c.args.other.now =
    omega (arith, count_of-terms c.other.inside.terms.items c.other.invariant.0 c.other.view_is) in
    let pairs : c.len.result * c.len-2.result ≡ count c.args.self.now * count c.args.other.now = ap₂ ◌*◌ mine its in
    sym (product_with_zero _ _ (omega (arith, pairs)))

pub returns-then-degree-gt-LARGEST_DEGREE : goal.returns-then-degree-gt-LARGEST_DEGREE
returns-then-degree-gt-LARGEST_DEGREE c =
    let mine : c.len.result ≡ count c.args.self.now = omega (arith, count_of-terms c.self.inside.terms.items c.self.invariant.0 c.self.view_is) in
    let its : c.len-2.result ≡ count c.args.other.now =
    omega (arith, count_of-terms c.other.inside.terms.items c.other.invariant.0 c.other.view_is) in
    let pairs : c.len.result * c.len-2.result ≡ count c.args.self.now * count c.args.other.now = ap₂ ◌*◌ mine its in
    let first : c.degree_of_terms.result ≡ degree c.args.self.now =
    degree_read c.self.inside.terms.items c.as_slice.result.now c.self.invariant.0 c.self.view_is c.as_slice.ensures.value
    c.degree_of_terms.ensures.value in
    let second : c.degree_of_terms-2.result ≡ degree c.args.other.now =
    degree_read c.other.inside.terms.items c.as_slice-2.result.now c.other.invariant.0 c.other.view_is c.as_slice-2.ensures.value
    c.degree_of_terms-2.ensures.value in
    sym (product_too_high _ _ (omega (arith, pairs)) (omega (arith, first, second)))

pub returns-then-pairs-gt-MOST_TERMS : goal.returns-then-pairs-gt-MOST_TERMS
returns-then-pairs-gt-MOST_TERMS c =
    let mine : c.len.result ≡ count c.args.self.now = omega (arith, count_of-terms c.self.inside.terms.items c.self.invariant.0 c.self.view_is) in
    let its : c.len-2.result ≡ count c.args.other.now =
    omega (arith, count_of-terms c.other.inside.terms.items c.other.invariant.0 c.other.view_is) in
    let pairs : c.len.result * c.len-2.result ≡ count c.args.self.now * count c.args.other.now = ap₂ ◌*◌ mine its in
    let first : c.degree_of_terms.result ≡ degree c.args.self.now =
    degree_read c.self.inside.terms.items c.as_slice.result.now c.self.invariant.0 c.self.view_is c.as_slice.ensures.value
    c.degree_of_terms.ensures.value in
    let second : c.degree_of_terms-2.result ≡ degree c.args.other.now =
    degree_read c.other.inside.terms.items c.as_slice-2.result.now c.other.invariant.0 c.other.view_is c.as_slice-2.ensures.value
    c.degree_of_terms-2.ensures.value in
    sym (product_too_many _ _ (omega (arith, pairs)) (omega (arith, first, second)) (omega (arith, pairs)))

pub returns-then-saturating_mul-gt-LARGEST_NORM : goal.returns-then-saturating_mul-gt-LARGEST_NORM
returns-then-saturating_mul-gt-LARGEST_NORM c =
    let mine : c.len.result ≡ count c.args.self.now = omega (arith, count_of-terms c.self.inside.terms.items c.self.invariant.0 c.self.view_is) in
    let its : c.len-2.result ≡ count c.args.other.now =
    omega (arith, count_of-terms c.other.inside.terms.items c.other.invariant.0 c.other.view_is) in
    let pairs : c.len.result * c.len-2.result ≡ count c.args.self.now * count c.args.other.now = ap₂ ◌*◌ mine its in
    let first : c.degree_of_terms.result ≡ degree c.args.self.now =
    degree_read c.self.inside.terms.items c.as_slice.result.now c.self.invariant.0 c.self.view_is c.as_slice.ensures.value
    c.degree_of_terms.ensures.value in
    let second : c.degree_of_terms-2.result ≡ degree c.args.other.now =
    degree_read c.other.inside.terms.items c.as_slice-2.result.now c.other.invariant.0 c.other.view_is c.as_slice-2.ensures.value
    c.degree_of_terms-2.ensures.value in
    let norms : c.norm.result * c.norm-2.result ≡ norm c.args.self.now * norm c.args.other.now =
    ap₂ ◌*◌ c.norm.ensures.value c.norm-2.ensures.value in
    sym (product_too_large _ _ (omega (arith, pairs)) (omega (arith, first, second)) (omega (arith, pairs)) (omega (arith, norms)))

pub returns : goal.returns
returns c =
    let mine : c.len.result ≡ count c.args.self.now = omega (arith, count_of-terms c.self.inside.terms.items c.self.invariant.0 c.self.view_is) in
    let its : c.len-2.result ≡ count c.args.other.now =
    omega (arith, count_of-terms c.other.inside.terms.items c.other.invariant.0 c.other.view_is) in
    let pairs : c.len.result * c.len-2.result ≡ count c.args.self.now * count c.args.other.now = ap₂ ◌*◌ mine its in
    let first : c.degree_of_terms.result ≡ degree c.args.self.now =
    degree_read c.self.inside.terms.items c.as_slice.result.now c.self.invariant.0 c.self.view_is c.as_slice.ensures.value
    c.degree_of_terms.ensures.value in
    let second : c.degree_of_terms-2.result ≡ degree c.args.other.now =
    degree_read c.other.inside.terms.items c.as_slice-2.result.now c.other.invariant.0 c.other.view_is c.as_slice-2.ensures.value
    c.degree_of_terms-2.ensures.value in
    let norms : c.norm.result * c.norm-2.result ≡ norm c.args.self.now * norm c.args.other.now =
    ap₂ ◌*◌ c.norm.ensures.value c.norm-2.ensures.value in
    sym (product_fits _ _ (omega (arith, pairs)) (omega (arith, first, second)) (omega (arith, pairs)) (omega (arith, norms)))
