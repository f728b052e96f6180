-- A polynomial over another as a value of the field: equal cross products, sums, products and negatives.
-- Main lemmas `same_over`, `over-sum`, `over-product`, `over-negative` and `over_zero`, which every law on values cites.
-- Where the divisor is not zero this is the value of the ratio, and the laws are those of ratios.
use Rattle.ct_frac.proofs.Base.{◌≡◌, ◌≢◌, sym, ◌∙◌, ap, ap₂, Polynomial, polys, polys_domain, plus, times, field, embedded, value_of, fractions}
use Rattle.ct_algebra.specs.Domain.{product_nonzero}
use Rattle.ct_algebra.specs.Fractions.{Ratio, value-sum, value-product, value-negation}
use Rattle.ct_algebra.specs.FractionRing.{num_zero}
use Rattle.ct_algebra.specs.Division.{over, over-product, embed_nonzero}
use Rattle.ct_frac.specs.Written.{value_over}

abbrev pub ratio : (n d : Polynomial) → d ≢ polys.zero → Ratio polys
ratio n d nonzero = record { num = n; den = d; nonzero = nonzero }

pub value_over-ratio : (n d : Polynomial) (nonzero : d ≢ polys.zero) → value_over n d ≡ value_of (ratio n d nonzero)
unfolding value_over
value_over-ratio n d nonzero =
    ap (λ x. over polys polys_domain x (embedded d)) (sym (fractions.quotient (ratio n d nonzero)))
    ∙ over-product polys polys_domain (value_of (ratio n d nonzero)) (embedded d) (embed_nonzero polys polys_domain d nonzero)

pub times_nonzero : (p q : Polynomial) → p ≢ polys.zero → q ≢ polys.zero → times p q ≢ polys.zero
unfolding times
times_nonzero p q some other = product_nonzero polys polys_domain p q some other

-- equal cross products
pub same_over :
    (n d m e : Polynomial) → d ≢ polys.zero → e ≢ polys.zero → times n e ≡ times m d → value_over n d ≡ value_over m e
same_over n d m e some other cross =
    value_over-ratio n d some ∙ fractions.equal (ratio n d some) (ratio m e other) cross ∙ sym (value_over-ratio m e other)

pub cross_of :
    (n d m e : Polynomial) → d ≢ polys.zero → e ≢ polys.zero → value_over n d ≡ value_over m e → times n e ≡ times m d
cross_of n d m e some other same =
    fractions.equal_only (ratio n d some) (ratio m e other) (sym (value_over-ratio n d some) ∙ same ∙ value_over-ratio m e other)

pub over-sum :
    (n d m e : Polynomial) → d ≢ polys.zero → e ≢ polys.zero →
    field.◌+◌ (value_over n d) (value_over m e) ≡ value_over (plus (times n e) (times m d)) (times d e)
unfolding plus times
over-sum n d m e some other =
    ap₂ field.◌+◌ (value_over-ratio n d some) (value_over-ratio m e other)
    ∙ value-sum polys polys_domain (ratio n d some) (ratio m e other)
    ∙ sym (value_over-ratio _ _ (product_nonzero polys polys_domain d e some other))

pub over-times :
    (n d m e : Polynomial) → d ≢ polys.zero → e ≢ polys.zero →
    field.◌*◌ (value_over n d) (value_over m e) ≡ value_over (times n m) (times d e)
unfolding times
over-times n d m e some other =
    ap₂ field.◌*◌ (value_over-ratio n d some) (value_over-ratio m e other)
    ∙ value-product polys polys_domain (ratio n d some) (ratio m e other)
    ∙ sym (value_over-ratio _ _ (product_nonzero polys polys_domain d e some other))

pub over-negative :
    (n d : Polynomial) → d ≢ polys.zero → field.neg (value_over n d) ≡ value_over (polys.neg n) d
over-negative n d some =
    ap field.neg (value_over-ratio n d some)
    ∙ value-negation polys polys_domain (ratio n d some)
    ∙ sym (value_over-ratio (polys.neg n) d some)

-- a value is zero exactly where the numerator is
pub over_zero : (n d : Polynomial) → d ≢ polys.zero → value_over n d ≡ field.zero → n ≡ polys.zero
over_zero n d some zero = num_zero polys polys_domain (ratio n d some) (sym (value_over-ratio n d some) ∙ zero)
