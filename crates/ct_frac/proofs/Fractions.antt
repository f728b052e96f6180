-- What the plainest calls on fractions give: a polynomial as a fraction, and the negative. Main lemmas `whole-value`,
-- `negative_written` and `negative-value`.
use Rattle.ct_frac.proofs.Base.{◌≡◌, pos, sym, ◌∙◌, ap, subst, IsGcd, neg_neg, neg_zero, Polynomial, polys, polys_domain, number, one_is, field}
use Rattle.ct_frac.proofs.Base.{embedded, fractions}
use Rattle.ct_algebra.specs.Fractions.{embed_is}
use Rattle.ct_frac.specs.FractionLaws.{WrittenValueIsAQuotient}
use Rattle.ct_frac.specs.Arithmetic.{negative}
use Rattle.ct_frac.specs.Written.{Written, IsWritten, multiplied_out, value, value_over, one_den, whole_polynomial}
use Rattle.ct_frac.proofs.Denominators.{den_nonzero}
use Rattle.ct_frac.proofs.Products.{times_one}
use Rattle.ct_frac.proofs.Quotients.{ratio, value_over-ratio, over-negative}
use Rattle.ct_frac.proofs.WholeParts.{content-negative}

pub multiplied_out-one : multiplied_out one_den ≡ polys.one
unfolding multiplied_out
multiplied_out-one = times_one (number (pos 1)) ∙ sym one_is

pub over-one : (p : Polynomial) → value_over p polys.one ≡ embedded p
over-one p = value_over-ratio p polys.one polys_domain.proper ∙ sym (embed_is polys polys_domain p)

pub whole-value : (p : Polynomial) → value (whole_polynomial p) ≡ embedded p
unfolding value
whole-value p = ap (value_over p) multiplied_out-one ∙ over-one p

pub negative_written : (w : Written) → IsWritten w → IsWritten (negative w)
negative_written w is = record {
  den = is.den;
  lowest = subst (λ k. IsGcd k w.den.whole 1) (sym (content-negative w.numerator)) is.lowest;
  zero_over_one = λ none. is.zero_over_one (sym (neg_neg polys.group w.numerator) ∙ ap polys.neg none ∙ neg_zero polys.group);
}

pub negative-value : (w : Written) → IsWritten w → value (negative w) ≡ field.neg (value w)
unfolding value
negative-value w is = sym (over-negative w.numerator (multiplied_out w.den) (den_nonzero w.den is.den))

pub value_is_a_quotient : WrittenValueIsAQuotient
unfolding value
value_is_a_quotient w is =
    let some = den_nonzero w.den is.den in
    ap (λ v. field.◌*◌ v (embedded (multiplied_out w.den))) (value_over-ratio w.numerator (multiplied_out w.den) some)
    ∙ fractions.quotient (ratio w.numerator (multiplied_out w.den) some)
