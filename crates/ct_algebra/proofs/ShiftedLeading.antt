-- The leading monomial of a product of symbols before an operator: main lemma `shifted_leads`.
-- A symbol has the total one, so a monomial with one more symbol is greater.
use Rattle.std.specs.Prelude.{◌≡◌, refl}
use Rattle.std.proofs.Common.{Less, arith}
use Rattle.ct_algebra.specs.Monomial.{Mono, monomials, products, mono_ordered, mono_cmp, total, total-·, less_of_total, ◌·◌, mono}
use Rattle.ct_algebra.specs.Names.{Name, x0, x1, x2, x3, x4, x5, symbol, symbols}
use Rattle.ct_algebra.specs.Polynomial.{Polynomial, polys}
use Rattle.ct_algebra.specs.Actions.{Action, polynomials}
use Rattle.ct_algebra.specs.Operators.{Operator, operator_set, product_of, term_of}
use Rattle.ct_algebra.specs.Field.{sigma_by-nonzero}
use Rattle.ct_algebra.specs.OreAlgebra.{one_term}
use Rattle.ct_algebra.specs.Leading.{OperatorLeads}
use Rattle.ct_algebra.proofs.LeadingTerms.{product_leads}

total_symbol : (i : Name) → total (symbol i) ≡ 1
unfolding total symbol mono
total_symbol x0 = refl
total_symbol x1 = refl
total_symbol x2 = refl
total_symbol x3 = refl
total_symbol x4 = refl
total_symbol x5 = refl

symbol_grows : (i : Name) (m : Mono) → mono_cmp m (symbol i · m) ≡ Less
symbol_grows i m = less_of_total m _ (let sum = total-· (symbol i) m in let one = total_symbol i in omega arith)

module _ (a : Name → Action) where
  -- one times a product of symbols, before g
  pub shifted_leads :
      (t : Mono) (g : Operator) (m : Mono) (c : Polynomial) → OperatorLeads g m c →
      (d : Polynomial) × OperatorLeads (product_of a (term_of t polys.one) g) (t · m) d
  unfolding product_of term_of one_term
  shifted_leads t g m c leads =
      product_leads monomials products polys (polynomials a) symbols operator_set mono_ordered symbol_grows
      (λ i c nonzero. sigma_by-nonzero (a i) i c nonzero) t g m c leads
