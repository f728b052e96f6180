-- 1 over the factors with a summed name is a written form: main lemma `part_written`; and so are all of two lists.
use Rattle.ct_module.proofs.Base.{◌≡◌, refl, ℕ, Bool, true, false, cond, List, [], ◌∷◌, ◌++◌, filter, sym, ◌∙◌, ap, subst, arith}
use Rattle.std.proofs.lemmas.Nat.Gcd.{dvd_refl}
use Rattle.std.proofs.Math.Nat.{one-dvd}
use Rattle.ct_frac.proofs.Products.{one_nonzero}
use Rattle.ct_frac.specs.declared.factor.Factor.{Factor}
use Rattle.ct_frac.specs.FractionLaws.{EachIsWritten}
use Rattle.ct_frac.specs.Written.{Written, AreFactors, IsBelow, IsWritten}
use Rattle.ct_algebra.specs.Polynomial.{Polynomial}
use Rattle.ct_ore.specs.Naming.{Naming}
use Rattle.ct_module.specs.Columns.{has_summed}
use Rattle.ct_module.specs.Denominators.{part_of}

module _ (test : Factor → Bool) where
  below_chosen : (p : Polynomial) (fs : List Factor) → IsBelow p fs → IsBelow p (filter test fs)
  below_chosen p [] below = tt
  below_chosen p (f ∷ fs) below = by (test f) (below_chosen p fs below.1)
    where
      by : (b : Bool) → IsBelow p (filter test fs) → IsBelow p (cond b (f ∷ filter test fs) (filter test fs))
      by true rest = (below.0, rest)
      by false rest = rest

  chosen_factors : (fs : List Factor) → AreFactors fs → AreFactors (filter test fs)
  chosen_factors [] are = tt
  chosen_factors (f ∷ fs) are = by (test f) (chosen_factors fs are.1.1)
    where
      by : (b : Bool) → AreFactors (filter test fs) → AreFactors (cond b (f ∷ filter test fs) (filter test fs))
      by true rest = (are.0, (below_chosen f.poly fs are.1.0, rest))
      by false rest = rest

pub part_written : (ns : List Naming) (w : Written) → IsWritten w → IsWritten (part_of ns w)
part_written ns w is = record {
  den = record { positive = omega arith; within = omega arith; factors = chosen_factors (λ f. has_summed ns f.poly) w.den.factors is.den.factors };
  lowest = (one-dvd _, dvd_refl 1, λ x first second. second);
  zero_over_one = λ none. absurd (one_nonzero none);
}

pub written_both : (xs ys : List Written) → EachIsWritten xs → EachIsWritten ys → EachIsWritten (xs ++ ys)
written_both [] ys first second = second
written_both (x ∷ xs) ys first second = (first.0, written_both xs ys first.1 second)
