-- What the leading monomials of generators tell: main lemmas `leading_monomials-lead`, `all_proper`, and `irreducible_left`,
-- `left_irreducible`, by which the test of the code is that of the definition.
use Rattle.ct_border.proofs.Base.{◌≡◌, ◌≢◌, ℕ, Bool, true, false, if◌then◌else◌, List, [], ◌∷◌, Option, None, Some, Ok, Err, Result, refl, sym}
use Rattle.ct_border.proofs.Base.{◌∙◌, ap, subst}
use Rattle.ct_border.proofs.Base.{All, All-cons, All-head, All-nil, All-tail, Mono, ◌·◌, unit, Operator, Polynomial, OperatorLeads, LeadingDivides}
use Rattle.ct_border.proofs.Base.{IsIrreducible, leading, each_means, mono_eq, mono_eq_decides, over, over_is, over_none}
use Rattle.ct_border.specs.Staircase.{Refusal, leading_by, leading_of, leading_monomials, unless_divided, is_left}
use Rattle.ct_border.specs.StaircaseMeans.{IsProper}

pub record LeadsProperly (g : Operator) (m : Mono) : Type 0 where
  pub coef : Polynomial
  pub leads : OperatorLeads g m coef
  pub proper : m ≢ unit

abbrev pub AreLeading : List Operator → List Mono → Type 0
AreLeading [] [] = Unit {0}
AreLeading (g ∷ gs) (m ∷ ms) = LeadsProperly g m × AreLeading gs ms
AreLeading [] (m ∷ ms) = ⊥
AreLeading (g ∷ gs) [] = ⊥

pub leading_of-leads : (n : ℕ) (g : Operator) (m : Mono) → leading_of n g ≡ Ok m → LeadsProperly g m
leading_of-leads n g m passes = by g.terms refl passes
  where
    tested : (e : Mono × Polynomial) (es : List (Mono × Polynomial)) → g.terms ≡ e ∷ es → (b : Bool) → mono_eq e.0 unit ≡ b →
        ◌≡◌ {A = Result Mono Refusal} (if b then Err (Refusal.Trivial n) else Ok e.0) (Ok m) → LeadsProperly g m
    tested e es is true test passes = cc
    tested e es is false test passes =
        let same : e.0 ≡ m = cc in
        subst (LeadsProperly g) same (record {
          coef = e.1;
          leads = record { rest = es; is_first = is };
          proper = λ one. let equal = (mono_eq_decides e.0 unit).1 one in cc;
        })

    by : (es : List (Mono × Polynomial)) → g.terms ≡ es → leading_by n (leading es) ≡ Ok m → LeadsProperly g m
    by [] is passes = cc
    by (e ∷ es) is passes = tested e es is (mono_eq e.0 unit) refl passes

pub leading_monomials-lead : (gs : List Operator) (ms : List Mono) → leading_monomials gs ≡ Ok ms → AreLeading gs ms
leading_monomials-lead = each_means leading_of AreLeading tt
    (λ n g m gs ms passes rest. (leading_of-leads n g m passes, rest)) 1

pub all_proper : (gs : List Operator) (ms : List Mono) → AreLeading gs ms → All IsProper gs
all_proper [] ms lead = All-nil IsProper
all_proper (g ∷ gs) [] lead = absurd lead
all_proper (g ∷ gs) (m ∷ ms) lead =
    All-cons IsProper g gs (record { mono = m; coef = lead.0.coef; leads = lead.0.leads; proper = lead.0.proper }) (all_proper gs ms lead.1)

-- an operator has one leading monomial
first_of : Mono → List (Mono × Polynomial) → Mono
first_of m [] = m
first_of m (e ∷ es) = e.0

pub one_lead : (g : Operator) (m n : Mono) (c e : Polynomial) → OperatorLeads g m c → OperatorLeads g n e → m ≡ n
unfolding first_of
one_lead g m n c e first second = ap (first_of m) (sym first.is_first ∙ second.is_first)

pub irreducible_left : (gs : List Operator) (ds : List Mono) (m : Mono) → AreLeading gs ds → is_left ds m ≡ true → IsIrreducible gs m
irreducible_left [] ds m lead left = All-nil (λ g. ¬ LeadingDivides g m)
irreducible_left (g ∷ gs) [] m lead left = absurd lead
irreducible_left (g ∷ gs) (d ∷ ds) m lead left = by (over m d) refl left (irreducible_left gs ds m lead.1)
  where
    by : (o : Option Mono) → over m d ≡ o → unless_divided o (is_left ds m) ≡ true → (is_left ds m ≡ true → IsIrreducible gs m) →
        IsIrreducible (g ∷ gs) m
    by None missing left rest =
        All-cons (λ g. ¬ LeadingDivides g m) g gs
        (λ divides. over_none m d missing (
          divides.quotient,
          ap (λ n. divides.quotient · n) (one_lead g d divides.mono lead.0.coef divides.coef lead.0.leads divides.leads) ∙ divides.product,
        ))
        (rest left)
    by (Some t) found left rest = cc

pub left_irreducible : (gs : List Operator) (ds : List Mono) (m : Mono) → AreLeading gs ds → IsIrreducible gs m → is_left ds m ≡ true
left_irreducible [] [] m lead irreducible = refl
left_irreducible [] (d ∷ ds) m lead irreducible = absurd lead
left_irreducible (g ∷ gs) [] m lead irreducible = absurd lead
left_irreducible (g ∷ gs) (d ∷ ds) m lead irreducible =
    by (over m d) refl (left_irreducible gs ds m lead.1 (All-tail (λ g. ¬ LeadingDivides g m) g gs irreducible))
  where
    by : (o : Option Mono) → over m d ≡ o → is_left ds m ≡ true → unless_divided o (is_left ds m) ≡ true
    by None missing rest = rest
    by (Some t) found rest =
        absurd (All-head (λ g. ¬ LeadingDivides g m) g gs irreducible (record {
          mono = d;
          coef = lead.0.coef;
          leads = lead.0.leads;
          quotient = t;
          product = over_is m d t found;
        }))
