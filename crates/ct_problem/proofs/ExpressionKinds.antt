-- Which expressions can be evaluated, which are over the names of a list, and which have no symbol, kind by kind.
--     IsFor names operators x     what is known of an expression over these names, with operators or without
use Rattle.ct_problem.proofs.Base.{◌≡◌, ◌≢◌, ℕ, zero, suc, ◌<◌, ◌≤◌, Bool, true, false, List, [], ◌∷◌, map, IsTrue, pos, nat_lt, slice_get, refl, sym}
use Rattle.ct_problem.proofs.Base.{ap, ◌∙◌, arith, false≢true, le-leb, largest_norm, Expr, roll-Expr, Expr-F, fold-Expr, fold-Summand, map-Expr}
use Rattle.ct_problem.proofs.Base.{fold-roll-Expr, fold-roll-Summand, Summand, Naming, summand, is_over, is_over_term, over_step, is_listed}
use Rattle.ct_problem.proofs.Base.{has_symbol, some_all_true, is_evaluable, is_evaluable_term, has_no_symbol, has_no_symbol_term, no_symbol_step}
use Rattle.ct_problem.proofs.Base.{term_step, all_true, Each, evaluable-Whole, evaluable-Ratio, evaluable-Name, evaluable-Symbol, evaluable-Sum}
use Rattle.ct_problem.proofs.Base.{evaluable-Product, evaluable-Power}
use Rattle.ct_expr.specs.declared.expr.Expr.TheVariants as e
use Rattle.ct_problem.specs.Grammar.{product_of}

-- what a step gives at an expression
stepped : (step : Expr-F Bool Bool → Bool) (x : Expr-F Expr Summand) (y : Expr) → roll-Expr x ≡ y
    → fold-Expr Bool Bool step term_step y ≡ step (map-Expr _ _ _ _ (fold-Expr Bool Bool step term_step) (fold-Summand Bool Bool step term_step) x)
stepped step x y e = ap (fold-Expr Bool Bool step term_step) (sym e) ∙ fold-roll-Expr _ _ _ _ _

module _ (ns : List Naming) where
  over-summand : (negative : Bool) (x : Expr) → is_over_term ns (summand negative x) ≡ is_over ns x
  unfolding is_over is_over_term
  over-summand negative x = fold-roll-Summand _ _ _ _ _

evaluable-summand : (negative : Bool) (x : Expr) → is_evaluable_term (summand negative x) ≡ is_evaluable x
unfolding is_evaluable is_evaluable_term
evaluable-summand negative x = fold-roll-Summand _ _ _ _ _

no_symbol-summand : (negative : Bool) (x : Expr) → has_no_symbol_term (summand negative x) ≡ has_no_symbol x
unfolding has_no_symbol has_no_symbol_term
no_symbol-summand negative x = fold-roll-Summand _ _ _ _ _

-- ---- what is known of an expression over names, with operators or without

pub record IsFor (ns : List Naming) (operators : Bool) (x : Expr) : Type 0 where
  pub evaluable : IsTrue (is_evaluable x)
  pub over : IsTrue (is_over ns x)
  pub plain : operators ≡ false → IsTrue (has_no_symbol x)

pub record IsTermFor (ns : List Naming) (operators : Bool) (t : Summand) : Type 0 where
  pub evaluable : IsTrue (is_evaluable_term t)
  pub over : IsTrue (is_over_term ns t)
  pub plain : operators ≡ false → IsTrue (has_no_symbol_term t)

all_true-of : {X : Type 0} (test : X → Bool) (P : X → Type 0) (xs : List X) → ((x : X) → P x → IsTrue (test x)) → Each P xs →
    IsTrue (all_true (map test xs))
all_true-of test P [] h each = refl
all_true-of test P (x ∷ xs) h each = rw (h x each.0) (all_true-of test P xs h each.1)

some_all_true-of : {X : Type 0} (test : X → Bool) (P : X → Type 0) (x : X) (xs : List X) → ((x : X) → P x → IsTrue (test x)) → Each P (x ∷ xs) →
    IsTrue (some_all_true (map test (x ∷ xs)))
some_all_true-of test P x xs h each = rw (h x each.0) (all_true-of test P xs h each.1)

-- ---- the kinds of expressions

small : (at : ℕ) → at < 6 → IsTrue (nat_lt at 6)
small at below = le-leb (suc at) 6 below

not_zero : (d : ℕ) → d ≢ 0 → IsTrue (nat_lt 0 d)
not_zero zero other = absurd (other refl)
not_zero (suc d) other = le-leb 1 (suc d) (omega arith)

module _ (ns : List Naming) where
  pub symbol_is : (at : ℕ) → at < 6 → IsTrue (has_symbol (slice_get ns at)) → IsFor ns true (e.Symbol at)
  unfolding is_over is_over_term over_step has_no_symbol has_no_symbol_term no_symbol_step
  symbol_is at below acts = record {
    evaluable = rw (evaluable-Symbol at) (small at below);
    over = stepped (over_step ns) _ _ (e.rolls-Symbol at) ∙ acts;
    plain = λ no. absurd (false≢true (sym no));
  }

  module _ (operators : Bool) where
    pub name_is : (at : ℕ) → at < 6 → IsTrue (is_listed (slice_get ns at)) → IsFor ns operators (e.Name at)
    unfolding is_over is_over_term over_step has_no_symbol has_no_symbol_term no_symbol_step
    name_is at below listed = record {
      evaluable = rw (evaluable-Name at) (small at below);
      over = stepped (over_step ns) _ _ (e.rolls-Name at) ∙ listed;
      plain = λ _. stepped no_symbol_step _ _ (e.rolls-Name at);
    }

    pub whole_is : (n : ℕ) → n ≤ largest_norm → IsFor ns operators (e.Whole (pos n))
    unfolding is_over is_over_term over_step has_no_symbol has_no_symbol_term no_symbol_step
    whole_is n within = record {
      evaluable = rw (evaluable-Whole (pos n)) (le-leb n largest_norm within);
      over = stepped (over_step ns) _ _ (e.rolls-Whole (pos n));
      plain = λ _. stepped no_symbol_step _ _ (e.rolls-Whole (pos n));
    }

    -- a quotient of two numbers, the second of which isn't 0
    pub ratio_is : (n d : ℕ) → n ≤ largest_norm → d ≤ largest_norm → d ≢ 0 → IsFor ns operators (e.Ratio (pos n) (pos d))
    unfolding is_over is_over_term over_step has_no_symbol has_no_symbol_term no_symbol_step
    ratio_is n d n_within d_within some = record {
      evaluable = rw (evaluable-Ratio (pos n) (pos d), le-leb n largest_norm n_within, le-leb d largest_norm d_within, not_zero d some) refl;
      over = stepped (over_step ns) _ _ (e.rolls-Ratio (pos n) (pos d));
      plain = λ _. stepped no_symbol_step _ _ (e.rolls-Ratio (pos n) (pos d));
    }

    pub summand_is : (negative : Bool) (x : Expr) → IsFor ns operators x → IsTermFor ns operators (summand negative x)
    summand_is negative x h = record {
      evaluable = rw (evaluable-summand negative x) h.evaluable;
      over = rw (over-summand ns negative x) h.over;
      plain = λ none. rw (no_symbol-summand negative x) (h.plain none);
    }

    pub sum_is : (t : Summand) (ts : List Summand) → Each (IsTermFor ns operators) (t ∷ ts) → IsFor ns operators (e.Sum (t ∷ ts))
    unfolding is_over is_over_term over_step has_no_symbol has_no_symbol_term no_symbol_step
    sum_is t ts each = record {
      evaluable = rw (evaluable-Sum (t ∷ ts)) (all_true-of is_evaluable_term (IsTermFor ns operators) (t ∷ ts) (λ t h. h.evaluable) each);
      over = stepped (over_step ns) _ _ (e.rolls-Sum (t ∷ ts))
          ∙ (some_all_true-of (is_over_term ns) (IsTermFor ns operators) t ts (λ t h. h.over) each);
      plain = λ none. stepped no_symbol_step _ _ (e.rolls-Sum (t ∷ ts))
          ∙ (all_true-of has_no_symbol_term (IsTermFor ns operators) (t ∷ ts) (λ t h. h.plain none) each);
    }

    product_is : (x : Expr) (xs : List Expr) → Each (IsFor ns operators) (x ∷ xs) → IsFor ns operators (e.Product (x ∷ xs))
    unfolding is_over is_over_term over_step has_no_symbol has_no_symbol_term no_symbol_step
    product_is x xs each = record {
      evaluable = rw (evaluable-Product (x ∷ xs)) (all_true-of is_evaluable (IsFor ns operators) (x ∷ xs) (λ x h. h.evaluable) each);
      over = stepped (over_step ns) _ _ (e.rolls-Product (x ∷ xs)) ∙ (some_all_true-of (is_over ns) (IsFor ns operators) x xs (λ x h. h.over) each);
      plain = λ none. stepped no_symbol_step _ _ (e.rolls-Product (x ∷ xs))
          ∙ (all_true-of has_no_symbol (IsFor ns operators) (x ∷ xs) (λ x h. h.plain none) each);
    }

    pub product_of-is : (x : Expr) (xs : List Expr) → Each (IsFor ns operators) (x ∷ xs) → IsFor ns operators (product_of (x ∷ xs))
    unfolding product_of
    product_of-is x [] each = each.0
    product_of-is x (y ∷ more) each = product_is x (y ∷ more) each

    pub power_is : (base : Expr) (n : ℕ) → IsFor ns operators base → IsFor ns operators (e.Power base n)
    unfolding is_over is_over_term over_step has_no_symbol has_no_symbol_term no_symbol_step
    power_is base n h = record {
      evaluable = rw (evaluable-Power base n) h.evaluable;
      over = stepped (over_step ns) _ _ (e.rolls-Power base n) ∙ h.over;
      plain = λ none. stepped no_symbol_step _ _ (e.rolls-Power base n) ∙ (h.plain none);
    }
