-- An expression over names asks for declared names alone, and for symbols of names with operators. Main lemma `known_of`: this is asked of
-- each part by itself, as inductions over expressions take it.
use Rattle.ct_setup.proofs.Base.{◌≡◌, sym, ◌∙◌, refl, subst, Bool, true, List, [], ◌∷◌, map, slice_get, Expr, Naming}
use Rattle.ct_setup.proofs.Base.{false≢true}
use Rattle.ct_expr.proofs.Values.{both}
use Rattle.ct_expr.specs.Value.{all_true, term_step}
use Rattle.ct_expr.specs.declared.expr.Expr.{roll-Expr}
use Rattle.ct_expr.specs.declared.expr.Expr.TheFolds.{fold-Expr, fold-Summand, fold-roll-Expr, fold-roll-Summand, ind-Expr, map-Expr, map-Summand}
use Rattle.ct_expr.specs.declared.expr.Expr.TheOpen.{Expr-F, Summand-F}
use Rattle.ct_expr.specs.declared.expr.Summand.{Summand, roll-Summand}
use Rattle.ct_problem.specs.OverNames.{has_symbol, is_listed, some_all_true}
unfoldable use Rattle.ct_problem.specs.OverNames.{is_over, is_over_term, over_step}

module _ (ns : List Naming) where
  unfoldable pub known_step : Expr-F Bool Bool → Bool
  known_step (Expr-F.Whole n) = true
  known_step (Expr-F.Ratio n d) = true
  known_step (Expr-F.Name i) = is_listed (slice_get ns i)
  known_step (Expr-F.Symbol i) = has_symbol (slice_get ns i)
  known_step (Expr-F.Sum terms) = all_true terms
  known_step (Expr-F.Product factors) = all_true factors
  known_step (Expr-F.Power base n) = base

  abbrev known : Expr → Bool
  known = fold-Expr Bool Bool known_step term_step

  abbrev known_term : Summand → Bool
  known_term = fold-Summand Bool Bool known_step term_step

  -- a list with an element
  all_of : (bs : List Bool) → some_all_true bs ≡ true → all_true bs ≡ true
  all_of [] all = absurd (false≢true all)
  all_of (b ∷ bs) all = all

  abbrev Claim : Expr → Type 0
  Claim x = is_over ns x ≡ true → known x ≡ true

  abbrev TermClaim : Summand → Type 0
  TermClaim t = is_over_term ns t ≡ true → known_term t ≡ true

  each_known :
      {X : Type 0} (over asked : X → Bool) (xs : List ((x : X) × (over x ≡ true → asked x ≡ true))) →
      all_true (map over (map (λ x. x.0) xs)) ≡ true → all_true (map asked (map (λ x. x.0) xs)) ≡ true
  each_known over asked [] all = refl
  each_known over asked (x ∷ xs) all =
      let parts = both (over x.0) (all_true (map over (map (λ x. x.0) xs))) all in
      rw (x.1 parts.0) (each_known over asked xs parts.1)

  -- what is asked of an expression, by its parts
  roll_known : (y : Expr-F Expr Summand) → known (roll-Expr y) ≡ known_step (map-Expr _ _ _ _ known known_term y)
  roll_known y = fold-roll-Expr _ _ _ _ y

  roll_over : (y : Expr-F Expr Summand) → is_over ns (roll-Expr y) ≡ over_step ns (map-Expr _ _ _ _ (is_over ns) (is_over_term ns) y)
  unfolding is_over is_over_term
  roll_over y = fold-roll-Expr _ _ _ _ y

  layer : (y : Expr-F ((x : Expr) × Claim x) ((t : Summand) × TermClaim t)) → Claim (roll-Expr (map-Expr _ _ _ _ (λ x. x.0) (λ t. t.0) y))
  unfolding over_step known_step
  layer (Expr-F.Whole n) all = roll_known (Expr-F.Whole n)
  layer (Expr-F.Ratio n d) all = roll_known (Expr-F.Ratio n d)
  layer (Expr-F.Name i) all = roll_known (Expr-F.Name i) ∙ sym (roll_over (Expr-F.Name i)) ∙ all
  layer (Expr-F.Symbol i) all = roll_known (Expr-F.Symbol i) ∙ sym (roll_over (Expr-F.Symbol i)) ∙ all
  layer (Expr-F.Sum ts) all =
      roll_known (Expr-F.Sum (map (λ t. t.0) ts))
      ∙ each_known (is_over_term ns) known_term ts (all_of (map (is_over_term ns) (map (λ t. t.0) ts)) (sym (roll_over (Expr-F.Sum (map (λ t. t.0) ts))) ∙ all))
  layer (Expr-F.Product fs) all =
      roll_known (Expr-F.Product (map (λ x. x.0) fs))
      ∙ each_known (is_over ns) known fs (all_of (map (is_over ns) (map (λ x. x.0) fs)) (sym (roll_over (Expr-F.Product (map (λ x. x.0) fs))) ∙ all))
  layer (Expr-F.Power base n) all = roll_known (Expr-F.Power base.0 n) ∙ base.1 (sym (roll_over (Expr-F.Power base.0 n)) ∙ all)

  term_layer : (y : Summand-F ((x : Expr) × Claim x) ((t : Summand) × TermClaim t)) →
      TermClaim (roll-Summand (map-Summand _ _ _ _ (λ x. x.0) (λ t. t.0) y))
  unfolding is_over is_over_term
  term_layer y all = fold-roll-Summand _ _ _ _ _ ∙ y.expr.1 (sym (fold-roll-Summand _ _ _ _ _) ∙ all)

  pub known_of : (x : Expr) → is_over ns x ≡ true → fold-Expr Bool Bool known_step term_step x ≡ true
  known_of = ind-Expr Claim TermClaim (λ x y is. subst (λ z. Claim (roll-Expr z)) is (layer y))
      (λ x y is. subst (λ z. TermClaim (roll-Summand z)) is (term_layer y))
