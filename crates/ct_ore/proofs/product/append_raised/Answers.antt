use Rattle.ct_ore.proofs.Base.{◌≡◌, ◌++◌, ◌∷◌, [], ◌+◌, ◌-◌, ◌*◌, ◌<◌, ◌≤◌, ◌∙◌, sym, ap, ap₂, subst, rules, append_assoc, pos, ◌*ℤ◌, FitsSigned}
use Rattle.ct_ore.proofs.Base.{nat_abs, add-one, w128, to_z-of_z, exp, largest_norm, with_exponent}
use Rattle.ct_ore.specs.declared.coefficient_term.CoefficientTerm.{CoefficientTerm}
use Rattle.ct_ore.specs.Naming.{action_of}
use Rattle.ct_ore.specs.PairTerms.{listed, lowered_term}
use Rattle.ct_ore.specs.Kinds.{how_many, ways, symbols_left}
use Rattle.ct_ore.proofs.ProductBounds.{way_fits, capped_value}
use Rattle.ct_ore.proofs.product.append_raised.Goals as goal

pub number_times-number-requires-clause-known : goal.number_times-number-requires-clause-known
number_times-number-requires-clause-known c =
    let below : c.loop-j.j < how_many (action_of c.args.action) c.args.k (exp c.args.t.now.names c.args.i) =
    subst (λ n. c.loop-j.j < n) (c.how_many-j-end.ensures ∙ ap (how_many (action_of c.args.action) c.args.k) c.small_exponent-e.ensures.value)
    c.loop-j-test.true in
    let this : c.loop-j.way ≡ ways (action_of c.args.action) c.args.k (exp c.args.t.now.names c.args.i) c.loop-j.j =
    c.loop-j.invariant.this (subst (λ n. c.loop-j.j < n) c.how_many-j-end.ensures c.loop-j-test.true)
    ∙ ap (λ e. ways (action_of c.args.action) c.args.k e c.loop-j.j) c.small_exponent-e.ensures.value in
    let fits = way_fits (action_of c.args.action) c.args.i c.args.k c.args.t.now c.loop-j.j c.requires.can below in
    subst (λ w. w ≤ largest_norm) (sym this) fits.0

pub number_times-number-requires-clause-small : goal.number_times-number-requires-clause-small
number_times-number-requires-clause-small c =
    let below : c.loop-j.j < how_many (action_of c.args.action) c.args.k (exp c.args.t.now.names c.args.i) =
    subst (λ n. c.loop-j.j < n) (c.how_many-j-end.ensures ∙ ap (how_many (action_of c.args.action) c.args.k) c.small_exponent-e.ensures.value)
    c.loop-j-test.true in
    let this : c.loop-j.way ≡ ways (action_of c.args.action) c.args.k (exp c.args.t.now.names c.args.i) c.loop-j.j =
    c.loop-j.invariant.this (subst (λ n. c.loop-j.j < n) c.how_many-j-end.ensures c.loop-j-test.true)
    ∙ ap (λ e. ways (action_of c.args.action) c.args.k e c.loop-j.j) c.small_exponent-e.ensures.value in
    let fits = way_fits (action_of c.args.action) c.args.i c.args.k c.args.t.now c.loop-j.j c.requires.can below in
    let one : FitsSigned w128 c.args.t.now.number = search rules in
    simp to_z-of_z (subst (λ w. nat_abs c.args.t.now.number * w ≤ largest_norm) (sym this) fits.1)

pub next_way-requires-clause-small : goal.next_way-requires-clause-small
next_way-requires-clause-small c =
    let below : c.loop-j.j < how_many (action_of c.args.action) c.args.k (exp c.args.t.now.names c.args.i) =
    subst (λ n. c.loop-j.j < n) (c.how_many-j-end.ensures ∙ ap (how_many (action_of c.args.action) c.args.k) c.small_exponent-e.ensures.value)
    c.loop-j-test.true in
    let this : c.loop-j.way ≡ ways (action_of c.args.action) c.args.k (exp c.args.t.now.names c.args.i) c.loop-j.j =
    c.loop-j.invariant.this (subst (λ n. c.loop-j.j < n) c.how_many-j-end.ensures c.loop-j-test.true)
    ∙ ap (λ e. ways (action_of c.args.action) c.args.k e c.loop-j.j) c.small_exponent-e.ensures.value in
    let fits = way_fits (action_of c.args.action) c.args.i c.args.k c.args.t.now c.loop-j.j c.requires.can below in
    subst (λ w. w ≤ largest_norm) (sym this) fits.0

pub loop-j-preserved : goal.loop-j-preserved
loop-j-preserved c =
    let t = action_of c.args.action in
    let e = exp c.args.t.now.names c.args.i in
    let this : c.loop-j.way ≡ ways (action_of c.args.action) c.args.k (exp c.args.t.now.names c.args.i) c.loop-j.j =
    c.loop-j.invariant.this (subst (λ n. c.loop-j.j < n) c.how_many-j-end.ensures c.loop-j-test.true)
    ∙ ap (λ e. ways (action_of c.args.action) c.args.k e c.loop-j.j) c.small_exponent-e.ensures.value in
    let one : FitsSigned w128 c.args.t.now.number = search rules in
    let number : c.number_times-number.result ≡ c.args.t.now.number *ℤ pos c.loop-j.way = simp to_z-of_z at c.number_times-number.ensures in
    let symbols : c.with_exp-symbols.result ≡ with_exponent c.args.i
    (exp c.args.t.now.symbols c.args.i + symbols_left (action_of c.args.action) c.args.k c.loop-j.j) c.args.t.now.symbols =
    c.with_exp-symbols.ensures
    ∙ ap₂ (λ s l. with_exponent c.args.i (s + l) c.args.t.now.symbols) c.small_exponent-s.ensures.value c.symbols_left.ensures in
    let names : c.with_exp-names.result ≡ with_exponent c.args.i (exp c.args.t.now.names c.args.i - c.loop-j.j) c.args.t.now.names =
    c.with_exp-names.ensures ∙ ap (λ d. with_exponent c.args.i d c.args.t.now.names)
    (c.saturating_sub.ensures ∙ ap (λ d. d - c.loop-j.j) c.small_exponent-e.ensures.value) in
    let pushed : c.push.new.self.items ≡ c.loop-j.out.items ++ record {
      symbols = c.with_exp-symbols.result;
      names = c.with_exp-names.result;
      number = c.number_times-number.result;
    } ∷ [] = search rules in
    let term : ◌≡◌ {A = CoefficientTerm}
    (record { symbols = c.with_exp-symbols.result; names = c.with_exp-names.result; number = c.number_times-number.result })
    (lowered_term (action_of c.args.action) c.args.i c.args.k c.args.t.now c.loop-j.j) =
    λ i. record { symbols = symbols i; names = names i; number = (number ∙ ap (λ w. c.args.t.now.number *ℤ pos w) this) i } in record {
      made = pushed ∙ ap₂ (λ us v. us ++ v ∷ []) c.loop-j.invariant.made term
          ∙ append_assoc c.args.out.now.items (listed c.loop-j.j (lowered_term (action_of c.args.action) c.args.i c.args.k c.args.t.now))
          (lowered_term (action_of c.args.action) c.args.i c.args.k c.args.t.now c.loop-j.j ∷ [])
          ∙ ap (λ n. c.args.out.now.items ++ listed n (lowered_term (action_of c.args.action) c.args.i c.args.k c.args.t.now))
          (sym (add-one c.loop-j.j));
      this = λ more.
          let next : c.loop-j.j + 1 < how_many (action_of c.args.action) c.args.k (exp c.args.t.now.names c.args.i) =
          subst (λ e. c.loop-j.j + 1 < how_many (action_of c.args.action) c.args.k e) c.small_exponent-e.ensures.value more in
          let fits = way_fits (action_of c.args.action) c.args.i c.args.k c.args.t.now (c.loop-j.j + 1) c.requires.can next in
          c.unwrap_or-way.ensures
          ∙ capped_value (ways (action_of c.args.action) c.args.k c.small_exponent-e.result (c.loop-j.j + 1)) c.next_way.result c.next_way.ensures
          (subst (λ e. ways (action_of c.args.action) c.args.k e (c.loop-j.j + 1) ≤ largest_norm) (sym c.small_exponent-e.ensures.value) fits.0);
    }
