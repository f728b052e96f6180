use Rattle.ct_ore.proofs.Base.{◌≡◌, ◌++◌, [], ◌∷◌, rules, sym, subst, take, drop, length, refl}
use Rattle.ct_ore.specs.declared.op.OpTerm.{OpTerm}
use Rattle.ct_ore.specs.Lists.{AllHave, IsGathering}
use Rattle.ct_ore.proofs.Gathering.{gathering_start, rest_written, run_fits, gathering_step, gathering_end}
use Rattle.ct_ore.proofs.coefficients.gathered.Goals as goal

pub gathering-init : goal.gathering-init
gathering-init c =
    subst (λ out. IsGathering c.args.ts.now out c.args.ts.now) (sym c.new-out.ensures.items) (gathering_start c.args.ts.now c.requires)

pub run-requires : goal.run-requires
run-requires c = record {
  written = rest_written c.gathering.invariant;
  first = subst (λ us. AllHave c.in-Some.t.now.symbols (take 1 us)) (sym c.in-Some.ensures.cases.0) (refl, tt);
}

pub of_terms-requires : goal.of_terms-requires
of_terms-requires c =
    let fits = run_fits c.requires c.gathering.invariant c.in-Some.ensures.cases.0 c.in_ok-terms.ensures in
    record { falling = fits.0; few = fits.1; small = fits.2 }

pub gathering-preserved : goal.gathering-preserved
gathering-preserved c =
    let term : OpTerm = record { mono = c.in-Some.t.now.symbols; coef = c.of_terms.result } in
    let pushed : c.push.new.self.items ≡ c.gathering.out.items ++ term ∷ [] = search rules in
    let rest : c.split_at.result.1.now ≡ drop (length c.in_ok-terms.terms.items) c.gathering.rest.now = search rules in
    gathering_step term c.in-Some.ensures.cases.0 c.in_ok-terms.ensures refl c.of_terms.ensures pushed rest c.gathering.invariant

pub returns : goal.returns
returns c = gathering_end c.in_default.ensures.cases c.gathering.invariant
