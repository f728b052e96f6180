-- A module of generators that passes the tests is tested: main lemma `tested_module`.
use Rattle.ct_border.proofs.Base.{◌∙◌, ap, arith, sym, List, length, All, Mono, Operator, actions_of}
use Rattle.ct_algebra.specs.FreeOf.{IsOver}
use Rattle.ct_module.specs.Modules.{WrittenModule, dimension}
use Rattle.ct_module.specs.Tested.{IsTestedModule}
use Rattle.ct_module.specs.Values.{rows_by_value}
use Rattle.ct_ore.proofs.WrittenOperators.{terms-no_operator}
use Rattle.ct_ore.specs.Naming.{Naming}
use Rattle.ct_telescoping.specs.Tested.{PassesTests}
use Rattle.ct_border.specs.BuildMeans.{IsKilled}
use Rattle.ct_border.specs.Modules.{IsFormModule}
use Rattle.ct_border.specs.StaircaseMeans.{HasStaircase}
use Rattle.ct_border.proofs.LeadingMonomials.{one_lead}

pub tested_module : (ns : List Naming) (gs : List Operator) (ms : List Mono) (m : WrittenModule) → All (IsOver (actions_of ns)) gs →
    HasStaircase (actions_of ns) gs ms → IsFormModule ns gs ms m → PassesTests (actions_of ns) (dimension m) (rows_by_value m) →
    All (IsKilled (actions_of ns) (dimension m) (rows_by_value m)) gs → IsTestedModule ns gs m
tested_module ns gs ms m over has form closed killed = record {
  tested = record {
    over = over;
    nonzero = λ k g below zero.
        let none = sym (has.proper k g below).leads.is_first ∙ ap (λ h. h.terms) zero ∙ terms-no_operator in cc;
    not_trivial = λ k g below n c leads one.
        let own = has.proper k g below in own.proper (one_lead _ own.mono n own.coef c own.leads leads ∙ one);
    finite = has.finite;
    staircase = form.its.staircase;
    few = omega (arith, ap length form.basis, has.few);
    rows = form.its.rows;
    closed = closed;
    killed = killed;
  };
  start = form.start;
}
