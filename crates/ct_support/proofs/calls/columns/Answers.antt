use Rattle.ct_support.proofs.Base.{◌*◌, ◌<◌, ◌≤◌, ◌≡◌, ℕ, arith, refl, mul-le-mul}
use Rattle.ct_support.specs.ColumnCount.{monomial_count}
use Rattle.ct_support.proofs.Binomials.{few_of_three, few_of_names}
use Rattle.ct_support.proofs.calls.columns.Goals as goal

-- the parts are below these bounds
record AreFew (dimension summed powers : ℕ) : Type 0 where
  pub of_name : dimension * powers ≤ 750634297982976
  pub of_names : summed * (dimension * powers) ≤ 2251902893948928

few_parts :
    (summed dimension degree count names powers : ℕ) → degree < 65536 → summed ≤ 3 → dimension ≤ 16 → powers ≡ monomial_count summed degree →
    count ≡ dimension → names ≡ summed → AreFew count names powers
few_parts summed dimension degree count names powers small low few is same also =
    let bound = few_of_three degree small summed (omega (arith, low)) in
    let of_name : count * powers ≤ 16 * 46914643623936 =
    mul-le-mul {n₂ = 16} {m₂ = 46914643623936} (omega (arith, few, same)) (omega (arith, bound, is)) in
    let of_names : names * (count * powers) ≤ 3 * 750634297982976 =
    mul-le-mul {n₂ = 3} {m₂ = 750634297982976} (omega (arith, low, also)) (omega (arith, of_name)) in
    record { of_name = omega (arith, of_name); of_names = omega (arith, of_names) }

pub overflow_mul-result : goal.overflow_mul-result
overflow_mul-result c =
    let few = few_parts c.args.summed c.args.dimension c.args.support.now.degree c.from-2.result c.args.summed c.monomials-powers.result
    (omega (arith, c.fits-support.1.1)) c.requires.summed c.requires.dimension c.monomials-powers.ensures c.from-2.ensures refl in
    omega (arith, few.of_name)

pub overflow_mul-result-2 : goal.overflow_mul-result-2
overflow_mul-result-2 c =
    let few = few_parts c.args.summed c.args.dimension c.args.support.now.degree c.from-2.result c.from.result c.monomials-powers.result
    (omega (arith, c.fits-support.1.1)) c.requires.summed c.requires.dimension c.monomials-powers.ensures c.from-2.ensures c.from.ensures in
    omega (arith, few.of_names)

pub overflow_add-result : goal.overflow_add-result
overflow_add-result c =
    let few = few_parts c.args.summed c.args.dimension c.args.support.now.degree c.from-2.result c.from.result c.monomials-powers.result
    (omega (arith, c.fits-support.1.1)) c.requires.summed c.requires.dimension c.monomials-powers.ensures c.from-2.ensures c.from.ensures in
    let of_telescoper = few_of_names c.args.support.now.order (omega (arith, c.fits-support.1.0)) c.args.free c.requires.free in
    omega (arith, few.of_names, of_telescoper, c.monomials.ensures)
