use Rattle.ct_ore.proofs.Base.{◌≡◌, ◌+◌, ◌*◌, ◌/◌, ◌%◌, ◌<◌, arith, ap₂, ◌∙◌, sym, subst, subst₂}
use Rattle.ct_ore.specs.Bounds.{IsCapped}
use Rattle.ct_ore.proofs.WayLaws.{exact_quotient}
use Rattle.ct_ore.proofs.ways.times_over.Goals as goal

pub returns-in_err-whole : goal.returns-in_err-whole
returns-in_err-whole c = λ v exact.
    let parts = exact_quotient v c.args.n c.args.a c.args.b c.requires.some exact in
    let over : c.args.n / c.args.b * c.args.a < 340282366920938463463374607431768211456 → ⊥ =
    λ h. c.in_err-whole.ensures
    (subst₂ (λ x y. c.args.n / x * y < 340282366920938463463374607431768211456) (sym c.from-b.ensures) (sym c.from-a.ensures) h) in
    subst (IsCapped v) (sym c.from_residual.ensures) (omega (arith, parts, over))

pub returns-in_err-sum : goal.returns-in_err-sum
returns-in_err-sum c = λ v exact.
    let parts = exact_quotient v c.args.n c.args.a c.args.b c.requires.some exact in
    let whole : c.in_ok-whole.whole ≡ c.args.n / c.args.b * c.args.a =
    c.in_ok-whole.ensures.1 ∙ ap₂ (λ x y. c.args.n / x * y) c.from-b.ensures c.from-a.ensures in
    let over : c.in_ok-whole.whole + c.args.n % c.args.b * c.args.a / c.args.b < 340282366920938463463374607431768211456 → ⊥ =
    λ h. c.in_err-sum.ensures
    (subst₂ (λ x y. c.in_ok-whole.whole + c.args.n % x * y / x < 340282366920938463463374607431768211456) (sym c.from-b.ensures)
    (sym c.from-a.ensures) h) in
    subst (IsCapped v) (sym c.from_residual-in_err-sum.ensures) (omega (arith, parts, over, whole))

pub returns-then-sum-gt-LARGEST_NORM : goal.returns-then-sum-gt-LARGEST_NORM
returns-then-sum-gt-LARGEST_NORM c = λ v exact.
    let parts = exact_quotient v c.args.n c.args.a c.args.b c.requires.some exact in
    let whole : c.in_ok-whole.whole ≡ c.args.n / c.args.b * c.args.a =
    c.in_ok-whole.ensures.1 ∙ ap₂ (λ x y. c.args.n / x * y) c.from-b.ensures c.from-a.ensures in
    let part : c.args.n % c.from-b.result * c.from-a.result / c.from-b.result ≡ c.args.n % c.args.b * c.args.a / c.args.b =
    ap₂ (λ x y. c.args.n % x * y / x) c.from-b.ensures c.from-a.ensures in
    let sum : c.in_ok-sum.sum ≡ v = c.in_ok-sum.ensures.1 ∙ ap₂ ◌+◌ whole part ∙ sym parts in
    omega (arith, sum, c.if-sum-gt-LARGEST_NORM.true)

pub returns-else-sum-gt-LARGEST_NORM : goal.returns-else-sum-gt-LARGEST_NORM
returns-else-sum-gt-LARGEST_NORM c = λ v exact.
    let parts = exact_quotient v c.args.n c.args.a c.args.b c.requires.some exact in
    let whole : c.in_ok-whole.whole ≡ c.args.n / c.args.b * c.args.a =
    c.in_ok-whole.ensures.1 ∙ ap₂ (λ x y. c.args.n / x * y) c.from-b.ensures c.from-a.ensures in
    let part : c.args.n % c.from-b.result * c.from-a.result / c.from-b.result ≡ c.args.n % c.args.b * c.args.a / c.args.b =
    ap₂ (λ x y. c.args.n % x * y / x) c.from-b.ensures c.from-a.ensures in
    let sum : c.in_ok-sum.sum ≡ v = c.in_ok-sum.ensures.1 ∙ ap₂ ◌+◌ whole part ∙ sym parts in
    (sum, c.if-sum-gt-LARGEST_NORM.false)
