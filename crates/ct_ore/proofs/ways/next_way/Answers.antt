use Rattle.ct_ore.proofs.Base.{rules, ◌≡◌, ◌+◌, ◌-◌, ◌*◌, ◌^◌, suc, ◌∙◌, sym, ap, ap₂, subst, arith, Shift, Derive}
use Rattle.ct_ore.specs.Naming.{action_of}
use Rattle.ct_ore.specs.Kinds.{choose, falling_power, ways}
use Rattle.ct_ore.specs.Bounds.{IsCapped}
use Rattle.ct_ore.proofs.PairWeightLaws.{ways-next}
use Rattle.ct_ore.proofs.ways.next_way.Goals as goal

pub returns-in-Shift : goal.returns-in-Shift
returns-in-Shift c =
    let this : c.args.way ≡ choose c.args.e c.args.j * c.args.k ^ c.args.j =
    subst (λ t. c.args.way ≡ ways (action_of t) c.args.k c.args.e c.args.j) c.in-Shift.is c.requires.this in
    let one : c.args.j + 1 ≡ suc c.args.j = omega arith in
    let factors : c.args.way * ((c.args.e - c.args.j) * c.args.k) ≡ c.args.way * (c.from.result * c.from-in-Shift.result) =
    ap₂ (λ x y. c.args.way * (x * y)) (search rules) (search rules) in
    subst (λ t. IsCapped (ways (action_of t) c.args.k c.args.e (c.args.j + 1)) c.times_over.result) (sym c.in-Shift.is)
    (c.times_over.ensures (choose c.args.e (c.args.j + 1) * c.args.k ^ (c.args.j + 1))
    (ap (λ m. choose c.args.e m * c.args.k ^ m * m) one ∙ ways-next Shift c.args.k c.args.e c.args.j
    ∙ ap (λ w. w * ((c.args.e - c.args.j) * c.args.k)) (sym this) ∙ factors))

pub returns-in-Derive : goal.returns-in-Derive
returns-in-Derive c =
    let this : c.args.way ≡ choose c.args.k c.args.j * falling_power c.args.e c.args.j =
    subst (λ t. c.args.way ≡ ways (action_of t) c.args.k c.args.e c.args.j) c.in-Derive.is c.requires.this in
    let one : c.args.j + 1 ≡ suc c.args.j = omega arith in
    let factors : c.args.way * ((c.args.k - c.args.j) * (c.args.e - c.args.j)) ≡ c.args.way * (c.from-in-Derive.result * c.from-in-Derive-2.result) =
    ap₂ (λ x y. c.args.way * (x * y)) (search rules) (search rules) in
    subst (λ t. IsCapped (ways (action_of t) c.args.k c.args.e (c.args.j + 1)) c.times_over-in-Derive.result) (sym c.in-Derive.is)
    (c.times_over-in-Derive.ensures (choose c.args.k (c.args.j + 1) * falling_power c.args.e (c.args.j + 1))
    (ap (λ m. choose c.args.k m * falling_power c.args.e m * m) one ∙ ways-next Derive c.args.k c.args.e c.args.j
    ∙ ap (λ w. w * ((c.args.k - c.args.j) * (c.args.e - c.args.j))) (sym this) ∙ factors))
