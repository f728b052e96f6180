-- What follows for a call from the computation that it answers: main lemma `by_steps`.
use Rattle.ct_module.proofs.Base.{◌≡◌, Ok, Err, Result, IfOk, AnswersBy}
use Rattle.ct_checked.specs.Checked.{Checked}
use Rattle.ct_checked.specs.declared.fault.Fault.{Fault}

pub by_steps :
    {A B : Type 0} (f : B → A) (c : Checked A) (r : Result B Fault) (P : A → Type 0) → AnswersBy f c r → ((x : A) → c ≡ Ok x → P x) →
    IfOk r (λ b. P (f b))
by_steps f c (Ok b) P answers given = given (f b) answers
by_steps f c (Err fault) P answers given = tt
