-- How the answer to a first step is one to all the steps.
use Rattle.ct_expr.proofs.Base.{◌≡◌, Result, Ok, Err, ap, false≢true, Checked, ◌>>=◌, Answers}
use Rattle.std.specs.Result.{IsErr, IsErrAnd}
use Rattle.ct_checked.specs.declared.fault.Fault.{Fault}
use Rattle.ct_checked.specs.declared.fault.Fault.TheVariants.{Overflow, NoMemory}

-- where the first step ends, all do
pub ends_all : {A B : Type 0} (c : Checked A) (f : A → Checked B) (fault : Fault) → Answers c (Err fault) → Answers (c >>= f) (Err fault)
ends_all c f (Overflow k) h = ap (λ r. r >>= f) h
ends_all c f NoMemory h = tt

-- the same, where its fault is passed on by `?`
pub passes_on : {A B : Type 0} (c : Checked A) (f : A → Checked B) (fault : Fault) (r : Result B Fault) → IsErr r × IsErrAnd r (λ e. e ≡ fault) →
    Answers c (Err fault) → Answers (c >>= f) r
passes_on c f fault (Ok b) told h = absurd (false≢true told.0)
passes_on c f fault (Err e) told h = rw told.1 (ends_all c f fault h)
