-- Checked computations: a value, or what refused it first.
--     c >>= f               first c, then f of its value; the first refusal ends it: `do` blocks give the order of steps
--     refused_as g c        c, with g of its refusal
--     verdict o x           x, unless a rule on the operands names a refusal
--     AnswersAs s f c r     what a call may answer to the computation c: its value, seen through f, or its refusal, seen through s
-- To s a fault of the code is a refusal, or none where memory ran out: this answers every computation, and nothing else is left
-- open. Whatever can refuse is a use: a kind, a place and a kind, the fault of a text. Where steps can overflow it is the kind:
--     Checked A             a value, or the kind of the first overflow
--     Answers c r           what a call that can overflow may answer
--     AnswersBy f c r       the same for a value that is seen through f
-- Cited by every call that can overflow, fail a test or refuse a text.
use Rattle.std.specs.Prelude.{◌≡◌, Ok, Err, None, Some, refl, IfSome}
use Rattle.std.proofs.Common.{Result, Option}
use Rattle.ct_checked.specs.declared.fault.Kind.{Kind}
use Rattle.ct_checked.specs.declared.fault.Fault.{Fault}
use Rattle.ct_checked.specs.declared.fault.Fault.TheVariants.{Overflow, NoMemory}

infixl 10 ◌>>=◌
-- one computation after the other
abbrev pub ◌>>=◌ : {A B E : Type 0} → Result A E → (A → Result B E) → Result B E
Ok a >>= f = f a
Err e >>= f = Err e

abbrev pub refused_as : {A E F : Type 0} → (E → F) → Result A E → Result A F
refused_as g (Ok a) = Ok a
refused_as g (Err e) = Err (g e)

-- a value that a rule on the operands may refuse
unfoldable pub verdict : {A E : Type 0} → Option E → A → Result A E
verdict None x = Ok x
verdict (Some e) x = Err e

abbrev pub AnswersAs : {A B E F : Type 0} → (F → Option E) → (B → A) → Result A E → Result B F → Type 0
AnswersAs seen f c (Ok r) = c ≡ Ok (f r)
AnswersAs seen f c (Err fault) = IfSome (seen fault) (λ e. c ≡ Err e)

-- ---- overflow

abbrev pub Checked : Type 0 → Type 0
Checked A = Result A Kind

abbrev pub kind_of : Fault → Option Kind
kind_of (Overflow k) = Some k
kind_of NoMemory = None

abbrev pub AnswersBy : {A B : Type 0} → (B → A) → Checked A → Result B Fault → Type 0
AnswersBy f c r = AnswersAs kind_of f c r

abbrev pub Answers : {A : Type 0} → Checked A → Result A Fault → Type 0
Answers c r = AnswersBy (λ x. x) c r

-- ---- laws

-- a value that was not refused is the one that was given
pub verdict_ok : {A E : Type 0} (o : Option E) (x r : A) → verdict o x ≡ Ok r → x ≡ r
unfolding verdict
verdict_ok None x r fits = cc
verdict_ok (Some e) x r fits = cc

-- what was not refused is a value, and what was refused is its refusal
pub verdict_fits : {A E : Type 0} (o : Option E) (x r : A) → o ≡ None → x ≡ r → verdict o x ≡ Ok r
unfolding verdict
verdict_fits None x r fits same = cc
verdict_fits (Some e) x r fits same = cc

pub verdict_refuses : {A E : Type 0} (o : Option E) (x : A) (e : E) → o ≡ Some e → verdict o x ≡ Err e
unfolding verdict
verdict_refuses None x e refused = cc
verdict_refuses (Some k) x e refused = cc

-- what the value of two steps says of the first
pub record BothFit {A B E : Type 0} (c : Result A E) (f : A → Result B E) (r : B) : Type 0 where
  pub value : A
  pub first : c ≡ Ok value
  pub rest : f value ≡ Ok r

pub both_fit : {A B E : Type 0} (c : Result A E) (f : A → Result B E) (r : B) → (c >>= f) ≡ Ok r → BothFit c f r
both_fit (Ok a) f r fits = record { value = a; first = refl; rest = fits }
both_fit (Err e) f r fits = cc
