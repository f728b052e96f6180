-- What letters name, and where the name stands.
--     known-variable, variable-known    the first declared name of these letters has this number
--     known-let, let-known              no declared name has them, and the first `let` line of them has this number
use Rattle.ct_problem.proofs.Base.{◌≡◌, ℕ, List, Option, Some, None, ap, ◌∙◌, position, bytes_eq, Variable, Let, Names, IsList, is_named, known}
use Rattle.ct_problem.proofs.Base.{known_by, refl}

pub known-variable : (letters : List ℕ) (at : ℕ) (names : Names) → position (is_named letters) names.variables ≡ Some at →
    known letters names ≡ Variable at
unfolding known
known-variable letters at names first = ap (λ (o : Option ℕ). known_by o (position (bytes_eq letters) names.lets)) first

pub variable-known : (letters : List ℕ) (at : ℕ) (names : Names) → known letters names ≡ Variable at →
    position (is_named letters) names.variables ≡ Some at
unfolding known
variable-known letters at names e = by (position (is_named letters) names.variables) (position (bytes_eq letters) names.lets) e
  where
    by : (o p : Option ℕ) → known_by o p ≡ Variable at → o ≡ Some at
    by (Some n) p h = let same : n ≡ at = cc in ap (λ (m : ℕ). let q : Option ℕ = Some m in q) same
    by None (Some n) h = cc
    by None None h = cc

pub known-let : (letters : List ℕ) (at : ℕ) (names : Names) → IsList names letters at → known letters names ≡ Let at
unfolding known
known-let letters at names l = ap (λ (o : Option ℕ). known_by o (position (bytes_eq letters) names.lets)) l.no_variable
    ∙ ap (λ (o : Option ℕ). known_by None o) l.first

pub let-known : (letters : List ℕ) (at : ℕ) (names : Names) → known letters names ≡ Let at → IsList names letters at
unfolding known
let-known letters at names e = by (position (is_named letters) names.variables) (position (bytes_eq letters) names.lets) refl refl e
  where
    by : (o p : Option ℕ) → position (is_named letters) names.variables ≡ o → position (bytes_eq letters) names.lets ≡ p → known_by o p ≡ Let at →
        IsList names letters at
    by (Some v) p a b h = cc
    by None None a b h = cc
    by None (Some n) a b h = let same : n ≡ at = cc in record { no_variable = a; first = b ∙ ap (λ (m : ℕ). let q : Option ℕ = Some m in q) same }
