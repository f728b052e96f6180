-- How lexemes begin, and what may come after a rule.
--     Opens ls                        no `-` begins there
--     AfterAtom, AfterFactor, AfterTerm, AfterSum   the lexemes that come after go on with no such rule
--     Ends ls                         the end of a line begins there
use Rattle.ct_problem.proofs.Base.{refl, LineEnd, append_assoc, ◌≡◌, ◌<◌, ◌≤◌, false, List, [], ◌∷◌, ◌++◌, length, sym, ap, ◌∙◌, subst, arith}
use Rattle.ct_problem.proofs.Base.{length-append, Lexeme, Texts, one, ◌▸◌, each}
use Rattle.ct_problem.proofs.Frame.{shows_sign}

-- no `-` begins there
abbrev pub Opens : List Lexeme → Type 0
Opens ls = (rest : List Lexeme) → shows_sign 45 (ls ++ rest) ≡ false

pub Opens-joined : {a b : Texts} {ls : List Lexeme} (h : (a ▸ b) ls) → Opens h.front → Opens ls
Opens-joined h o rest =
    ap (λ xs. shows_sign 45 (xs ++ rest)) h.parts ∙ ap (shows_sign 45) (append_assoc h.front h.back rest) ∙ o (h.back ++ rest)

pub Opens-with : (l : Lexeme) (ls back : List Lexeme) → ls ≡ l ∷ back → ((rest : List Lexeme) → shows_sign 45 (l ∷ rest) ≡ false) → Opens ls
Opens-with l ls back parts other rest = ap (λ xs. shows_sign 45 (xs ++ rest)) parts ∙ other (back ++ rest)

pub each-length : {X : Type 0} (a : X → Texts) → ((x : X) (ls : List Lexeme) → a x ls → 0 < length ls) → (xs : List X) (ls : List Lexeme) →
    each a xs ls → length xs ≤ length ls
each-length a some [] ls h = omega arith
each-length a some (x ∷ xs) ls h =
    let first = some x h.front h.first in
    let rest = each-length a some xs h.back h.second in
    let parts = ap length h.parts in
    omega (arith, parts, length-append h.front h.back, first, rest)

pub begun-length : {b : Texts} (l : Lexeme) (ls : List Lexeme) → (one l ▸ b) ls → 0 < length ls
begun-length l ls h =
    let parts = ap length h.parts in
    let first = ap length h.first in
    omega (arith, parts, length-append h.front h.back, first)

-- a sign begins the lexemes
pub begun-shows : {b : Texts} (l : Lexeme) (ls rest : List Lexeme) (F : Texts) → (one l ▸ b) ls → ((back : List Lexeme) → F (l ∷ back)) →
    F (ls ++ rest)
begun-shows l ls rest F h f =
    let parts : ls ++ rest ≡ l ∷ (h.back ++ rest) = ap (λ xs. xs ++ rest) (h.parts ∙ ap (λ xs. xs ++ h.back) h.first) in
    subst F (sym parts) (f (h.back ++ rest))

-- ---- what may come after

-- a number goes on with no `/`
abbrev pub AfterAtom : Texts
AfterAtom rest = shows_sign 47 rest ≡ false

pub record AfterFactor (rest : List Lexeme) : Type 0 where
  pub no_divisor : shows_sign 47 rest ≡ false
  pub no_power : shows_sign 94 rest ≡ false

pub record AfterTerm (rest : List Lexeme) : Type 0 where
  pub no_divisor : shows_sign 47 rest ≡ false
  pub no_power : shows_sign 94 rest ≡ false
  pub no_factor : shows_sign 42 rest ≡ false

pub record AfterSum (rest : List Lexeme) : Type 0 where
  pub no_divisor : shows_sign 47 rest ≡ false
  pub no_power : shows_sign 94 rest ≡ false
  pub no_factor : shows_sign 42 rest ≡ false
  pub no_plus : shows_sign 43 rest ≡ false
  pub no_minus : shows_sign 45 rest ≡ false

pub after_factor : (rest : List Lexeme) → AfterTerm rest → AfterFactor rest
after_factor rest a = record { no_divisor = a.no_divisor; no_power = a.no_power }

pub after_term : (rest : List Lexeme) → AfterSum rest → AfterTerm rest
after_term rest a = record { no_divisor = a.no_divisor; no_power = a.no_power; no_factor = a.no_factor }

-- the end of a line comes
abbrev pub Ends : Texts
Ends rest = (back : List Lexeme) × (rest ≡ LineEnd ∷ back)

pub ends_sum : (rest : List Lexeme) → Ends rest → AfterSum rest
ends_sum rest h = subst AfterSum (sym h.1) (record { no_divisor = refl; no_power = refl; no_factor = refl; no_plus = refl; no_minus = refl })
