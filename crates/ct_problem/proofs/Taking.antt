-- What a rule of the reader does with lexemes that stand for a value: it gives that value, and leaves what comes after them.
--     Takes bad p x L F       from lexemes of L, before a rest that F allows, p gives x and leaves the rest; the first byte that
--                             begins no token stands at the place bad, if there is one
--     Takes-bind and others   the steps that every rule is made of
use Rattle.ct_problem.proofs.Base.{◌≡◌, ℕ, Bool, false, List, ◌∷◌, ◌++◌, Option, Ok, refl, ap, ◌∙◌, subst, append_assoc, BadKind, Input, Parser}
use Rattle.ct_problem.proofs.Base.{◌>>=◌, ◌>>◌, and_then, pure, skip, next, fault_if, Lexeme, Texts, nothing, one, ◌▸◌}
use Rattle.ct_problem.proofs.LexemeSteps.{shown}
use Rattle.ct_problem.proofs.JoinedTexts.{joined_to_right}
use Rattle.ct_problem.proofs.Following.{Follows, Follows-same, Follows-then, Follows-past, ends_line}
use Rattle.ct_problem.proofs.ShownSymbols.{next-shown}

pub record Taken {A : Type 0} (p : Parser A) (i : Input) (x : A) (rest : List Lexeme) : Type 0 where
  pub left : Input
  pub reads : p i ≡ Ok (x, left)
  pub shows : shown left ≡ rest
  pub follows : Follows i left

abbrev pub Takes : {A : Type 0} → Option ℕ → Parser A → A → Texts → Texts → Type 0
Takes bad p x L F = (i : Input) (used rest : List Lexeme) → i.bad ≡ bad → shown i ≡ used ++ rest → L used → F rest → Taken p i x rest

-- whatever comes after
abbrev pub anywhere : Texts
anywhere rest = Unit {0}

-- a rule that does the same here
pub Taken-same : {A : Type 0} {p q : Parser A} {i : Input} {x : A} {rest : List Lexeme} → p i ≡ q i → Taken q i x rest → Taken p i x rest
Taken-same same t = record { left = t.left; reads = same ∙ t.reads; shows = t.shows; follows = t.follows }

module _ (bad : Option ℕ) where
  pub Taken-bind : {A B : Type 0} (p : Parser A) (f : A → Parser B) (i : Input) (x : A) (y : B) (middle rest : List Lexeme) (t : Taken p i x middle) →
      Taken (f x) t.left y rest → Taken (p >>= f) i y rest
  Taken-bind p f i x y middle rest t s =
      record {
        left = s.left;
        reads = ap (λ o. and_then o f) t.reads ∙ s.reads;
        shows = s.shows;
        follows = Follows-then i t.left s.left t.follows s.follows;
      }

  module _ {A : Type 0} where
    pub Takes-pure : (x : A) (F : Texts) → Takes bad (pure x) x nothing F
    Takes-pure x F i used rest here e none after = record { left = i; reads = refl; shows = e ∙ ap (λ ls. ls ++ rest) none; follows = Follows-same i }

    pub Takes-as : (L M F G : Texts) (p : Parser A) (x : A) → ((ls : List Lexeme) → M ls → L ls) → ((rest : List Lexeme) → G rest → F rest) →
        Takes bad p x L F → Takes bad p x M G
    Takes-as L M F G p x spelled allowed t i used rest here e m after = t i used rest here e (spelled used m) (allowed rest after)

    pub Takes-value : {L F : Texts} {p : Parser A} {x y : A} → x ≡ y → Takes bad p x L F → Takes bad p y L F
    Takes-value {L} {F} {p} {x} {y} same t = subst (λ (z : A). Takes bad p z L F) same t

    pub Takes-to_right : {a b c F : Texts} {p : Parser A} {x : A} → Takes bad p x (a ▸ (b ▸ c)) F → Takes bad p x (a ▸ b ▸ c) F
    Takes-to_right {a} {b} {c} {F} {p} {x} t i used rest here e m after = t i used rest here e (joined_to_right m) after

  module _ {A B : Type 0} where
    pub Takes-bind : {x : A} {y : B} {L M G F : Texts} {p : Parser A} (f : A → Parser B) → Takes bad p x L G → Takes bad (f x) y M F →
        ((back rest : List Lexeme) → M back → F rest → G (back ++ rest)) → Takes bad (p >>= f) y (L ▸ M) F
    Takes-bind {x} {y} {L} {M} {G} {F} {p} f first second between i used rest here e h after =
        let split : shown i ≡ h.front ++ (h.back ++ rest) = e ∙ ap (λ ls. ls ++ rest) h.parts ∙ append_assoc h.front h.back rest in
        let t = first i h.front (h.back ++ rest) here split h.first (between h.back rest h.second after) in
        Taken-bind p f i x y (h.back ++ rest) rest t (second t.left h.back rest (t.follows.same_bad ∙ here) t.shows h.second after)

    -- where nothing is done with what the first rule gives, which needs nothing of what comes after it
    pub Takes-next : {x : A} {y : B} {L M F : Texts} {p : Parser A} {q : Parser B} → Takes bad p x L anywhere → Takes bad q y M F →
        Takes bad (p >> q) y (L ▸ M) F
    Takes-next {q = q} first second = Takes-bind (λ _. q) first second (λ back rest m after. tt)

    -- where the second rule takes nothing
    pub Takes-last : {x : A} {y : B} {L F : Texts} {p : Parser A} (f : A → Parser B) → Takes bad p x L F → ((i : Input) → f x i ≡ Ok (y, i)) →
        Takes bad (p >>= f) y L F
    Takes-last {x} {y} {L} {F} {p} f first ends i used rest here e m after =
        let t = first i used rest here e m after in
        Taken-bind p f i x y rest rest t (record { left = t.left; reads = ends t.left; shows = t.shows; follows = Follows-same t.left })

  -- ---- the steps on lexemes

  module _ (i : Input) (used rest : List Lexeme) (l : Lexeme) where
    pub headed : shown i ≡ used ++ rest → one l used → shown i ≡ l ∷ rest
    headed e u = e ∙ ap (λ ls. ls ++ rest) u

  -- the next lexeme is taken
  pub Taken-next : {A : Type 0} (p : Parser A) (i : Input) (x : A) (l : Lexeme) (rest : List Lexeme) → shown i ≡ l ∷ rest → ends_line l ≡ false →
      p i ≡ Ok (x, next i) → Taken p i x rest
  Taken-next p i x l rest head plain reads =
      record { left = next i; reads = reads; shows = next-shown i rest l head; follows = Follows-past i l rest head plain }

  pub Takes-skip : (l : Lexeme) → ends_line l ≡ false → Takes bad skip tt (one l) anywhere
  Takes-skip l plain i used rest here e u after = Taken-next skip i tt l rest (headed i used rest l e u) plain refl

  -- where a test fails
  pub Takes-fault_if : {A : Type 0} {x : A} {L F : Texts} {b : Bool} (kind : BadKind) {p : Parser A} → b ≡ false → Takes bad p x L F →
      Takes bad (fault_if b kind >> p) x L F
  Takes-fault_if {x} {L} {F} {b} kind {p} passed t i used rest here e u after =
      Taken-same (ap (λ (c : Bool). (fault_if c kind >> p) i) passed) (t i used rest here e u after)
