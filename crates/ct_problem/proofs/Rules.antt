-- The rules of the reader and the texts that they are rules of, both ways at once: so that each rule is walked once.
--     Rule bad K p L F     what p reads is spelled by L, where tokens are left behind it; and what L spells is read by p, before a
--                          rest that F allows, where the first byte that begins no token stands at the place bad, if there is one.
--                          K is what is known of the value beforehand
--     reads and others     the steps that every rule is made of
--     Split M N y ls       the same of two rules where the whole value doesn't tell that of the first
--     Image make L y ls    y is made of a value for which ls stand by L
use Rattle.ct_problem.proofs.Base.{arith, coming_number, fault_if, le-ltb, length, length-append, ltb-false, nat_lt, next, skip, largest_norm, ◌≤◌}
use Rattle.ct_problem.proofs.Base.{◌≡◌, ℕ, Bool, true, false, List, [], ◌++◌, Option, Ok, refl, sym, ap, ◌∙◌, subst, append_assoc, BadKind, Input}
use Rattle.ct_problem.proofs.Base.{Parser, ◌>>=◌, ◌>>◌, and_then, look, pure, fresh_line, line_end, dots, Lexeme, Number, Dots, LineEnd, Texts}
use Rattle.ct_problem.proofs.Base.{nothing, one, number, ◌▸◌}
use Rattle.ct_problem.proofs.Frame.{Spelled-mapped, Ok-same, Goes_on, Follows, Follows-same, Follows-then, joined, joined_to_left, joined_to_right}
use Rattle.ct_problem.proofs.Frame.{shown, Spelled, Spells, goes_on_before, LineEnded, line_end-gives, fresh_line-settles, Takes-fresh_line}
use Rattle.ct_problem.proofs.Frame.{first_read, Takes, anywhere, Takes-pure, Takes-as, Takes-bind, Takes-value, Takes-last, IsFresh, Takes-line_end}
use Rattle.ct_problem.proofs.Frame.{Spells-dots, Spells-coming, Spells-exactly, Takes-dots, Takes-coming, Takes-exactly, Taken-same, test_failed}
use Rattle.ct_problem.specs.Number as digits
use Rattle.ct_problem.proofs.LexemeSteps.{length-shown}

-- what was read is spelled so where tokens are left behind it
pub record Read (L : Texts) (i j : Input) : Type 0 where
  pub follows : Follows i j
  pub spelled : Goes_on j → Spelled L i j

-- nothing is known
abbrev pub any : {A : Type 0} → A → Type 0
any x = Unit {0}

pub record Rule {A : Type 0} (bad : Option ℕ) (K : A → Type 0) (p : Parser A) (L : A → Texts) (F : Texts) : Type 0 where
  pub sound : (i j : Input) (x : A) → p i ≡ Ok (x, j) → K x × Read (L x) i j
  pub whole : (x : A) → K x → Takes bad p x (L x) F

pub Spelled-joined : {L M : Texts} (i k j : Input) → Spelled L i k → Spelled M k j → Spelled (L ▸ M) i j
Spelled-joined i k j s t = record {
  used = s.used ++ t.used;
  parts = s.parts ∙ ap (λ ls. s.used ++ ls) t.parts ∙ sym (append_assoc s.used t.used (shown j));
  spells = joined s.used t.used s.spells t.spells;
  follows = Follows-then i k j s.follows t.follows;
}

pub Read-joined : {L M : Texts} (i k j : Input) → Read L i k → Read M k j → Read (L ▸ M) i j
Read-joined i k j r s = record {
  follows = Follows-then i k j r.follows s.follows;
  spelled = λ left. Spelled-joined i k j (r.spelled (goes_on_before k j s.follows left)) (s.spelled left);
}

pub Read-mapped : {L M : Texts} {i j : Input} → ((ls : List Lexeme) → L ls → M ls) → Read L i j → Read M i j
Read-mapped h r = record { follows = r.follows; spelled = λ left. Spelled-mapped h (r.spelled left) }

-- where no token needs to be left
pub at_once : {L : Texts} {i j : Input} → Spelled L i j → Read L i j
at_once s = record { follows = s.follows; spelled = λ _. s }

Read-nothing : (i : Input) → Read nothing i i
Read-nothing i = record { follows = Follows-same i; spelled = λ _. record { used = []; parts = refl; spells = refl; follows = Follows-same i } }

module _ {bad : Option ℕ} {A : Type 0} where
  -- a rule that asks for no token behind it
  pub step : {p : Parser A} {L : A → Texts} {F : Texts} → Spells p L → ((x : A) → Takes bad p x (L x) F) → Rule bad any p L F
  step spells takes = record { sound = λ i j x e. (tt, at_once (spells i j x e)); whole = λ x _. takes x }

  -- a rule that reads nothing at all
  pub never : {p : Parser A} {L : A → Texts} {F : Texts} → ((i j : Input) (x : A) → p i ≡ Ok (x, j) → ⊥) → ((x : A) (ls : List Lexeme) → L x ls → ⊥) →
      Rule bad any p L F
  never fails empty = record {
    sound = λ i j x e. absurd (fails i j x e);
    whole = λ x known i used rest here e u after. absurd (empty x used u);
  }

  -- what is known of the value, as a part of the text
  pub told : {K : A → Type 0} {p : Parser A} {L : A → Texts} {F : Texts} → Rule bad K p L F → Rule bad any p (λ x ls. K x × L x ls) F
  told r = record {
    sound = λ i j x e. let s = r.sound i j x e in (tt, Read-mapped (λ ls h. (s.0, h)) s.1);
    whole = λ x known i used rest here e u after. r.whole x u.0 i used rest here e u.1 after;
  }

  pub like : {K : A → Type 0} {p : Parser A} {L M : A → Texts} {F G : Texts} → ((x : A) (ls : List Lexeme) → L x ls → M x ls) →
      ((x : A) (ls : List Lexeme) → M x ls → L x ls)
      → ((rest : List Lexeme) → G rest → F rest) → Rule bad K p L F → Rule bad K p M G
  like {p = p} {L = L} {M = M} {F = F} {G = G} there back allowed r = record {
    sound = λ i j x e. let s = r.sound i j x e in
        (s.0, record { follows = s.1.follows; spelled = λ left. Spelled-mapped (there x) (s.1.spelled left) });
    whole = λ x known. Takes-as bad (L x) (M x) F G p x (back x) allowed (r.whole x known);
  }

  pub grouped : {K : A → Type 0} {p : Parser A} {a b c : A → Texts} {F : Texts} → Rule bad K p (λ x. a x ▸ (b x ▸ c x)) F →
      Rule bad K p (λ x. a x ▸ b x ▸ c x) F
  grouped r = like (λ x ls h. joined_to_left h) (λ x ls h. joined_to_right h) (λ rest a. a) r

  -- the same rule, before less
  pub before : {K : A → Type 0} {p : Parser A} {L : A → Texts} {F G : Texts} → ((rest : List Lexeme) → G rest → F rest) → Rule bad K p L F →
      Rule bad K p L G
  before allowed r = like (λ x ls h. h) (λ x ls h. h) allowed r

-- ---- the ends of lines

module _ {bad : Option ℕ} where
  pub line_end_rule : Rule bad any line_end (λ _. one LineEnd) (IsFresh bad)
  line_end_rule = record { sound = λ i j x e. (tt, by (line_end-gives i j x e)); whole = λ _ _. Takes-line_end bad }
    where
      by : {i j : Input} → LineEnded i j → Read (one LineEnd) i j
      by (LineEnded.ended s fresh) = at_once s
      by {i} {j} (LineEnded.at_end same none) = record {
        follows = subst (λ (k : Input). Follows i k) same (Follows-same i);
        spelled = λ left. absurd (left (sym (ap (λ (k : Input). k.left) same) ∙ none));
      }

  pub fresh_line_rule : Rule bad any fresh_line (λ _. nothing) (IsFresh bad)
  fresh_line_rule = record {
    sound = λ i j x e. (tt, subst (λ (k : Input). Read nothing i k) (fresh_line-settles i j x e).0 (Read-nothing i));
    whole = λ _ _. Takes-fresh_line bad;
  }

module _ {bad : Option ℕ} {A B : Type 0} {K : B → Type 0} where
  -- one rule after the other, of which the first reads a part of the value
  pub reads_on : {p : Parser A} {f : A → Parser B} {M : A → Texts} (N : A → B → Texts) {F G : Texts} (part : B → A) → Rule bad any p M G →
      ((x : A) → Rule bad (λ y. K y × (part y ≡ x)) (f x) (N x) F)
      → ((y : B) (back rest : List Lexeme) → N (part y) y back → F rest → G (back ++ rest)) →
      Rule bad K (p >>= f) (λ y. M (part y) ▸ N (part y) y) F
  reads_on {p} {f} {M} N part first second between = record {
    sound = λ i j y e.
        let r = first_read p f i j y e in
        let t = (second r.value).sound r.left j y r.second in (
          t.0.0,
          subst (λ (x : A). Read (M x ▸ N x y) i j) (sym t.0.1)
              (Read-joined i r.left j (first.sound i r.left r.value r.first).1 t.1),
        );
    whole = λ y known. Takes-bind bad f (first.whole (part y) tt) ((second (part y)).whole y (known, refl)) (between y);
  }

  pub reads_before : {p : Parser A} {f : A → Parser B} {M : A → Texts} {N : B → Texts} {F G : Texts} (part : B → A) → Rule bad any p M G →
      ((x : A) → Rule bad (λ y. K y × (part y ≡ x)) (f x) N F)
      → ((y : B) (back rest : List Lexeme) → N y back → F rest → G (back ++ rest)) → Rule bad K (p >>= f) (λ y. M (part y) ▸ N y) F
  reads_before {N = N} part first second between = reads_on (λ _. N) part first second between

  -- the same, where the first rule needs nothing of what comes after it
  pub reads : {p : Parser A} {f : A → Parser B} {M : A → Texts} {N : B → Texts} {F : Texts} (part : B → A) → Rule bad any p M anywhere →
      ((x : A) → Rule bad (λ y. K y × (part y ≡ x)) (f x) N F)
      → Rule bad K (p >>= f) (λ y. M (part y) ▸ N y) F
  reads part first second = reads_before part first second (λ y back rest n after. tt)

  -- the last part of a value
  pub reads_last : {p : Parser A} {M : A → Texts} {F : Texts} (part : B → A) (make : A → B) → Rule bad any p M F →
      ((x : A) → K (make x) × (part (make x) ≡ x)) → ((y : B) → K y → make (part y) ≡ y)
      → Rule bad K (p >>= (λ x. pure (make x))) (λ y. M (part y)) F
  reads_last {p} {M} part make first known only = record {
    sound = λ i j y e.
        let r = first_read p (λ x. pure (make x)) i j y e in
        let s = (first.sound i r.left r.value r.first).1 in
        let both = Ok-same r.second in
        let here = subst (λ (x : A). Read (M x) i r.left) (sym (known r.value).1) s in (
          subst K both.0 (known r.value).0,
          subst (λ (k : Input). Read (M (part y)) i k) both.1 (subst (λ (z : B). Read (M (part z)) i r.left) both.0 here),
        );
    whole = λ y k. Takes-value bad (only y k) (Takes-last bad _ (first.whole (part y) tt) (λ i. refl));
  }

module _ {bad : Option ℕ} {B : Type 0} {K : B → Type 0} where
  -- a rule that gives no value comes first
  pub passes_before : {p : Parser (Unit {0})} {q : Parser B} {M : Texts} {N : B → Texts} {F G : Texts} → Rule bad any p (λ _. M) G →
      Rule bad K q N F → ((y : B) (back rest : List Lexeme) → N y back → F rest → G (back ++ rest))
      → Rule bad K (p >> q) (λ y. M ▸ N y) F
  passes_before first second between =
      reads_before (λ _. tt) first
      (λ _. record { sound = λ i j y e. let s = second.sound i j y e in ((s.0, refl), s.1); whole = λ y known. second.whole y known.0 }) between

  pub passes : {p : Parser (Unit {0})} {q : Parser B} {M : Texts} {N : B → Texts} {F : Texts} → Rule bad any p (λ _. M) anywhere → Rule bad K q N F →
      Rule bad K (p >> q) (λ y. M ▸ N y) F
  passes first second = passes_before first second (λ y back rest n after. tt)

  -- a value that is known, behind a rule that gives none
  pub ends_by : {p : Parser (Unit {0})} {M F : Texts} → Rule bad any p (λ _. M) F → (x : B) → K x → ((y : B) → K y → x ≡ y) →
      Rule bad K (p >> pure x) (λ _. M) F
  ends_by last x known only = reads_last (λ _. tt) (λ _. x) last (λ _. (known, refl)) only

  -- the end of a line, and a value that is known
  pub ends_with : (x : B) → K x → ((y : B) → K y → x ≡ y) → Rule bad K (line_end >> pure x) (λ _. one LineEnd) (IsFresh bad)
  ends_with = ends_by line_end_rule

-- ---- the steps on lexemes

module _ {bad : Option ℕ} where
  pub dots_rule : Rule bad any dots (λ _. one Dots) anywhere
  dots_rule = step Spells-dots (λ _. Takes-dots bad)

  -- the number that comes next, of which a rule asks something
  pub coming_rule : (P : ℕ → Type 0) (f : ℕ → Parser ℕ) → ((n : ℕ) → P n → n ≤ largest_norm) →
      ((n : ℕ) (i j : Input) (x : ℕ) → n ≤ largest_norm → f n i ≡ Ok (x, j) → P n × ((n ≡ x) × (next i ≡ j)))
      → ((n : ℕ) (i : Input) → P n → f n i ≡ Ok (n, next i)) → Rule bad any (coming_number >>= f) (λ n ls. P n × one (Number n) ls) anywhere
  coming_rule P f small is does =
      step (Spells-coming P f is) (λ n i used rest here e u after. Takes-coming bad n f (small n u.0) (λ k. does n k u.0) i used rest here e u.1 tt)

  pub number_rule : (limit : ℕ) (kind : BadKind) → limit ≤ largest_norm → Rule bad any (digits.number limit kind) (number limit) anywhere
  unfolding digits.number
  number_rule limit kind low =
      coming_rule (λ n. n ≤ limit) (λ n. fault_if (nat_lt limit n) kind >> (skip >> pure n)) (λ n within. omega (arith, within, low))
      (λ n i j x small e. let t = test_failed (nat_lt limit n) kind (skip >> pure n) i j x e in (ltb-false limit n t.0, Ok-same t.1))
      (λ n i within. ap (λ (b : Bool). (fault_if b kind >> (skip >> pure n)) i) (le-ltb limit n within))

  pub exactly_rule : (n : ℕ) → n ≤ largest_norm → Rule bad any (digits.exactly n) (λ _. one (Number n)) anywhere
  exactly_rule n low = step (Spells-exactly n low) (λ _. Takes-exactly bad n low)

-- ---- rules that tell more than the value

-- a value of the first rule, which that of the whole doesn't tell
pub record Split {A B : Type 0} (M : A → Texts) (N : A → B → Texts) (y : B) (ls : List Lexeme) : Type 0 where
  pub item : A
  pub spelled : (M item ▸ N item y) ls

-- this value, and no lexeme
abbrev pub Made : {A : Type 0} → A → A → Texts
Made x y ls = (x ≡ y) × nothing ls

-- a value that is made of one for which the lexemes stand
pub record Image {A B : Type 0} (make : A → B) (L : A → Texts) (y : B) (ls : List Lexeme) : Type 0 where
  pub item : A
  pub value : make item ≡ y
  pub spelled : L item ls

module _ {bad : Option ℕ} {A B : Type 0} where
  pub makes : {p : Parser A} {L : A → Texts} {F : Texts} (make : A → B) → Rule bad any p L F →
      Rule bad any (p >>= (λ x. pure (make x))) (Image make L) F
  makes {p} {L} make r = record {
    sound = λ i j y e.
        let f = first_read p (λ x. pure (make x)) i j y e in
        let both = Ok-same f.second in (
          tt,
          subst (Read (Image make L y) i) both.1
              (Read-mapped (λ ls h. record { item = f.value; value = both.0; spelled = h })
              (r.sound i f.left f.value f.first).1),
        );
    whole = λ y known i used rest here e m after.
        Takes-value bad m.value (Takes-last bad _ (r.whole m.item tt) (λ k. refl)) i used rest here e m.spelled after;
  }

  pub binds : {p : Parser A} {f : A → Parser B} {M : A → Texts} {N : A → B → Texts} {F G : Texts} → Rule bad any p M G →
      ((x : A) → Rule bad any (f x) (N x) F)
      → ((x : A) (y : B) (back rest : List Lexeme) → N x y back → F rest → G (back ++ rest)) → Rule bad any (p >>= f) (Split M N) F
  binds {p} {f} {M} {N} first second between = record {
    sound = λ i j y e.
        let r = first_read p f i j y e in
        let all = Read-joined i r.left j (first.sound i r.left r.value r.first).1 ((second r.value).sound r.left j y r.second).1 in
        (tt, Read-mapped (λ ls h. record { item = r.value; spelled = h }) all);
    whole = λ y known i used rest here e h after. Takes-bind bad f (first.whole h.item tt) ((second h.item).whole y tt)
        (between h.item y) i used rest here e h.spelled after;
  }

module _ {bad : Option ℕ} {A : Type 0} where
  pub result : {F : Texts} (x : A) → Rule bad any (pure x) (Made x) F
  result {F} x = record {
    sound = λ i j y e.
        let both = Ok-same e in (tt, Read-mapped (λ ls none. (both.0, none)) (subst (Read nothing i) both.1 (Read-nothing i)));
    whole = λ y known i used rest here e h after. Takes-value bad h.0 (Takes-pure bad x F) i used rest here e h.1 after;
  }

  -- a rule that does the same
  pub same_rule : {K : A → Type 0} {p q : Parser A} {L : A → Texts} {F : Texts} → ((i : Input) → p i ≡ q i) → Rule bad K q L F → Rule bad K p L F
  same_rule same r = record {
    sound = λ i j x e. r.sound i j x (sym (same i) ∙ e);
    whole = λ x known i used rest here e u after. Taken-same (same i) (r.whole x known i used rest here e u after);
  }

  -- a rule that looks at the cursor first
  pub looks : {Y : Type 0} {K : A → Type 0} {f : Y → Parser A} {L : A → Texts} {F : Texts} (g : Input → Y) → ((y : Y) → Rule bad K (f y) L F) →
      Rule bad K (look g >>= f) L F
  looks g each = record {
    sound = λ i j x e. (each (g i)).sound i j x e;
    whole = λ x known i used rest here e u after. Taken-same refl ((each (g i)).whole x known i used rest here e u after);
  }

  -- a rule that counts its turns by the tokens that are left
  pub counted : {p : ℕ → Parser A} {L : ℕ → A → Texts} {M : A → Texts} {F : Texts} → ((n : ℕ) → Rule bad any (p n) (L n) F) →
      ((n : ℕ) (x : A) (ls : List Lexeme) → L n x ls → M x ls) → ((n : ℕ) (x : A) (ls : List Lexeme) → length ls ≤ n → M x ls → L n x ls)
      → Rule bad any (λ i. p (length i.left) i) M F
  counted each there back = record {
    sound = λ i j x e. (tt, Read-mapped (there (length i.left) x) ((each (length i.left)).sound i j x e).1);
    whole = λ x known i used rest here e u after.
        let n = length i.left in
        let all = ap length e in
        let room : length used ≤ n = omega (arith, all, length-append used rest, length-shown i) in
        Taken-same refl ((each n).whole x tt i used rest here e (back n x used room u) after);
  }

  -- a test that has to fail comes first
  pub unless : {p : Parser A} {L : A → Texts} {F : Texts} (test : Bool → Parser (Unit {0})) (b : Bool) →
      ((i j : Input) (x : A) → (test true >> p) i ≡ Ok (x, j) → ⊥) → ((i : Input) → test false i ≡ Ok (tt, i))
      → Rule bad any p L F → Rule bad any (test b >> p) (λ x ls. (b ≡ false) × L x ls) F
  unless {p} {L} test b fails passed r = record {
    sound = λ i j x e. by b i j x e;
    whole = λ x known i used rest here e u after.
        Taken-same (ap (λ (c : Bool). (test c >> p) i) u.0 ∙ ap (λ o. and_then o (λ _. p)) (passed i)) (r.whole x known i used rest here e u.1 after);
  }
    where
      by : (c : Bool) (i j : Input) (x : A) → (test c >> p) i ≡ Ok (x, j) → any x × Read (λ ls. (c ≡ false) × L x ls) i j
      by true i j x e = absurd (fails i j x e)
      by false i j x e = (tt, Read-mapped (λ ls h. (refl, h)) (r.sound i j x (sym (ap (λ o. and_then o (λ _. p)) (passed i)) ∙ e)).1)
