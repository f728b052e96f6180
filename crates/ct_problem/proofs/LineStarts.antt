-- The words that lines behind the names begin with, in the order of the lines.
--     From r rest          a line of this rank or a later one begins there
--     AfterLines bad r     the same, where lines may be stepped to
--     Leads bad r s M      lexemes of M, before a line from s on, begin with one from r on
use Rattle.ct_problem.proofs.Base.{◌≡◌, ℕ, ◌<◌, ◌≤◌, true, false, cond, List, [], ◌∷◌, ◌++◌, Option, Some, None, refl, sym, ap, ◌∙◌, subst, arith}
use Rattle.ct_problem.proofs.Base.{codes, bytes_eq, append_assoc, Lexeme, Word, Number, Sign, Dots, LineEnd, Texts, nothing, one, ◌▸◌}
use Rattle.ct_problem.proofs.Frame.{shows_word, unequal_words, has_end, IsFresh}

pub data Key : Type 0 where
  Let : Key
  Gen : Key
  Use : Key
  Den : Key
  Target : Key
  Order : Key
  Degree : Key
  End : Key

abbrev pub word_of : Key → List ℕ
word_of Let = codes "let"
word_of Gen = codes "gen"
word_of Use = codes "use"
word_of Den = codes "den"
word_of Target = codes "target"
word_of Order = codes "order"
word_of Degree = codes "degree"
word_of End = codes "end"

abbrev pub rank : Key → ℕ
rank Let = 1
rank Gen = 2
rank Use = 3
rank Den = 4
rank Target = 5
rank Order = 6
rank Degree = 7
rank End = 8

-- the rank of a word; 0 where it begins no such line
abbrev pub rank_of : List ℕ → ℕ
rank_of w =
    cond (bytes_eq w (codes "let")) 1 (cond (bytes_eq w (codes "gen")) 2 (cond (bytes_eq w (codes "use")) 3 (cond (bytes_eq w (codes "den")) 4
    (cond (bytes_eq w (codes "target")) 5
    (cond (bytes_eq w (codes "order")) 6 (cond (bytes_eq w (codes "degree")) 7 (cond (bytes_eq w (codes "end")) 8 0)))))))

pub rank_is : (k : Key) → rank_of (word_of k) ≡ rank k
rank_is Let = refl
rank_is Gen = refl
rank_is Use = refl
rank_is Den = refl
rank_is Target = refl
rank_is Order = refl
rank_is Degree = refl
rank_is End = refl

pub record From (r : ℕ) (rest : List Lexeme) : Type 0 where
  pub key : Key
  pub low : r ≤ rank key
  pub back : List Lexeme
  pub parts : rest ≡ Word (word_of key) ∷ back

-- no line of a lower rank begins there
pub other_word : (w : List ℕ) (r : ℕ) (rest : List Lexeme) → rank_of w < r → From r rest → shows_word w rest ≡ false
other_word w r rest below f =
    let low = f.low in
    let differ = unequal_words (word_of f.key) w (λ same. let ranks : rank f.key ≡ rank_of w = sym (rank_is f.key) ∙ ap rank_of same in
    omega (arith, ranks, low, below)) in
    ap (shows_word w) f.parts ∙ differ

pub From-lower : (r s : ℕ) (rest : List Lexeme) → r ≤ s → From s rest → From r rest
From-lower r s rest below f = let low = f.low in record { key = f.key; low = omega (arith, low, below); back = f.back; parts = f.parts }

-- ---- the ends of lines

end_before : (xs ys : List Lexeme) → has_end ys ≡ true → has_end (xs ++ ys) ≡ true
end_before [] ys h = h
end_before (LineEnd ∷ xs) ys h = refl
end_before (Word w ∷ xs) ys h = end_before xs ys h
end_before (Number n ∷ xs) ys h = end_before xs ys h
end_before (Sign s ∷ xs) ys h = end_before xs ys h
end_before (Dots ∷ xs) ys h = end_before xs ys h

pub fresh_before : (bad : Option ℕ) (xs ys : List Lexeme) → IsFresh bad ys → IsFresh bad (xs ++ ys)
fresh_before None xs ys h = tt
fresh_before (Some at) xs ys h = end_before xs ys h

pub record AfterLines (bad : Option ℕ) (r : ℕ) (rest : List Lexeme) : Type 0 where
  pub from : From r rest
  pub fresh : IsFresh bad rest

abbrev pub Leads : Option ℕ → ℕ → ℕ → Texts → Type 0
Leads bad r s M = (back rest : List Lexeme) → M back → AfterLines bad s rest → AfterLines bad r (back ++ rest)

module _ (bad : Option ℕ) where
  pub leads_nothing : (r s : ℕ) → r ≤ s → Leads bad r s nothing
  leads_nothing r s below back rest none a =
      subst (λ (ls : List Lexeme). AfterLines bad r (ls ++ rest)) (sym none) (record { from = From-lower r s rest below a.from; fresh = a.fresh })

  pub leads_key : (k : Key) (r s : ℕ) (b : Texts) → r ≤ rank k → Leads bad r s (one (Word (word_of k)) ▸ b)
  leads_key k r s b low back rest h a = record {
    from = record { key = k; low = low; back = h.back ++ rest; parts = ap (λ xs. xs ++ rest) (h.parts ∙ ap (λ xs. xs ++ h.back) h.first) };
    fresh = fresh_before bad back rest a.fresh;
  }

  pub leads_join : (r m s : ℕ) (a b : Texts) → Leads bad r m a → Leads bad m s b → Leads bad r s (a ▸ b)
  leads_join r m s a b first second back rest h after =
      subst (AfterLines bad r) (sym (ap (λ ls. ls ++ rest) h.parts ∙ append_assoc h.front h.back rest))
      (first h.front (h.back ++ rest) h.first (second h.back rest h.second after))
