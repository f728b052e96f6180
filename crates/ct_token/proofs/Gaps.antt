-- What a piece is that is no token: a gap, or a byte that can begin neither. Main lemmas `gap_is` and `bad_is`, by the tests of
-- `piece_of` in their order.
use Rattle.std.proofs.Common.{◌≡◌, inl, inr, ℕ, ◌<◌, ◌≤◌, ◌==◌, ◌&&◌, Bool, true, false, not, cond, List, [], ◌∷◌, length, take, drop, refl, sym, ap}
use Rattle.std.proofs.Common.{◌∙◌, subst, arith, rules, tests}
use Rattle.std.specs.List.{prefix_len, take_while}
use Rattle.std.proofs.lemmas.List.Sums.{prefix_len-le-length}
use Rattle.std.proofs.lemmas.Bool.{false≢true}
use Rattle.ct_token.specs.Lexical as lexical
use Rattle.ct_token.specs.Lexical.{Piece, Bad, is_blank, is_letter, is_digit, is_word_byte, is_printable, is_inside_line, line_end_len, starts_dots}
use Rattle.ct_token.specs.Lexical.{comment_len, piece_of}
use Rattle.ct_token.specs.declared.token.Symbol.{Symbol}
use Rattle.ct_token.specs.declared.token.Symbol.TheVariants.{Word, Number, Sign, Dots, LineEnd}
use Rattle.ct_token.specs.Lexing.{Stops}
use Rattle.ct_token.specs.Cutting.{IsGap, CannotBegin, begins_gap}
use Rattle.ct_token.proofs.Spellings.{line_end_is, front_passes, front_stops, front_length}

pub record IsGapPiece (fresh : Bool) (n : ℕ) (bs : List ℕ) : Type 0 where
  pub some : 0 < n
  pub within : n ≤ length bs
  pub gap : IsGap fresh (take n bs) (drop n bs)

blank_is : (fresh : Bool) (b : ℕ) (bs : List ℕ) → is_blank b ≡ true → IsGapPiece fresh 1 (b ∷ bs)
blank_is fresh b bs e = record { some = omega arith; within = omega arith; gap = inl (b, refl, e) }

comment_is : (b : ℕ) (bs : List ℕ) → b ≡ 35 → IsGapPiece true (comment_len (b ∷ bs)) (b ∷ bs)
comment_is b bs e =
    let inside : is_inside_line b ≡ true = rw e refl in
    rw (front_length is_inside_line b bs inside) (record {
      some = omega arith;
      within = omega (arith, prefix_len-le-length is_inside_line bs);
      gap = inr (
        refl,
        inr (record {
          text = take (prefix_len is_inside_line bs) bs;
          begins = rw e refl;
          inside = rw inside (front_passes is_inside_line bs);
          whole = front_stops is_inside_line bs;
        }),
      );
    })

blank_line_is : (b : ℕ) (bs : List ℕ) → not (line_end_len (b ∷ bs) == 0) ≡ true → IsGapPiece true (line_end_len (b ∷ bs)) (b ∷ bs)
blank_line_is b bs e =
    let piece = line_end_is b bs e in
    record { some = piece.some; within = piece.within; gap = inr (refl, inl piece.spelled) }

-- the same piece, by another length
renamed : (fresh : Bool) (n m : ℕ) (bs : List ℕ) → lexical.Gap n ≡ lexical.Gap m → IsGapPiece fresh n bs → IsGapPiece fresh m bs
renamed fresh n m bs e piece = let long : n ≡ m = cc in subst (λ (k : ℕ). IsGapPiece fresh k bs) long piece

pub gap_is : (fresh : Bool) (b : ℕ) (bs : List ℕ) (n : ℕ) → piece_of fresh (b ∷ bs) ≡ lexical.Gap n → IsGapPiece fresh n (b ∷ bs)
unfolding piece_of
gap_is fresh b bs n e = by fresh (is_blank b) (b == 35) (not (line_end_len (b ∷ bs) == 0)) (is_letter b) (is_digit b) (starts_dots (b ∷ bs))
    (is_printable b) refl refl refl e
  where
    by : (fresh blank hash ends letter digit dots printable : Bool)
        → is_blank b ≡ blank → (b == 35) ≡ hash → not (line_end_len (b ∷ bs) == 0) ≡ ends
        → cond blank (lexical.Gap 1)
        (cond (fresh && hash) (lexical.Gap (comment_len (b ∷ bs)))
        (cond ends (cond fresh (lexical.Gap (line_end_len (b ∷ bs))) (lexical.Lexeme LineEnd (line_end_len (b ∷ bs))))
        (cond letter (lexical.Lexeme Word (length (take_while is_word_byte (b ∷ bs))))
        (cond digit (lexical.Lexeme Number (length (take_while is_digit (b ∷ bs))))
        (cond dots (lexical.Lexeme Dots 2)
        (cond printable (lexical.Lexeme (Sign b) 1) Bad)))))) ≡ lexical.Gap n
        → IsGapPiece fresh n (b ∷ bs)
    by fresh true hash ends letter digit dots printable e1 e2 e3 h = renamed _ _ _ _ h (blank_is fresh b bs e1)
    by true false true ends letter digit dots printable e1 e2 e3 h =
        let here : b ≡ 35 = first_of (search (rules, tests), grind (arith, tests)) in renamed _ _ _ _ h (comment_is b bs here)
    by true false false true letter digit dots printable e1 e2 e3 h = renamed _ _ _ _ h (blank_line_is b bs e3)
    by false false hash true letter digit dots printable e1 e2 e3 h = cc
    by true false false false true digit dots printable e1 e2 e3 h = cc
    by true false false false false true dots printable e1 e2 e3 h = cc
    by true false false false false false true printable e1 e2 e3 h = cc
    by true false false false false false false true e1 e2 e3 h = cc
    by true false false false false false false false e1 e2 e3 h = cc
    by false false hash false true digit dots printable e1 e2 e3 h = cc
    by false false hash false false true dots printable e1 e2 e3 h = cc
    by false false hash false false false true printable e1 e2 e3 h = cc
    by false false hash false false false false true e1 e2 e3 h = cc
    by false false hash false false false false false e1 e2 e3 h = cc

-- a line end and `#` are tokens only behind another one
pub no_gap_begins : (b : ℕ) (bs : List ℕ) (symbol : Symbol) (n : ℕ) → piece_of true (b ∷ bs) ≡ lexical.Lexeme symbol n → begins_gap symbol ≡ false
unfolding piece_of
no_gap_begins b bs symbol n e = by (is_blank b) (b == 35) (not (line_end_len (b ∷ bs) == 0)) (is_letter b) (is_digit b) (starts_dots (b ∷ bs))
    (is_printable b) refl e
  where
    by : (blank hash ends letter digit dots printable : Bool)
        → (b == 35) ≡ hash
        → cond blank (lexical.Gap 1)
        (cond hash (lexical.Gap (comment_len (b ∷ bs)))
        (cond ends (lexical.Gap (line_end_len (b ∷ bs)))
        (cond letter (lexical.Lexeme Word (length (take_while is_word_byte (b ∷ bs))))
        (cond digit (lexical.Lexeme Number (length (take_while is_digit (b ∷ bs))))
        (cond dots (lexical.Lexeme Dots 2)
        (cond printable (lexical.Lexeme (Sign b) 1) Bad)))))) ≡ lexical.Lexeme symbol n
        → begins_gap symbol ≡ false
    by true hash ends letter digit dots printable is h = cc
    by false true ends letter digit dots printable is h = cc
    by false false true letter digit dots printable is h = cc
    by false false false true digit dots printable is h = let same : Word ≡ symbol = cc in ap begins_gap (sym same)
    by false false false false true dots printable is h = let same : Number ≡ symbol = cc in ap begins_gap (sym same)
    by false false false false false true printable is h = let same : Dots ≡ symbol = cc in ap begins_gap (sym same)
    by false false false false false false true is h = let same : Sign b ≡ symbol = cc in ap begins_gap (sym same) ∙ is
    by false false false false false false false is h = cc

-- a byte with which no line ends
no_end : (b : ℕ) (bs : List ℕ) → not (line_end_len (b ∷ bs) == 0) ≡ false → ((b == 10) ≡ false) × (b ≡ 13 → Stops (λ c. c == 10) bs)
no_end b [] e = by (b == 10) refl e
  where
    by : (feed : Bool) → (b == 10) ≡ feed → not (cond feed 1 0 == 0) ≡ false → ((b == 10) ≡ false) × (b ≡ 13 → Stops (λ c. c == 10) [])
    by true f h = cc
    by false f h = (f, λ _. tt)
no_end b (c ∷ bs) e = by (b == 10) refl (c == 10) refl e
  where
    by : (feed : Bool) → (b == 10) ≡ feed → (second : Bool) → (c == 10) ≡ second → not (cond feed 1 (cond (b == 13 && second) 2 0) == 0) ≡ false
        → ((b == 10) ≡ false) × (b ≡ 13 → Stops (λ c. c == 10) (c ∷ bs))
    by true f second g h = cc
    by false f false g h = (f, λ _. g)
    by false f true g h = (f, λ thirteen. absurd (false≢true (sym (rw thirteen at h))))

pub bad_is : (fresh : Bool) (b : ℕ) (bs : List ℕ) → piece_of fresh (b ∷ bs) ≡ Bad → CannotBegin b bs
unfolding piece_of
bad_is fresh b bs e = by fresh (is_blank b) (b == 35) (not (line_end_len (b ∷ bs) == 0)) (is_letter b) (is_digit b) (starts_dots (b ∷ bs))
    (is_printable b) refl refl refl e
  where
    by : (fresh blank hash ends letter digit dots printable : Bool)
        → is_blank b ≡ blank → not (line_end_len (b ∷ bs) == 0) ≡ ends → is_printable b ≡ printable
        → cond blank (lexical.Gap 1)
        (cond (fresh && hash) (lexical.Gap (comment_len (b ∷ bs)))
        (cond ends (cond fresh (lexical.Gap (line_end_len (b ∷ bs))) (lexical.Lexeme LineEnd (line_end_len (b ∷ bs))))
        (cond letter (lexical.Lexeme Word (length (take_while is_word_byte (b ∷ bs))))
        (cond digit (lexical.Lexeme Number (length (take_while is_digit (b ∷ bs))))
        (cond dots (lexical.Lexeme Dots 2)
        (cond printable (lexical.Lexeme (Sign b) 1) Bad)))))) ≡ Bad
        → CannotBegin b bs
    by fresh false hash false false false false false e1 e2 e3 h =
        let ends = no_end b bs e2 in
        record { no_blank = e1; not_printable = e3; no_line_feed = ends.0; no_return = ends.1 }
    by fresh true hash ends letter digit dots printable e1 e2 e3 h = cc
    by true false true ends letter digit dots printable e1 e2 e3 h = cc
    by true false false true letter digit dots printable e1 e2 e3 h = cc
    by false false hash true letter digit dots printable e1 e2 e3 h = cc
    by true false false false true digit dots printable e1 e2 e3 h = cc
    by true false false false false true dots printable e1 e2 e3 h = cc
    by true false false false false false true printable e1 e2 e3 h = cc
    by true false false false false false false true e1 e2 e3 h = cc
    by false false hash false true digit dots printable e1 e2 e3 h = cc
    by false false hash false false true dots printable e1 e2 e3 h = cc
    by false false hash false false false true printable e1 e2 e3 h = cc
    by false false hash false false false false true e1 e2 e3 h = cc
