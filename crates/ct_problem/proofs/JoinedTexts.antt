-- Lists of one set followed by lists of another: grouping, and parts that are empty or replaced.
use Rattle.ct_problem.proofs.Base.{List, [], ◌++◌, refl, sym, ap, ◌∙◌, subst, append_assoc, append-nil, Lexeme, Texts, nothing, ◌▸◌}

pub joined : {a b : Texts} (xs ys : List Lexeme) → a xs → b ys → (a ▸ b) (xs ++ ys)
joined xs ys first second = record { front = xs; back = ys; parts = refl; first = first; second = second }

pub joined_to_left : {a b c : Texts} {ls : List Lexeme} → (a ▸ (b ▸ c)) ls → (a ▸ b ▸ c) ls
joined_to_left h = record {
  front = h.front ++ h.second.front;
  back = h.second.back;
  parts = h.parts ∙ ap (λ ys. h.front ++ ys) h.second.parts ∙ sym (append_assoc h.front h.second.front h.second.back);
  first = record { front = h.front; back = h.second.front; parts = refl; first = h.first; second = h.second.first };
  second = h.second.second;
}

pub joined_to_right : {a b c : Texts} {ls : List Lexeme} → (a ▸ b ▸ c) ls → (a ▸ (b ▸ c)) ls
joined_to_right h = record {
  front = h.first.front;
  back = h.first.back ++ h.back;
  parts = h.parts ∙ ap (λ xs. xs ++ h.back) h.first.parts ∙ append_assoc h.first.front h.first.back h.back;
  first = h.first.first;
  second = record { front = h.first.back; back = h.back; parts = refl; first = h.first.second; second = h.second };
}

pub joined_nothing : {a : Texts} {ls : List Lexeme} → (a ▸ nothing) ls → a ls
joined_nothing {a} h = subst a (sym (h.parts ∙ ap (λ ys. h.front ++ ys) h.second ∙ append-nil h.front)) h.first

pub nothing_joined : {a : Texts} {ls : List Lexeme} → (nothing ▸ a) ls → a ls
nothing_joined {a} h = subst a (sym (h.parts ∙ ap (λ xs. xs ++ h.back) h.first)) h.second

pub to_nothing : {a : Texts} {ls : List Lexeme} → a ls → (a ▸ nothing) ls
to_nothing {ls} h = record { front = ls; back = []; parts = sym (append-nil ls); first = h; second = refl }

pub on_first : {a b c : Texts} {ls : List Lexeme} → ((xs : List Lexeme) → a xs → b xs) → (a ▸ c) ls → (b ▸ c) ls
on_first f h = record { front = h.front; back = h.back; parts = h.parts; first = f h.front h.first; second = h.second }

pub on_second : {a b c : Texts} {ls : List Lexeme} → ((xs : List Lexeme) → b xs → c xs) → (a ▸ b) ls → (a ▸ c) ls
on_second f h = record { front = h.front; back = h.back; parts = h.parts; first = h.first; second = f h.back h.second }

pub replaced : {a b c : Texts} {ls : List Lexeme} (h : (a ▸ b) ls) → c h.back → (a ▸ c) ls
replaced h second = record { front = h.front; back = h.back; parts = h.parts; first = h.first; second = second }

pub replaced_both : {a b c d : Texts} {ls : List Lexeme} (h : (a ▸ b) ls) → c h.front → d h.back → (c ▸ d) ls
replaced_both h first second = record { front = h.front; back = h.back; parts = h.parts; first = first; second = second }

pub from_nothing : {a : Texts} {ls : List Lexeme} → a ls → (nothing ▸ a) ls
from_nothing {ls} h = record { front = []; back = ls; parts = refl; first = refl; second = h }
