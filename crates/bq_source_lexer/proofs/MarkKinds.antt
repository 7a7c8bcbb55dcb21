-- The operators are those of the tables.
use Rattle.std.proofs.Common.{◌≡◌, ℕ, zero, suc, ◌⊎◌, inl, inr, List, [], ◌∷◌, ◌++◌, Some, refl, sym, ap, ◌∙◌}
use Rattle.std.specs.Prelude.{map, option_map}
use Rattle.bq_source.specs.declared.token.TokenKind.{TokenKind}
use Rattle.bq_source.specs.declared.operators.Lexeme.{Lexeme}
use Rattle.bq_source.specs.Operators.{operators, kind_of}
use Rattle.bq_source.specs.Spelling.{IsListed}
use Rattle.bq_source_lexer.specs.Tables.{IsRow, IsMarkOf, bracket_table, mark_table}
use Rattle.bq_source_lexer.proofs.Rows.{nth, nth_row}

abbrev kinded : List ℕ × Lexeme → List ℕ × TokenKind
kinded e = (e.0, kind_of e.1)

abbrev all_marks : List (List ℕ × TokenKind)
all_marks = bracket_table ++ mark_table

-- where each operator stands in the tables, and each line of the tables among the operators
abbrev places : List ℕ
places = 20 ∷ 0 ∷ 1 ∷ 28 ∷ 21 ∷ 2 ∷ 3 ∷ 23 ∷ 19 ∷ 4 ∷ 5 ∷ 30 ∷ 6 ∷ 35 ∷ 11 ∷ 31 ∷ 7 ∷ 12 ∷ 32 ∷ 8 ∷ 34 ∷ 10 ∷ 33 ∷ 9 ∷ 39 ∷ 17 ∷ 27 ∷ 24 ∷ 40 ∷ 18 ∷ 26 ∷ 25 ∷ 29 ∷ 37 ∷ 15 ∷ 36 ∷ 14 ∷ 38 ∷ 16 ∷ 13 ∷ 22 ∷ []

abbrev back : List ℕ
back = 1 ∷ 2 ∷ 5 ∷ 6 ∷ 9 ∷ 10 ∷ 12 ∷ 16 ∷ 19 ∷ 23 ∷ 21 ∷ 14 ∷ 17 ∷ 39 ∷ 36 ∷ 34 ∷ 38 ∷ 25 ∷ 29 ∷ 8 ∷ 0 ∷ 4 ∷ 40 ∷ 7 ∷ 27 ∷ 31 ∷ 30 ∷ 26 ∷ 3 ∷ 32 ∷ 11 ∷ 15 ∷ 18 ∷ 22 ∷ 20 ∷ 13 ∷ 35 ∷ 33 ∷ 37 ∷ 24 ∷ 28 ∷ []

all_there : map (λ e. Some (kinded e)) operators ≡ map (nth all_marks) places
all_there = refl

all_back : map Some all_marks ≡ map (λ n. option_map kinded (nth operators n)) back
all_back = refl

placed : (lexeme : Lexeme) (bs : List ℕ) (es : List (List ℕ × Lexeme)) (ns : List ℕ) → map (λ e. Some (kinded e)) es ≡ map (nth all_marks) ns → IsListed lexeme bs es
    → IsRow bs (kind_of lexeme) all_marks
placed lexeme bs [] ns h i = absurd i
placed lexeme bs (e ∷ es) [] h i = cc
placed lexeme bs (e ∷ es) (n ∷ ns) h (inl same) =
    let first : Some (kinded e) ≡ nth all_marks n = cc in
    nth_row bs (kind_of lexeme) all_marks n (sym first ∙ ap (λ x. Some (kinded x)) same)
placed lexeme bs (e ∷ es) (n ∷ ns) h (inr i) = let rest : map (λ x. Some (kinded x)) es ≡ map (nth all_marks) ns = cc in placed lexeme bs es ns rest i

apart : {A B : Type 0} (a : A) (b : B) (xs ys : List (A × B)) → IsRow a b (xs ++ ys) → IsRow a b xs ⊎ IsRow a b ys
apart a b [] ys i = inr i
apart a b (x ∷ xs) ys (inl e) = inl (inl e)
apart a b (x ∷ xs) ys (inr i) = elim (apart a b xs ys i) [ inl j ↦ inl (inr j) | inr j ↦ inr j ]

in_left : {A B : Type 0} (a : A) (b : B) (xs ys : List (A × B)) → IsRow a b xs → IsRow a b (xs ++ ys)
in_left a b [] ys i = absurd i
in_left a b (x ∷ xs) ys (inl e) = inl e
in_left a b (x ∷ xs) ys (inr i) = inr (in_left a b xs ys i)

in_right : {A B : Type 0} (a : A) (b : B) (xs ys : List (A × B)) → IsRow a b ys → IsRow a b (xs ++ ys)
in_right a b [] ys i = i
in_right a b (x ∷ xs) ys i = inr (in_right a b xs ys i)

pub found : (lexeme : Lexeme) (bs : List ℕ) → IsListed lexeme bs operators → IsMarkOf bs (kind_of lexeme)
found lexeme bs i = apart bs (kind_of lexeme) bracket_table mark_table (placed lexeme bs operators places all_there i)

abbrev Listed : TokenKind → List ℕ → Type 0
Listed kind bs = (lexeme : Lexeme) × IsListed lexeme bs operators × (kind_of lexeme ≡ kind)

-- the operator at a place
listed_at : (es : List (List ℕ × Lexeme)) (n : ℕ) (bs : List ℕ) (kind : TokenKind) → Some (bs, kind) ≡ option_map kinded (nth es n)
    → (lexeme : Lexeme) × IsListed lexeme bs es × (kind_of lexeme ≡ kind)
listed_at [] n bs kind h = cc
listed_at (e ∷ es) zero bs kind h =
    let same : (bs, kind) ≡ kinded e = cc in
    (e.1, inl (λ i. (sym (ap (λ p. p.0) same) i, e.1)), sym (ap (λ p. p.1) same))
listed_at (e ∷ es) (suc n) bs kind h = let r = listed_at es n bs kind h in (r.0, inr r.1, r.2)

listed : (kind : TokenKind) (bs : List ℕ) (rows : List (List ℕ × TokenKind)) (ns : List ℕ) → map Some rows ≡ map (λ n. option_map kinded (nth operators n)) ns → IsRow bs kind rows → Listed kind bs
listed kind bs [] ns h i = absurd i
listed kind bs (r ∷ rs) [] h i = cc
listed kind bs (r ∷ rs) (n ∷ ns) h (inl same) =
    let first : Some r ≡ option_map kinded (nth operators n) = cc in
    listed_at operators n bs kind (ap Some (sym same) ∙ first)
listed kind bs (r ∷ rs) (n ∷ ns) h (inr i) = let rest : map Some rs ≡ map (λ m. option_map kinded (nth operators m)) ns = cc in listed kind bs rs ns rest i

pub complete : (kind : TokenKind) (bs : List ℕ) → IsMarkOf bs kind → (lexeme : Lexeme) × IsListed lexeme bs operators × (kind_of lexeme ≡ kind)
complete kind bs (inl i) = listed kind bs all_marks back all_back (in_left bs kind bracket_table mark_table i)
complete kind bs (inr i) = listed kind bs all_marks back all_back (in_right bs kind bracket_table mark_table i)
