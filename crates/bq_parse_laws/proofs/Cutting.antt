-- How a file is cut into statements.
use Rattle.std.proofs.Common.{◌≡◌, ◌≢◌, ℕ, zero, suc, ◌⊎◌, inl, inr, Bool, true, false, ◌&&◌, cond, List, [], ◌∷◌, ◌++◌, refl, sym, ap, ◌∙◌, subst, append_assoc, append-nil, arith}
use Rattle.bq_source.specs.declared.token.TokenKind.{TokenKind}
use Rattle.bq_source.specs.declared.token.TokenKind.TheVariants as k
use Rattle.bq_parse_grammar.specs.Lexeme.{Lexeme}
use Rattle.bq_parse_grammar.specs.Pieces.{ends_line, indents_after, begins_statement, is_zero, onto, cut, pieces}
use Rattle.bq_parse_laws.specs.Pieces as P
use Rattle.bq_parse_laws.specs.Pieces.{joined, with_indent, open_indents, EndsLine, BeginsStatement, first, at_margin, NoneBegins, AreStatements}

-- ---- the pieces in a row are the tokens

joined_onto : (t : Lexeme) (ps : List (List Lexeme)) → joined (onto t ps) ≡ t ∷ joined ps
joined_onto t [] = refl
joined_onto t (p ∷ ps) = refl

joined_if : (b : Bool) (ps : List (List Lexeme)) → joined (cond b ([] ∷ ps) ps) ≡ joined ps
joined_if true ps = refl
joined_if false ps = refl

joined_cut : (line : Bool) (n : ℕ) (ts : List Lexeme) → joined (cut line n ts) ≡ ts
joined_cut line n [] = refl
joined_cut line n (t ∷ ts) = joined_if (line && (is_zero n && begins_statement t.kind)) (onto t (cut (ends_line t.kind) (indents_after t.kind n) ts))
    ∙ joined_onto t (cut (ends_line t.kind) (indents_after t.kind n) ts) ∙ ap (λ us. t ∷ us) (joined_cut (ends_line t.kind) (indents_after t.kind n) ts)

pub pieces_joined : (ts : List Lexeme) → joined (pieces ts) ≡ ts
pieces_joined [] = refl
pieces_joined (t ∷ ts) = joined_cut false 0 (t ∷ ts)

-- ---- where a statement begins

-- whether the tokens end a line, and how many indents they leave open
abbrev last_ends : Bool → List Lexeme → Bool
last_ends b [] = b
last_ends b (t ∷ ts) = last_ends (ends_line t.kind) ts

last_more : (b : Bool) (ts : List Lexeme) (t : Lexeme) → last_ends b (ts ++ t ∷ []) ≡ ends_line t.kind
last_more b [] t = refl
last_more b (u ∷ us) t = last_more (ends_line u.kind) us t

indent_same : (q : TokenKind) (n : ℕ) → with_indent q n ≡ indents_after q n
indent_same k.Indent n = omega arith
indent_same k.Outdent n = refl
indent_same _ n = refl

open_more : (n : ℕ) (ts : List Lexeme) (t : Lexeme) → open_indents n (ts ++ t ∷ []) ≡ indents_after t.kind (open_indents n ts)
open_more n [] t = indent_same t.kind n
open_more n (u ∷ us) t = open_more (with_indent u.kind n) us t

kind_ends : (q : TokenKind) → ends_line q ≡ true → (q ≡ k.Newline) ⊎ (q ≡ k.Outdent)
kind_ends k.Newline h = inl refl
kind_ends k.Outdent h = inr refl
kind_ends _ h = absurd (cc)

line_ends : (u : Lexeme) (us : List Lexeme) → last_ends false (u ∷ us) ≡ true → EndsLine (u ∷ us)
line_ends u [] i = P.ends_line [] u refl (kind_ends u.kind i)
line_ends u (v ∷ vs) i = on (line_ends v vs i)
  where
    on : EndsLine (v ∷ vs) → EndsLine (u ∷ v ∷ vs)
    on (P.ends_line ws w e f) = P.ends_line (u ∷ ws) w (ap (λ ys. u ∷ ys) e) f

ends_line_of : (q : TokenKind) → (q ≡ k.Newline) ⊎ (q ≡ k.Outdent) → ends_line q ≡ true
ends_line_of q (inl f) = ap ends_line f
ends_line_of q (inr f) = ap ends_line f

ends_back : (before : List Lexeme) → EndsLine before → last_ends false before ≡ true
ends_back before (P.ends_line ts t e f) = ap (last_ends false) e ∙ last_more false ts t ∙ ends_line_of t.kind f

zero_is : (n : ℕ) → is_zero n ≡ true → n ≡ 0
zero_is zero h = refl
zero_is (suc n) h = absurd (cc)

no_indent : (q : TokenKind) → begins_statement q ≡ true → q ≢ k.Indent
no_indent q h e = let w = sym h ∙ ap begins_statement e in absurd (cc)

no_elif : (q : TokenKind) → begins_statement q ≡ true → q ≢ k.Elif
no_elif q h e = let w = sym h ∙ ap begins_statement e in absurd (cc)

no_else : (q : TokenKind) → begins_statement q ≡ true → q ≢ k.Else
no_else q h e = let w = sym h ∙ ap begins_statement e in absurd (cc)

begins_by : (q : TokenKind) → q ≢ k.Indent → q ≢ k.Elif → q ≢ k.Else → begins_statement q ≡ true
begins_by k.Indent f g h = absurd (f refl)
begins_by k.Elif f g h = absurd (g refl)
begins_by k.Else f g h = absurd (h refl)
begins_by _ f g h = refl

three_on : (a b c : Bool) → (a && (b && c)) ≡ true → (a ≡ true) × (b ≡ true) × (c ≡ true)
three_on true true true h = (refl, refl, refl)
three_on true true false h = absurd (cc)
three_on true false c h = absurd (cc)
three_on false b c h = absurd (cc)

abbrev starts : List Lexeme → Lexeme → Bool
starts before t = last_ends false before && (is_zero (open_indents 0 before) && begins_statement t.kind)

start_is : (u : Lexeme) (us : List Lexeme) (t : Lexeme) → starts (u ∷ us) t ≡ true → BeginsStatement (u ∷ us) t
start_is u us t h = let w = three_on (last_ends false (u ∷ us)) (is_zero (open_indents 0 (u ∷ us))) (begins_statement t.kind) h in
    at_margin (line_ends u us w.0) (zero_is (open_indents 0 (u ∷ us)) w.1) (no_indent t.kind w.2) (no_elif t.kind w.2) (no_else t.kind w.2)

is_start : (u : Lexeme) (us : List Lexeme) (t : Lexeme) → starts (u ∷ us) t ≡ false → BeginsStatement (u ∷ us) t → ⊥
is_start u us t h (first e) = absurd (cc)
is_start u us t h (at_margin a b f g i) = let w = sym h ∙ ap (λ x. x && (is_zero (open_indents 0 (u ∷ us)) && begins_statement t.kind)) (ends_back (u ∷ us) a)
    ∙ ap (λ n. is_zero n && begins_statement t.kind) b ∙ begins_by t.kind f g i in absurd (cc)

-- what the rest of a statement and the further ones are
abbrev CutsAs : List Lexeme → List (List Lexeme) → Type 0
CutsAs before [] = ⊥
CutsAs before (p ∷ ps) = NoneBegins before p × AreStatements (before ++ p) ps

cut_as : (u : Lexeme) (us ts : List Lexeme) (line : Bool) (n : ℕ) → line ≡ last_ends false (u ∷ us) → n ≡ open_indents 0 (u ∷ us) → CutsAs (u ∷ us) (cut line n ts)
cut_as u us [] line n e f = (tt, tt)
cut_as u us (t ∷ ts) line n e f =
    go (cut (ends_line t.kind) (indents_after t.kind n) ts)
    (cut_as u (us ++ t ∷ []) ts (ends_line t.kind) (indents_after t.kind n) (sym (last_more false (u ∷ us) t)) (ap (indents_after t.kind) f ∙ sym (open_more 0 (u ∷ us) t)))
    (line && (is_zero n && begins_statement t.kind)) (ap (λ b. b && (is_zero n && begins_statement t.kind)) e ∙ ap (λ m. last_ends false (u ∷ us) && (is_zero m && begins_statement t.kind)) f)
  where
    moved : (p : List Lexeme) (ps : List (List Lexeme)) → AreStatements ((u ∷ us ++ t ∷ []) ++ p) ps → AreStatements ((u ∷ us) ++ t ∷ p) ps
    moved p ps h = subst (λ b. AreStatements b ps) (append_assoc (u ∷ us) (t ∷ []) p) h

    go : (c : List (List Lexeme)) → CutsAs (u ∷ us ++ t ∷ []) c → (b : Bool) → b ≡ starts (u ∷ us) t → CutsAs (u ∷ us) (cond b ([] ∷ onto t c) (onto t c))
    go [] h b g = absurd h
    go (p ∷ ps) h false g = ((is_start u us t (sym g), h.0), moved p ps h.1)
    go (p ∷ ps) h true g = (tt, subst (λ b. AreStatements b ((t ∷ p) ∷ ps)) (sym (append-nil (u ∷ us))) (start_is u us t (sym g), h.0, moved p ps h.1))

begin_as : (t : Lexeme) (c : List (List Lexeme)) → CutsAs (t ∷ []) c → AreStatements [] (onto t c)
begin_as t [] h = absurd h
begin_as t (p ∷ ps) h = (first refl, h.0, h.1)

pub pieces_begin : (ts : List Lexeme) → AreStatements [] (pieces ts)
pieces_begin [] = tt
pieces_begin (t ∷ ts) = begin_as t (cut (ends_line t.kind) (indents_after t.kind 0) ts) (cut_as t [] ts (ends_line t.kind) (indents_after t.kind 0) refl (sym (indent_same t.kind 0)))
