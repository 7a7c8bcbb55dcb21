-- The tokens of a text are parts of it, and what they are read as is what the grammar has.
use Rattle.std.proofs.Common.{◌≡◌, ℕ, ◌+◌, ◌<◌, ◌≤◌, List, [], ◌∷◌, length, drop, refl, sym, ap, ◌∙◌, subst, arith, length-drop, All}
use Rattle.std.specs.Prelude.{Option, Some, None}
use Rattle.std.proofs.lemmas.List.Elements.{All-nil, All-cons}
use Rattle.bq_query_lex.specs.declared.token.QueryTokenKind.{QueryTokenKind}
use Rattle.bq_query_lex.specs.declared.token.QueryToken.{QueryToken}
use Rattle.bq_query_lex.specs.Reading.{Reads, ended, blank, token, unknown, before, IsWithin}
use Rattle.bq_query_lex.proofs.Within.{within}
use Rattle.bq_query_lex.proofs.Unique.{unique}
use Rattle.bq_query_parse.specs.Lexeme.{Lexeme, lexemes}
use Rattle.bq_query_parse.specs.declared.tree.Query.{Query}
use Rattle.bq_query_parse.specs.Turns as turns
use Rattle.bq_query_parse.specs.Reading.{query_to}
use Rattle.bq_query_parse.proofs.Queries.{sound, complete}
use Rattle.bq_query_parse.specs.Tokens.{IsInText, kind_ahead}
use Rattle.bq_query_parse.specs.Parses.{IsQuery, whole, whole_query}

-- ---- tokens are parts of the text

abbrev AreIn : List ℕ → Option (List QueryToken) → Type 0
AreIn text None = Unit {0}
AreIn text (Some ts) = All (IsInText text) ts

one_in : (text : List ℕ) (kind : QueryTokenKind) (start n : ℕ) (more : Option (List QueryToken)) → start + n ≤ length text → AreIn text more → AreIn text (before kind start n more)
one_in text kind start n None l h = tt
one_in text kind start n (Some ts) l h = All-cons (IsInText text) (record { kind = kind; start = start; end = start + n }) ts (omega arith, l) h

pub are_in : (text piece : List ℕ) (start : ℕ) (r : Option (List QueryToken)) → start + length piece ≡ length text → Reads piece start r → AreIn text r
are_in text piece start r l (ended e) = All-nil (IsInText text)
are_in text piece start r l (blank e h) =
    let w : 0 < length piece = subst (λ p. IsWithin p (length piece)) e (within piece) in
    are_in text (drop 1 piece) (start + 1) r (omega (arith, l, w, length-drop 1 piece)) h
are_in text piece start r l (token {n = n} {kind = kind} {more = more} e h f) =
    let w : (0 < n) × (n ≤ length piece) = subst (λ p. IsWithin p (length piece)) e (within piece) in
    let further = are_in text (drop n piece) (start + n) more (omega (arith, l, w.1, length-drop n piece)) h in
    subst (AreIn text) (sym f) (one_in text kind start n more (omega (arith, l, w.1)) further)
are_in text piece start r l (unknown e) = tt

pub in_text : (text : List ℕ) (ts : List QueryToken) → Reads text 0 (Some ts) → All (IsInText text) ts
in_text text ts h = are_in text text 0 (Some ts) (omega arith) h

-- ---- trees

whole_is : (f : turns.Found Query) (x : Query) → whole f ≡ Some x → f ≡ Some (x, [])
whole_is None x e = absurd (cc)
whole_is (Some (y, [])) x e = ap again e
  where
    again : Option Query → turns.Found Query
    again None = None
    again (Some z) = Some (z, [])
whole_is (Some (y, t ∷ ts)) x e = absurd (cc)

-- a tree that was read
pub read : (text : List ℕ) (ts : List QueryToken) (x : Query) → Reads text 0 (Some ts) → whole_query (lexemes text ts) ≡ Some x → IsQuery text x
read text ts x h e = record { cut = ts; reads = h; derives = sound 64 (lexemes text ts) [] x (whole_is (query_to 65 (lexemes text ts)) x e) }

tokens_of : List QueryToken → Option (List QueryToken) → List QueryToken
tokens_of us None = us
tokens_of us (Some ts) = ts

-- a tree is read
pub found : (text : List ℕ) (ts : List QueryToken) (x : Query) → Reads text 0 (Some ts) → IsQuery text x → whole_query (lexemes text ts) ≡ Some x
unfolding tokens_of
found text ts x h q =
    let same : q.cut ≡ ts = ap (tokens_of ts) (unique text 0 (Some q.cut) (Some ts) q.reads h) in
    ap (λ us. whole_query (lexemes text us)) (sym same) ∙ ap whole (complete 64 (lexemes text q.cut) [] x q.derives tt)

-- where nothing is read there is no tree
pub none_read : (text : List ℕ) (ts : List QueryToken) → Reads text 0 (Some ts) → whole_query (lexemes text ts) ≡ None → (x : Query) → IsQuery text x → ⊥
none_read text ts h e x q = let f = found text ts x h q in cc

pub none_cut : (text : List ℕ) → Reads text 0 None → (x : Query) → IsQuery text x → ⊥
none_cut text h x q = let e = unique text 0 (Some q.cut) None q.reads h in cc

-- ---- what is read, and what is left

at_end : (x : Query) (rest : List Lexeme) → kind_ahead rest ≡ None → whole (Some (x, rest)) ≡ Some x
at_end x [] n = refl
at_end x (t ∷ ts) n = absurd (cc)

not_at_end : (x : Query) (rest : List Lexeme) (kind : QueryTokenKind) → kind_ahead rest ≡ Some kind → whole (Some (x, rest)) ≡ None
not_at_end x [] kind k = absurd (cc)
not_at_end x (t ∷ ts) kind k = refl

module _ (text : List ℕ) (cut ts : List QueryToken) (h : Reads text 0 (Some cut)) (same : ts ≡ cut) (first : List Lexeme) (here : first ≡ lexemes text ts) where
  read_as : (f : turns.Found Query) → query_to 65 first ≡ f → whole_query (lexemes text cut) ≡ whole f
  read_as f e = ap (λ us. whole (query_to 65 us)) (sym (here ∙ ap (lexemes text) same)) ∙ ap whole e

  -- nothing is left
  pub all_read : (x : Query) (rest : List Lexeme) → query_to 65 first ≡ Some (x, rest) → kind_ahead rest ≡ None → IsQuery text x
  all_read x rest e n = read text cut x h (read_as (Some (x, rest)) e ∙ at_end x rest n)

  -- a token is left
  pub not_all_read : (y : Query) (rest : List Lexeme) (kind : QueryTokenKind) → query_to 65 first ≡ Some (y, rest) → kind_ahead rest ≡ Some kind → (x : Query) → IsQuery text x → ⊥
  not_all_read y rest kind e k = none_read text cut h (read_as (Some (y, rest)) e ∙ not_at_end y rest kind k)

  pub nothing_read : query_to 65 first ≡ None → (x : Query) → IsQuery text x → ⊥
  nothing_read e = none_read text cut h (read_as None e)

-- ---- one tree

tree_of : Query → Option Query → Query
tree_of x None = x
tree_of x (Some y) = y

pub one_tree : (text : List ℕ) (x y : Query) → IsQuery text x → IsQuery text y → x ≡ y
unfolding tree_of
one_tree text x y p q = ap (tree_of x) (sym (found text p.cut x p.reads p) ∙ found text p.cut y p.reads q)
