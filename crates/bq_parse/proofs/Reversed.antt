-- Lists that are taken apart from their end.
use Rattle.std.proofs.Common.{◌≡◌, List, [], ◌∷◌, ◌++◌, reverse, refl, sym, ap, ◌∙◌, append_assoc, append-nil}
use Rattle.std.proofs.lemmas.List.{reverse-append, reverse-reverse}
use Rattle.bq_parse_grammar.specs.declared.tree.Expr.{Expr}
use Rattle.bq_parse_grammar.specs.declared.tree.Suffix.{Suffix, out-Suffix}
use Rattle.bq_parse_grammar.specs.Grammar.{primary_of}
use Rattle.bq_parse_grammar.specs.Targets.{index_of, indexed_from}

pub reverse_last : {X : Type 0} (all front : List X) (last : X) → all ≡ front ++ last ∷ [] → reverse all ≡ last ∷ reverse front
reverse_last all front last e = ap reverse e ∙ reverse-append front (last ∷ [])

pub reverse_reversed : {X : Type 0} (xs ys : List X) → ys ≡ reverse xs → reverse ys ≡ xs
reverse_reversed xs ys e = ap reverse e ∙ reverse-reverse xs

-- what is done last
indexed_last : (x : Expr) (done xs : List Suffix) (y : Suffix) → indexed_from x done (xs ++ y ∷ []) ≡ index_of (primary_of x (done ++ xs)) (out-Suffix y)
indexed_last x done [] y = ap (λ d. index_of (primary_of x d) (out-Suffix y)) (sym (append-nil done))
indexed_last x done (z ∷ []) y = refl
indexed_last x done (z ∷ w ∷ ws) y = indexed_last x (done ++ z ∷ []) (w ∷ ws) y ∙ ap (λ d. index_of (primary_of x d) (out-Suffix y)) (append_assoc done (z ∷ []) (w ∷ ws))

pub indexed_popped : (x : Expr) (all front : List Suffix) (last : Suffix) → all ≡ front ++ last ∷ []
    → indexed_from x [] all ≡ index_of (primary_of x front) (out-Suffix last)
indexed_popped x all front last e = ap (indexed_from x []) e ∙ indexed_last x [] front last
