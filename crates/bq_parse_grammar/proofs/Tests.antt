-- The laws of tests.
use Rattle.std.proofs.Common.{◌≡◌, ℕ, suc, ◌⊎◌, inl, inr, List, [], ◌∷◌, Ok, Err, refl, sym, ap, ◌∙◌, subst}
use Rattle.bq_parse_grammar.specs.Lexeme.{Lexeme}
use Rattle.bq_parse_grammar.specs.declared.refusal.SyntaxErr.TheVariants.{Lambda}
use Rattle.bq_parse_grammar.specs.declared.tree.Expr.{Expr}
use Rattle.bq_parse_grammar.specs.declared.tree.Nested.TheVariants.{Test}
use Rattle.bq_parse_grammar.specs.Grammar.{IsTestTo}
use Rattle.bq_parse_grammar.specs.Turns.{Found}
use Rattle.bq_parse_grammar.specs.Reading.{phrase}
use Rattle.bq_parse_grammar.specs.Laws.{Sound, ends_test, EndsTest, Complete, OneTest}
use Rattle.bq_parse_grammar.proofs.Classes.{implied, ends}
use Rattle.bq_parse_grammar.proofs.Agrees.{Stops, Owes, Met, met, cut}
use Rattle.bq_parse_grammar.proofs.Vars.{test_to_agrees}
use Rattle.bq_parse_grammar.proofs.Keeping.{Plain, phrase_plain}

pub sound : (depth : ℕ) (ts : List Lexeme) → Sound depth ts
sound depth ts = (
  λ x rest f. subst (Owes Expr (IsTestTo depth ts)) f ((test_to_agrees depth).sound ts),
  λ f. subst (Owes Expr (IsTestTo depth ts)) f ((test_to_agrees depth).sound ts),
)

stops : (rest : List Lexeme) → EndsTest rest → Stops (ends 11) rest
stops [] h = tt
stops (t ∷ ts) h = implied ends_test (ends 11) refl t.kind h

pub complete : (depth : ℕ) (ts rest : List Lexeme) → Complete depth ts rest
complete depth ts rest x p h = go ((test_to_agrees depth).complete ts rest x p (stops rest h))
  where
    go : Met 1 ts (phrase (suc depth) Test ts) x rest → (phrase (suc depth) Test ts ≡ Ok (x, rest)) ⊎ (phrase (suc depth) Test ts ≡ Err Lambda)
    go (met f s) = inl f
    go (cut f) = inr f

value_of : {A : Type 0} → A → Found A → A
value_of d (Ok p) = p.0
value_of d (Err why) = d

same_value : {A : Type 0} (f : Found A) (x y : A) (rest : List Lexeme) → f ≡ Ok (x, rest) → f ≡ Ok (y, rest) → x ≡ y
unfolding value_of
same_value f x y rest g h = ap (value_of x) (sym g ∙ h)

pub one_test : (depth : ℕ) (ts rest : List Lexeme) → OneTest depth ts rest
one_test depth ts rest plain h x y p q = go (complete depth ts rest x p h) (complete depth ts rest y q h)
  where
    never : phrase (suc depth) Test ts ≡ Err Lambda → ⊥
    never f = subst Plain f (phrase_plain (suc depth) Test ts plain)

    go : (phrase (suc depth) Test ts ≡ Ok (x, rest)) ⊎ (phrase (suc depth) Test ts ≡ Err Lambda) → (phrase (suc depth) Test ts ≡ Ok (y, rest)) ⊎ (phrase (suc depth) Test ts ≡ Err Lambda) → x ≡ y
    go (inl f) (inl g) = same_value (phrase (suc depth) Test ts) x y rest f g
    go (inr f) g = absurd (never f)
    go (inl f) (inr g) = absurd (never g)
