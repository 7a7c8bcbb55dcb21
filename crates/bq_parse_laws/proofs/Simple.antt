-- A statement of a BUILD file is a line of small statements.
use Rattle.std.proofs.Common.{◌≡◌, ℕ, zero, suc, Bool, true, false, ◌||◌, List, [], ◌∷◌, Result, Ok, refl, sym, ap, ◌∙◌, subst}
use Rattle.bq_base.specs.declared.fault.StatementFault.{StatementFault}
use Rattle.bq_parse_grammar.specs.Lexeme.{Lexeme}
use Rattle.bq_parse_grammar.specs.LeftOut.{kinds, is_compound, has_starred}
use Rattle.bq_parse_grammar.specs.Nesting.{max_nesting}
use Rattle.bq_parse_grammar.specs.Phrases.{Phrase, none}
use Rattle.bq_parse_grammar.specs.Statements as S
use Rattle.bq_parse_grammar.specs.Statements.{IsStmtOver, IsStmt, IsTopLevel}
use Rattle.bq_parse_grammar.specs.Verdict as V
use Rattle.bq_parse_grammar.specs.Verdict.{ReadsAs}
use Rattle.bq_parse_grammar.specs.declared.tree.FileKind.TheVariants as file
use Rattle.bq_parse_grammar.specs.declared.tree.SmallStmt.{SmallStmt}
use Rattle.bq_parse_grammar.specs.declared.tree.Stmt.{Stmt}
use Rattle.bq_parse_grammar.specs.declared.tree.Stmt.TheVariants as s
use Rattle.bq_parse_grammar.specs.declared.tree.TopLevel.{TopLevel}

abbrev pub IsLine : Stmt → Type 0
IsLine x = (xs : List SmallStmt) × (x ≡ s.Simple xs)

over_line : (depth : ℕ) (X : Phrase Stmt) (ts rest : List Lexeme) (x : Stmt) → IsStmtOver depth X ts rest x → is_compound (kinds ts) ≡ false → IsLine x
over_line depth X ts rest x (S.simple {xs = xs} p f) h = (xs, f)
over_line depth X ts rest x (S.if_stmt {t = t} {ts = us} f p q r g) h = let e : true ≡ false = sym (ap (λ z. is_compound (z ∷ kinds us)) f) ∙ h in absurd (cc)
over_line depth X ts rest x (S.for_stmt {t = t} {ts = us} v y f p g q i r j) h = let e : true ≡ false = sym (ap (λ z. is_compound (z ∷ kinds us)) f) ∙ h in absurd (cc)
over_line depth X ts rest x (S.def_stmt {t = t} {n = n} {o = o} {ts = us} ps f g i p j r l) h =
    let e : true ≡ false = sym (ap (λ z. is_compound (z ∷ n.kind ∷ o.kind ∷ kinds us)) f) ∙ h in absurd (cc)

stmt_line : (depth : ℕ) (ts rest : List Lexeme) (x : Stmt) → IsStmt depth ts rest x → is_compound (kinds ts) ≡ false → IsLine x
stmt_line zero ts rest x p h = over_line zero none ts rest x p h
stmt_line (suc depth) ts rest x p h = over_line (suc depth) (IsStmt depth) ts rest x p h

top_line : (depth : ℕ) (ts : List Lexeme) (x : TopLevel) → IsTopLevel depth ts x → is_compound (kinds ts) ≡ false → IsLine x.statement
top_line depth ts x (S.top_level y p f) h = let w = stmt_line depth ts [] y p h in (w.0, ap (λ z. z.statement) f ∙ w.1)

compound_off : (a b : Bool) → ((a || b) ≡ true → ⊥) → a ≡ false
compound_off true b n = absurd (n refl)
compound_off false b n = refl

pub build_line : (ts : List Lexeme) (x : TopLevel) (r : Result TopLevel StatementFault) → r ≡ Ok x → ReadsAs file.Build ts r → IsLine x.statement
build_line ts x r e (V.too_deep f) = absurd (cc)
build_line ts x r e (V.no_tree f g) = absurd (cc)
build_line ts x r e (V.left_out f g h) = absurd (cc)
build_line ts x r e (V.not_in_build f g h i) = absurd (cc)
build_line ts x r e (V.read {x = y} f g h i) =
    let same : y ≡ x = cc in
    subst (λ z. IsLine z.statement) same (top_line max_nesting ts y g (compound_off (is_compound (kinds ts)) (has_starred (kinds ts)) (λ q. i (refl, q))))
