-- Nothing is misplaced in a file that the grammar gives.
use Rattle.std.proofs.Common.{◌≡◌, ◌∙◌, ℕ, Bool, false, List, [], ◌∷◌, Result, Ok, refl, sym, ap, subst}
use Rattle.std.specs.List.{AllByRecursion}
use Rattle.bq_base.specs.declared.fault.StatementFault.{StatementFault}
use Rattle.bq_base.specs.declared.fault.Fault.{Fault}
use Rattle.bq_parse_grammar.specs.declared.tree.FileKind.{FileKind}
use Rattle.bq_parse_grammar.specs.declared.tree.TopLevel.{TopLevel}
use Rattle.bq_parse_grammar.specs.Lexeme.{Lexeme}
use Rattle.bq_parse_grammar.specs.Nesting.{max_nesting}
use Rattle.bq_parse_grammar.specs.Parses as R
use Rattle.bq_parse_grammar.specs.Parses.{ReadsAll, is_build}
use Rattle.bq_parse_grammar.specs.Statements as S
use Rattle.bq_parse_grammar.specs.Statements.{IsTopLevel}
use Rattle.bq_parse_grammar.specs.Verdict.{ReadsAs}
use Rattle.bq_parse_laws.specs.LeftOut.{stmt_count, has_nested}
use Rattle.bq_parse_laws.proofs.FileWriting.{read_is}
use Rattle.bq_parse_laws.proofs.Left.{none_left}
use Rattle.bq_parse_laws.proofs.Nested.{top_nested}
use Rattle.bq_eval_laws.proofs.Misplaced.{stmt_wrong}
use Rattle.bq_eval_laws.proofs.ParsedStatements.{stmt_to_lacks}

-- nothing in a statement outside functions is left out or misplaced, and no `def` is in a `def`
abbrev pub IsClean : Bool → TopLevel → Type 0
IsClean build x = (stmt_count build x.statement ≡ 0) × (has_nested x.statement false ≡ false) × (stmt_wrong x.statement ≡ 0)

top_lacks : (depth : ℕ) (ts : List Lexeme) (x : TopLevel) → IsTopLevel depth ts x → stmt_wrong x.statement ≡ 0
top_lacks depth ts x (S.top_level y p f) = ap (λ z. stmt_wrong z.statement) f ∙ stmt_to_lacks depth ts [] y p

statement_is_clean : (kind : FileKind) (ts : List Lexeme) (x : TopLevel) → ReadsAs kind ts (Ok x) → IsClean (is_build kind) x
statement_is_clean kind ts x p =
    let none = none_left kind ts x (Ok x) refl p in
    let reads : IsTopLevel max_nesting ts x = read_is kind ts x (Ok x) refl p in
    (none.0, sym (top_nested max_nesting ts x reads) ∙ none.1, top_lacks max_nesting ts x reads)

pub file_is_clean : (kind : FileKind) (ps : List (List Lexeme)) (xs : List TopLevel) (r : Result (List TopLevel) (Fault StatementFault)) → r ≡ Ok xs → ReadsAll kind ps r → AllByRecursion (IsClean (is_build kind)) xs
file_is_clean kind ps xs r e (R.later h g) = absurd (cc)
file_is_clean kind ps xs r e (R.bad h g) = absurd (cc)
file_is_clean kind ps [] r e R.over = tt
file_is_clean kind ps (y ∷ ys) r e R.over = absurd (cc)
file_is_clean kind ps [] r e (R.good h g) = absurd (cc)
file_is_clean kind ps (y ∷ ys) r e (R.good {p = p} {ps = qs} {x = x} {xs = zs} h g) =
    let same : x ≡ y = cc in
    let others : zs ≡ ys = cc in
    (statement_is_clean kind p y (subst (λ z. ReadsAs kind p (Ok z)) same h), file_is_clean kind qs ys (Ok zs) (ap Ok others) g)
