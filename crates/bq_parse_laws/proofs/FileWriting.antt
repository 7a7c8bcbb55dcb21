-- A file that reads as statements has what they write.
use Rattle.std.proofs.Common.{◌≡◌, List, [], ◌∷◌, Result, Ok, sym, ap, subst}
use Rattle.bq_base.specs.declared.fault.Fault.{Fault}
use Rattle.bq_base.specs.declared.fault.StatementFault.{StatementFault}
use Rattle.bq_parse_grammar.specs.Lexeme.{Lexeme}
use Rattle.bq_parse_grammar.specs.declared.tree.FileKind.{FileKind}
use Rattle.bq_parse_grammar.specs.declared.tree.TopLevel.{TopLevel}
use Rattle.bq_parse_grammar.specs.Nesting.{max_nesting}
use Rattle.bq_parse_grammar.specs.Statements as S
use Rattle.bq_parse_grammar.specs.Statements.{IsTopLevel}
use Rattle.bq_parse_grammar.specs.Verdict as V
use Rattle.bq_parse_grammar.specs.Verdict.{ReadsAs}
use Rattle.bq_parse_grammar.specs.Parses as R
use Rattle.bq_parse_grammar.specs.Parses.{ReadsAll}
use Rattle.bq_parse_laws.specs.Parts as parts
use Rattle.bq_parse_laws.specs.Writes as W
use Rattle.bq_parse_laws.specs.Writes.{Writes, WritesAll, EachWrites}
use Rattle.bq_parse_laws.proofs.StatementWriting.{stmt_to_tells}

pub top_level_tells : (depth : _) (ts : List Lexeme) (x : TopLevel) → IsTopLevel depth ts x → WritesAll ts x
top_level_tells depth ts x (S.top_level y p f) =
    (ap (λ z. z.line) f, subst (λ z. Writes (parts.stmt z ∷ []) ts) (sym (ap (λ z. z.statement) f)) (stmt_to_tells depth ts [] y p [] W.over))

-- what reads as a statement is one
pub read_is : (kind : FileKind) (ts : List Lexeme) (x : TopLevel) (r : Result TopLevel StatementFault) → r ≡ Ok x → ReadsAs kind ts r → IsTopLevel max_nesting ts x
read_is kind ts x r e (V.too_deep f) = absurd (cc)
read_is kind ts x r e (V.no_tree f g) = absurd (cc)
read_is kind ts x r e (V.left_out f g h) = absurd (cc)
read_is kind ts x r e (V.not_in_build f g h i) = absurd (cc)
read_is kind ts x r e (V.read {x = y} f g h i) = let same : y ≡ x = cc in subst (λ z. IsTopLevel max_nesting ts z) same g

pub file_tells : (kind : FileKind) (ps : List (List Lexeme)) (xs : List TopLevel) (r : Result (List TopLevel) (Fault StatementFault)) → r ≡ Ok xs → ReadsAll kind ps r → EachWrites ps xs
file_tells kind ps xs r e (R.later h g) = absurd (cc)
file_tells kind ps xs r e (R.bad h g) = absurd (cc)
file_tells kind ps [] r e R.over = tt
file_tells kind ps (y ∷ ys) r e R.over = absurd (cc)
file_tells kind ps [] r e (R.good h g) = absurd (cc)
file_tells kind ps (y ∷ ys) r e (R.good {p = p} {ps = qs} {x = x} {xs = zs} h g) =
    let same : x ≡ y = cc in
    let others : zs ≡ ys = cc in
    (top_level_tells max_nesting p y (read_is kind p y (Ok x) (ap Ok same) h), file_tells kind qs ys (Ok zs) (ap Ok others) g)
