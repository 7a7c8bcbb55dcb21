-- No statement that reads as one is deeper than the limit.
use Rattle.std.proofs.Common.{◌≡◌, ℕ, ◌+◌, ◌*◌, ◌≤◌, List, [], ◌∷◌, Result, Ok, refl, ap, subst, arith}
use Rattle.std.specs.List.{AllByRecursion}
use Rattle.bq_base.specs.declared.fault.StatementFault.{StatementFault}
use Rattle.bq_base.specs.declared.fault.Fault.{Fault}
use Rattle.bq_parse_grammar.specs.Lexeme.{Lexeme}
use Rattle.bq_parse_grammar.specs.Nesting.{max_nesting}
use Rattle.bq_parse_grammar.specs.Parses as R
use Rattle.bq_parse_grammar.specs.Parses.{ReadsAll}
use Rattle.bq_parse_grammar.specs.Statements as S
use Rattle.bq_parse_grammar.specs.Statements.{IsTopLevel}
use Rattle.bq_parse_grammar.specs.Verdict.{ReadsAs}
use Rattle.bq_parse_grammar.specs.declared.tree.FileKind.{FileKind}
use Rattle.bq_parse_grammar.specs.declared.tree.TopLevel.{TopLevel}
use Rattle.bq_parse_laws.specs.Depth.{stmt_depth, max_depth}
use Rattle.bq_parse_laws.proofs.FileWriting.{read_is}
use Rattle.bq_parse_laws.proofs.StatementDepths.{stmt_to_within}

top_within : (depth : ℕ) (ts : List Lexeme) (x : TopLevel) → IsTopLevel depth ts x → stmt_depth x.statement ≤ 14 * depth + 17
top_within depth ts x (S.top_level y p f) =
    let e = ap (λ z. stmt_depth z.statement) f in
    let a : stmt_depth y ≤ 14 * depth + 17 = stmt_to_within depth ts [] y p in
    omega arith

pub statement_within : (kind : FileKind) (ts : List Lexeme) (x : TopLevel) → ReadsAs kind ts (Ok x) → stmt_depth x.statement ≤ max_depth
statement_within kind ts x p = top_within max_nesting ts x (read_is kind ts x (Ok x) refl p)

pub file_within : (kind : FileKind) (ps : List (List Lexeme)) (xs : List TopLevel) (r : Result (List TopLevel) (Fault StatementFault)) → r ≡ Ok xs → ReadsAll kind ps r
    → AllByRecursion (λ x. stmt_depth x.statement ≤ max_depth) xs
file_within kind ps xs r e (R.later h g) = absurd (cc)
file_within kind ps xs r e (R.bad h g) = absurd (cc)
file_within kind ps [] r e R.over = tt
file_within kind ps (y ∷ ys) r e R.over = absurd (cc)
file_within kind ps [] r e (R.good h g) = absurd (cc)
file_within kind ps (y ∷ ys) r e (R.good {p = p} {ps = qs} {x = x} {xs = zs} h g) =
    let same : x ≡ y = cc in
    let others : zs ≡ ys = cc in
    (statement_within kind p y (subst (λ z. ReadsAs kind p (Ok z)) same h), file_within kind qs ys (Ok zs) (ap Ok others) g)
