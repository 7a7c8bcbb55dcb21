-- Whether a statement took all of its tokens.
use Rattle.std.proofs.Common.{◌≡◌, ◌<◌, List, [], ◌∷◌, length, Ok, Err, refl, arith}
use Rattle.bq_parse_grammar.specs.Lexeme.{Lexeme}
use Rattle.bq_parse_grammar.specs.declared.refusal.SyntaxErr.TheVariants.{Syntax}
use Rattle.bq_parse_grammar.specs.declared.tree.Stmt.{Stmt}
use Rattle.bq_parse_grammar.specs.Statements.{line_of}
use Rattle.bq_parse_grammar.specs.ReadingStatements.{all_taken}

pub none_left : (ts us : List Lexeme) (x : Stmt) → length us ≡ 0 → all_taken ts x us ≡ Ok (record { line = line_of ts; statement = x })
none_left ts [] x e = refl
none_left ts (u ∷ us) x e = absurd (omega arith)

pub some_left : (ts us : List Lexeme) (x : Stmt) → 0 < length us → all_taken ts x us ≡ Err Syntax
some_left ts [] x e = absurd (omega arith)
some_left ts (u ∷ us) x e = refl
