-- What the text of a file resolves to, or its first fault: of its tokens, its statements or its names.
use Rattle.std.specs.Prelude.{ℕ, List, Result, Ok, Err, Vec}
use Rattle.std.specs.Global.{Global}
use Rattle.bq_base.specs.declared.fault.FaultKind.{FaultKind}
use Rattle.bq_base.specs.declared.fault.Fault.{Fault}
use Rattle.bq_base.specs.Fault.{kind_of_name, kind_of_statement, kind_of_token, or_fault_as}
use Rattle.bq_source_lexer.specs.Tokens.{tokens_of}
use Rattle.bq_parse_grammar.specs.Lexeme.{lexemes}
use Rattle.bq_parse_grammar.specs.Parses.{statements_of}
use Rattle.bq_resolve_scope.specs.declared.file.ResolvedFile.{ResolvedFile}
use Rattle.bq_resolve_scope.specs.Universe.{UniverseParts}
use Rattle.bq_resolve_scope.specs.Files.{resolved}

infixl 10 ◌>>=◌
-- a step, and then another on its result; the first fault ends both
abbrev pub ◌>>=◌ : {A B K : Type 0} → Result A (Fault K) → (A → Result B (Fault K)) → Result B (Fault K)
(Err why) >>= go = Err why
(Ok x) >>= go = go x

-- its tokens, the trees of its statements, and what their names stand for
unfoldable pub resolved_file : UniverseParts → List ℕ → Result ResolvedFile (Fault FaultKind)
resolved_file universe text =
    or_fault_as kind_of_token (tokens_of text) >>= λ ts. or_fault_as kind_of_statement (statements_of universe.kind (lexemes text ts)) >>= λ trees. or_fault_as kind_of_name (resolved universe trees)

-- the views of what functions return, under which `Gives` relates it to a definition
abbrev pub itself : {A : Type 0} → A → A
itself x = x

-- a vector as a list of its items
abbrev pub items : {A : Type 0} → Vec A Global → List A
items v = v.items
