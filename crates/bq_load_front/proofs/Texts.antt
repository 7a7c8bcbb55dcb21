-- The file of a text is what its one reading gives, unless it breaks a rule of names and flow.
use Rattle.std.proofs.Common.{◌≡◌, ◌∙◌, ℕ, List, [], ◌∷◌, None, Some, Result, Ok, Err, refl, sym, ap, subst}
use Rattle.bq_base.specs.declared.fault.FaultKind.{FaultKind}
use Rattle.bq_base.specs.declared.fault.TokenFault.{TokenFault}
use Rattle.bq_base.specs.declared.fault.StatementFault.{StatementFault}
use Rattle.bq_base.specs.declared.fault.NameFault.{NameFault}
use Rattle.bq_base.specs.declared.fault.Fault.{Fault}
use Rattle.bq_base.specs.Fault.{fault_as, kind_of_name, kind_of_statement, kind_of_token, or_fault_as}
use Rattle.bq_source.specs.declared.token.Token.{Token}
use Rattle.bq_source_lexer.specs.Reading.{Lexes}
use Rattle.bq_source_lexer.specs.Tokens.{tokens_of}
use Rattle.bq_source_lexer.proofs.Reached.{every_text}
use Rattle.bq_source_lexer.proofs.Unique.{one_reading}
use Rattle.bq_parse_grammar.specs.declared.tree.TopLevel.{TopLevel}
use Rattle.bq_parse_grammar.specs.Lexeme.{lexemes}
use Rattle.bq_parse_grammar.specs.Parses.{Parses, statements_of}
use Rattle.bq_parse_laws.proofs.Verdicts.{file_reads, file_only}
use Rattle.bq_resolve_scope.specs.Universe.{UniverseParts}
use Rattle.bq_resolve_laws.specs.Files.{ParsedFile}
use Rattle.bq_resolve_laws.specs.Violations.{first, violations}
use Rattle.bq_load_front.specs.Resolved.{◌>>=◌}
use Rattle.bq_load_front.specs.FileLaws.{FilesOfTexts}
use Rattle.bq_load_front.specs.Parsed.{ReadsAsFile}
use Rattle.bq_load_front.specs.Reading.{trees_of, file_from, file_of_text}
use Rattle.bq_load_front.proofs.Cases.{unless_broken}

abbrev good : ParsedFile → Result ParsedFile (Fault FaultKind)
good file = Ok file

abbrev bad : Fault FaultKind → Result ParsedFile (Fault FaultKind)
bad why = Err why

module _ (universe : UniverseParts) (text : List ℕ) where
  abbrev file_with : List TopLevel → ParsedFile
  file_with trees = record { universe = universe; statements = trees }

  abbrev of_trees : Result (List TopLevel) (Fault FaultKind) → Result ParsedFile (Fault FaultKind)
  of_trees r = r >>= file_from universe

  abbrev of_statements : Result (List TopLevel) (Fault StatementFault) → Result ParsedFile (Fault FaultKind)
  of_statements r = of_trees (or_fault_as kind_of_statement r)

  abbrev of_tokens : Result (List Token) (Fault TokenFault) → Result ParsedFile (Fault FaultKind)
  of_tokens r = of_trees (or_fault_as kind_of_token r >>= λ ts. or_fault_as kind_of_statement (statements_of universe.kind (lexemes text ts)))

  -- ---- what a text gives

  by_names : (tokens : List Token) → Lexes text (Ok tokens) → (trees : List TopLevel) → Parses universe.kind (lexemes text tokens) (Ok trees) → (vs : List (Fault NameFault)) → violations universe trees ≡ vs
      → ReadsAsFile universe text (unless_broken (file_with trees) vs)
  by_names tokens l trees p [] is = ReadsAsFile.good tokens trees l p is refl
  by_names tokens l trees p (v ∷ vs) is = ReadsAsFile.bad_names tokens trees v l p (ap first is) refl

  by_trees : (tokens : List Token) → Lexes text (Ok tokens) → (r : Result (List TopLevel) (Fault StatementFault)) → Parses universe.kind (lexemes text tokens) r → ReadsAsFile universe text (of_statements r)
  by_trees tokens l (Ok trees) p = by_names tokens l trees p (violations universe trees) refl
  by_trees tokens l (Err why) p = ReadsAsFile.bad_statements tokens why l p refl

  by_tokens : (r : Result (List Token) (Fault TokenFault)) → Lexes text r → ReadsAsFile universe text (of_tokens r)
  by_tokens (Ok tokens) l = by_trees tokens l (statements_of universe.kind (lexemes text tokens)) (file_reads universe.kind (lexemes text tokens))
  by_tokens (Err why) l = ReadsAsFile.bad_tokens why l refl

  -- ---- and back

  tokens_are : (r : Result (List Token) (Fault TokenFault)) → Lexes text r → tokens_of text ≡ r
  tokens_are r l = one_reading text (tokens_of text) r (every_text text) l

  along : (tokens : List Token) → Lexes text (Ok tokens) → (r : Result (List TopLevel) (Fault StatementFault)) → Parses universe.kind (lexemes text tokens) r → of_tokens (tokens_of text) ≡ of_statements r
  along tokens l r p = ap of_tokens (tokens_are (Ok tokens) l) ∙ ap of_statements (sym (file_only universe.kind (lexemes text tokens) r p))

  kept : (trees : List TopLevel) → violations universe trees ≡ [] → of_trees (Ok trees) ≡ good (file_with trees)
  kept trees e = ap (unless_broken (file_with trees)) e

  broken : (trees : List TopLevel) (why : Fault NameFault) (vs : List (Fault NameFault)) → violations universe trees ≡ vs → first vs ≡ Some why → of_trees (Ok trees) ≡ bad (fault_as kind_of_name why)
  broken trees why [] is e = absurd (let none : None ≡ Some why = e in let no : ⊥ = cc in no)
  broken trees why (v ∷ vs) is e = let one : Some v ≡ Some why = e in let same : v ≡ why = cc in ap (unless_broken (file_with trees)) is ∙ ap (λ (z : Fault NameFault). bad (fault_as kind_of_name z)) same

  only : (r : Result ParsedFile (Fault FaultKind)) → ReadsAsFile universe text r → of_tokens (tokens_of text) ≡ r
  only r (ReadsAsFile.bad_tokens why l e) = ap of_tokens (tokens_are (Err why) l) ∙ sym e
  only r (ReadsAsFile.bad_statements tokens why l p e) = along tokens l (Err why) p ∙ sym e
  only r (ReadsAsFile.bad_names tokens trees why l p b e) = along tokens l (Ok trees) p ∙ broken trees why (violations universe trees) refl b ∙ sym e
  only r (ReadsAsFile.good tokens trees l p k e) = along tokens l (Ok trees) p ∙ kept trees k ∙ sym e

pub files_of_texts : FilesOfTexts
unfolding file_of_text trees_of
files_of_texts universe text r = (
  λ e. subst (ReadsAsFile universe text) e (by_tokens universe text (tokens_of text) (every_text text)),
  λ is. only universe text r is,
)
