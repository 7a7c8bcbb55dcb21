-- What a text resolves to is what its one reading does, and its fault is that of the first step that has one.
use Rattle.std.proofs.Common.{◌≡◌, ◌∙◌, ℕ, List, Result, Ok, Err, refl, sym, ap}
use Rattle.bq_base.specs.declared.fault.FaultKind.{FaultKind}
use Rattle.bq_base.specs.declared.fault.TokenFault.{TokenFault}
use Rattle.bq_base.specs.declared.fault.StatementFault.{StatementFault}
use Rattle.bq_base.specs.declared.fault.NameFault.{NameFault}
use Rattle.bq_base.specs.declared.fault.Fault.{Fault}
use Rattle.bq_base.specs.Fault.{fault_as, kind_of_name, kind_of_statement, kind_of_token, or_fault_as}
use Rattle.bq_source.specs.declared.token.Token.{Token}
use Rattle.bq_source_lexer.specs.Reading.{Lexes}
use Rattle.bq_source_lexer.specs.Tokens.{tokens_of}
use Rattle.bq_source_lexer.proofs.Reached.{every_text}
use Rattle.bq_source_lexer.proofs.Unique.{one_reading}
use Rattle.bq_parse_grammar.specs.declared.tree.TopLevel.{TopLevel}
use Rattle.bq_parse_grammar.specs.Lexeme.{lexemes}
use Rattle.bq_parse_grammar.specs.Parses.{Parses, statements_of}
use Rattle.bq_resolve_scope.specs.declared.file.ResolvedFile.{ResolvedFile}
use Rattle.bq_resolve_scope.specs.Universe.{UniverseParts}
use Rattle.bq_resolve_scope.specs.Files.{resolved}
use Rattle.bq_parse_laws.proofs.Verdicts.{file_reads, file_only}
use Rattle.bq_load_front.specs.Resolved.{resolved_file, ◌>>=◌}
use Rattle.bq_load_front.specs.FileLaws.{TextResolvesTo, HasFault, ResolvedFilesOfTexts, FaultsOfFiles}

not_resolved : (why : Fault FaultKind) (file : ResolvedFile) → Err why ≡ Ok file → ⊥
not_resolved why file e = cc

abbrev no_file : Fault FaultKind → Result ResolvedFile (Fault FaultKind)
no_file why = Err why

same_fault : (a b : Fault FaultKind) → no_file a ≡ no_file b → a ≡ b
same_fault a b e = cc

abbrev a_file : ResolvedFile → Result ResolvedFile (Fault FaultKind)
a_file file = Ok file

same_file : (a b : ResolvedFile) → a_file a ≡ a_file b → a ≡ b
same_file a b e = cc

module _ (universe : UniverseParts) (text : List ℕ) where
  abbrev of_names : Result ResolvedFile (Fault NameFault) → Result ResolvedFile (Fault FaultKind)
  of_names r = or_fault_as kind_of_name r

  abbrev of_trees : Result (List TopLevel) (Fault StatementFault) → Result ResolvedFile (Fault FaultKind)
  of_trees r = or_fault_as kind_of_statement r >>= λ trees. of_names (resolved universe trees)

  abbrev of_tokens : Result (List Token) (Fault TokenFault) → Result ResolvedFile (Fault FaultKind)
  of_tokens r = or_fault_as kind_of_token r >>= λ ts. of_trees (statements_of universe.kind (lexemes text ts))

  tokens_are : (r : Result (List Token) (Fault TokenFault)) → Lexes text r → tokens_of text ≡ r
  tokens_are r l = one_reading text (tokens_of text) r (every_text text) l

  trees_are : (tokens : List Token) (r : Result (List TopLevel) (Fault StatementFault)) → Parses universe.kind (lexemes text tokens) r → statements_of universe.kind (lexemes text tokens) ≡ r
  trees_are tokens r p = sym (file_only universe.kind (lexemes text tokens) r p)

  -- ---- the file

  resolved_by_names : (r : Result ResolvedFile (Fault NameFault)) (file : ResolvedFile) → of_names r ≡ Ok file → r ≡ Ok file
  resolved_by_names (Ok found) file e = ap (λ (z : ResolvedFile). Ok z) (same_file found file e)
  resolved_by_names (Err why) file e = absurd (not_resolved (fault_as kind_of_name why) file e)

  resolved_by_trees : (tokens : List Token) → Lexes text (Ok tokens) → (r : Result (List TopLevel) (Fault StatementFault)) → Parses universe.kind (lexemes text tokens) r
      → (file : ResolvedFile) → of_trees r ≡ Ok file → TextResolvesTo universe text file
  resolved_by_trees tokens l (Ok trees) p file e = record { tokens = tokens; reads = l; trees = trees; parses = p; names = resolved_by_names (resolved universe trees) file e }
  resolved_by_trees tokens l (Err why) p file e = absurd (not_resolved (fault_as kind_of_statement why) file e)

  resolved_by_tokens : (r : Result (List Token) (Fault TokenFault)) → Lexes text r → (file : ResolvedFile) → of_tokens r ≡ Ok file → TextResolvesTo universe text file
  resolved_by_tokens (Ok tokens) l file e = resolved_by_trees tokens l (statements_of universe.kind (lexemes text tokens)) (file_reads universe.kind (lexemes text tokens)) file e
  resolved_by_tokens (Err why) l file e = absurd (not_resolved (fault_as kind_of_token why) file e)

  along : (tokens : List Token) → Lexes text (Ok tokens) → (r : Result (List TopLevel) (Fault StatementFault)) → Parses universe.kind (lexemes text tokens) r → of_tokens (tokens_of text) ≡ of_trees r
  along tokens l r p = ap of_tokens (tokens_are (Ok tokens) l) ∙ ap of_trees (trees_are tokens r p)

  -- ---- the fault

  fault_by_names : (tokens : List Token) (trees : List TopLevel) → Lexes text (Ok tokens) → Parses universe.kind (lexemes text tokens) (Ok trees)
      → (r : Result ResolvedFile (Fault NameFault)) → resolved universe trees ≡ r → (why : Fault FaultKind) → of_names r ≡ Err why → HasFault universe text why
  fault_by_names tokens trees l p (Ok file) is why e = absurd (not_resolved why file (sym e))
  fault_by_names tokens trees l p (Err at) is why e = HasFault.of_names tokens trees at l p is (sym (same_fault (fault_as kind_of_name at) why e))

  fault_by_trees : (tokens : List Token) → Lexes text (Ok tokens) → (r : Result (List TopLevel) (Fault StatementFault)) → Parses universe.kind (lexemes text tokens) r
      → (why : Fault FaultKind) → of_trees r ≡ Err why → HasFault universe text why
  fault_by_trees tokens l (Ok trees) p why e = fault_by_names tokens trees l p (resolved universe trees) refl why e
  fault_by_trees tokens l (Err at) p why e = HasFault.of_statements tokens at l p (sym (same_fault (fault_as kind_of_statement at) why e))

  fault_by_tokens : (r : Result (List Token) (Fault TokenFault)) → Lexes text r → (why : Fault FaultKind) → of_tokens r ≡ Err why → HasFault universe text why
  fault_by_tokens (Ok tokens) l why e = fault_by_trees tokens l (statements_of universe.kind (lexemes text tokens)) (file_reads universe.kind (lexemes text tokens)) why e
  fault_by_tokens (Err at) l why e = HasFault.of_tokens at l (sym (same_fault (fault_as kind_of_token at) why e))

  fault_back : (why : Fault FaultKind) → HasFault universe text why → of_tokens (tokens_of text) ≡ Err why
  fault_back why (HasFault.of_tokens at l is) = ap of_tokens (tokens_are (Err at) l) ∙ ap no_file (sym is)
  fault_back why (HasFault.of_statements tokens at l p is) = along tokens l (Err at) p ∙ ap no_file (sym is)
  fault_back why (HasFault.of_names tokens trees at l p e is) = along tokens l (Ok trees) p ∙ ap of_names e ∙ ap no_file (sym is)

pub resolved_files_of_texts : ResolvedFilesOfTexts
unfolding resolved_file
resolved_files_of_texts universe text file = (
  λ e. resolved_by_tokens universe text (tokens_of text) (every_text text) file e,
  λ h. along universe text h.tokens h.reads (Ok h.trees) h.parses ∙ ap (of_names universe text) h.names,
)

pub faults_of_files : FaultsOfFiles
unfolding resolved_file
faults_of_files universe text why = (
  λ e. fault_by_tokens universe text (tokens_of text) (every_text text) why e,
  λ h. fault_back universe text why h,
)
