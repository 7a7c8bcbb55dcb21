-- What is made of a file is what the file is: the fault of its names is the first rule that it breaks, and what it resolves to has its loads.
use Rattle.std.proofs.Common.{◌≡◌, ◌∙◌, ℕ, List, [], ◌∷◌, ◌++◌, map, Option, None, Some, Result, Ok, Err, refl, sym, ap, subst}
use Rattle.bq_base.specs.declared.fault.FaultKind.{FaultKind}
use Rattle.bq_base.specs.declared.fault.TokenFault.{TokenFault}
use Rattle.bq_base.specs.declared.fault.StatementFault.{StatementFault}
use Rattle.bq_base.specs.declared.fault.NameFault.{NameFault}
use Rattle.bq_base.specs.declared.fault.LoadFault.{LoadFault}
use Rattle.bq_base.specs.declared.fault.Fault.{Fault}
use Rattle.bq_base.specs.Fault.{fault_as, kind_of_load, kind_of_name, kind_of_statement, kind_of_token, or_fault_as}
use Rattle.bq_source.specs.declared.token.Token.{Token}
use Rattle.bq_source_lexer.specs.Tokens.{tokens_of}
use Rattle.bq_parse_grammar.specs.declared.tree.TopLevel.{TopLevel}
use Rattle.bq_parse_grammar.specs.Lexeme.{Lexeme, lexemes}
use Rattle.bq_parse_grammar.specs.Parses.{Parses, statements_of}
use Rattle.bq_parse_laws.proofs.Verdicts.{file_reads}
use Rattle.bq_resolve_scope.specs.Files.{resolved}
use Rattle.bq_resolve_scope.specs.Universe.{UniverseParts}
use Rattle.bq_resolve_scope.specs.declared.loads.LoadStmt.{LoadStmt}
use Rattle.bq_resolve_scope.specs.declared.file.ResolvedFile.{ResolvedFile}
use Rattle.bq_resolve_laws.specs.Files.{ParsedFile, ResolvesTo}
use Rattle.bq_resolve_laws.specs.Loads.{written_load, file_loads}
use Rattle.bq_resolve_laws.specs.Violations.{first, violations}
use Rattle.bq_resolve_laws.proofs.FaultyFiles.{first_violation, without_violations}
use Rattle.bq_resolve_laws.proofs.Loads.{loads_kept}
use Rattle.bq_label.specs.declared.workspace.File.{File}
use Rattle.bq_label.specs.Label.{PackageParts, LabelParts, package_of}
use Rattle.bq_label.specs.Packages.{label_file}
use Rattle.bq_load_front.specs.declared.front.Front.{Front}
use Rattle.bq_load_front.specs.Agreement.{IsFrontOf, FrontsAgree, LoadsAgree}
use Rattle.bq_load_front.specs.Resolved.{resolved_file, ◌>>=◌}
use Rattle.bq_load_front.specs.Front.{load_of, front_at, front_of, loads_by}
use Rattle.bq_load_front.specs.Inputs.{InputParts, universe_of}
use Rattle.bq_load_front.specs.Parsed.{ParsedFront, file_named, labels_of, kind_of, front_from, loads_in}
use Rattle.bq_load_front.specs.Reading.{trees_of, file_from, file_of_text, parsed_of}
use Rattle.bq_load_front.proofs.Cases.{parsed_at, unless_broken}

-- ---- the text

-- what the file resolves to, or the same fault
abbrev ResultsAgree : Result ParsedFile (Fault FaultKind) → Result ResolvedFile (Fault FaultKind) → Type 0
ResultsAgree (Ok file) (Ok found) = ResolvesTo file found
ResultsAgree (Err why) (Err told) = told ≡ why
ResultsAgree _ _ = ⊥

no_first : (why : Fault NameFault) (vs : List (Fault NameFault)) → vs ≡ [] → first vs ≡ Some why → ⊥
no_first why vs none e =
    let no : None ≡ Some why = sym (ap (λ (z : List (Fault NameFault)). first z) none) ∙ e in
    cc

is_first : (v why : Fault NameFault) (more vs : List (Fault NameFault)) → vs ≡ v ∷ more → first vs ≡ Some why → why ≡ v
is_first v why more vs is e =
    let same : Some v ≡ Some why = sym (ap (λ (z : List (Fault NameFault)). first z) is) ∙ e in
    cc

not_none : (v : Fault NameFault) (more vs : List (Fault NameFault)) → vs ≡ v ∷ more → vs ≡ [] → ⊥
not_none v more vs is none =
    let no : [] ≡ v ∷ more = sym none ∙ is in
    cc

module _ (universe : UniverseParts) where
  abbrev parsed_file : List TopLevel → ParsedFile
  parsed_file trees = record { universe = universe; statements = trees }

  by_names : (ts : List Lexeme) (trees : List TopLevel) → Parses universe.kind ts (Ok trees) → (vs : List (Fault NameFault)) → violations universe trees ≡ vs
      → (r : Result ResolvedFile (Fault NameFault)) → resolved universe trees ≡ r → ResultsAgree (unless_broken (parsed_file trees) vs) (or_fault_as kind_of_name r)
  by_names ts trees p [] is (Ok found) e = record { lexemes = ts; parses = p; names = e }
  by_names ts trees p [] is (Err told) e = absurd (no_first told (violations universe trees) is ((first_violation universe trees told).0 e))
  by_names ts trees p (v ∷ more) is (Ok found) e = absurd (not_none v more (violations universe trees) is ((without_violations universe trees).0 (found, e)))
  by_names ts trees p (v ∷ more) is (Err told) e = ap (fault_as kind_of_name) (is_first v told more (violations universe trees) is ((first_violation universe trees told).0 e))

  by_trees : (ts : List Lexeme) (r : Result (List TopLevel) (Fault StatementFault)) → Parses universe.kind ts r
      → ResultsAgree (or_fault_as kind_of_statement r >>= file_from universe) (or_fault_as kind_of_statement r >>= λ trees. or_fault_as kind_of_name (resolved universe trees))
  by_trees ts (Ok trees) p = by_names ts trees p (violations universe trees) refl (resolved universe trees) refl
  by_trees ts (Err why) p = refl

  abbrev trees_in : List ℕ → Result (List Token) (Fault TokenFault) → Result (List TopLevel) (Fault FaultKind)
  trees_in text r = or_fault_as kind_of_token r >>= λ ts. or_fault_as kind_of_statement (statements_of universe.kind (lexemes text ts))

  by_tokens : (text : List ℕ) (r : Result (List Token) (Fault TokenFault))
      → ResultsAgree (trees_in text r >>= file_from universe)
      (or_fault_as kind_of_token r >>= λ ts. or_fault_as kind_of_statement (statements_of universe.kind (lexemes text ts)) >>= λ trees. or_fault_as kind_of_name (resolved universe trees))
  by_tokens text (Ok ts) = by_trees (lexemes text ts) (statements_of universe.kind (lexemes text ts)) (file_reads universe.kind (lexemes text ts))
  by_tokens text (Err why) = refl

  pub of_text : (text : List ℕ) → ResultsAgree (file_of_text universe text) (resolved_file universe text)
  unfolding file_of_text trees_of resolved_file
  of_text text = by_tokens text (tokens_of text)

-- ---- its loads

module _ (inputs : InputParts) (own : PackageParts) where
  as_written : (done : List LabelParts) (xs : List LoadStmt) → labels_of (load_of inputs own) done xs ≡ labels_of (file_named inputs own) done (map written_load xs)
  unfolding labels_of
  as_written done [] = refl
  as_written done (x ∷ xs) = λ i. file_named inputs own (written_load x) >>= λ l. as_written (done ++ l ∷ []) xs i

module _ (inputs : InputParts) (l : LabelParts) where
  abbrev front_with : ResolvedFile → Result (List LabelParts) (Fault LoadFault) → Result Front (Fault FaultKind)
  front_with found r = or_fault_as kind_of_load r >>= λ ls. Ok (record { file = found; loads = ls })

  abbrev parsed_with : ParsedFile → Result (List LabelParts) (Fault LoadFault) → Result ParsedFront (Fault FaultKind)
  parsed_with file r = or_fault_as kind_of_load r >>= λ ls. Ok (record { file = file; loads = ls })

  by_labels : (file : ParsedFile) (found : ResolvedFile) → ResolvesTo file found → (r : Result (List LabelParts) (Fault LoadFault)) → IsFrontOf (parsed_with file r) (front_with found r)
  by_labels file found is (Ok ls) = (is, refl)
  by_labels file found is (Err why) = refl

  same_labels : (file : ParsedFile) (found : ResolvedFile) → ResolvesTo file found
      → labels_of (load_of inputs (package_of l)) [] found.loads ≡ labels_of (file_named inputs (package_of l)) [] (file_loads file.statements)
  same_labels file found is = as_written inputs (package_of l) [] found.loads ∙ ap (labels_of (file_named inputs (package_of l)) []) (loads_kept file found is)

  by_file : (x : Result ParsedFile (Fault FaultKind)) (r : Result ResolvedFile (Fault FaultKind)) → ResultsAgree x r → IsFrontOf (x >>= front_from inputs l) (r >>= λ found. front_with found (labels_of (load_of inputs (package_of l)) [] found.loads))
  by_file (Ok file) (Ok found) is =
      let ls : Result (List LabelParts) (Fault LoadFault) = labels_of (file_named inputs (package_of l)) [] (file_loads file.statements) in
      subst (λ (z : Result (List LabelParts) (Fault LoadFault)). IsFrontOf (parsed_with file ls) (front_with found z)) (sym (same_labels file found is)) (by_labels file found is ls)
  by_file (Ok file) (Err told) is = absurd is
  by_file (Err why) (Ok found) is = absurd is
  by_file (Err why) (Err told) is = is

  at_file : (o : Option File) → IsFrontOf (parsed_at inputs l o) (front_at inputs l o)
  at_file None = refl
  at_file (Some x) =
      let universe : UniverseParts = universe_of inputs (kind_of l) in
      by_file (file_of_text universe x.content) (resolved_file universe x.content) (of_text universe x.content)

pub fronts_agree : FrontsAgree
unfolding parsed_of front_of
fronts_agree inputs l = at_file inputs l (label_file inputs.files l)

same_loads : (x : Result ParsedFront (Fault FaultKind)) (r : Result Front (Fault FaultKind)) → IsFrontOf x r → loads_by r ≡ loads_in x
same_loads (Ok x) (Ok front) h = h.1
same_loads (Ok x) (Err told) h = absurd h
same_loads (Err why) (Ok front) h = absurd h
same_loads (Err why) (Err told) h = refl

pub loads_agree : LoadsAgree
loads_agree inputs l = same_loads (parsed_of inputs l) (front_of inputs l) (fronts_agree inputs l)
