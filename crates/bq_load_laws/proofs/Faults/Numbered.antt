-- Lines are counted from 1: a fault of any part of a file is in such a line, and so is what the file declares.
use Rattle.std.proofs.Common.{◌≡◌, ◌≤◌, ◌⊎◌, ℕ, List, [], ◌∷◌, Result, Ok, Err, Contains, IfErr, inl, inr, sym, ap, subst}
use Rattle.std.specs.List.{AllByRecursion}
use Rattle.std.proofs.lemmas.List.Elements.{All-contains, All-from_recursion, Contains-append_cases}
use Rattle.bq_base.specs.declared.fault.FaultKind.{FaultKind}
use Rattle.bq_base.specs.declared.fault.Fault.{Fault}
use Rattle.bq_base.specs.Fault.{fault_as, kind_of_token, kind_of_statement, kind_of_name, kind_of_load, kind_of_eval}
use Rattle.bq_label.proofs.Orders.{at_head, in_tail}
use Rattle.bq_label.specs.Label.{LabelParts}
use Rattle.bq_source.specs.declared.token.Token.{Token}
use Rattle.bq_source_lexer.specs.Reading.{Lexes}
use Rattle.bq_parse_grammar.specs.Lexeme.{lexemes}
use Rattle.bq_resolve_scope.specs.declared.file.FileLine.{FileLine}
use Rattle.bq_resolve_scope.specs.declared.loads.LoadStmt.{LoadStmt}
use Rattle.bq_resolve_scope.specs.declared.file.ResolvedFile.{ResolvedFile}
use Rattle.bq_package_target.specs.declared.target.Target.{Target}
use Rattle.bq_package_target.specs.Package.{PackageTargets}
use Rattle.bq_load_front.specs.Parsed.{kind_of}
use Rattle.bq_load_front.specs.Inputs.{InputParts}
use Rattle.bq_load_front.specs.FileLaws.{TextResolvesTo}
use Rattle.bq_load_discover.specs.LoadGraph.{inputs_of}
use Rattle.bq_load_discover.proofs.Lists.{none_in}
use Rattle.bq_load.specs.Results.{outcomes}
use Rattle.bq_load.specs.Loading.{loading_in}
use Rattle.bq_load.specs.Views.{ModuleView, FailedView}
use Rattle.bq_load_laws.proofs.Tokens as tokens
use Rattle.bq_load_laws.proofs.Pieces as pieces
use Rattle.bq_load_laws.proofs.Pieces.{Numbered, lexemes_numbered}
use Rattle.bq_load_laws.proofs.Names.Files.{fault_stands, resolved_stands}
use Rattle.bq_load_laws.specs.Faults.Lines.{FaultsStandOnLines, StandsOnALine, OutcomesStandOnLines, FaultLinesStandOnLines, TargetsStandOnLines}
use Rattle.bq_load_laws.specs.Faults.Parts.{universe_at, FailsIn, FailsInItsPart}
use Rattle.bq_load_laws.specs.Packages.Declared.{IsLineOf, IsFile, IsFileOrIn, AreDeclaredBy, HasDeclared, DeclaresIn}
use Rattle.bq_load_laws.proofs.Faults.Lines.{lines_loaded}
use Rattle.bq_load_laws.proofs.Faults.Outcomes.{weaker, outcomes_fail}
use Rattle.bq_load_laws.proofs.Packages.Declared.{packages_declare}

pub each_of : {A : Type 0} (P : A → Type 0) (xs : List A) → AllByRecursion P xs → (x : A) → Contains xs x → P x
each_of P xs h x c = All-contains P xs x (All-from_recursion P xs h) c

numbered : (text : List ℕ) (ts : List Token) → Lexes text (Ok ts) → Numbered (lexemes text ts)
numbered text ts reads = lexemes_numbered text ts (tokens.tokens_count text ts reads)

-- the lines of the statements of a resolved file, and those of its loads
pub file_numbered : (inputs : InputParts) (l : LabelParts) (text : List ℕ) (file : ResolvedFile) → TextResolvesTo (universe_at inputs l) text file
    → AllByRecursion (λ (x : FileLine). 1 ≤ x.line) file.statements × AllByRecursion (λ (x : LoadStmt). 1 ≤ x.line) file.loads
file_numbered inputs l text file has =
    resolved_stands (universe_at inputs l) (kind_of l) (lexemes text has.tokens) has.trees file (numbered text has.tokens has.reads) has.parses has.names

same_line : (m n : ℕ) → m ≡ n → 1 ≤ n → 1 ≤ m
same_line m n e h = subst (λ k. 1 ≤ k) (sym e) h

-- ---- faults

line_of : {K : Type 0} (kind : K → FaultKind) (at : Fault K) (why : Fault FaultKind) → why ≡ fault_as kind at → 1 ≤ at.line → 1 ≤ why.line
line_of kind at why is h = same_line why.line at.line (ap (λ (z : Fault FaultKind). z.line) is) h

pub faults_stand : FaultsStandOnLines
faults_stand inputs l why (FailsIn.of_tokens x at there reads is) = line_of kind_of_token at why is (tokens.fault_counts x.content at reads)
faults_stand inputs l why (FailsIn.of_statements x ts at there reads parses is) =
    line_of kind_of_statement at why is (pieces.fault_counts (kind_of l) (lexemes x.content ts) at (numbered x.content ts reads) parses)
faults_stand inputs l why (FailsIn.of_names x ts trees at there reads parses names shallow is) =
    line_of kind_of_name at why is (fault_stands (universe_at inputs l) (kind_of l) (lexemes x.content ts) trees at (numbered x.content ts reads) parses names)
faults_stand inputs l why (FailsIn.of_loads x file at there has in_load is) =
    line_of kind_of_load at why is
    (same_line at.line in_load.load.line in_load.line (each_of (λ (y : LoadStmt). 1 ≤ y.line) file.loads (file_numbered inputs l x.content file has).1 in_load.load in_load.among))
faults_stand inputs l why (FailsIn.of_evaluation x file at there has in_statement is) =
    line_of kind_of_eval at why is
    (same_line at.line in_statement.statement.line in_statement.line (each_of (λ (y : FileLine). 1 ≤ y.line) file.statements (file_numbered inputs l x.content file has).0 in_statement.statement in_statement.among))

outcome_stands : (inputs : InputParts) (l : LabelParts) (r : Result ModuleView FailedView) → IfErr r (λ m. FailsIn inputs l m.fault) → IfErr r (λ m. 1 ≤ m.fault.line)
outcome_stands inputs l (Ok v) h = tt
outcome_stands inputs l (Err v) h = faults_stand inputs l v.fault h

pub outcomes_stand : OutcomesStandOnLines
outcomes_stand files rules limit g w is =
    let inputs = inputs_of files rules in
    weaker (FailsInItsPart inputs) StandsOnALine (λ o h. outcome_stands inputs o.label o.result h) (outcomes (loading_in files rules limit g) g.edges) (outcomes_fail files rules limit g w is)

pub lines_stand : FaultLinesStandOnLines
lines_stand = lines_loaded (λ kind line. 1 ≤ line) faults_stand

-- ---- targets

by_one : (s : FileLine) (ss : List FileLine) (t : Target) → IsFileOrIn s.line t → IsFile t ⊎ IsLineOf (s ∷ ss) t.line
by_one s ss t (inl file) = inl file
by_one s ss t (inr e) = inr (record { statement = s; among = at_head s ss; same = e })

by_later : (s : FileLine) (ss : List FileLine) (t : Target) → IsFile t ⊎ IsLineOf ss t.line → IsFile t ⊎ IsLineOf (s ∷ ss) t.line
by_later s ss t (inl file) = inl file
by_later s ss t (inr i) = inr (record { statement = i.statement; among = in_tail s ss i.statement i.among; same = i.same })

by_calls : (ss : List FileLine) (ts : List Target) → AreDeclaredBy ss ts → (t : Target) → Contains ts t → IsFile t ⊎ IsLineOf ss t.line
by_calls ss ts AreDeclaredBy.nothing t c = absurd (none_in t c)
by_calls ss ts (AreDeclaredBy.in_turn s later first rest all e here more) t c = elim (Contains-append_cases first rest t (subst (λ (z : List Target). Contains z t) e c)) [
  | inl d ↦ by_one s later t (each_of (IsFileOrIn s.line) first here t d)
  | inr d ↦ by_later s later t (by_calls later rest more t d)
]

-- a target of a package is a source file, or in the line of one of the statements that declare
pub by_statements : (ss : List FileLine) (p : PackageTargets) → HasDeclared ss p → (t : Target) → Contains p.targets t → IsFile t ⊎ IsLineOf ss t.line
by_statements ss p h t c = elim (Contains-append_cases h.called h.others t (subst (λ (z : List Target). Contains z t) h.targets c)) [
  | inl d ↦ by_calls ss h.called h.by_calls t d
  | inr d ↦ inl (each_of IsFile h.others h.are_files t d)
]

on_a_line : (ss : List FileLine) (t : Target) → AllByRecursion (λ (x : FileLine). 1 ≤ x.line) ss → IsFile t ⊎ IsLineOf ss t.line → IsFile t ⊎ (1 ≤ t.line)
on_a_line ss t all (inl file) = inl file
on_a_line ss t all (inr i) = inr (same_line t.line i.statement.line i.same (each_of (λ (x : FileLine). 1 ≤ x.line) ss all i.statement i.among))

in_package : (inputs : InputParts) (p : PackageTargets) (t : Target) → Contains p.targets t → (p.targets ≡ []) ⊎ DeclaresIn inputs p.build_file p → IsFile t ⊎ (1 ≤ t.line)
in_package inputs p t c (inl none) = absurd (none_in t (subst (λ (z : List Target). Contains z t) none c))
in_package inputs p t c (inr d) =
    on_a_line d.resolved.statements t (file_numbered inputs p.build_file d.file.content d.resolved d.has).0 (by_statements d.resolved.statements p d.declared t c)

pub targets_stand : TargetsStandOnLines
targets_stand files rules limits l w h p c t d = in_package (inputs_of files rules) p t d (packages_declare files rules limits l w h p c)
