-- The fault that is read of a file is one of its tokens, its statements, its names or its loads.
use Rattle.std.proofs.Common.{◌≡◌, true, ℕ, List, [], ◌∷◌, ◌++◌, Option, Some, None, Result, Ok, Err, Contains, refl, sym, ap, subst, is_some}
use Rattle.bq_base.specs.declared.fault.Fault.{Fault}
use Rattle.bq_base.specs.declared.fault.FaultKind.{FaultKind}
use Rattle.bq_base.specs.declared.fault.LoadFault.{LoadFault}
use Rattle.bq_base.specs.declared.fault.LoadFault.TheVariants as f
use Rattle.bq_base.specs.Fault.{fault_at, kind_of_load, or_fault_as}
use Rattle.bq_parse_grammar.specs.Lexeme.{lexemes}
use Rattle.bq_parse_grammar.specs.Pieces.{pieces}
use Rattle.bq_parse_laws.proofs.FileDepths.{file_within}
use Rattle.bq_resolve_scope.specs.declared.loads.LoadStmt.{LoadStmt}
use Rattle.bq_resolve_scope.specs.declared.file.ResolvedFile.{ResolvedFile}
use Rattle.bq_resolve_laws.proofs.Depths.Files.{none_too_deep}
use Rattle.bq_label.proofs.Orders.{at_head, in_tail}
use Rattle.bq_label.specs.declared.workspace.File.{File}
use Rattle.bq_label.specs.declared.packages.BuildFile.{BuildFile}
use Rattle.bq_label.specs.Label.{LabelParts, PackageParts, package_of, full_form}
use Rattle.bq_label.specs.Packages.{label_file}
use Rattle.bq_load_front.specs.NamedFile.{bzl_label, fault_of_file, unless_fault, file_named, load_label}
use Rattle.bq_load_front.specs.Resolved.{resolved_file, ◌>>=◌}
use Rattle.bq_load_front.specs.Front.{front_at, front_of, load_of}
use Rattle.bq_load_front.specs.Parsed.{labels_of, kind_of}
use Rattle.bq_load_front.specs.Inputs.{InputParts}
use Rattle.bq_load_front.specs.FileLaws.{TextResolvesTo, HasFault}
use Rattle.bq_load_front.specs.declared.front.Front.{Front}
use Rattle.bq_load_front.proofs.ResolvedFiles.{resolved_files_of_texts, faults_of_files}
use Rattle.bq_load_front.proofs.Loads.{are_read}
use Rattle.bq_load_laws.specs.Faults.Parts.{universe_at, IsAtLoad, FailsIn}

-- ---- loads

-- at the line of the load
line_of_label : (line : ℕ) (l : LabelParts) (o : Option LoadFault) (why : Fault LoadFault) → unless_fault line l o ≡ Err why → why.line ≡ line
line_of_label line l None why e = absurd (cc)
line_of_label line l (Some kind) why e = let same : record { kind = kind; line = line; detail = full_form l } ≡ why = cc in sym (ap (λ (x : Fault LoadFault). x.line) same)

line_of_name : (files : List File) (packages : List BuildFile) (line : ℕ) (o : Option LabelParts) (why : Fault LoadFault) → file_named files packages line o ≡ Err why → why.line ≡ line
line_of_name files packages line None why e = let same : fault_at f.BadLoadLabel line ≡ why = cc in sym (ap (λ (x : Fault LoadFault). x.line) same)
line_of_name files packages line (Some l) why e = line_of_label line l (fault_of_file files packages l) why e

line_of_load : (files : List File) (packages : List BuildFile) (own : PackageParts) (line : ℕ) (text : List ℕ) (why : Fault LoadFault) → load_label files packages own line text ≡ Err why → why.line ≡ line
unfolding load_label
line_of_load files packages own line text why e = line_of_name files packages line (bzl_label own text) why e

pub among_all : {X : Type 0} (before : List X) (x : X) (after : List X) → Contains (before ++ x ∷ after) x
among_all [] x after = at_head x after
among_all (b ∷ bs) x after = in_tail b (bs ++ x ∷ after) x (among_all bs x after)

-- ---- files

module _ (inputs : InputParts) (l : LabelParts) where
  of_text : (x : File) → label_file inputs.files l ≡ Some x → (why : Fault FaultKind) → HasFault (universe_at inputs l) x.content why → FailsIn inputs l why
  of_text x is why (HasFault.of_tokens at reads e) = FailsIn.of_tokens x at is reads e
  of_text x is why (HasFault.of_statements tokens at reads parses e) = FailsIn.of_statements x tokens at is reads parses e
  of_text x is why (HasFault.of_names tokens trees at reads parses names e) =
      FailsIn.of_names x tokens trees at is reads parses names
      (none_too_deep (universe_at inputs l) trees at (file_within (kind_of l) (pieces (lexemes x.content tokens)) trees (Ok trees) refl parses) names) e

  abbrev labels : ResolvedFile → Result (List LabelParts) (Fault LoadFault)
  labels file = labels_of (load_of inputs (package_of l)) [] file.loads

  abbrev front_in : ResolvedFile → Result (List LabelParts) (Fault LoadFault) → Result Front (Fault FaultKind)
  front_in file r = or_fault_as kind_of_load r >>= λ ls. Ok (record { file = file; loads = ls })

  abbrev front_with : Result ResolvedFile (Fault FaultKind) → Result Front (Fault FaultKind)
  front_with r = r >>= λ file. front_in file (labels file)

  -- what is read is what the file resolves to, or a fault of one of its parts
  abbrev pub IsFront : Result Front (Fault FaultKind) → Type 0
  IsFront (Ok front) = (x : File) × (label_file inputs.files l ≡ Some x) × TextResolvesTo (universe_at inputs l) x.content front.file
  IsFront (Err why) = FailsIn inputs l why

  by_labels : (x : File) → label_file inputs.files l ≡ Some x → (file : ResolvedFile) → TextResolvesTo (universe_at inputs l) x.content file → (r : Result (List LabelParts) (Fault LoadFault)) → labels file ≡ r
      → IsFront (front_in file r)
  by_labels x is file has (Ok ls) e = (x, is, has)
  by_labels x is file has (Err why) e =
      let bad = ((are_read (load_of inputs (package_of l)) file.loads).1 why).0 e in
      let at : IsAtLoad file.loads why = record {
        load = bad.load;
        among = subst (λ (z : List LoadStmt). Contains z bad.load) (sym bad.split) (among_all bad.before bad.load bad.after);
        line = line_of_load inputs.files inputs.packages (package_of l) bad.load.line bad.load.label why bad.bad;
      } in
      FailsIn.of_loads x file why is has at refl

  by_text : (x : File) → label_file inputs.files l ≡ Some x → (r : Result ResolvedFile (Fault FaultKind)) → resolved_file (universe_at inputs l) x.content ≡ r → IsFront (front_with r)
  by_text x is (Ok file) e = by_labels x is file ((resolved_files_of_texts (universe_at inputs l) x.content file).0 e) (labels file) refl
  by_text x is (Err why) e = of_text x is why ((faults_of_files (universe_at inputs l) x.content why).0 e)

  by_file : (o : Option File) → label_file inputs.files l ≡ o → is_some o ≡ true → IsFront (front_at inputs l o)
  by_file None e there = absurd (cc)
  by_file (Some x) e there = by_text x e (resolved_file (universe_at inputs l) x.content) refl

  -- where the file is there
  pub fronts_fail : is_some (label_file inputs.files l) ≡ true → IsFront (front_of inputs l)
  unfolding front_of
  fronts_fail there = by_file (label_file inputs.files l) refl there
