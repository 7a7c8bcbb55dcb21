-- What is kept once the statements of a file have run: the package of a BUILD file has what they declare in turn, and of a .bzl file there
-- is none.
use Rattle.std.proofs.Common.{◌≡◌, ◌∙◌, ◌++◌, ◌∷◌, ℕ, List, [], map, None, refl, sym, ap, subst, append_assoc, append-nil}
use Rattle.std.proofs.lemmas.Option.{none-some}
use Rattle.bq_label.specs.Label.{LabelParts}
use Rattle.bq_resolve_scope.specs.declared.file.FileLine.{FileLine}
use Rattle.bq_resolve_scope.specs.declared.file.ResolvedFile.{ResolvedFile}
use Rattle.bq_value.specs.Datum.{Datum}
use Rattle.bq_package_target.specs.declared.target.Target.{Target}
use Rattle.bq_package_target.specs.Package.{PackageTargets}
use Rattle.bq_package.specs.Calls.{Declaring, HeldPackage, outside, declaring, package_in, meaning}
use Rattle.bq_eval_laws.proofs.BuildFiles.Calls.{calls_own}
use Rattle.bq_load.specs.Evaluation.{kept_first, evaluation}
use Rattle.bq_load.specs.ResolvedFiles.{resolved_files}
use Rattle.bq_load.specs.Loading.{LoadingParts}
use Rattle.bq_load.specs.Views.{ModuleView}
use Rattle.bq_load_laws.specs.Packages.Declared.{AreDeclaredBy}
use Rattle.bq_load_laws.proofs.Packages.Keeping.{Left, Goes, file_goes}
use Rattle.bq_load_laws.proofs.Packages.Calls.{Grows, Held, held_still, calls_keep, rules_keep}

-- a package of the same label gains what the statements declare in turn
pub record GrowsBy (ss : List FileLine) (before after : PackageTargets) : Type 0 where
  pub build_file : after.build_file ≡ before.build_file
  pub new : List Target
  pub targets : after.targets ≡ before.targets ++ new
  pub by_calls : AreDeclaredBy ss new

abbrev pub Ends : List FileLine → Declaring → HeldPackage → Type 0
Ends ss d (outside own packages) = ⊥
Ends ss d (declaring e) = GrowsBy ss d.package e.package

module _ (t : FileLine) (ss : List FileLine) (d : Declaring) where
  joined : (e : Declaring) (last : HeldPackage) → Grows t.line d.package e.package → Ends ss e last → Ends (t ∷ ss) d last
  joined e (outside own packages) g h = absurd h
  joined e (declaring f) g h = record {
    build_file = h.build_file ∙ g.build_file;
    new = g.new ++ h.new;
    targets = h.targets ∙ ap (λ (ts : List Target). ts ++ h.new) g.targets ∙ append_assoc d.package.targets g.new h.new;
    by_calls = AreDeclaredBy.in_turn t ss g.new h.new (g.new ++ h.new) refl g.in_line h.by_calls;
  }

  past_one : (between last : HeldPackage) → Held t.line (declaring d) between → Goes Held ss between last → ((e : Declaring) → Goes Held ss (declaring e) last → Ends ss e last) → Ends (t ∷ ss) d last
  past_one (outside own packages) last step later ends = absurd step
  past_one (declaring e) last step later ends = joined e last step (ends e later)

pub build_ends : (ss : List FileLine) (d : Declaring) (last : HeldPackage) → Goes Held ss (declaring d) last → Ends ss d last
build_ends [] d last e = subst (Ends [] d) (sym e) record { build_file = refl; new = []; targets = sym (append-nil d.package.targets); by_calls = AreDeclaredBy.nothing }
build_ends (t ∷ ss) d last h = past_one t ss d h.0 last h.1 h.2 (λ e later. build_ends ss e last later)

-- no package is kept of a .bzl file
abbrev pub HasNone : HeldPackage → Type 0
HasNone k = package_in k ≡ None

still_none : (line : ℕ) (k next : HeldPackage) → HasNone k → Held line k next → HasNone next
still_none line k (outside own packages) none step = refl
still_none line (outside own packages) (declaring e) none step = absurd step
still_none line (declaring d) (declaring e) none step = absurd (none-some d.package (sym none))

pub bzl_ends : (ss : List FileLine) (k last : HeldPackage) → HasNone k → Goes Held ss k last → HasNone last
bzl_ends [] k last none e = subst HasNone (sym e) none
bzl_ends (t ∷ ss) k last none h = bzl_ends ss h.0 last (still_none t.line k h.0 none h.1) h.2

-- what is kept once the statements of a file have run
pub left_by : (x : LoadingParts) (m : ℕ) (l : LabelParts) (file : ResolvedFile) (modules : List ModuleView) (values : List Datum)
    → Left (Goes Held file.statements (kept_first x l)) (evaluation x m l file modules values)
unfolding evaluation
left_by x m l file modules values = file_goes Held held_still x.names meaning calls_own calls_keep rules_keep (resolved_files x.modules) m file (map (λ v. v.frozen) modules) values x.limit (kept_first x l)
