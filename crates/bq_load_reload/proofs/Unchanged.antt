-- Modules that have stayed what they were are unchanged.
use Rattle.std.proofs.Common.{◌≡◌, ◌∙◌, ◌<◌, Bool, true, false, not, ℕ, zero, List, length, map, Option, Some, Ok, slice_get, refl, sym, ap, subst}
use Rattle.std.proofs.lemmas.Option.{slice_get_within}
use Rattle.bq_label.specs.declared.packages.BuildFile.{BuildFile}
use Rattle.bq_label.specs.declared.workspace.File.{File}
use Rattle.bq_label.specs.Label.{LabelParts, package_of}
use Rattle.bq_label.specs.Packages.{packages_of}
use Rattle.bq_label.specs.Workspace.{paths_of}
use Rattle.bq_label_set.specs.Labels.{same_label-Decides}
use Rattle.bq_parse_grammar.specs.declared.tree.FileKind.{FileKind}
use Rattle.bq_parse_grammar.specs.declared.tree.FileKind.TheVariants as kinds
use Rattle.bq_package_schema.specs.Schema.{Rules}
use Rattle.bq_board.specs.Cycles.{Reaches}
use Rattle.bq_board.specs.Graph.{Loads, Known}
use Rattle.bq_load_front.specs.Parsed.{kind_of}
use Rattle.bq_load_discover.specs.declared.modules.Module.{Module}
use Rattle.bq_load_discover.specs.LoadGraph.{GraphParts, IsReadGraph, inputs_of}
use Rattle.bq_load_discover.specs.Module.{module_of}
use Rattle.bq_load_discover.specs.Schema.{schema_in}
use Rattle.bq_load_order.specs.SharedOutcomes.{shown}
use Rattle.bq_load_order.specs.Again.{had, number_at, IsHad, ReachesHad, EvaluatesAs, AreUnchanged}
use Rattle.bq_load_laws.specs.ChangedOutcomes.{BeginsAlike, IsUnchanged}
use Rattle.bq_load_laws.specs.FileReadings.{text_of}
use Rattle.bq_load_laws.proofs.Kept.{unchanged_keep}
use Rattle.bq_load.specs.Evaluation.{means}
use Rattle.bq_load.specs.Loading.{LoadingParts, loading_in}
use Rattle.bq_load.specs.Views.{module_view, failed_view}
use Rattle.bq_load_reload.specs.Kept.{Shared, WereLoaded}
use Rattle.bq_load_changes.specs.Paths.{is_touched}
use Rattle.bq_load_changes.specs.Same.{HasSameFrame, HasStayed, HaveStayed, is_untouched}
use Rattle.bq_load_changes.proofs.Covered.{same_names}
use Rattle.bq_load_reload.proofs.Texts as texts

not_true : (b : Bool) → not b ≡ true → b ≡ false
not_true true h = absurd (cc)
not_true false h = refl

abbrev some_module : Module → Option Module
some_module m = Some m

one_module : (a b : Module) → some_module a ≡ some_module b → a ≡ b
one_module a b e = cc

module _ (before after : List File) (limit : ℕ) (ls : List LabelParts) (p : Loads) (os : List Shared) (is : WereLoaded before limit ls p os) (rules : Rules) (schema : schema_in after ≡ Ok rules)
    (g : GraphParts) (read : IsReadGraph (inputs_of after rules) g) (touched : List BuildFile) (frame : HasSameFrame before after touched) where
  abbrev old : LoadingParts
  old = loading_in before is.is.rules limit is.graph

  abbrev new : LoadingParts
  new = loading_in after rules limit g

  the_rules : rules ≡ is.is.rules
  the_rules = texts.the_rules before after touched is.is.rules rules is.is.schema schema frame

  the_packages : packages_of after ≡ packages_of before
  the_packages = texts.the_packages before after touched is.is.rules rules is.is.schema schema frame

  had_label : (m : ℕ) (l : LabelParts) → slice_get ls m ≡ Some l → slice_get is.graph.labels m ≡ Some l
  had_label m l at = ap (λ (ks : List LabelParts). slice_get ks m) (sym is.labelled) ∙ at

  -- what is known of a module that has stayed
  stayed_label : (l : LabelParts) (m k : ℕ) → HasStayed before after touched ls l m k → slice_get ls m ≡ Some l
  stayed_label l m k s = s.label ∙ ap (λ (z : LabelParts). Some z) ((same_label-Decides s.other l).0 s.same)

  read_same : (m : ℕ) (l : LabelParts) → slice_get g.labels m ≡ Some l → slice_get ls m ≡ Some l → text_of before l ≡ text_of after l → slice_get new.modules m ≡ slice_get old.modules m
  read_same m l at had text =
      texts.read_at after rules g read m l at
      ∙ (ap (λ (s : Module). Some s) (texts.modules_same before after touched is.is.rules rules is.is.schema schema frame l text) ∙ sym (texts.read_at before is.is.rules is.graph is.is.read m l (had_label m l had)))

  -- ---- what its host begins with

  begins : (l : LabelParts) (k : FileKind) → is_untouched touched l k ≡ true → BeginsAlike old new l k
  begins l kinds.Bzl free = the_packages
  begins l kinds.Build free = (the_packages, the_rules, sym (same_names (packages_of before) touched (paths_of before) (paths_of after) frame.paths (package_of l) (not_true (is_touched touched (package_of l)) free)))

  -- ---- modules that have stayed

  module _ (was : List (Option ℕ)) (stay : HaveStayed before after touched ls g.labels was) where
    same_at : (m k : ℕ) → number_at was m ≡ Some k → slice_get new.modules k ≡ slice_get old.modules k
    same_at m k e =
        let s = stay m k e in
        subst (λ (n : ℕ). slice_get new.modules n ≡ slice_get old.modules n) (sym s.2.number) (read_same m s.0 s.1 (stayed_label s.0 m k s.2) (texts.text_same before after s.0 s.2.text))

    label_at : (m : ℕ) (s : Module) (l : LabelParts) → slice_get is.graph.labels m ≡ Some l → slice_get old.modules m ≡ Some s → l ≡ s.label
    label_at m s l at there =
        let same : Some (module_of (inputs_of before is.is.rules) l) ≡ Some s = sym (texts.read_at before is.is.rules is.graph is.is.read m l at) ∙ there in
        ap (λ (z : Module). z.label) (one_module (module_of (inputs_of before is.is.rules) l) s same)

    host_at : (k : ℕ) → IsHad was k → (s : Module) → slice_get old.modules k ≡ Some s → BeginsAlike old new s.label (kind_of s.label)
    host_at k held s at =
        let stays = stay held.0 k held.1 in
        let l = stays.0 in
        let there : slice_get is.graph.labels k ≡ Some l = subst (λ (n : ℕ). slice_get is.graph.labels n ≡ Some l) (sym stays.2.number) (had_label held.0 l (stayed_label l held.0 k stays.2)) in
        subst (λ (z : LabelParts). BeginsAlike old new z (kind_of z)) (label_at k s l there at) (begins l (kind_of l) stays.2.untouched)

    is_unchanged : (k : ℕ) → ReachesHad p was k → IsUnchanged old new p k
    is_unchanged k reached = record {
      names = ap (λ (r : Rules). r.names) the_rules;
      limit = refl;
      read = λ l path. let h = reached l path in same_at h.0 l h.1;
      host = λ s at. host_at k (reached k (zero, refl)) s at;
    }

    known : Known p
    known = subst (λ (q : Loads). Known q) (sym is.loaded) is.is.numbered.valid.1

    within : (m k : ℕ) → number_at was m ≡ Some k → k < length p
    within m k e =
        let s = stay m k e in
        let there : m < length is.graph.labels = slice_get_within is.graph.labels m s.0 (had_label m s.0 (stayed_label s.0 m k s.2)) in
        let wide : length p ≡ length is.graph.labels = ap (λ (q : Loads). length q) is.loaded ∙ is.is.numbered.long in
        subst (λ (n : ℕ). n < length p) (sym s.2.number) (subst (λ (n : ℕ). m < n) (sym wide) there)

    pub are_unchanged : AreUnchanged (had (map (shown module_view failed_view) os)) p (means new) was
    are_unchanged m k e reached =
        let s = stay m k e in
        let same : EvaluatesAs (had (map (shown module_view failed_view) os)) p k (means new) k =
        unchanged_keep old new p known (map (shown module_view failed_view) os) is.outcomes k (within m k e) (is_unchanged k reached) in
        subst (λ (n : ℕ). EvaluatesAs (had (map (shown module_view failed_view) os)) p k (means new) n) s.2.number same
