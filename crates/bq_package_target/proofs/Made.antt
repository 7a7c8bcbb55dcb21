-- Generated files are outputs of their rules.
use Rattle.std.proofs.Common.{◌≡◌, ◌∙◌, ◌⊎◌, ℕ, false, List, [], ◌∷◌, ◌++◌, map, refl, sym, ap, subst, inl, inr, arith}
use Rattle.std.specs.List.{Contains, list_any}
use Rattle.std.proofs.lemmas.Bool.{cases_Bool}
use Rattle.std.proofs.lemmas.List.Elements.{Contains-append_cases, Contains-append_left, Contains-append_right}
use Rattle.bq_label.specs.Label.{LabelParts, package_of}
use Rattle.bq_label.proofs.Orders.{at_head, in_tail, head_or_tail}
use Rattle.bq_value_datum.specs.Class.{Class}
use Rattle.bq_package_target.specs.declared.target.Target.{Target}
use Rattle.bq_package_target.specs.declared.target.TargetKind.{TargetKind}
use Rattle.bq_package_target.specs.declared.target.TargetKind.TheVariants as k
use Rattle.bq_package_target.specs.declared.state.Declared.TheVariants.{Accepted}
use Rattle.bq_package_target.specs.Value.{outputs_in}
use Rattle.bq_package_target.specs.Names.{are_new}
use Rattle.bq_package_target.specs.Target.{names_of, source, generated, declares}
use Rattle.bq_package_target.specs.Package.{PackageTargets, no_targets, is_taken, new_files, files, own_labels, finished}
use Rattle.bq_package_target.specs.Calls.{exported}
use Rattle.bq_package_target.specs.Laws.{Call, rule_or_group, exports, result_of, after, after_calls, IsRuleOrGroup, AreRulesOrGroups, Makes, EachIsMade}
use Rattle.bq_package_target.proofs.States.{declared_new, declared_old, declares_is, exported_old}

none_in : {X : Type 0} (z : X) → Contains [] z → ⊥
none_in z c = omega arith

record IsMapped {X Y : Type 0} (f : X → Y) (xs : List X) (y : Y) : Type 0 where
  from : X
  known : Contains xs from
  is : f from ≡ y

mapped : {X Y : Type 0} (f : X → Y) (xs : List X) (y : Y) → Contains (map f xs) y → IsMapped f xs y
mapped f [] y c = absurd (none_in y c)
mapped f (x ∷ xs) y c = elim (head_or_tail (f x) (map f xs) y c) [
  | inl e ↦ record { from = x; known = at_head x xs; is = e }
  | inr later ↦ let r = mapped f xs y later in record { from = r.from; known = in_tail x xs r.from r.known; is = r.is }
]

makes_more : (xs ys : List Target) (rule file : LabelParts) → Makes xs rule file → Makes (xs ++ ys) rule file
makes_more xs ys rule file m = record { maker = m.maker; known = Contains-append_left xs ys m.maker m.known; label = m.label; output = m.output }

-- none is a generated file
abbrev NoneIsMade : List Target → Type 0
NoneIsMade ts = (file : Target) (rule : LabelParts) → Contains ts file → file.kind ≡ k.Generated rule → ⊥

made_append : (xs ys : List Target) → EachIsMade xs → NoneIsMade ys → EachIsMade (xs ++ ys)
made_append xs ys f g file rule c e = elim (Contains-append_cases xs ys file c) [
  | inl here ↦ makes_more xs ys rule file.label (f file rule here e)
  | inr later ↦ absurd (g file rule later e)
]

no_source : (rule : LabelParts) → k.Source ≡ k.Generated rule → ⊥
no_source rule e = cc

no_files_made : (line : ℕ) (ls : List LabelParts) → NoneIsMade (map (λ l. source l line) ls)
no_files_made line ls file rule c e =
    let r = mapped (λ (l : LabelParts). source l line) ls file c in
    no_source rule (ap (λ (t : Target). t.kind) r.is ∙ e)

no_rule : (kind : TargetKind) (rule : LabelParts) → ((name : List ℕ) × ((class : Class) × (kind ≡ k.Rule name class))) ⊎ (kind ≡ k.Group) → kind ≡ k.Generated rule → ⊥
no_rule kind rule (inl r) e = differ r.0 r.1.0 (sym r.1.1 ∙ e)
  where
    differ : (name : List ℕ) (class : Class) → k.Rule name class ≡ k.Generated rule → ⊥
    differ name class e = cc
no_rule kind rule (inr g) e = differ (sym g ∙ e)
  where
    differ : k.Group ≡ k.Generated rule → ⊥
    differ e = cc

same_rule : (a b : LabelParts) → k.Generated a ≡ k.Generated b → a ≡ b
same_rule a b e = cc

-- the files of a call are made by its rule
call_made : (xs : List Target) (t : Target) → ((name : List ℕ) × ((class : Class) × (t.kind ≡ k.Rule name class))) ⊎ (t.kind ≡ k.Group) → EachIsMade xs → EachIsMade (xs ++ declares t)
call_made xs t r f file rule c e = elim (Contains-append_cases xs (declares t) file c) [
  | inl here ↦ makes_more xs (declares t) rule file.label (f file rule here e)
  | inr later ↦
      let in_call : Contains (t ∷ map (generated t) (outputs_in t.attributes)) file = subst (λ (z : List Target). Contains z file) (declares_is t) later in
      elim (head_or_tail t (map (generated t) (outputs_in t.attributes)) file in_call) [
        | inl same ↦ absurd (no_rule t.kind rule r (ap (λ (z : Target). z.kind) same ∙ e))
        | inr output ↦
            let m = mapped (generated t) (outputs_in t.attributes) file output in
            let itself : Contains (declares t) t = subst (λ (z : List Target). Contains z t) (sym (declares_is t)) (at_head t (map (generated t) (outputs_in t.attributes))) in
            record {
              maker = t;
              known = Contains-append_right xs (declares t) t itself;
              label = same_rule t.label rule (ap (λ (z : Target). z.kind) m.is ∙ e);
              output = subst (λ (l : LabelParts). Contains (outputs_in t.attributes) l) (ap (λ (z : Target). z.label) m.is) m.known;
            }
      ]
]

export_is : (p : PackageTargets) (ls : List LabelParts) (line : ℕ) → list_any (is_taken p.targets) ls ≡ false → exported p ls line ≡ Accepted (record { build_file = p.build_file; targets = p.targets ++ map (λ l. source l line) (new_files (names_of p.targets) ls) })
unfolding exported files
export_is p ls line h = rw h refl

after_made : (p : PackageTargets) (c : Call) → IsRuleOrGroup c → EachIsMade p.targets → EachIsMade (after p c).targets
after_made p (rule_or_group t) r f = elim (cases_Bool (are_new (names_of p.targets) (names_of (declares t)))) [
  | inl new ↦ subst (λ (q : PackageTargets). EachIsMade q.targets) (sym (ap result_of (declared_new p t new))) (call_made p.targets t r f)
  | inr old ↦ subst (λ (q : PackageTargets). EachIsMade q.targets) (sym (ap result_of (declared_old p t old))) f
]
after_made p (exports ls line) r f = elim (cases_Bool (list_any (is_taken p.targets) ls)) [
  | inl taken ↦ subst (λ (q : PackageTargets). EachIsMade q.targets) (sym (ap result_of (exported_old p ls line taken))) f
  | inr free ↦ subst (λ (q : PackageTargets). EachIsMade q.targets) (sym (ap result_of (export_is p ls line free))) (made_append p.targets (map (λ l. source l line) (new_files (names_of p.targets) ls)) f (no_files_made line (new_files (names_of p.targets) ls)))
]

all_made : (p : PackageTargets) (calls : List Call) → AreRulesOrGroups calls → EachIsMade p.targets → EachIsMade (after_calls p calls).targets
all_made p [] r f = f
all_made p (c ∷ cs) r f = all_made (after p c) cs r.1 (after_made p c r.0 f)

pub finished_made : (b : LabelParts) (calls : List Call) → AreRulesOrGroups calls → EachIsMade (finished (after_calls (no_targets b) calls)).targets
unfolding finished files
finished_made b calls r =
    let p : PackageTargets = after_calls (no_targets b) calls in
    let named : List LabelParts = p.build_file ∷ own_labels (package_of p.build_file) p.targets in
    made_append p.targets (map (λ l. source l 0) (new_files (names_of p.targets) named)) (all_made (no_targets b) calls r (λ file rule c e. absurd (none_in file c))) (no_files_made 0 (new_files (names_of p.targets) named))
