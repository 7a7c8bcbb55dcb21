-- A fault of a load names the first load of the file.
use Rattle.std.proofs.Common.{◌≡◌, ◌∙◌, inl, inr, refl, sym, ap, subst, ℕ, suc, true, false, List, [], ◌∷◌, ◌++◌, length, Result, Contains, arith}
use Rattle.std.specs.Prelude.{bytes_eq}
use Rattle.std.specs.List.{AllByRecursion}
use Rattle.std.proofs.lemmas.Slice.Eq.{bytes_eq-Decides}
use Rattle.bq_base.specs.declared.fault.Fault.{Fault}
use Rattle.bq_base.specs.declared.fault.FaultKind.{FaultKind}
use Rattle.bq_base.specs.declared.fault.LoadFault.{LoadFault}
use Rattle.bq_base.specs.Fault.{fault_as, kind_of_load}
use Rattle.bq_base.proofs.Choices.{by_bool}
use Rattle.bq_label.proofs.Orders.{head_or_tail}
use Rattle.bq_label_set.proofs.Added.{none_in}
use Rattle.bq_label.specs.Label.{LabelParts, full_form}
use Rattle.bq_resolve_scope.specs.declared.loads.LoadStmt.{LoadStmt}
use Rattle.bq_load_front.specs.declared.front.Front.{Front}
use Rattle.bq_load_discover.specs.declared.modules.Module.{Module}
use Rattle.bq_load.specs.Results.{line_of_load, load_fault}
use Rattle.bq_load.specs.Loading.{LoadingParts}
use Rattle.bq_load_laws.specs.Outcomes.FirstLoad.{IsFirstLoadOf, LoadsFirst, fault_at_load}

first_line : (l k : LabelParts) (load : LoadStmt) (before after : List LoadStmt) (other later : List LabelParts) → bytes_eq (full_form l) (full_form k) ≡ true → length before ≡ length other
    → AllByRecursion (λ j. bytes_eq (full_form l) (full_form j) ≡ false) other → line_of_load l (before ++ load ∷ after) (other ++ k ∷ later) ≡ load.line
unfolding line_of_load
first_line l k load [] after [] later form place others = rw form refl
first_line l k load [] after (j ∷ js) later form place others = absurd (omega (arith, place))
first_line l k load (b ∷ bs) after [] later form place others = absurd (omega (arith, place))
first_line l k load (b ∷ bs) after (j ∷ js) later form place others = let other_form = others.0 in rw other_form (first_line l k load bs after js later form (omega (arith, place)) others.1)

pub names_the_first : (x : LoadingParts) (k : ℕ) (front : Result Front (Fault FaultKind)) (loaded : Module) (kind : LoadFault) (load : LoadStmt) → LoadsFirst x k front loaded load → load_fault x front kind k ≡ fault_as kind_of_load (fault_at_load kind load loaded)
unfolding load_fault
names_the_first x k front loaded kind load l =
    let first = l.first in
    let read = l.read in
    let known = l.known in
    let line : line_of_load loaded.label l.own.file.loads l.own.loads ≡ load.line =
    (λ i. line_of_load loaded.label (first.loads_are i) (first.files_are i)) ∙ first_line loaded.label first.named load first.before first.after first.other first.later first.form first.place first.others in
    rw (read, known, line) refl

-- ---- there is one

same_form : (l : LabelParts) → bytes_eq (full_form l) (full_form l) ≡ true
same_form l = (bytes_eq-Decides (full_form l) (full_form l)).1 refl

-- the first of these loads that names a file of this form
pub record HasFirst (l : LabelParts) (ss : List LoadStmt) (ks : List LabelParts) : Type 0 where
  pub load : LoadStmt
  pub is : IsFirstLoadOf l load ss ks

more : (l k : LabelParts) (s : LoadStmt) (ss : List LoadStmt) (ks : List LabelParts) → bytes_eq (full_form l) (full_form k) ≡ false → HasFirst l ss ks → HasFirst l (s ∷ ss) (k ∷ ks)
more l k s ss ks differs h =
    let r = h.is in
    record {
      load = h.load;
      is = record {
        before = s ∷ r.before;
        after = r.after;
        loads_are = ap (λ (z : List LoadStmt). s ∷ z) r.loads_are;
        named = r.named;
        other = k ∷ r.other;
        later = r.later;
        files_are = ap (λ (z : List LabelParts). k ∷ z) r.files_are;
        form = r.form;
        place = ap (λ (n : ℕ). suc n) r.place;
        others = (differs, r.others);
      };
    }

here : (l k : LabelParts) (s : LoadStmt) (ss : List LoadStmt) (ks : List LabelParts) → bytes_eq (full_form l) (full_form k) ≡ true → HasFirst l (s ∷ ss) (k ∷ ks)
here l k s ss ks form =
    record { load = s; is = record { before = []; after = ss; loads_are = refl; named = k; other = []; later = ks; files_are = refl; form = form; place = refl; others = tt } }

-- where there is a load for each file, and the file is one of them
pub has_first : (l : LabelParts) (ss : List LoadStmt) (ks : List LabelParts) → length ss ≡ length ks → Contains ks l → HasFirst l ss ks
has_first l ss [] wide c = absurd (none_in l c)
has_first l [] (k ∷ ks) wide c = absurd (omega (arith, wide))
has_first l (s ∷ ss) (k ∷ ks) wide c = elim (by_bool (bytes_eq (full_form l) (full_form k))) [
  | inl form ↦ here l k s ss ks form
  | inr differs ↦ elim (head_or_tail k ks l c) [
    | inl same ↦ here l k s ss ks (subst (λ (z : LabelParts). bytes_eq (full_form l) (full_form z) ≡ true) (sym same) (same_form l))
    | inr later ↦ more l k s ss ks differs (has_first l ss ks (omega (arith, wide)) later)
  ]
]
