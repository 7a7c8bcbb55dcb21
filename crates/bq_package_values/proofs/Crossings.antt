-- Names without a slash cross into another package alike.
use Rattle.std.proofs.Common.{◌≡◌, ◌↔◌, ℕ, Bool, true, false, List, Option, Some, None, refl, sym, ap, subst, ◌∙◌, codes}
use Rattle.std.specs.Prelude.{◌&&◌, bytes_eq}
use Rattle.std.proofs.lemmas.Slice.Eq.{bytes_eq-Decides}
use Rattle.bq_label.specs.declared.packages.BuildFile.{BuildFile}
use Rattle.bq_label.specs.Label.{PackageParts, LabelParts, label_in, label_at, package_of}
use Rattle.bq_label.specs.Packages.{label_path, owner_of}
use Rattle.bq_label.specs.Paths.{HasNoSlash, is_path}
use Rattle.bq_label.proofs.ShortNames.{short_names}
use Rattle.bq_package_target.specs.Target.{is_of}
use Rattle.bq_package_values.specs.Scope.{crosses, own_label_crosses, ShortNamesCross}
use Rattle.bq_package_values.proofs.ValueCases.{is_owned_by_other}

same_other : (own : PackageParts) (n m : List ℕ) (v : Option BuildFile) → is_owned_by_other (label_in own n) v ≡ is_owned_by_other (label_in own m) v
unfolding is_of
same_other own n m None = refl
same_other own n m (Some b) = refl

pub cross_alike : (packages : List BuildFile) (own : PackageParts) (n m : List ℕ)
    → owner_of packages (label_path (label_in own n)) ≡ owner_of packages (label_path (label_in own m)) → crosses packages (label_in own n) ≡ crosses packages (label_in own m)
unfolding crosses
cross_alike packages own n m one =
    ap (is_owned_by_other (label_in own n)) one ∙ same_other own n m (owner_of packages (label_path (label_in own m)))

both : (a b : Bool) → (a && b) ≡ true → (a ≡ true) × (b ≡ true)
both true b h = (refl, h)
both false b h = absurd (cc)

pub in_own : (own : PackageParts) (n : List ℕ) → is_of own (label_in own n) ≡ true
unfolding is_of
in_own own n = rw ((bytes_eq-Decides own.repo own.repo).1 refl, (bytes_eq-Decides own.package own.package).1 refl) refl

-- a label of the package is that of its name there
pub own_is : (own : PackageParts) (l : LabelParts) → is_of own l ≡ true → l ≡ label_in own l.name
unfolding is_of
own_is own l h =
    let p = both (bytes_eq l.repo own.repo) (bytes_eq l.package own.package) h in
    let repo : l.repo ≡ own.repo = (bytes_eq-Decides l.repo own.repo).0 p.0 in
    let path : l.package ≡ own.package = (bytes_eq-Decides l.package own.package).0 p.1 in
    ap (λ (r : List ℕ). label_at r l.package l.name) repo ∙ ap (λ (q : List ℕ). label_at own.repo q l.name) path

-- labels with one name are equal where their packages are
pub same_parts : (a b : LabelParts) → bytes_eq a.name b.name ≡ true → (is_of (package_of a) b ≡ true) ↔ (a ≡ b)
same_parts a b named = (
  λ h. ap (label_in (package_of a)) ((bytes_eq-Decides a.name b.name).0 named) ∙ sym (own_is (package_of a) b h),
  λ e. subst (λ (l : LabelParts). is_of (package_of a) l ≡ true) e (in_own (package_of a) a.name),
)

pub short_own : (packages : List BuildFile) (own : PackageParts) (l : LabelParts) (b : Bool) → ShortNamesCross own packages b → is_of own l ≡ true → HasNoSlash l.name
    → b ≡ own_label_crosses own packages l
unfolding own_label_crosses
short_own packages own l b short h plain = sym (rw h (ap (crosses packages) (own_is own l h) ∙ short l.name plain))

-- ---- the name `BUILD`, which stands for all names without a slash

pub build_is_path : (name : List ℕ) → name ≡ codes "BUILD" → is_path name ≡ true
unfolding is_path
build_is_path name is = rw is refl

pub short_by_build : (packages : List BuildFile) (own : PackageParts) (name : List ℕ) (l : LabelParts) (b : Bool) → name ≡ codes "BUILD" → l ≡ label_in own name → b ≡ crosses packages l
    → ShortNamesCross own packages b
short_by_build packages own name l b is at found n plain =
    cross_alike packages own n (codes "BUILD") (short_names packages own n (codes "BUILD") plain refl) ∙ sym (found ∙ ap (crosses packages) (at ∙ ap (label_in own) is))
