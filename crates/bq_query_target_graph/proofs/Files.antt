-- The BUILD file of a label's package.
use Rattle.std.proofs.Common.{◌≡◌, ◌<◌, ℕ, List, [], ◌∷◌, length, map, get_or, refl, ap}
use Rattle.std.specs.List.{AllByRecursion}
use Rattle.std.specs.List.Sorted.{IsStrictlySortedBy, IsNonDecreasingBy, IsPartitionPoint}
use Rattle.std.specs.Option.{unwrap_or}
use Rattle.std.specs.Ordering.{is_eq, ordering_index}
use Rattle.std.specs.declared.cmp.Ordering.TheVariants.{Less, Equal, Greater}
use Rattle.bq_label.specs.Label.{LabelParts, PackageParts, package_of}
use Rattle.bq_label.specs.Packages.{id_cmp}
use Rattle.bq_label.proofs.BuildFiles.{by_id, same_id_test}
use Rattle.bq_label.proofs.Searches.{find_here, find_nowhere}
use Rattle.bq_package_target.specs.Target.{is_of}
use Rattle.bq_package_target.specs.Package.{PackageTargets}
use Rattle.bq_package_target.specs.PackageOrder.{id_of, PackagesAscend}
use Rattle.bq_query_target_graph.specs.BuildFiles.{build_files, FilesAscend, file_of}

-- a label is of the package that has its name
pub of_package : (p : PackageParts) (b : LabelParts) → is_of p b ≡ is_eq (id_cmp (package_of b) p)
unfolding is_of
of_package p b = same_id_test (package_of b) p

pub files_ascend : (ps : List PackageTargets) → PackagesAscend ps → FilesAscend (build_files ps)
unfolding IsStrictlySortedBy
files_ascend [] o = tt
files_ascend (p ∷ ps) o = (each p ps o.0, files_ascend ps o.1)
  where
    each : (p : PackageTargets) (ps : List PackageTargets) → AllByRecursion (λ q. id_cmp (id_of p) (id_of q) ≡ Less) ps → AllByRecursion (λ b. id_cmp (id_of p) (package_of b) ≡ Less) (build_files ps)
    each p [] a = tt
    each p (q ∷ qs) a = (a.0, each p qs a.1)

-- the packages of BUILD files ascend as these do
pub packages_ascend : (files : List LabelParts) → FilesAscend files → IsStrictlySortedBy id_cmp (map package_of files)
unfolding IsStrictlySortedBy
packages_ascend [] s = tt
packages_ascend (b ∷ bs) s = (each b bs s.0, packages_ascend bs s.1)
  where
    each : (b : LabelParts) (bs : List LabelParts) → AllByRecursion (λ d. id_cmp (package_of b) (package_of d) ≡ Less) bs → AllByRecursion (λ q. id_cmp (package_of b) q ≡ Less) (map package_of bs)
    each b [] a = tt
    each b (d ∷ ds) a = (a.0, each b ds a.1)

pub ids_are : (ps : List PackageTargets) → map package_of (build_files ps) ≡ map id_of ps
ids_are [] = refl
ids_are (p ∷ ps) = ap (λ (z : List PackageParts). id_of p ∷ z) (ids_are ps)

module _ (files : List LabelParts) (s : FilesAscend files) (l : LabelParts) where
  pub file_here : (i : ℕ) (d : LabelParts) → i < length files → id_cmp (package_of (get_or files i d)) (package_of l) ≡ Equal → file_of files l ≡ get_or files i d
  unfolding file_of
  file_here i d within e = ap (λ z. unwrap_or z l) (find_here package_of by_id (is_of (package_of l)) (package_of l) (of_package (package_of l)) files s i d within e)

  pub file_nowhere : (i : ℕ)
      → (IsNonDecreasingBy (λ (b : LabelParts). ordering_index (id_cmp (package_of b) (package_of l))) files → IsPartitionPoint (λ (b : LabelParts). id_cmp (package_of b) (package_of l) ≡ Less) (λ (b : LabelParts). id_cmp (package_of b) (package_of l) ≡ Greater) files i)
      → file_of files l ≡ l
  unfolding file_of
  file_nowhere i p = ap (λ z. unwrap_or z l) (find_nowhere package_of by_id (is_of (package_of l)) (package_of l) (of_package (package_of l)) files s i p)
