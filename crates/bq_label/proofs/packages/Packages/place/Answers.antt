use Rattle.std.proofs.Common.{◌≡◌, ◌∙◌, ap, sym, subst, rules, get_or, List, ℕ, [], None, slice_get}
use Rattle.std.specs.List.Sorted.{IsStrictlySortedBy}
use Rattle.std.specs.declared.cmp.Ordering.{Ordering}
use Rattle.std.specs.declared.cmp.Ordering.TheVariants.{Equal}
use Rattle.std.proofs.lemmas.Fn.{always_returns_same}
use Rattle.std.proofs.lemmas.Option.{slice_get-get_or}
use Rattle.bq_label.specs.Label.{package_at}
use Rattle.bq_label.specs.Packages.{id_cmp, package_cmp, package_named}
use Rattle.bq_label.specs.declared.packages.BuildFile.{BuildFile}
use Rattle.bq_label.proofs.BuildFiles.{package_here, package_nowhere}
use Rattle.bq_label.proofs.packages.Packages.place.Goals as goal

pub returns-in-Ok-clause-found : goal.returns-in-Ok-clause-found
returns-in-Ok-clause-found c =
    let all : List BuildFile = c.all-packages.result.now in
    let repo : List ℕ = c.as_slice-repo.result.now in
    let path : List ℕ = c.as_slice-path.result.now in
    let strict : IsStrictlySortedBy package_cmp all = subst (λ (ps : List BuildFile). IsStrictlySortedBy package_cmp ps) (sym c.all-packages.ensures.value) c.all-packages.ensures.ascending in
    let name : package_named all (package_at repo path) ≡ package_named c.args.self.now c.args.id.now =
    ap (λ (r : List ℕ). package_named all (package_at r path)) (c.as_slice-repo.ensures ∙ c.repo.ensures.value)
    ∙ (ap (λ (p : List ℕ). package_named all (package_at c.args.id.now.repo p)) (c.as_slice-path.ensures ∙ c.package.ensures.value)
    ∙ ap (λ (ps : List BuildFile). package_named ps c.args.id.now) c.all-packages.ensures.value) in
    let against : BuildFile → Ordering = λ b. id_cmp b.id (package_at repo path) in
    let found : (d : BuildFile) → id_cmp ((get_or all c.in-Ok.at d).id) (package_at repo path) ≡ Equal = c.in-Ok.ensures.position against (always_returns_same _ _ _ (λ a r q k. search rules)) in
    let d : BuildFile = record { id = package_at [] []; path = [] } in
    ap (λ (ps : List BuildFile). slice_get ps c.in-Ok.at) (sym c.all-packages.ensures.value)
    ∙ (slice_get-get_or all c.in-Ok.at d c.in-Ok.ensures.bound ∙ (sym (package_here all repo path strict c.in-Ok.at d c.in-Ok.ensures.bound (found d)) ∙ name))

pub returns-in-Err-clause-none : goal.returns-in-Err-clause-none
returns-in-Err-clause-none c =
    let all : List BuildFile = c.all-packages.result.now in
    let repo : List ℕ = c.as_slice-repo.result.now in
    let path : List ℕ = c.as_slice-path.result.now in
    let strict : IsStrictlySortedBy package_cmp all = subst (λ (ps : List BuildFile). IsStrictlySortedBy package_cmp ps) (sym c.all-packages.ensures.value) c.all-packages.ensures.ascending in
    let name : package_named all (package_at repo path) ≡ package_named c.args.self.now c.args.id.now =
    ap (λ (r : List ℕ). package_named all (package_at r path)) (c.as_slice-repo.ensures ∙ c.repo.ensures.value)
    ∙ (ap (λ (p : List ℕ). package_named all (package_at c.args.id.now.repo p)) (c.as_slice-path.ensures ∙ c.package.ensures.value)
    ∙ ap (λ (ps : List BuildFile). package_named ps c.args.id.now) c.all-packages.ensures.value) in
    let against : BuildFile → Ordering = λ b. id_cmp b.id (package_at repo path) in
    sym name ∙ package_nowhere all repo path strict _ (c.in-Err.ensures.position against (always_returns_same _ _ _ (λ a r q k. search rules)))
