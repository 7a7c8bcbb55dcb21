use Rattle.std.proofs.Common.{◌∙◌, ◌++◌, List, Option, map, take, option_to_list, sym, ap, subst}
use Rattle.std.proofs.lemmas.List.{take_all}
use Rattle.std.proofs.lemmas.List.Elements.{All-push}
use Rattle.bq_label.specs.declared.packages.BuildFile.{BuildFile}
use Rattle.bq_package_target.specs.Package.{PackageTargets}
use Rattle.bq_load_discover.proofs.Lists.{next_taken}
use Rattle.bq_load.specs.Views.{outcome_view}
use Rattle.bq_load.specs.Loaded.{package_in, packages_in}
use Rattle.bq_load.specs.Packages.{IsIn, AreOwn}
use Rattle.bq_load.proofs.Found.{next_found, done_found}
use Rattle.bq_load.proofs.packages.packages_in.Goals as goal

pub loop-build-preserved : goal.loop-build-preserved
loop-build-preserved c =
    let l = c.loop-build in
    let os = map outcome_view c.args.modules.now in
    let builds = c.all-builds.result.now in
    let b = c.build-item.result in
    let more = c.in_ok-add.ensures ∙ ap (λ (z : Option PackageTargets). l.all.items ++ option_to_list z) c.in_ok-found.ensures.found in
    record {
      all = next_found (package_in os) builds l.build-index b c.loop-build-test.true c.build-item.is l.all.items c.add.new.all.items (packages_in builds os) more l.invariant.all;
      own = subst (λ (z : List BuildFile). AreOwn os z) (sym (next_taken builds l.build-index b c.loop-build-test.true c.build-item.is))
          (All-push (λ (d : BuildFile). IsIn d.id (package_in os d)) (take l.build-index builds) b l.invariant.own (subst (λ (z : Option PackageTargets). IsIn b.id z) c.in_ok-found.ensures.found c.in_ok-found.ensures.own));
    }

pub returns-clause-all : goal.returns-clause-all
returns-clause-all c =
    let l = c.loop-build in
    let os = map outcome_view c.args.modules.now in
    let builds = c.all-builds.result.now in
    done_found (package_in os) builds l.build-index c.loop-build-test.false l.all.items (packages_in builds os) l.invariant.all ∙ ap (λ (bs : List BuildFile). packages_in bs os) c.all-builds.ensures.value

pub returns-clause-own : goal.returns-clause-own
returns-clause-own c =
    let l = c.loop-build in
    let os = map outcome_view c.args.modules.now in
    let builds = c.all-builds.result.now in
    subst (λ (bs : List BuildFile). AreOwn os bs) (take_all l.build-index builds c.loop-build-test.false ∙ c.all-builds.ensures.value) l.invariant.own
