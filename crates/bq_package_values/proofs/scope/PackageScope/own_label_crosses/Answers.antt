use Rattle.std.proofs.Common.{ap, sym, ◌∙◌}
use Rattle.std.specs.List.{list_any}
use Rattle.bq_label.specs.Paths.{is_slash}
use Rattle.bq_package_values.proofs.Crossings.{short_own}
use Rattle.bq_package_values.proofs.scope.PackageScope.own_label_crosses.Goals as goal

pub returns-then-not-has_slash : goal.returns-then-not-has_slash
returns-then-not-has_slash c =
    let s = c.args.self.now in
    short_own s.packages.now s.own.now c.args.label.now s.short_cross s.short (sym c.is_of.ensures ∙ c.if-not-is_of.false)
    (ap (list_any is_slash) (sym (c.as_slice.ensures ∙ c.name.ensures.value)) ∙ sym c.has_slash.ensures ∙ c.if-not-has_slash.true)
