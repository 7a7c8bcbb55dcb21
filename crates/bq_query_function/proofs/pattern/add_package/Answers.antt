use Rattle.std.proofs.Common.{Bool, sym, subst}
use Rattle.std.specs.Prelude.{◌&&◌}
use Rattle.bq_query_function.specs.Words.{Adds, names}
use Rattle.bq_query_function.specs.Beginnings.{AddsValid, begins, beneath, is_wanted, pattern_at}
use Rattle.bq_query_function.proofs.Tests.{on_ok}
use Rattle.bq_query_function.proofs.Named.{named_shallow, named_deep}
use Rattle.bq_query_function.proofs.pattern.add_package.Goals as goal

pub returns-then-not-deep : goal.returns-then-not-deep
returns-then-not-deep c =
    subst (λ (b : Bool). Adds (names (pattern_at b c.args.rules c.args.id.now)) c.args.targets.now c.args.marks.now.items c.add_own.new.marks.items) (sym c.if-not-deep.true)
    (named_shallow c.args.targets.now c.args.rules c.args.id.now c.args.marks.now.items c.add_own.new.marks.items c.in_ok-add_own.ensures.valid c.in_ok-add_own.ensures.set)

pub returns : goal.returns
returns c =
    let adds : Bool → Type 0 = λ b. Adds (names (pattern_at b c.args.rules c.args.id.now)) c.args.targets.now c.args.marks.now.items c.add_beneath.new.marks.items in
    on_ok c.add_beneath.result (AddsValid (λ t. begins (beneath c.args.id.now) t && is_wanted c.args.rules t) c.args.targets.now c.add_own.new.marks.items c.add_beneath.new.marks.items) (adds c.args.deep)
    (λ a. subst adds (sym c.if-not-deep.false)
    (named_deep c.args.targets.now c.args.rules c.args.id.now c.args.marks.now.items c.add_own.new.marks.items c.add_beneath.new.marks.items c.in_ok-add_own.ensures.valid c.in_ok-add_own.ensures.set a))
    c.add_beneath.ensures
