use Rattle.std.proofs.Common.{◌≡◌, ◌∙◌, sym, false}
use Rattle.bq_package_target.specs.Target.{is_of}
use Rattle.bq_package_target.proofs.Finding.{own_other}
use Rattle.bq_package_target.proofs.files.Files.add_own.Goals as goal

pub returns-then-not-is_of : goal.returns-then-not-is_of
returns-then-not-is_of c =
    let other : is_of c.args.own.now c.args.label.now ≡ false = sym c.is_of.ensures ∙ c.if-not-is_of.true in
    own_other c.args.own.now c.args.label.now c.args.self.now other
