use Rattle.std.proofs.Common.{◌∙◌, Bool, cond, ap, sym}
use Rattle.bq_package_target.specs.declared.state.Declared.TheVariants.{Accepted, Refused}
use Rattle.bq_package_target.specs.Package.{PackageTargets}
use Rattle.bq_package_target.proofs.States.{call_state, call_is}
use Rattle.bq_package_target.proofs.state.PackageState.declare.Goals as goal

pub invariant_of-package : goal.invariant_of-package
invariant_of-package c =
    let s = c.«package».inside in
    let e = c.in_ok-is_new.ensures in
    call_state s.build_file s.targets s.names c.«package».invariant c.args.target c.args.self c.«package».view_is c.requires c.in_ok-is_new.is_new e.new c.add_target.new.targets e.targets c.add_target.new.names e.names

pub invariant_of-package-2 : goal.invariant_of-package-2
invariant_of-package-2 c =
    let s = c.«package».inside in
    let e = c.in_ok-is_new.ensures in
    call_state s.build_file s.targets s.names c.«package».invariant c.args.target c.args.self c.«package».view_is c.requires c.in_ok-is_new.is_new e.new c.add_target.new.targets e.targets c.add_target.new.names e.names

pub returns-then-not-is_new : goal.returns-then-not-is_new
returns-then-not-is_new c =
    let s = c.«package».inside in
    let e = c.in_ok-is_new.ensures in
    let p : PackageTargets = record { build_file = s.build_file; targets = c.add_target.new.targets } in
    ap (λ (b : Bool). cond b (Accepted p) (Refused p)) (sym c.if-not-is_new.true)
    ∙ call_is s.build_file s.targets s.names c.«package».invariant c.args.target c.args.self c.«package».view_is c.in_ok-is_new.is_new e.new c.add_target.new.targets e.targets

pub returns : goal.returns
returns c =
    let s = c.«package».inside in
    let e = c.in_ok-is_new.ensures in
    let p : PackageTargets = record { build_file = s.build_file; targets = c.add_target.new.targets } in
    ap (λ (b : Bool). cond b (Accepted p) (Refused p)) (sym c.if-not-is_new.false)
    ∙ call_is s.build_file s.targets s.names c.«package».invariant c.args.target c.args.self c.«package».view_is c.in_ok-is_new.is_new e.new c.add_target.new.targets e.targets
