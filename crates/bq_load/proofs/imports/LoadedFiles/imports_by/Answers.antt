use Rattle.std.proofs.Common.{[], refl}
use Rattle.std.proofs.lemmas.Result.{err_from_is_err_and}
use Rattle.bq_load.specs.Imports.{loaded_of, imports}
use Rattle.bq_load.proofs.Imported.{next_load, bad_load}
use Rattle.bq_load.proofs.imports.LoadedFiles.imports_by.Goals as goal

pub loop-number-preserved : goal.loop-number-preserved
loop-number-preserved c =
    let l = c.loop-number in
    let x = loaded_of c.args.self.now in
    let loads = c.args.loads.now in
    let named = c.args.self.now.named.now in
    next_load x loads named refl l.number c.index-loads-number.result c.loop-number-test.true c.index-loads-number.is l.values.items (imports x [] loads named) l.invariant c.in-Some.place c.in-Some.ensures c.add_load.new.values.items c.in_ok-add_load.ensures

pub returns-in_err-add_load : goal.returns-in_err-add_load
returns-in_err-add_load c =
    let l = c.loop-number in
    let x = loaded_of c.args.self.now in
    let loads = c.args.loads.now in
    let named = c.args.self.now.named.now in
    let p = err_from_is_err_and c.from_residual.result c.from_residual.ensures.1 in
    rw (p.1, p.2) (λ why e.
    bad_load x loads named refl l.number c.index-loads-number.result c.loop-number-test.true c.index-loads-number.is l.values.items (imports x [] loads named) l.invariant c.in-Some.place c.in-Some.ensures why (c.in_err-add_load.ensures why e))
