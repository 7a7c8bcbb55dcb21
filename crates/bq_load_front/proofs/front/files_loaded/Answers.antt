use Rattle.std.proofs.lemmas.Result.{err_from_is_err_and}
use Rattle.bq_base.specs.Fault.{kind_of_load}
use Rattle.bq_base.proofs.Joined.{bad_as}
use Rattle.bq_load_front.proofs.front.files_loaded.Goals as goal

pub returns-in_err-named_files : goal.returns-in_err-named_files
returns-in_err-named_files c =
    let p = err_from_is_err_and c.from_residual.result c.from_residual.ensures.1 in
    rw p.1 (λ why same. bad_as kind_of_load c.in_err-named_files.field-0.0 p.0 p.2 _ c.in_err-named_files.ensures why same)
