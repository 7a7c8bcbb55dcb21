use Rattle.std.proofs.Common.{rules, Ok}
use Rattle.bq_load_by_name.specs.Results.{LoadsByNames}
use Rattle.bq_run_report.specs.Report.{inside}
use Rattle.bq_run_session.proofs.opening.open_with.Goals as goal

pub returns-in_ok-session-in-Ok-clause-opens : goal.returns-in_ok-session-in-Ok-clause-opens
returns-in_ok-session-in-Ok-clause-opens g c =
    let loads : LoadsByNames c.args.workspace.now c.args.schema.now c.args.options.now.limits (Ok c.in-Ok.field-0.loaded) = c.in-Ok.ensures.loads in
    let gathered = loads.5 in
    record {
      inside = inside c.in-Ok.field-0.loaded;
      loaded = record {
        rules = c.args.schema.now;
        fronts = loads.0;
        labels = loads.2;
        edges = loads.3;
        schema = c.requires.schema;
        read = loads.1;
        discovered = loads.4;
        fits = loads.6;
        inside = search rules;
      };
      over = c.in_ok-session-in-Ok.ensures;
    }

pub returns-in-Err-TooManyModules-clause-opens : goal.returns-in-Err-TooManyModules-clause-opens
returns-in-Err-TooManyModules-clause-opens g c =
    let many = c.in-Err-TooManyModules.ensures.loads.0 (search rules) in
    (c.args.schema.now, c.requires.schema, many.0, many.1, many.2)
