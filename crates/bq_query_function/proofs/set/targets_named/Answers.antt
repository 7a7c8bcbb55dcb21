use Rattle.std.proofs.Common.{◌≡◌, ◌∙◌, ◌+◌, refl, sym, ap, subst, take, drop, get_or, List, Option, length, false, replicate, arith, rules}
use Rattle.std.proofs.lemmas.Grind.{common_steps}
use Rattle.std.proofs.lemmas.List.{take_more, drop_all}
use Rattle.std.proofs.lemmas.Result.{err_from_is_err_and}
use Rattle.std.specs.Option.{option_or}
use Rattle.bq_query_lex.specs.declared.query_error.QueryErr.{QueryErr}
use Rattle.bq_query_lex.specs.declared.pattern.TargetPattern.{TargetPattern}
use Rattle.bq_query_function.specs.Missing.{first_missing}
use Rattle.bq_query_function.specs.Words.{Adds, one_names, names}
use Rattle.bq_query_function.proofs.Found.{missing_from}
use Rattle.bq_query_function.proofs.Tests.{adds_none, adds_next, set_from_none, length_none}
use Rattle.bq_query_function.proofs.set.targets_named.Goals as goal

pub loop-pattern-init : goal.loop-pattern-init
loop-pattern-init c = record {
  set = adds_none (one_names (take 0 c.args.patterns.now)) c.args.targets.now c.in_ok-marks.marks.items c.in_ok-marks.marks.items (λ t. refl) refl;
  fault = refl;
}

pub loop-pattern-preserved : goal.loop-pattern-preserved
loop-pattern-preserved c =
    let i = c.loop-pattern.pattern-index in
    let p : TargetPattern = c.pattern-item.result in
    let packages = c.args.packages.now in
    let targets = c.args.targets.now in
    let rest = first_missing packages targets (drop (i + 1) c.args.patterns.now) in
    let same : c.pattern-item.result ≡ get_or c.args.patterns.now i p = c.pattern-item.is in
    record {
      set = adds_next names c.args.patterns.now i (get_or c.args.patterns.now i p) targets c.in_ok-marks.marks.items c.loop-pattern.marks.items c.add_pattern.new.marks.items
          (take_more c.args.patterns.now i p c.loop-pattern-test.true) c.loop-pattern.invariant.set
          (subst (λ (q : TargetPattern). Adds (names q) targets c.loop-pattern.marks.items c.add_pattern.new.marks.items) same c.in_ok-add_pattern.ensures.set);
      fault = sym (missing_from packages targets c.args.patterns.now i p c.loop-pattern-test.true same ∙ ap (λ (f : Option QueryErr). option_or f rest) c.in_ok-add_pattern.ensures.fault) ∙ c.loop-pattern.invariant.fault;
    }

pub returns-in_err-add_pattern-clause-fault : goal.returns-in_err-add_pattern-clause-fault
returns-in_err-add_pattern-clause-fault c =
    let i = c.loop-pattern.pattern-index in
    let item : TargetPattern = c.pattern-item.result in
    let packages = c.args.packages.now in
    let targets = c.args.targets.now in
    let rest = first_missing packages targets (drop (i + 1) c.args.patterns.now) in
    let e = err_from_is_err_and c.from_residual-in_err-add_pattern.result c.from_residual-in_err-add_pattern.ensures.1 in
    rw (e.1, e.2) (λ other. sym c.loop-pattern.invariant.fault
    ∙ (missing_from packages targets c.args.patterns.now i item c.loop-pattern-test.true c.pattern-item.is ∙ ap (λ (f : Option QueryErr). option_or f rest) (c.in_err-add_pattern.ensures.fault other)))

pub returns-clause-fault : goal.returns-clause-fault
returns-clause-fault c =
    let patterns = c.args.patterns.now in
    sym c.loop-pattern.invariant.fault ∙ ap (first_missing c.args.packages.now c.args.targets.now) (drop_all c.loop-pattern.pattern-index patterns (omega arith))

pub returns-clause-set : goal.returns-clause-set
returns-clause-set c =
    let patterns = c.args.patterns.now in
    let all : take c.loop-pattern.pattern-index patterns ≡ patterns = first_of (grind (arith, common_steps), search rules) in
    let none : c.in_ok-marks.marks.items ≡ replicate (length c.args.targets.now) false = first_of (cc, search rules, grind (arith, common_steps)) in
    set_from_none (one_names patterns) c.args.targets.now c.in_ok-marks.marks.items c.loop-pattern.marks.items none (ap length none ∙ length_none (length c.args.targets.now))
    (subst (λ (ps : List TargetPattern). Adds (one_names ps) c.args.targets.now c.in_ok-marks.marks.items c.loop-pattern.marks.items) all c.loop-pattern.invariant.set)
