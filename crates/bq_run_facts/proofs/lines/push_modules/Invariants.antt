use Rattle.std.proofs.Common.{◌≡◌, ◌++◌, drop}
use Rattle.bq_run_facts.specs.Lines.{module_lines}
use Rattle.bq_run_facts.proofs.lines.push_modules.Given as goal

abbrev pub invariant-loop-module : goal.invariant-loop-module
invariant-loop-module l = l.text ++ module_lines (drop l.module-index l.modules) ≡ l.initial.text ++ module_lines l.modules
