use Rattle.std.proofs.Common.{Ok, refl, sym, ◌∙◌}
use Rattle.bq_parse_grammar.specs.Nesting.{max_nesting}
use Rattle.bq_parse_laws.proofs.FileWriting.{read_is}
use Rattle.bq_parse_laws.proofs.Left.{none_left}
use Rattle.bq_parse_laws.proofs.Nested.{top_nested}
use Rattle.bq_parse_laws.proofs.Simple.{build_line}
use Rattle.bq_parse_laws.proofs.trees.no_tree_holds_what_is_left_out.Goals as goal

pub returns-clause-none : goal.returns-clause-none
returns-clause-none c = λ kind ts x p. (none_left kind ts x (Ok x) refl p).0

pub returns-clause-flat : goal.returns-clause-flat
returns-clause-flat c = λ kind ts x p. sym (top_nested max_nesting ts x (read_is kind ts x (Ok x) refl p)) ∙ (none_left kind ts x (Ok x) refl p).1

pub returns-clause-simple : goal.returns-clause-simple
returns-clause-simple c = λ ts x p. build_line ts x (Ok x) refl p
