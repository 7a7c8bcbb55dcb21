use Rattle.bq_eval_laws.proofs.Flowing.{small_statements, lines, blocks, files, file_lines, ifs}
use Rattle.bq_eval_laws.proofs.meaning.statements_run_until_one_ends_the_block.Goals as goal

pub returns-clause-small : goal.returns-clause-small
returns-clause-small c k m scoping = small_statements m scoping

pub returns-clause-lines : goal.returns-clause-lines
returns-clause-lines c k m scoping = lines m scoping

pub returns-clause-blocks : goal.returns-clause-blocks
returns-clause-blocks c k m scoping = blocks m scoping

pub returns-clause-files : goal.returns-clause-files
returns-clause-files c k m scoping = files m scoping

pub returns-clause-at_lines : goal.returns-clause-at_lines
returns-clause-at_lines c k m scoping = file_lines m scoping

pub returns-clause-ifs : goal.returns-clause-ifs
returns-clause-ifs c k m scoping = ifs m scoping
