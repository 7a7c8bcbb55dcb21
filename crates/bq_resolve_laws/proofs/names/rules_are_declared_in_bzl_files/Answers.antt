use Rattle.bq_resolve_laws.proofs.KindNames.{build_files_declare_none, bzl_files_have_rule, namespaces_are_no_values}
use Rattle.bq_resolve_laws.proofs.names.rules_are_declared_in_bzl_files.Goals as goal

pub returns : goal.returns
returns c = record { build = build_files_declare_none; bzl = bzl_files_have_rule; namespaces = namespaces_are_no_values }
