-- Modules that were evaluated may cross threads, and what decides the outcomes of all may be shared by them.
use denote.Ref.{NamedLft}
use denote.RattleType.{RattleType}
use denote.Param.Send.{IsSend, IsSync, sendable}
use Rattle.std.proofs.Crossing.{crosses}
use Rattle.bq_value_datum.proofs.seed.Seed.TheSendSync as Seed
use Rattle.bq_value_datum.proofs.hasher.KeyHasher.TheSendSync as KeyHasher
use Rattle.bq_base.proofs.fault.Fault.TheSendSync as Fault
use Rattle.bq_base.proofs.fault.FaultKind.TheSendSync as FaultKind
use Rattle.bq_base_texts.proofs.name_set.NameSet.TheSendSync as Names
use Rattle.bq_package_schema.specs.contracts.schema.Schema as Schema
use Rattle.bq_package_values.specs.contracts.built_ins.BuiltIns as BuiltIns
use Rattle.bq_load_front.specs.contracts.named_files.NamedFiles as NamedFiles
use Rattle.bq_load_front.specs.contracts.front.Front as Front
use Rattle.bq_load_discover.specs.contracts.modules.Module as Module
use Rattle.bq_load_module.specs.contracts.outcome.LoadedModule as LoadedModule
use Rattle.bq_load.specs.contracts.loading.Loading as Loading
use Rattle.bq_load.specs.contracts.gate.GateWatch as GateWatch
use Rattle.bq_load.proofs.Crossing.Values.{frozen_send, frozen_sync}
use Rattle.bq_load_discover.proofs.Crossing.Trees.{resolved_sync}
use Rattle.bq_package_target.proofs.Crossing.Targets.{package_send, package_sync}
use Rattle.bq_package_target.proofs.Crossing.Classes.{label_send, label_sync, class_sync}
use Rattle.bq_load_discover.proofs.Crossing.Workspaces.{workspace_sync, packages_sync}

pub loaded_send : IsSend (LoadedModule.the_field).row
loaded_send = let fs = frozen_send in let fy = frozen_sync in let p = package_send in search (crosses, sendable) depth 60 fits 20000

pub loaded_sync : IsSync (LoadedModule.the_field).row
loaded_sync = let fs = frozen_send in let fy = frozen_sync in let p = package_sync in search (crosses, sendable) depth 60 fits 20000

pub schema_sync : IsSync (Schema.the_field).row
schema_sync = let c = class_sync in search (Names.the_send, Names.the_sync, crosses, sendable) depth 60 fits 100000

pub built_ins_sync : IsSync (BuiltIns.the_field).row
built_ins_sync = search (Names.the_send, Names.the_sync, crosses, sendable) depth 60 fits 100000

pub named_files_sync : IsSync (NamedFiles.the_field).row
named_files_sync = let ls = label_send in let ly = label_sync in search (crosses, sendable) depth 60 fits 20000

pub front_sync : IsSync (Front.the_field).row
front_sync = let n = named_files_sync in let r = resolved_sync in search (crosses, sendable) depth 60 fits 20000

pub module_sync : IsSync (Module.the_field).row
module_sync = let l = label_sync in let f = front_sync in search (Fault.the_sync, FaultKind.the_sync, crosses, sendable) depth 60 fits 20000

pub loading_sync : (a : NamedLft) → IsSync (Loading.the_row a)
loading_sync a =
    let w = workspace_sync in let p = packages_sync in let s = schema_sync in let b = built_ins_sync in let m = module_sync in let r = resolved_sync in
    search (Seed.the_sync, KeyHasher.the_sync, crosses, sendable) depth 60 fits 20000

pub watch_sync : (a : NamedLft) (T : RattleType) → IsSync T → IsSync (GateWatch.the_row a T)
watch_sync a T gate = let l = loading_sync a in search (crosses, sendable) depth 60 fits 20000
