-- Modules that were read may cross threads, and what they are read of may be shared by them.
use denote.Param.Send.{IsSend, sendable}
use Rattle.std.proofs.Crossing.{crosses}
use Rattle.bq_base.proofs.fault.Fault.TheSendSync as Fault
use Rattle.bq_base.proofs.fault.FaultKind.TheSendSync as FaultKind
use Rattle.bq_load_front.specs.contracts.front.Front as Front
use Rattle.bq_load_front.specs.contracts.named_files.NamedFiles as NamedFiles
use Rattle.bq_load_discover.specs.contracts.modules.Module as Module
use Rattle.bq_load_discover.specs.contracts.waves.Reading as Reading
use Rattle.bq_load_discover.proofs.Crossing.Trees.{resolved_send}
use Rattle.bq_load_discover.proofs.Crossing.Workspaces.{label_send}

pub named_files_send : IsSend (NamedFiles.the_field).row
named_files_send = let l = label_send in search (crosses, sendable) depth 60 fits 20000

pub front_send : IsSend (Front.the_field).row
front_send = let r = resolved_send in let n = named_files_send in search (crosses, sendable) depth 60 fits 20000

pub module_send : IsSend (Module.the_field).row
module_send = let l = label_send in let f = front_send in search (Fault.the_send, FaultKind.the_send, crosses, sendable) depth 60 fits 20000

pub reading_send : IsSend (Reading.the_field).row
reading_send = let m = module_send in search (crosses, sendable) depth 60 fits 20000
