-- Labels may cross threads, and the files of a workspace and its packages may be shared by them.
use denote.Param.Send.{IsSend, IsSync, sendable}
use Rattle.std.proofs.Crossing.{crosses}
use Rattle.bq_base.proofs.bytes.Bytes.TheSendSync as Bytes
use Rattle.bq_label.specs.contracts.label.Label as Label
use Rattle.bq_label.specs.contracts.workspace.File as File
use Rattle.bq_label.specs.contracts.workspace.Workspace as Workspace
use Rattle.bq_label.specs.contracts.packages.BuildFile as BuildFile
use Rattle.bq_label.specs.contracts.packages.Packages as Packages

pub label_send : IsSend (Label.the_field).row
label_send = search (Bytes.the_send, crosses, sendable) depth 60 fits 20000

pub label_sync : IsSync (Label.the_field).row
label_sync = search (Bytes.the_sync, crosses, sendable) depth 60 fits 20000

pub file_sync : IsSync (File.the_field).row
file_sync = search (crosses, sendable) depth 60 fits 20000

pub workspace_sync : IsSync (Workspace.the_field).row
workspace_sync = let f = file_sync in search (crosses, sendable) depth 60 fits 20000

pub build_file_sync : IsSync (BuildFile.the_field).row
build_file_sync = let f = file_sync in search (Bytes.the_sync, crosses, sendable) depth 60 fits 20000

pub packages_sync : IsSync (Packages.the_field).row
packages_sync = let f = build_file_sync in search (crosses, sendable) depth 60 fits 20000
