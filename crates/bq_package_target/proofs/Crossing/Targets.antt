-- Targets and packages may cross threads.
use denote.Param.Send.{IsSend, IsSync, sendable}
use Rattle.std.proofs.Crossing.{crosses}
use Rattle.bq_package_target.specs.contracts.value.GivenAttribute as GivenAttribute
use Rattle.bq_package_target.specs.contracts.attribute_list.AttributeList as AttributeList
use Rattle.bq_package_target.specs.contracts.target.TargetKind as TargetKind
use Rattle.bq_package_target.specs.contracts.target.Target as Target
use Rattle.bq_package_target.specs.contracts.by_name.PlacedTarget as PlacedTarget
use Rattle.bq_package_target.specs.contracts.by_name.TargetsByName as TargetsByName
use Rattle.bq_package_target.specs.contracts.package.Package as Package
use Rattle.bq_package_target.proofs.Crossing.Classes.{label_send, label_sync, value_send, value_sync, class_send, class_sync}

pub given_send : IsSend (GivenAttribute.the_field).row
given_send = let v = value_send in search (crosses, sendable) depth 60 fits 20000

pub given_sync : IsSync (GivenAttribute.the_field).row
given_sync = let v = value_sync in search (crosses, sendable) depth 60 fits 20000

pub attributes_send : IsSend (AttributeList.the_field).row
attributes_send = let g = given_send in let y = given_sync in search (crosses, sendable) depth 60 fits 20000

pub attributes_sync : IsSync (AttributeList.the_field).row
attributes_sync = let g = given_send in let y = given_sync in search (crosses, sendable) depth 60 fits 20000

pub kind_send : IsSend (TargetKind.the_field).row
kind_send = let l = label_send in let c = class_send in search (crosses, sendable) depth 60 fits 20000

pub kind_sync : IsSync (TargetKind.the_field).row
kind_sync = let l = label_sync in let c = class_sync in search (crosses, sendable) depth 60 fits 20000

pub target_send : IsSend (Target.the_field).row
target_send = let l = label_send in let k = kind_send in let g = attributes_send in search (crosses, sendable) depth 60 fits 20000

pub target_sync : IsSync (Target.the_field).row
target_sync = let l = label_sync in let k = kind_sync in let g = attributes_sync in search (crosses, sendable) depth 60 fits 20000

pub placed_send : IsSend (PlacedTarget.the_field).row
placed_send = let t = target_send in search (crosses, sendable) depth 60 fits 20000

pub placed_sync : IsSync (PlacedTarget.the_field).row
placed_sync = let t = target_sync in search (crosses, sendable) depth 60 fits 20000

pub by_name_send : IsSend (TargetsByName.the_field).row
by_name_send = let p = placed_send in search (crosses, sendable) depth 60 fits 20000

pub by_name_sync : IsSync (TargetsByName.the_field).row
by_name_sync = let p = placed_sync in search (crosses, sendable) depth 60 fits 20000

pub package_send : IsSend (Package.the_field).row
package_send = let l = label_send in let ts = by_name_send in let ty = by_name_sync in search (crosses, sendable) depth 60 fits 20000

pub package_sync : IsSync (Package.the_field).row
package_sync = let l = label_sync in let ts = by_name_send in let ty = by_name_sync in search (crosses, sendable) depth 60 fits 20000
