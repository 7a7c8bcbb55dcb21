-- Labels may cross threads, and so may what rules say of their attributes.
use denote.Param.Send.{IsSend, IsSync, sendable}
use Rattle.std.proofs.Crossing.{crosses}
use Rattle.bq_base.proofs.bytes.Bytes.TheSendSync as Bytes
use Rattle.bq_base_texts.proofs.name_set.NameSet.TheSendSync as Names
use Rattle.bq_label.specs.contracts.label.Label as Label
use Rattle.bq_predeclared.specs.contracts.attribute_type.AttributeType as AttributeType
use Rattle.bq_value_datum.specs.contracts.attribute_value.AttributeValue as AttributeValue
use Rattle.bq_value_datum.specs.contracts.attribute.Attribute as Attribute
use Rattle.bq_value_datum.specs.contracts.attributes.Attributes as Attributes
use Rattle.bq_value_datum.specs.contracts.class.RuleClass as RuleClass

pub label_send : IsSend (Label.the_field).row
label_send = search (Bytes.the_send, crosses, sendable) depth 60 fits 20000

pub label_sync : IsSync (Label.the_field).row
label_sync = search (Bytes.the_sync, crosses, sendable) depth 60 fits 20000

pub type_send : IsSend (AttributeType.the_field).row
type_send = search (crosses, sendable) depth 60 fits 20000

pub type_sync : IsSync (AttributeType.the_field).row
type_sync = search (crosses, sendable) depth 60 fits 20000

pub value_send : IsSend (AttributeValue.the_field).row
value_send = let l = label_send in search (Bytes.the_send, crosses, sendable) depth 60 fits 20000

pub value_sync : IsSync (AttributeValue.the_field).row
value_sync = let l = label_sync in search (Bytes.the_sync, crosses, sendable) depth 60 fits 20000

pub attribute_send : IsSend (Attribute.the_field).row
attribute_send = let t = type_send in let v = value_send in search (crosses, sendable) depth 60 fits 20000

pub attribute_sync : IsSync (Attribute.the_field).row
attribute_sync = let t = type_sync in let v = value_sync in search (crosses, sendable) depth 60 fits 20000

pub attributes_send : IsSend (Attributes.the_field).row
attributes_send = let a = attribute_send in search (Names.the_send, crosses, sendable) depth 60 fits 20000

pub attributes_sync : IsSync (Attributes.the_field).row
attributes_sync = let a = attribute_sync in search (Names.the_sync, crosses, sendable) depth 60 fits 20000

pub class_send : IsSend (RuleClass.the_field).row
class_send = let s = attributes_send in let y = attributes_sync in search (crosses, sendable) depth 60 fits 20000

pub class_sync : IsSync (RuleClass.the_field).row
class_sync = let s = attributes_send in let y = attributes_sync in search (crosses, sendable) depth 60 fits 20000
