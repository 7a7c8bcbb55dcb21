-- Values and frozen modules may cross threads.
use denote.Param.Send.{IsSend, IsSync, sendable}
use Rattle.std.proofs.Crossing.{crosses}
use Rattle.std.proofs.hash.BuildHasherDefault.TheSendSync as Builder
use Rattle.std.proofs.hash.FoldHasher.TheSendSync as Hasher
use Rattle.indexmap.proofs.map.IndexMap.TheSendSync as Map
use Rattle.bq_value_datum.proofs.seed.Seed.TheSendSync as Seed
use Rattle.bq_value_datum.proofs.hasher.KeyHasher.TheSendSync as KeyHasher
use Rattle.bq_base.proofs.bytes.Bytes.TheSendSync as Bytes
use Rattle.bq_value_datum.proofs.value.Value.TheLaws.TheKnot as Knot
use Rattle.bq_value.proofs.tree.Tree.TheLaws.TheKnot as Trees
use Rattle.bq_value_datum.specs.contracts.value.Value as Value
use Rattle.bq_value_datum.specs.contracts.key.Key as Key
use Rattle.bq_value_dict.specs.contracts.dict.Dict as Dict
use Rattle.bq_value_content.specs.contracts.content.Content as Content
use Rattle.bq_value_content.specs.contracts.kinds.Kinds as Kinds
use Rattle.bq_value.specs.contracts.shared.Shared as Shared
use Rattle.bq_value.specs.contracts.tree.Tree as Tree
use Rattle.bq_value.specs.contracts.frozen.Frozen as Frozen
use Rattle.bq_package_target.proofs.Crossing.Classes.{attribute_send, attribute_sync, class_send, class_sync}
use Rattle.bq_load_discover.proofs.Crossing.Trees.{rule_function_send, rule_function_sync, predeclared_send, predeclared_sync}

pub value_send : IsSend (Value.the_field).row
value_send = let s = attribute_send in let y = attribute_sync in let f = rule_function_send in let p = predeclared_send in let q = predeclared_sync in search (crosses, Knot.crosses, sendable) depth 60 fits 20000

pub value_sync : IsSync (Value.the_field).row
value_sync = let s = attribute_send in let y = attribute_sync in let f = rule_function_sync in let p = predeclared_send in let q = predeclared_sync in search (crosses, Knot.crosses, sendable) depth 60 fits 20000

pub key_send : IsSend (Key.the_field).row
key_send = let s = value_send in search (crosses, sendable) depth 60 fits 20000

pub key_sync : IsSync (Key.the_field).row
key_sync = let y = value_sync in search (crosses, sendable) depth 60 fits 20000

pub dict_send : IsSend (Dict.the_field).row
dict_send = let v = value_send in let k = key_send in search (Map.the_send, Seed.the_send, KeyHasher.the_send, crosses, sendable) depth 60 fits 20000

pub dict_sync : IsSync (Dict.the_field).row
dict_sync = let v = value_sync in let k = key_sync in search (Map.the_sync, Seed.the_sync, KeyHasher.the_sync, crosses, sendable) depth 60 fits 20000

-- a content may be shared, so each needs both
pub content_send : IsSend (Content.the_field).row
content_send =
    let vs = value_send in let vy = value_sync in let ds = dict_send in let dy = dict_sync in let cs = class_send in let cy = class_sync in
    search (crosses, sendable) depth 60 fits 20000

pub content_sync : IsSync (Content.the_field).row
content_sync =
    let vs = value_send in let vy = value_sync in let ds = dict_send in let dy = dict_sync in let cs = class_send in let cy = class_sync in
    search (crosses, sendable) depth 60 fits 20000

pub kinds_send : IsSend (Kinds.the_field).row
kinds_send = search (Bytes.the_send, Map.the_send, Builder.the_send, Hasher.the_send, crosses, sendable) depth 60 fits 20000

pub kinds_sync : IsSync (Kinds.the_field).row
kinds_sync = search (Bytes.the_sync, Map.the_sync, Builder.the_sync, Hasher.the_sync, crosses, sendable) depth 60 fits 20000

pub shared_send : IsSend (Shared.the_field).row
shared_send =
    let vs = value_send in let vy = value_sync in let cs = content_send in let cy = content_sync in let ks = kinds_send in let ky = kinds_sync in
    search (crosses, sendable) depth 60 fits 20000

pub shared_sync : IsSync (Shared.the_field).row
shared_sync =
    let vs = value_send in let vy = value_sync in let cs = content_send in let cy = content_sync in let ks = kinds_send in let ky = kinds_sync in
    search (crosses, sendable) depth 60 fits 20000

pub tree_send : IsSend (Tree.the_field).row
tree_send = let ss = shared_send in let sy = shared_sync in search (crosses, Trees.crosses, sendable) depth 60 fits 20000

pub tree_sync : IsSync (Tree.the_field).row
tree_sync = let ss = shared_send in let sy = shared_sync in search (crosses, Trees.crosses, sendable) depth 60 fits 20000

pub frozen_send : IsSend (Frozen.the_field).row
frozen_send = let ss = shared_send in let t = tree_send in search (crosses, sendable) depth 60 fits 20000

pub frozen_sync : IsSync (Frozen.the_field).row
frozen_sync = let sy = shared_sync in let t = tree_sync in search (crosses, sendable) depth 60 fits 20000
