-- Sets of labels, and the names that files may use, may be shared by threads.
use denote.Param.Send.{IsSync, sendable}
use Rattle.std.proofs.Crossing.{crosses}
use Rattle.std.proofs.collections.BTreeMap.TheSendSync as Tree
use Rattle.bq_base_texts.proofs.name_set.NameSet.TheSendSync as Names
use Rattle.bq_label_set.specs.contracts.label_set.LabelSet as LabelSet
use Rattle.bq_resolve_scope.specs.contracts.universe.Universe as Universe
use Rattle.bq_load_discover.proofs.Crossing.Workspaces.{label_sync}

pub labels_sync : IsSync (LabelSet.the_field).row
labels_sync = let l = label_sync in search (Tree.the_sync, crosses, sendable) depth 60 fits 100000

pub universe_sync : IsSync (Universe.the_field).row
universe_sync = search (Names.the_send, Names.the_sync, crosses, sendable) depth 60 fits 100000
