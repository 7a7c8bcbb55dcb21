-- What is found along targets may cross threads.
use denote.Param.Send.{IsSend, sendable}
use Rattle.std.proofs.Crossing.{crosses}
use Rattle.bq_base_texts.proofs.fault_line.FaultLine.TheSendSync as FaultLine
use Rattle.bq_query_graph.proofs.row_list.RowList.TheSendSync as RowList
use Rattle.bq_query_target_graph.specs.contracts.edges.Part as Part

pub part_send : IsSend (Part.the_field).row
part_send = search (RowList.the_send, FaultLine.the_send, crosses, sendable) depth 60 fits 20000
