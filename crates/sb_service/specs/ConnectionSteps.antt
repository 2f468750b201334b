-- Steps on the way to a response: a body that is no message, and the same in Protocol Buffers.
use Rattle.std.specs.Prelude.{◌≡◌, ◌≢◌, ℕ, List, []}
use Rattle.sb_json.specs.Printed.{message_cause_text as message_cause}
use Rattle.sb_json.specs.declared.faults.MessageFault.{MessageFault}
use Rattle.sb_json.specs.declared.faults.MessageFault.TheVariants as message
use Rattle.http_edge.specs.declared.messages.MediaType.TheVariants.{Json, Protobuf}
use Rattle.http_edge.specs.declared.messages.ResponseFields.{ResponseFields}
use Rattle.http_edge.specs.declared.messages.Status.{Status}
use Rattle.http_edge.specs.declared.messages.Status.TheVariants.{BadRequest}
use Rattle.http_serving.specs.declared.forms.Form.{Form}
use Rattle.sb_outside.specs.declared.links.Kind.{Kind}
use Rattle.sb_outside.specs.declared.links.Kind.TheVariants.{Update, Find}
use Rattle.proto_messages.specs.Printed.{proto_cause_text}
use Rattle.proto_messages.specs.declared.fault.ProtoFault.{ProtoFault}
use Rattle.proto_messages.specs.declared.fault.ProtoFault.TheVariants as proto
use Rattle.sb_service.specs.declared.connection.ListRoute.{ListRoute}
use Rattle.sb_service.specs.declared.connection.ListRoute.TheVariants.{Updates, Hashes}

-- the route of messages of a kind that takes a form
abbrev pub proto_route : Kind → Form → ListRoute
proto_route Update form = Updates form
proto_route Find form = Hashes form

-- A response to a body that is no message, whose cause is the fault. Want of memory is no such fault.
pub record IsBareRefusal (refusal : MessageFault) (status : Status) (fields : ResponseFields) (body cause : List ℕ) : Type 0 where
  pub some : refusal ≢ message.OutOfMemory
  pub bad : status ≡ BadRequest
  pub json : fields.media ≡ Json
  pub bare : body ≡ []
  pub told : cause ≡ message_cause refusal

-- A response to a request in Protocol Buffers that has no answer. Its cause is the fault, and want of memory is no such fault.
pub record IsProtoRefusal (refusal : ProtoFault) (status : Status) (fields : ResponseFields) (body cause : List ℕ) : Type 0 where
  pub some : refusal ≢ proto.OutOfMemory
  pub bad : status ≡ BadRequest
  pub media : fields.media ≡ Protobuf
  pub bare : body ≡ []
  pub told : cause ≡ proto_cause_text refusal
