-- What a request in Protocol Buffers comes to: its message, the answer to that, or what is wrong with it.
use Rattle.std.specs.Prelude.{◌≡◌, ◌⊎◌, ℕ, List, [], map, filter, codes}
use Rattle.std.specs.List.{zip}
use Rattle.std.specs.Option.{unwrap_or}
use Rattle.sb_model.specs.History.{History}
use Rattle.sb_outside.specs.declared.links.Kind.{Kind}
use Rattle.sb_outside.specs.declared.links.Kind.TheVariants.{Update, Find}
use Rattle.http_edge.specs.declared.messages.HttpRequest.{HttpRequest}
use Rattle.http_edge.specs.declared.messages.MediaType.{MediaType}
use Rattle.http_edge.specs.declared.messages.MediaType.TheVariants as media
use Rattle.http_serving.specs.Queries.{query_value}
use Rattle.http_serving.specs.declared.forms.Form.{Form}
use Rattle.http_serving.specs.declared.forms.Form.TheVariants.{Plain, Protobuf, Query}
use Rattle.update_messages.specs.Messages.{AskedList}
use Rattle.answering_lists.specs.Lists.{is_answered}
use Rattle.named_answers.specs.Answers.{named_fetch_answer, named_find_answer}
use Rattle.proto_messages.specs.Query.{IsBase64Of}
use Rattle.proto_messages.specs.Reading.{ReadsFetch, ReadsFind, IsFetchFault, IsFindFault}
use Rattle.proto_messages.specs.Writing.{fetch_answer_bytes, find_answer_bytes}
use Rattle.proto_messages.specs.declared.fault.ProtoFault.{ProtoFault}
use Rattle.proto_messages.specs.declared.fault.ProtoFault.TheVariants.{NotBase64}
use Rattle.proto_messages.specs.declared.fetch_request.NumberedFetch.{NumberedFetch}
use Rattle.proto_messages.specs.declared.find_request.NumberedFind.{NumberedFind}
use Rattle.delta_server.specs.Tokens.{server_naming}
use Rattle.delta_server.specs.declared.answering.Settings.{Settings}

-- ---- the message

-- the text in the query of a request: the value of its member `$req`, and nothing if there is none
abbrev pub queried_text : HttpRequest → List ℕ
queried_text request = unwrap_or (query_value (codes "$req") request.target) []

-- The message of a request in Protocol Buffers, by its form: its body, or what its query spells in base64. A plain request has none.
abbrev pub IsProtoMessage : Form → HttpRequest → List ℕ → Type 0
IsProtoMessage Plain request message = ⊥
IsProtoMessage Protobuf request message = message ≡ request.body
IsProtoMessage Query request message = IsBase64Of (queried_text request) message

-- a request that has none
abbrev pub HasNoProtoMessage : Form → HttpRequest → Type 0
HasNoProtoMessage form request = (message : List ℕ) → ¬ IsProtoMessage form request message

-- the type that an answer names, by the form of its request
abbrev pub media_in : Form → MediaType
media_in Plain = media.Json
media_in Protobuf = media.Protobuf
media_in Query = media.Protobuf

-- ---- its answer

-- the numbers of the threats of those items for which a list answers, in order
abbrev pub answered_threats : History → List AskedList → List ℕ → List ℕ
answered_threats history items threats =
    map (λ (asked : AskedList × ℕ). asked.1) (filter (λ (asked : AskedList × ℕ). is_answered history asked.0.name) (zip items threats))

-- the updates that a message asks for, of those items for which a list answers
abbrev pub updates_bytes : History → Settings → NumberedFetch → List ℕ
updates_bytes history times asked =
    fetch_answer_bytes (answered_threats history asked.request.items asked.threats)
    (named_fetch_answer history (server_naming history) times.wait asked.request)

-- the full hashes that a message asks for
abbrev pub matches_bytes : History → Settings → NumberedFind → List ℕ
matches_bytes history times asked =
    find_answer_bytes asked.social (named_find_answer history times.find_wait times.cache times.negative asked.request)

-- The answer to a message that asks for updates, or for full hashes. Other bytes have none.
abbrev pub IsProtoText : History → Settings → Kind → (message text : List ℕ) → Type 0
IsProtoText history times Update message text = (asked : NumberedFetch) × ReadsFetch message asked × (text ≡ updates_bytes history times asked)
IsProtoText history times Find message text = (asked : NumberedFind) × ReadsFind message asked × (text ≡ matches_bytes history times asked)

-- ---- what is wrong with it

-- the first fault of bytes that are no message
abbrev pub IsMessageFault : Kind → List ℕ → ProtoFault → Type 0
IsMessageFault Update message fault = IsFetchFault message fault
IsMessageFault Find message fault = IsFindFault message fault

-- The first fault of a request: its query spells no message in base64, or its message has this one.
abbrev pub IsProtoFault : Kind → Form → HttpRequest → ProtoFault → Type 0
IsProtoFault wanted form request fault =
    (HasNoProtoMessage form request × (fault ≡ NotBase64))
    ⊎ ((message : List ℕ) × IsProtoMessage form request message × IsMessageFault wanted message fault)
