-- The form of a request: how it gives its message.
use Rattle.std.specs.Prelude.{ℕ, ◌&&◌, ◌||◌, List, codes, Bool, true, false, if◌then◌else◌, Option, Some, None, is_some}
use Rattle.std.specs.Str.{bytes_eq, str_eq_ignore_ascii_case}
use Rattle.http_edge.specs.MediaTypes.{media_type_in}
use Rattle.http_edge.specs.Responses.{media_text}
use Rattle.http_edge.specs.declared.messages.HttpRequest.{HttpRequest}
use Rattle.http_edge.specs.declared.messages.MediaType.TheVariants.{Protobuf as ProtobufType}
use Rattle.http_serving.specs.Queries.{query_value}
use Rattle.http_serving.specs.declared.forms.Form.{Form}
use Rattle.http_serving.specs.declared.forms.Form.TheVariants.{Plain, Protobuf, Query}

-- whether a text names the media type of Protocol Buffers; its case does not count (RFC 9110, section 8.3.1)
abbrev pub is_protobuf : List ℕ → Bool
is_protobuf text = str_eq_ignore_ascii_case text (media_text ProtobufType)

-- whether there is a value that passes
abbrev pub passes : (List ℕ → Bool) → Option (List ℕ) → Bool
passes test None = false
passes test (Some value) = test value

-- whether a request says that its message is one of Protocol Buffers: by its `Content-Type`, or by `$ct` or `alt` in its query
abbrev pub says_protobuf : HttpRequest → Bool
says_protobuf request =
    is_protobuf (media_type_in request.content_type)
    || (passes is_protobuf (query_value (codes "$ct") request.target)
    || passes (λ value. bytes_eq value (codes "proto")) (query_value (codes "alt") request.target))

-- whether a request is a GET with its message in its query, in the member `$req`
abbrev pub asks_by_query : HttpRequest → Bool
asks_by_query request = bytes_eq request.method (codes "GET") && is_some (query_value (codes "$req") request.target)

-- whether a request is a POST with a message of Protocol Buffers as its body
abbrev pub asks_by_protobuf : HttpRequest → Bool
asks_by_protobuf request = bytes_eq request.method (codes "POST") && says_protobuf request

abbrev pub request_form : HttpRequest → Form
request_form request = if asks_by_query request then Query else (if asks_by_protobuf request then Protobuf else Plain)

-- whether a route of the first form takes requests of the second: a plain one takes all
abbrev pub takes_form : Form → Form → Bool
takes_form Plain form = true
takes_form Protobuf Protobuf = true
takes_form Protobuf Plain = false
takes_form Protobuf Query = false
takes_form Query Query = true
takes_form Query Plain = false
takes_form Query Protobuf = false
