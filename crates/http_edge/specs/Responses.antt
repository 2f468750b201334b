-- The text of a response of a server: its status line, its fields, each line ended by CR LF, and its body.
use Rattle.std.specs.Prelude.{ℕ, List, [], ◌++◌, length, codes, decimal}
use Rattle.base64.specs.Engines.{standard}
use Rattle.base64.specs.GeneralPurpose.{encode_of}
use Rattle.sha2.specs.Sha256.{sha256}
use Rattle.http_edge.specs.declared.messages.Status.{Status}
use Rattle.http_edge.specs.declared.messages.Status.TheVariants.{Success, BadRequest, NotFound, MethodNotAllowed, LengthRequired, ContentTooLarge, FieldsTooLarge, BadGateway, ServiceUnavailable}
use Rattle.http_edge.specs.declared.messages.Allow.{Allow}
use Rattle.http_edge.specs.declared.messages.Allow.TheVariants.{Get, Post}
use Rattle.http_edge.specs.declared.messages.MediaType.{MediaType}
use Rattle.http_edge.specs.declared.messages.MediaType.TheVariants.{Json, Protobuf}
use Rattle.http_edge.specs.declared.messages.ResponseFields.{ResponseFields}

-- a line, which CR LF ends
unfoldable pub line : List ℕ → List ℕ
line text = text ++ codes "\r\n"

abbrev pub status_code : Status → ℕ
status_code Success = 200
status_code BadRequest = 400
status_code NotFound = 404
status_code MethodNotAllowed = 405
status_code LengthRequired = 411
status_code ContentTooLarge = 413
status_code FieldsTooLarge = 431
status_code BadGateway = 502
status_code ServiceUnavailable = 503

-- the status and its phrase, as the status line has them
abbrev pub status_text : Status → List ℕ
status_text Success = codes "200 OK"
status_text BadRequest = codes "400 Bad Request"
status_text NotFound = codes "404 Not Found"
status_text MethodNotAllowed = codes "405 Method Not Allowed"
status_text LengthRequired = codes "411 Length Required"
status_text ContentTooLarge = codes "413 Content Too Large"
status_text FieldsTooLarge = codes "431 Request Header Fields Too Large"
status_text BadGateway = codes "502 Bad Gateway"
status_text ServiceUnavailable = codes "503 Service Unavailable"

abbrev pub method_text : Allow → List ℕ
method_text Get = codes "GET"
method_text Post = codes "POST"

-- the field that names the allowed method stands where the method was not allowed, and else nowhere
abbrev pub allow_line : Status → Allow → List ℕ
allow_line MethodNotAllowed allow = line (codes "Allow: " ++ method_text allow)
allow_line status allow = []

-- the media type of a body, as `Content-Type` names it (RFC 9110, section 8.3)
abbrev pub media_text : MediaType → List ℕ
media_text Json = codes "application/json"
media_text Protobuf = codes "application/x-protobuf"

-- the digest of a body as a member of `Content-Digest` (RFC 9530, section 2)
unfoldable pub digest_text : List ℕ → List ℕ
digest_text digest = codes "sha-256=:" ++ encode_of standard digest ++ codes ":"

abbrev pub response_head : Status → ResponseFields → List ℕ → List ℕ
response_head status fields body =
    line (codes "HTTP/1.1 " ++ status_text status)
    ++ line (codes "Content-Type: " ++ media_text fields.media)
    ++ line (codes "Content-Length: " ++ decimal (length body))
    ++ line (codes "Content-Digest: " ++ digest_text (sha256 body))
    ++ allow_line status fields.allow
    ++ line (codes "Connection: close")
    ++ line []

abbrev pub response_text : Status → ResponseFields → List ℕ → List ℕ
response_text status fields body = response_head status fields body ++ body
