-- The bytes of a reply (RFC 9112, section 4).
use Rattle.std.specs.Prelude.{ℕ, List, [], ◌++◌, length, codes, Bool, true, false, decimal}
use Rattle.cv_http.specs.declared.code.Code.{Code}
use Rattle.cv_http.specs.declared.code.Code.TheVariants.{Success, BadRequest, NotFound, LengthRequired, ContentTooLarge, FieldsTooLarge, ServerError, NotImplemented}
use Rattle.cv_http.specs.declared.body_kind.BodyKind.{BodyKind}
use Rattle.cv_http.specs.declared.body_kind.BodyKind.TheVariants.{Json, Octets, Text}

-- the three digits of a status code, and its phrase
abbrev pub status_of : Code → List ℕ
status_of Success = codes "200 OK"
status_of BadRequest = codes "400 Bad Request"
status_of NotFound = codes "404 Not Found"
status_of LengthRequired = codes "411 Length Required"
status_of ContentTooLarge = codes "413 Content Too Large"
status_of FieldsTooLarge = codes "431 Request Header Fields Too Large"
status_of ServerError = codes "500 Internal Server Error"
status_of NotImplemented = codes "501 Not Implemented"

-- the body of a text reply: the phrase and a newline
abbrev pub text_of : Code → List ℕ
text_of Success = codes "OK\n"
text_of BadRequest = codes "Bad Request\n"
text_of NotFound = codes "Not Found\n"
text_of LengthRequired = codes "Length Required\n"
text_of ContentTooLarge = codes "Content Too Large\n"
text_of FieldsTooLarge = codes "Request Header Fields Too Large\n"
text_of ServerError = codes "Internal Server Error\n"
text_of NotImplemented = codes "Not Implemented\n"

abbrev pub type_of : BodyKind → List ℕ
type_of Json = codes "application/json"
type_of Octets = codes "application/octet-stream"
type_of Text = codes "text/plain"

-- the line that closes the connection after the reply
abbrev pub close_line : Bool → List ℕ
close_line true = codes "Connection: close\r\n"
close_line false = []

-- the head of a reply with a body of so many bytes
unfoldable pub reply_head : Code → BodyKind → ℕ → Bool → List ℕ
reply_head code kind size last =
    codes "HTTP/1.1 " ++ status_of code ++ codes "\r\nContent-Type: " ++ type_of kind
    ++ codes "\r\nContent-Length: " ++ decimal size ++ codes "\r\n" ++ close_line last ++ codes "\r\n"

abbrev pub reply : Code → BodyKind → Bool → List ℕ → List ℕ
reply code kind last body = reply_head code kind (length body) last ++ body

-- the line that asks for the body, and the empty line after it
abbrev pub continue_line : List ℕ
continue_line = codes "HTTP/1.1 100 Continue\r\n\r\n"
