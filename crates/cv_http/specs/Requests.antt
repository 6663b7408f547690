-- The bytes of a request that is written (RFC 9112, section 3).
use Rattle.std.specs.Prelude.{ℕ, List, [], ◌++◌, length, codes, decimal, Option, Some, None}
use Rattle.cv_http.specs.declared.verb.Verb.{Verb}
use Rattle.cv_http.specs.declared.verb.Verb.TheVariants.{Get, Post, Delete}
use Rattle.cv_http.specs.declared.outgoing.Outgoing.{Outgoing}

-- the target of a file of a repository that is served
abbrev pub file_target : List ℕ → List ℕ → List ℕ
file_target repository file = codes "/cvmfs/" ++ (repository ++ (codes "/" ++ file))

-- the request to this host for a file of a repository
abbrev pub request_for_file : List ℕ → List ℕ → List ℕ → Outgoing
request_for_file host repository file = record {
  method = Get;
  host = host;
  target = file_target repository file;
  authorization = None;
  message_size = None;
  body = [];
}

-- the name of the method
abbrev pub verb_text : Verb → List ℕ
verb_text Get = codes "GET"
verb_text Post = codes "POST"
verb_text Delete = codes "DELETE"

-- the line of a field
unfoldable pub field_line : List ℕ → List ℕ → List ℕ
field_line name value = name ++ codes ": " ++ value ++ codes "\r\n"

-- the line of Authorization, where there is one
abbrev pub authorization_line : Option (List ℕ) → List ℕ
authorization_line None = []
authorization_line (Some text) = field_line (codes "Authorization") text

-- the line of Message-Size, where there is one
abbrev pub message_size_line : Option ℕ → List ℕ
message_size_line None = []
message_size_line (Some size) = field_line (codes "Message-Size") (decimal size)

-- the request line
unfoldable pub request_line : Verb → List ℕ → List ℕ
request_line verb target = verb_text verb ++ codes " " ++ target ++ codes " HTTP/1.1\r\n"

-- the head
unfoldable pub request_head : Outgoing → List ℕ
request_head r =
    request_line r.method r.target ++ field_line (codes "Host") r.host ++ field_line (codes "Connection") (codes "close")
    ++ authorization_line r.authorization ++ message_size_line r.message_size
    ++ field_line (codes "Content-Length") (decimal (length r.body)) ++ codes "\r\n"

-- the head, and then the body
abbrev pub request_text : Outgoing → List ℕ
request_text r = request_head r ++ r.body
