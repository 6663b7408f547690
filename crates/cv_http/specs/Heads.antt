-- The head of a request: what httparse accepts, of at most 16,384 bytes, and what it says.
use Rattle.std.specs.Prelude.{◌==◌, ◌&&◌, ◌||◌, not, ℕ, List, length, map, Bool, Option, Some, None, codes, bytes_eq, if◌then◌else◌}
use Rattle.std.specs.List.{list_any}
use Rattle.std.specs.Option.{option_or}
use Rattle.std.specs.Str.{str_eq_ignore_ascii_case}
use Rattle.httparse.specs.Grammar.{RequestHead as ParsedHead, IsRequestHead, MayBecomeRequest, print_request}
use Rattle.httparse.specs.Spans.{name_and_value}
use Rattle.cv_http.specs.Fields.{values_of, length_of, text_value, has_token}
use Rattle.cv_http.specs.FieldFaults.{lengths_of, fields_fault}
use Rattle.cv_http.specs.Forms.{Form, BeginsAs, NeverAs, RefusedAs, AwaitedAs, CutAs}
use Rattle.cv_http.specs.declared.head.RequestHead.{RequestHead}
use Rattle.cv_http.specs.declared.method.Method.{Method}
use Rattle.cv_http.specs.declared.method.Method.TheVariants.{Get, Post, Delete, Other}
use Rattle.cv_http.specs.declared.fault.HttpFault.{HttpFault}
use Rattle.cv_http.specs.declared.fault.HttpFault.TheVariants.{BadHead, NoLength}
pub use Rattle.cv_http.specs.Forms.{window}

-- the parts of a head that count: the minor version, and the names and values of its fields
pub record HeadParts : Type 0 where
  pub method : List ℕ
  pub target : List ℕ
  pub minor : ℕ
  pub fields : List (List ℕ × List ℕ)

abbrev pub parts_of : ParsedHead → HeadParts
parts_of h = record { method = h.method; target = h.target; minor = h.minor; fields = map name_and_value h.fields }

abbrev pub method_of : List ℕ → Method
method_of name =
    if bytes_eq name (codes "GET") then Get
    else if bytes_eq name (codes "POST") then Post
    else if bytes_eq name (codes "DELETE") then Delete
    else Other

-- an HTTP/1.1 head without Host, or with two
abbrev pub is_host_wrong : HeadParts → Bool
is_host_wrong p = (p.minor == 1) && not (length (values_of (codes "host") p.fields) == 1)

-- a POST without Content-Length
abbrev pub is_length_lacking : HeadParts → Bool
is_length_lacking p = bytes_eq p.method (codes "POST") && (length (lengths_of p.fields) == 0)

-- the first fault of a whole head, if it has one
abbrev pub fault_of : HeadParts → Option HttpFault
fault_of p =
    if is_host_wrong p then Some BadHead
    else option_or (fields_fault p.fields) (if is_length_lacking p then Some NoLength else None)

-- an HTTP/1.1 request one whose Expect fields is 100-continue as a whole
abbrev pub expects : HeadParts → Bool
expects p =
    (p.minor == 1) && list_any (λ value. str_eq_ignore_ascii_case value (codes "100-continue")) (values_of (codes "expect") p.fields)

-- a request of HTTP/1.0, or one whose Connection fields have the token close
abbrev pub is_last : HeadParts → Bool
is_last p = (p.minor == 0) || list_any (has_token (codes "close")) (values_of (codes "connection") p.fields)

-- what the parts of a head say
abbrev pub read_parts : HeadParts → RequestHead
read_parts p = record {
  method = method_of p.method;
  target = p.target;
  length = length_of (lengths_of p.fields);
  expects = expects p;
  last = is_last p;
  authorization = text_value (values_of (codes "authorization") p.fields);
  message_size = text_value (values_of (codes "message-size") p.fields);
}

abbrev pub fault_of_head : ParsedHead → Option HttpFault
fault_of_head h = fault_of (parts_of h)

abbrev pub head_of : ParsedHead → RequestHead
head_of h = read_parts (parts_of h)

-- the form of a request's head
abbrev pub request_form : Form ParsedHead RequestHead
request_form = record { print = print_request; IsHead = IsRequestHead; MayBecome = MayBecomeRequest; fault = fault_of_head; says = head_of }

-- the bytes are a whole head without fault, which says this, and then these
abbrev pub Begins : List ℕ → RequestHead → List ℕ → Type 0
Begins = BeginsAs request_form

-- no bytes can follow the first 16,384 that make them begin with a head
abbrev pub Never : List ℕ → Type 0
Never = NeverAs request_form

-- the bytes begin with something that is refused by this fault
abbrev pub Refused : List ℕ → HttpFault → Type 0
Refused = RefusedAs request_form

-- the bytes begin with no whole head, and have room for more of one
abbrev pub IsAwaited : List ℕ → Type 0
IsAwaited = AwaitedAs request_form

-- the bytes end inside a head
abbrev pub IsCut : List ℕ → Type 0
IsCut = CutAs request_form
