-- The requests of a publisher.
use Rattle.std.specs.Prelude.{◌≡◌, ◌≢◌, ℕ, List, [], ◌++◌, length, slice_get, option_map, Option, Some, None}
use Rattle.sha1.specs.Sha1.{sha1}
use Rattle.serde_json.specs.Written.{compact_text}
use Rattle.cv_base.specs.ObjectId.{file_name}
use Rattle.cv_base.specs.Path.{Path, text_of}
use Rattle.cv_base.specs.Token.{token_text}
use Rattle.cv_base.specs.declared.id.ObjectId.{ObjectId}
use Rattle.cv_base.specs.declared.object.Object.{Object}
use Rattle.cv_base.specs.declared.token.Token.{Token}
use Rattle.cv_http.specs.Requests.{request_for_file}
use Rattle.cv_http.specs.declared.outgoing.Outgoing.{Outgoing}
use Rattle.cv_http.specs.declared.verb.Verb.TheVariants.{Post, Delete}
use Rattle.cv_keys.specs.Header.{header_of}
use Rattle.cv_keys.specs.declared.key.Key.{Key}
use Rattle.cv_manifest.specs.Manifest.{manifest_name}
use Rattle.cv_messages.specs.CommitAsk.{commit_ask_data}
use Rattle.cv_messages.specs.LeaseAsk.{lease_ask_data}
use Rattle.cv_messages.specs.PayloadAsk.{payload_ask_data}
use Rattle.cv_messages.specs.Targets.{leases_target, lease_target, payloads_target}
use Rattle.cv_pack.specs.Pack.{header_bytes, pack_bytes}
use Rattle.cv_publisher.specs.Packing.{IsFront}
use Rattle.cv_publisher.specs.declared.plan.Plan.{Plan}

-- the header by which the first key signs a message: a table has one
abbrev pub signature : List Key → List ℕ → Option (List ℕ)
signature keys message = option_map (λ key. header_of key message) (slice_get keys 0)

-- ---- the lease

-- it asks for the repository's name and behind it the path's text
abbrev pub lease_message : List ℕ → Path → List ℕ
lease_message name path = compact_text (lease_ask_data (record { path = name ++ text_of path }))

-- the whole message is signed
abbrev pub lease_request : List Key → Plan → Outgoing
lease_request keys plan = record {
  method = Post;
  host = plan.host;
  target = leases_target;
  authorization = signature keys (lease_message plan.name plan.path);
  message_size = None;
  body = lease_message plan.name plan.path;
}

-- ---- files of the repository

abbrev pub file_request : Plan → List ℕ → Outgoing
file_request plan file = request_for_file plan.host plan.name file

abbrev pub manifest_request : Plan → Outgoing
manifest_request plan = file_request plan manifest_name

abbrev pub object_request : Plan → ObjectId → Outgoing
object_request plan id = file_request plan (file_name id)

-- ---- payloads

-- it says the token, and the digest and the length of a header
abbrev pub message_of_header : Token → List ℕ → List ℕ
message_of_header token header = compact_text (payload_ask_data (record { token = token_text token; digest = sha1 header; header_size = length header }))

-- of the pack's header
abbrev pub payload_message : Token → List Object → List ℕ
payload_message token pack = message_of_header token (header_bytes pack)

-- the message is signed; the pack follows it
abbrev pub payload_request : List Key → Plan → Token → List Object → Outgoing
payload_request keys plan token pack = record {
  method = Post;
  host = plan.host;
  target = payloads_target;
  authorization = signature keys (payload_message token pack);
  message_size = Some (length (payload_message token pack));
  body = payload_message token pack ++ pack_bytes pack;
}

-- of these objects the longest front is sent that one pack takes, and some are
pub record SendsFront (keys : List Key) (plan : Plan) (token : Token) (os : List Object) (request : Outgoing) : Type 0 where
  pub pack : List Object
  pub rest : List Object
  pub front : IsFront os pack rest
  pub some : pack ≢ []
  pub is : request ≡ payload_request keys plan token pack

-- ---- the lease by its token, whose text is signed

-- the digests of two root catalogues, and no tag
abbrev pub commit_message : List ℕ → List ℕ → List ℕ
commit_message base root = compact_text (commit_ask_data (record { old_root = base; new_root = root; tag = [] }))

abbrev pub commit_request : List Key → Plan → Token → List ℕ → List ℕ → Outgoing
commit_request keys plan token base root = record {
  method = Post;
  host = plan.host;
  target = lease_target (token_text token);
  authorization = signature keys (token_text token);
  message_size = None;
  body = commit_message base root;
}

abbrev pub cancel_request : List Key → Plan → Token → Outgoing
cancel_request keys plan token = record {
  method = Delete;
  host = plan.host;
  target = lease_target (token_text token);
  authorization = signature keys (token_text token);
  message_size = None;
  body = [];
}
