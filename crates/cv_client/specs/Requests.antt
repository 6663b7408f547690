-- What a client asks of a repository's server: the manifest, and objects under the names of their files.
use Rattle.std.specs.Prelude.{ℕ, List}
use Rattle.cv_http.specs.Requests.{request_for_file}
use Rattle.cv_http.specs.declared.outgoing.Outgoing.{Outgoing}
use Rattle.cv_client.specs.declared.url.Url.{Url}

-- the request for a file of the repository
abbrev pub file_request : Url → List ℕ → Outgoing
file_request u file = request_for_file u.authority u.repository file
