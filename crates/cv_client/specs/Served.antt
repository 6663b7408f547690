-- A server that has the files of a published tree, and what a client finds there.
use Rattle.std.specs.Prelude.{◌≡◌, ◌++◌, ⊤, ℕ, Bool, List, [], ◌∷◌, Option, Some, Contains, Result, Ok, Err}
use Rattle.std.specs.declared.option.Option.TheVariants.{None}
use Rattle.sha1.specs.Sha1.{sha1}
use Rattle.cv_base.specs.ObjectId.{file_name}
use Rattle.cv_base.specs.declared.id.ObjectId.{ObjectId}
use Rattle.cv_ports.specs.Dial.{Came, Event, Story, Back}
use Rattle.cv_tree.specs.Tree.{Nodes, IsTree}
use Rattle.cv_cut.specs.Catalogues.{root_of, Fits}
use Rattle.cv_http.specs.declared.code.TheConstants.{OK}
use Rattle.cv_http.specs.Requests.{request_text}
use Rattle.cv_http.specs.ReplyTexts.{IsReply}
use Rattle.cv_http.specs.declared.http_reply.HttpReply.{HttpReply}
use Rattle.cv_manifest.specs.Manifest.{Says, manifest_name}
use Rattle.cv_manifest.specs.declared.manifest.Manifest.{Manifest}
use Rattle.cv_resolver.specs.Kept.{AreOwn}
use Rattle.cv_resolver.specs.Look.{Finding, OnWay, IsFound, look}
use Rattle.cv_resolver.specs.Resolver.{Client, IsOn}
use Rattle.cv_resolver.specs.declared.question.Question.{Question}
use Rattle.cv_resolver.specs.declared.found.Found.{Found}
use Rattle.cv_resolver.specs.declared.found.ClientFault.{ClientFault}
use Rattle.cv_client.specs.Exchange.{Links}
use Rattle.cv_client.specs.Requests.{file_request}
use Rattle.cv_client.specs.declared.url.Url.{Url}
use Rattle.cv_client.specs.declared.exchanging.ExchangeFault.{ExchangeFault}
use Rattle.cv_client.specs.declared.exchanging.ExchangeFault.TheVariants as exchange_fault
use Rattle.cv_client.specs.declared.ask_fault.AskFault.{AskFault}
use Rattle.cv_client.specs.declared.ask_fault.AskFault.TheVariants.{LinkFailed, BadReply, BadManifest, Refused, NoMemory}

-- what a server has under the names of its files
abbrev pub Files : Type 0
Files = List ℕ → Option (List ℕ)

-- ---- what a server sends

-- all that a link sends, what it gave and then what it has left, begins with a whole reply of code 200 with this content
pub record SendsFile (content : List ℕ) (c : Came) : Type 0 where
  pub given : List ℕ
  pub gave : c.given ≡ Some given
  pub left : List ℕ
  pub has : c.left ≡ Some left
  pub reply : HttpReply
  pub later : List ℕ
  pub is : IsReply ⊤ (given ++ left) reply later
  pub code : reply.code ≡ OK
  pub body : reply.body ≡ content

-- a link that took the request for a file that the server has sends it
abbrev pub Serves : Url → Files → Came → Type 0
Serves u files c = (file content : List ℕ) → files file ≡ Some content → c.taken ≡ Some (request_text (file_request u file)) → SendsFile content c

-- so did each link that came back meanwhile to a dial that tells
pub record ServedBy (u : Url) (files : Files) (before after : Links) : Type 0 where
  pub start : Story
  pub was : before ≡ Some start
  pub end : Story
  pub is : after ≡ Some end
  pub each : (events : List Event) (c : Came) → end.events ≡ start.events ++ events → Contains events (Back c) → Serves u files c

-- ---- what a server has

-- an object: bytes of its digest, and none that share the SHA-1 of a catalogue of the tree and aren't that catalogue
pub record HasObject (files : Files) (t : Nodes) (id : ObjectId) : Type 0 where
  pub content : List ℕ
  pub there : files (file_name id) ≡ Some content
  pub digest : sha1 content ≡ id.hash
  pub own : AreOwn t (content ∷ [])

-- each object on the way of a question in a tree
abbrev pub HasWay : Files → (repository : List ℕ) → Nodes → Question → Type 0
HasWay files repository t q = (id : ObjectId) → OnWay repository t q id → HasObject files t id

-- a manifest under its seal, of a tree whose root it names, and what a question wants in that
pub record HasAnswer (is_seal : List ℕ → List ℕ → Bool) (files : Files) (t : Nodes) (m : Manifest) (q : Question) : Type 0 where
  pub text : List ℕ
  pub there : files manifest_name ≡ Some text
  pub says : Says is_seal text m
  pub tree : IsTree t
  pub fits : Fits t
  pub root : m.head.root ≡ root_of t
  pub way : HasWay files m.name t q

-- ---- what a client finds there

-- a file came with its content, unless the link failed or memory was wanted
abbrev pub IsFetched : List ℕ → Result (Option (List ℕ)) ExchangeFault → Type 0
IsFetched content (Ok (Some bytes)) = bytes ≡ content
IsFetched content (Ok None) = ⊥
IsFetched content (Err exchange_fault.LinkFailed) = Unit {0}
IsFetched content (Err exchange_fault.BadReply) = ⊥
IsFetched content (Err exchange_fault.NoMemory) = Unit {0}

-- the manifest is this, unless the link failed or memory was wanted
abbrev pub IsManifestOr : Manifest → Result Manifest AskFault → Type 0
IsManifestOr m (Ok found) = found ≡ m
IsManifestOr m (Err NoMemory) = Unit {0}
IsManifestOr m (Err LinkFailed) = Unit {0}
IsManifestOr m (Err BadReply) = ⊥
IsManifestOr m (Err BadManifest) = ⊥
IsManifestOr m (Err (Refused fault)) = ⊥

-- the answer is that of the tree, unless the link failed or memory was wanted
abbrev pub IsWholeOr : Result Finding ClientFault → Result Found AskFault → Type 0
IsWholeOr finding (Ok found) = IsFound finding found
IsWholeOr finding (Err (Refused fault)) = finding ≡ Err fault
IsWholeOr finding (Err NoMemory) = Unit {0}
IsWholeOr finding (Err LinkFailed) = Unit {0}
IsWholeOr finding (Err BadReply) = ⊥
IsWholeOr finding (Err BadManifest) = ⊥

-- the answer is that of the tree, unless memory was wanted
abbrev pub IsWhole : Result Finding ClientFault → Result Found AskFault → Type 0
IsWhole finding (Ok found) = IsFound finding found
IsWhole finding (Err (Refused fault)) = finding ≡ Err fault
IsWhole finding (Err NoMemory) = Unit {0}
IsWhole finding (Err LinkFailed) = ⊥
IsWhole finding (Err BadReply) = ⊥
IsWhole finding (Err BadManifest) = ⊥

-- Where each link that came back sent what a server has, whose manifest says this under its seal: that was fetched.
abbrev pub FetchesServed : (is_seal : List ℕ → List ℕ → Bool) → Url → (before after : Links) → Result Manifest AskFault → Type 0
FetchesServed is_seal u before after fetched = (files : Files) → ServedBy u files before after
    → (text : List ℕ) (m : Manifest) → files manifest_name ≡ Some text → Says is_seal text m → IsManifestOr m fetched

-- Where each link that came back sent what a server has, which is all that the question wants in a tree at whose root the client is pinned:
-- the answer is that of the tree.
abbrev pub AnswersServed : Url → Question → (before after : Links) → Client → Result Found AskFault → Type 0
AnswersServed u q before after r answer = (files : Files) → ServedBy u files before after
    → (t : Nodes) → IsOn t r → HasWay files r.name t q → IsWholeOr (look r.name t q) answer
