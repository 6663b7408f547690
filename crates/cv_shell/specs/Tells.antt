-- What is printed of each line is so in the tree at whose root the client is pinned, whatever the links give.
use Rattle.std.specs.Prelude.{◌≡◌, ◌++◌, ◌∷◌, ℕ, Bool, List, [], codes, Option, Some, None, Ok, Err}
use Rattle.cv_base.specs.ObjectId.{file_name}
use Rattle.cv_base.specs.declared.id.ObjectId.{ObjectId}
use Rattle.cv_tree.specs.Tree.{Nodes, IsTree}
use Rattle.cv_cut.specs.Catalogues.{root_of, Fits}
use Rattle.cv_manifest.specs.Manifest.{Says as IsText, manifest_name}
use Rattle.cv_manifest.specs.declared.manifest.Manifest.{Manifest}
use Rattle.cv_resolver.specs.Giving.{IsOther, IsUndecoded}
use Rattle.cv_resolver.specs.Kept.{AreOwn}
use Rattle.cv_resolver.specs.Look.{IsFound, look}
use Rattle.cv_resolver.specs.Resolver.{Client, Asks, wanted_in, renewal, pinned_at}
use Rattle.cv_resolver.specs.declared.question.Question.{Question}
use Rattle.cv_resolver.specs.declared.resolver.Asked.{Asked}
use Rattle.cv_resolver.specs.declared.stage.Stage.{Stage}
use Rattle.cv_resolver.specs.declared.found.Found.{Found}
use Rattle.cv_resolver.specs.declared.found.ClientFault.{ClientFault}
use Rattle.cv_resolver.specs.declared.found.ClientFault.TheVariants.{BadObject, BadCatalogue, NotServed}
use Rattle.cv_resolver.specs.declared.found.RenewFault.{RenewFault}
use Rattle.cv_client.specs.Answer.{Given, Comes, bytes_in}
use Rattle.cv_client.specs.Exchange.{Links}
use Rattle.cv_client.specs.Fetch.{Fetches}
use Rattle.cv_client.specs.Pin.{FetchesManifest, client_at}
use Rattle.cv_client.specs.Served.{Files, ServedBy, HasWay}
use Rattle.cv_client.specs.declared.url.Url.{Url}
use Rattle.cv_client.specs.declared.ask_fault.AskFault.TheVariants.{BadManifest}
use Rattle.cv_shell.specs.Line.{Says}
use Rattle.cv_shell.specs.Shells.{Turn, Runs}
use Rattle.cv_shell.specs.Turns.{Turns}
use Rattle.cv_shell.specs.Texts.{answer_text, revision_line, fault_text, renewal_text, refusal}
use Rattle.cv_shell.specs.declared.line.Line.{Line}
use Rattle.cv_shell.specs.declared.line.Line.TheVariants.{Ask, Renew}
use Rattle.cv_shell.specs.declared.turn.Stop.TheVariants.{BadReply}

-- ---- a tree and a client at its root

-- a tree with the root of a manifest; none of these bytes has the SHA-1 of a catalogue of it and isn't that catalogue
pub record IsServed (t : Nodes) (m : Manifest) (known : List (List ℕ)) : Type 0 where
  pub tree : IsTree t
  pub fits : Fits t
  pub root : m.head.root ≡ root_of t
  pub own : AreOwn t known

-- the client is pinned at the head of a manifest, and has no unfinished question
pub record IsPinned (r : Client) (m : Manifest) : Type 0 where
  pub name : r.name ≡ m.name
  pub revision : r.revision ≡ m.head.revision
  pub root : r.root ≡ m.head.root
  pub idle : r.asked ≡ None

-- ---- the answer to a question

-- what was printed: the text of what the question finds in a tree; or that it finds nothing there, for this cause
pub data IsSo (repository : List ℕ) (t : Nodes) (q : Question) (text : List ℕ) : Type 0 where
  found : (finding : Found) → IsFound (look repository t q) finding → text ≡ answer_text finding → IsSo repository t q text
  refused : (fault : ClientFault) → look repository t q ≡ Err fault → text ≡ refusal (fault_text fault) → IsSo repository t q text

-- what was given for this object, which was wanted at this stage, is why a question ended so: nothing; bytes of another digest; or
-- bytes of its digest that don't decode at the place of the catalogue
abbrev pub IsWhy : ObjectId → Stage → Option (List ℕ) → ClientFault → Type 0
IsWhy id was given (NotServed x) = (x ≡ id) × (given ≡ None)
IsWhy id was given (BadObject x digest) = (x ≡ id) × IsOther given id digest
IsWhy id was given (BadCatalogue x) = (x ≡ id) × IsUndecoded was given
IsWhy id was given other = ⊥

module _ (u : Url) where
  -- the last of the exchanges that a client began with, for the object that it wanted then, is why its question ended so
  pub record IsBlamed (before after : Links) (start : Client) (fault : ClientFault) : Type 0 where
    pub earlier : Given
    pub mid : Links
    pub client : Client
    pub comes : Comes u before start earlier mid client
    pub asked : Asked
    pub is : client.asked ≡ Some asked
    pub id : ObjectId
    pub wants : wanted_in client.asked ≡ Some id
    pub given : Option (List ℕ)
    pub fetched : Fetches u (file_name id) mid after (Ok given)
    pub why : IsWhy id asked.stage given fault

  -- Where each link that came back in a line sent what a server has, which is all that its question wants in a tree with the root of the
  -- manifest: what was printed is so there.
  abbrev pub IsSoWhereServed : (before after : Links) → Manifest → (known : List (List ℕ)) → Question → (text : List ℕ) → Type 0
  IsSoWhereServed before after m known q text = (files : Files) → ServedBy u files before after
      → (t : Nodes) → IsServed t m known → HasWay files m.name t q → IsSo m.name t q text

-- ---- a line, and lines

module _ (is_seal : List ℕ → List ℕ → Bool) (u : Url) where
  -- Where each link that came back in a line sent what a server has, whose manifest is under its seal, and of the client's repository, and of
  -- a later revision or of the same one with the same root: it was taken.
  abbrev pub IsTakenWhereServed : (before after : Links) → (r r' : Client) → (text : List ℕ) → Type 0
  IsTakenWhereServed before after r r' text = (files : Files) → ServedBy u files before after
      → (served : List ℕ) (next : Manifest) → files manifest_name ≡ Some served → IsText is_seal served next → renewal r next ≡ Ok tt
      → (r' ≡ pinned_at r next) × (text ≡ revision_line next.head.revision)

  -- No server sent these links what a line wants: not all that its question wants in a tree with the root of the manifest, or no manifest
  -- under its seal.
  pub data IsUnserved (line : List ℕ) (before after : Links) (m : Manifest) (known : List (List ℕ)) : Type 0 where
    no_answer : (q : Question) → Says line (Ask q) → ((files : Files) → ServedBy u files before after → (t : Nodes) → IsServed t m known → HasWay files m.name t q → ⊥)
        → IsUnserved line before after m known
    no_manifest : Says line Renew → ((files : Files) → ServedBy u files before after → (served : List ℕ) (next : Manifest) → files manifest_name ≡ Some served
        → IsText is_seal served next → ⊥) → IsUnserved line before after m known

  -- Of a line, for a client that is pinned at a manifest and knows of these bytes: what was printed, the client and its manifest then,
  -- and the bytes that were given for it.
  pub data TellsLine (turn : Turn) (before after : Links) (m : Manifest) (known : List (List ℕ)) (r r' : Client) : Manifest → List (List ℕ) → Type 0 where
    -- a question, for which just what the client wants was fetched: what was printed is so in the tree
    told : (q : Question) (start end : Client) (given : Given) → Says turn.line (Ask q) → Asks r q start → Comes u before start given after end → r' ≡ record end { asked = None }
        → ((t : Nodes) → IsServed t m (known ++ bytes_in given) → IsSo m.name t q turn.text) → IsSoWhereServed u before after m known q turn.text
        → TellsLine turn before after m known r r' m (bytes_in given)
    -- or that the server lacks an object, or gave other bytes
    blamed : (q : Question) (start end : Client) (given : Given) (fault : ClientFault) → Says turn.line (Ask q) → Asks r q start → Comes u before start given after end → r' ≡ record end { asked = None }
        → IsBlamed u before after start fault → turn.text ≡ refusal (fault_text fault) → IsSoWhereServed u before after m known q turn.text
        → TellsLine turn before after m known r r' m (bytes_in given)
    -- a renewal: the manifest was fetched, and taken, or refused, or it was none
    renewed : (next : Manifest) → Says turn.line Renew → FetchesManifest is_seal u before after (Ok next) → renewal r next ≡ Ok tt → r' ≡ pinned_at r next
        → turn.text ≡ revision_line next.head.revision → IsTakenWhereServed before after r r' turn.text → TellsLine turn before after m known r r' next []
    kept : (offered : Manifest) (fault : RenewFault) → Says turn.line Renew → FetchesManifest is_seal u before after (Ok offered) → renewal r offered ≡ Err fault → r' ≡ r
        → turn.text ≡ refusal (renewal_text fault) → IsTakenWhereServed before after r r' turn.text → TellsLine turn before after m known r r' m []
    unread : Says turn.line Renew → FetchesManifest is_seal u before after (Err BadManifest) → r' ≡ r → turn.text ≡ refusal (codes "bad manifest")
        → IsTakenWhereServed before after r r' turn.text → TellsLine turn before after m known r r' m []
    -- a line of another form, for which nothing was fetched
    bad_line : ((asked : Line) → Says turn.line asked → ⊥) → after ≡ before → r' ≡ r → turn.text ≡ refusal (codes "bad line") → TellsLine turn before after m known r r' m []

  -- Of lines, one after another, for a client that is pinned at first at a manifest: the links, the manifest at which it is pinned, the
  -- bytes that were given, and the client, behind them.
  pub data TellsEach (first : Manifest) (l : Links) (r : Client) : List Turn → Links → Manifest → List (List ℕ) → Client → Type 0 where
    none : TellsEach first l r [] l first [] r
    one_more : {turns : List Turn} {before after : Links} {m m' : Manifest} {known given : List (List ℕ)} {c c' : Client} (turn : Turn) → TellsEach first l r turns before m known c → IsPinned c m
        → TellsLine turn before after m known c c' m' given → TellsEach first l r (turns ++ turn ∷ []) after m' (known ++ given) c'

-- What the lines told that a client answered which was pinned at first at a manifest, until these links had come back and it was this
-- client: each text is so in the tree of the manifest at which the client was pinned then. A line behind them that ends the shell by a bad
-- reply wasn't served.
pub record ToldSo (is_seal : List ℕ → List ℕ → Bool) (u : Url) (first : Manifest) (l : Links) (turns : List Turn) (before : Links) (c : Client) : Type 0 where
  pub manifest : Manifest
  pub known : List (List ℕ)
  pub tells : TellsEach is_seal u first l (client_at first) turns before manifest known c
  pub pinned : IsPinned c manifest
  pub stops : (line : List ℕ) (after : Links) (c' : Client) → Turns is_seal u line before after c c' (Err BadReply) → IsUnserved is_seal u line before after manifest known

-- each line of a shell that was answered tells so, by the links and the client of its own run
abbrev pub LinesTell : Type 0
LinesTell = (is_seal : List ℕ → List ℕ → Bool) (u : Url) (first : Manifest) (l : Links) (left : Option (List ℕ)) (b rest : List ℕ) (turns : List Turn) (before : Links) (c : Client)
    → Runs is_seal u left b l (client_at first) turns rest before c → ToldSo is_seal u first l turns before c
