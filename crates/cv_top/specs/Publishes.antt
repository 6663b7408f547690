-- What the command `publish` does: it reads a folder of changes, and sends what a publisher of them wants, exchange by exchange.
use Rattle.std.specs.Prelude.{◌≡◌, ◌≢◌, ◌⊎◌, ℕ, Bool, true, false, List, [], ◌∷◌, Option, Some, None, Result, Ok, Err}
use Rattle.cv_base.specs.Path.{Path, text_of}
use Rattle.cv_base.specs.Told.{WhereTold}
use Rattle.cv_ports.specs.Folder.{Folders}
use Rattle.cv_ports.specs.declared.folder.FolderFault.{FolderFault}
use Rattle.cv_http.specs.declared.outgoing.Outgoing.{Outgoing}
use Rattle.cv_http.specs.declared.http_reply.HttpReply.{HttpReply}
use Rattle.cv_keys.specs.KeysText.{keys_of}
use Rattle.cv_keys.specs.declared.key.Key.{Key}
use Rattle.cv_answers.specs.declared.answer.Answer.{Answer}
use Rattle.cv_answers.specs.declared.answer.Answer.TheVariants as answer
use Rattle.cv_answers.specs.declared.reason.Reason.TheVariants as reason
use Rattle.cv_answers.specs.declared.refusal.Refusal.TheVariants.{Plain}
use Rattle.cv_tree.specs.Changes.{FitsUnder}
use Rattle.cv_overlay.specs.Changes.{AreContents, ChangesView}
use Rattle.cv_overlay.specs.Fault.{of_folder}
use Rattle.cv_overlay.specs.Walk.{Reads}
use Rattle.cv_overlay.specs.declared.read_fault.ReadFault.{ReadFault}
use Rattle.cv_overlay.specs.declared.read_fault.ReadFault.TheVariants as read_fault
use Rattle.cv_publisher.specs.Holding.{PublisherView}
use Rattle.cv_publisher.specs.Taking.{Takes}
use Rattle.cv_publisher.specs.Wanting.{Wants}
use Rattle.cv_publisher.specs.declared.fault.PublishFault.{PublishFault}
use Rattle.cv_publisher.specs.declared.fault.PublishFault.TheVariants as publish_fault
use Rattle.cv_publisher.specs.declared.stage.Stage.TheVariants.{Leasing}
use Rattle.cv_publisher.specs.declared.want.Want.TheVariants.{Exchange, Done as Ends}
use Rattle.cv_client.specs.Exchange.{Links, Exchanges}
use Rattle.cv_client.specs.declared.exchanging.ExchangeFault.{ExchangeFault}
use Rattle.cv_client.specs.declared.exchanging.ExchangeFault.TheVariants as exchange_fault
use Rattle.cv_client.specs.declared.url.Url.{Url}
use Rattle.cv_session.specs.Standing.{Gives}
use Rattle.cv_shell.specs.Texts.{revision_line}
use Rattle.cv_top.specs.Looks.{Prints}
use Rattle.cv_top.specs.Publication.{IsPublication}
use Rattle.cv_top.specs.Seal.{is_seal_by}
use Rattle.cv_words.specs.Words.{Asks}
use Rattle.cv_top.specs.declared.client_fault.ServedFault.TheVariants as served
use Rattle.cv_top.specs.declared.publish_fault.ChangesFault.TheVariants as changes
use Rattle.cv_top.specs.declared.publish_fault.RefusedFor.TheVariants as refused
use Rattle.cv_top.specs.declared.status.Status.{Status}
use Rattle.cv_top.specs.declared.status.Status.TheVariants.{Done, Refused, LinkFailed, Served, BadReply, Changes, FolderFailed, OutOfMemory}
use Rattle.cv_words.specs.declared.words.Command.TheVariants.{Publish}

-- ---- the folder

-- The folder of this name was opened, and its changes were read, or show their first fault, where it is told what stands under each
-- name; or none was opened. What stands there is the same after it.
module _ {F : Type 0} (holds : F → Option Folders) (named : F → Option (List ℕ)) where
  pub data ReadsRoot (path : Path) (root : List ℕ) (f f' : F) : Result ChangesView ReadFault → Type 0 where
    rooted : (r : Result ChangesView ReadFault) → named f' ≡ Some root → holds f' ≡ holds f → WhereTold (holds f) (λ of. Reads path r (of root)) → ReadsRoot path root f f' r
    unrooted : (fault : FolderFault) → named f' ≡ named f → holds f' ≡ holds f → ReadsRoot path root f f' (Err (of_folder fault))

-- ---- the exchanges

-- a publisher of changes at a path, in the repository and through the host of a URL, at this moment
abbrev pub start_of : Url → Path → ChangesView → ℕ → PublisherView
start_of u path changes now = record {
  plan = record { name = u.repository; host = u.authority; path = path; changes = changes; moment = now };
  manifest = None;
  stage = Leasing;
}

-- how a publisher ended
abbrev pub End : Type 0
End = Result ℕ PublishFault

-- under these keys, and by this seal
module _ (is_seal : List ℕ → List ℕ → Bool) (keys : List Key) (u : Url) where
  -- One step of a publisher: the request that it wanted was sent on a link of its own, and it took the reply; or there was no reply, by
  -- this fault; or it wanted nothing, and this is its end; or memory was wanted for its request.
  pub data Steps (before after : Links) (p next : PublisherView) : Result (Option End) ExchangeFault → Type 0 where
    went : (request : Outgoing) (reply : HttpReply) → Wants keys p.plan p.stage (Exchange request) → Exchanges u request before after (Ok reply) → Takes is_seal reply p next
        → Steps before after p next (Ok None)
    lost : (request : Outgoing) (fault : ExchangeFault) → Wants keys p.plan p.stage (Exchange request) → Exchanges u request before after (Err fault) → Steps before after p next (Err fault)
    ended : (end : End) → Wants keys p.plan p.stage (Ends end) → after ≡ before → Steps before after p next (Ok (Some end))
    unwanted : after ≡ before → Steps before after p next (Err exchange_fault.NoMemory)

  -- What the publisher wanted was sent, and it took the reply, one exchange after another.
  pub data Goes (before : Links) (start : PublisherView) : Links → PublisherView → Type 0 where
    begins : Goes before start before start
    goes : {mid after : Links} {p next : PublisherView} → Goes before start mid p → Steps mid after p next (Ok None) → Goes before start after next

  -- So it went until a step that was the last: it ended so, or had no reply, or memory was wanted. No exchange follows.
  pub data Exchanged (before after : Links) (start : PublisherView) : Result End ExchangeFault → Type 0 where
    done : (p next : PublisherView) (mid : Links) (end : End) → Goes before start mid p → Steps mid after p next (Ok (Some end)) → Exchanged before after start (Ok end)
    cut_off : (p next : PublisherView) (mid : Links) (fault : ExchangeFault) → Goes before start mid p → Steps mid after p next (Err fault) → Exchanged before after start (Err fault)

-- ---- how the program ends by them

-- the line of the status has the text of a path, which takes memory
abbrev pub has_path : Status → Bool
has_path (Changes fault path) = true
has_path other = false

-- it is this status, or memory was wanted for the text of its path
abbrev pub IsOrMemory : Status → Status → Type 0
IsOrMemory wanted status = (status ≡ wanted) ⊎ ((has_path wanted ≡ true) × (status ≡ OutOfMemory))

-- where the changes weren't read
abbrev pub read_status : ReadFault → Status
read_status (read_fault.Special path) = Changes changes.Special (text_of path)
read_status (read_fault.BadName path) = Changes changes.BadName (text_of path)
read_status (read_fault.TooLarge path) = Changes changes.TooLarge (text_of path)
read_status read_fault.Failed = FolderFailed
read_status read_fault.NoMemory = OutOfMemory

-- where an exchange had no reply
abbrev pub exchange_status : ExchangeFault → Status
exchange_status exchange_fault.LinkFailed = LinkFailed
exchange_status exchange_fault.BadReply = BadReply
exchange_status exchange_fault.NoMemory = OutOfMemory

-- by the answer of the gateway
abbrev pub refusal_status : Answer → Status
refusal_status (answer.PathBusy token remaining) = Refused refused.PathBusy
refusal_status (answer.Refused refusal) = Refused (refused.Said refusal)
refusal_status (answer.Granted token revision root) = BadReply
refusal_status answer.Done = BadReply
refusal_status (answer.Committed revision root) = BadReply
refusal_status (answer.Leases items) = BadReply
refusal_status (answer.Repos names) = BadReply

-- where nothing was published
abbrev pub publish_status : PublishFault → Status
publish_status (publish_fault.Refused answer) = refusal_status answer
publish_status publish_fault.BadReply = BadReply
publish_status (publish_fault.BadManifest fault) = Served served.BadManifest
publish_status (publish_fault.BadObject id found) = Served (served.BadObject id)
publish_status (publish_fault.NotServed id) = Served (served.NotServed id)
publish_status (publish_fault.BadCatalogue id) = Served (served.BadCatalogue id)
publish_status (publish_fault.BadWhiteout path) = Changes changes.BadWhiteout (text_of path)
publish_status (publish_fault.PathCollision first second) = Changes changes.PathCollision (text_of first)
publish_status (publish_fault.CatalogueFull path) = Changes changes.CatalogueFull (text_of path)
publish_status publish_fault.NoParent = Refused (refused.Said (Plain reason.NoParent))
publish_status publish_fault.NoMemory = OutOfMemory

-- ---- the command

-- the words ask to publish
pub record IsPublisher (words : List (List ℕ)) : Type 0 where
  pub url : Url
  pub path : Path
  pub root : List ℕ
  pub asks : Asks words (Publish url path root)

-- what an output took, the moments that a clock will give, what folders tell and which is open, and the links that came back to a dial
module _ {W C F N : Type 0} (taken : W → Option (List ℕ)) (moments : C → Option (ℕ → ℕ)) (holds : F → Option Folders) (named : F → Option (List ℕ)) (came : N → Links) where
  -- the changes were read, with the contents of all their files, and at the clock's moment a publisher of them came to this
  pub record Sends (keys : List Key) (seal : List ℕ) (u : Url) (path : Path) (root : List ℕ) (clock clock' : C) (f f' : F) (dial dial' : N) (r : Result End ExchangeFault) : Type 0 where
    pub changes : ChangesView
    pub reads : ReadsRoot holds named path root f f' (Ok changes)
    pub contents : AreContents changes.nodes changes.objects
    pub limits : FitsUnder path changes.nodes
    pub now : ℕ
    pub moment : Gives (moments clock) (now ∷ []) (moments clock')
    pub exchanged : Exchanged (is_seal_by seal) keys u (came dial) (came dial') (start_of u path changes now) r

  pub data Publishes (keys : List Key) (seal : List ℕ) (u : Url) (path : Path) (root : List ℕ) (output output' : W) (clock clock' : C) (f f' : F) (dial dial' : N) : Status → Type 0 where
    -- a revision was published, and printed
    published : (revision : ℕ) (status : Status) → Sends keys seal u path root clock clock' f f' dial dial' (Ok (Ok revision))
        → Prints taken (revision_line revision) output output' status → Publishes keys seal u path root output output' clock clock' f f' dial dial' status
    -- none was, by this end of the publisher
    unpublished : (fault : PublishFault) (status : Status) → Sends keys seal u path root clock clock' f f' dial dial' (Ok (Err fault))
        → IsOrMemory (publish_status fault) status → output' ≡ output → Publishes keys seal u path root output output' clock clock' f f' dial dial' status
    -- an exchange had no reply, or there was no memory for a publisher
    cut : (fault : ExchangeFault) → Sends keys seal u path root clock clock' f f' dial dial' (Err fault) → output' ≡ output
        → Publishes keys seal u path root output output' clock clock' f f' dial dial' (exchange_status fault)
    -- the changes weren't read, and nothing else was touched
    unread : (fault : ReadFault) (status : Status) → ReadsRoot holds named path root f f' (Err fault) → IsOrMemory (read_status fault) status → output' ≡ output → clock' ≡ clock → dial' ≡ dial
        → Publishes keys seal u path root output output' clock clock' f f' dial dial' status

  -- ---- one publication

  -- how the output and the status tell what a publisher came to
  abbrev pub Says : W → W → Result End ExchangeFault → Status → Type 0
  Says output output' (Ok (Ok revision)) status = Prints taken (revision_line revision) output output' status
  Says output output' (Ok (Err fault)) status = IsOrMemory (publish_status fault) status × (output' ≡ output)
  Says output output' (Err fault) status = (status ≡ exchange_status fault) × (output' ≡ output)

  -- the changes of the folder were read, what went over the dial was one publication of them, and what it came to is told
  pub record OnePublication (keys : List Key) (seal : List ℕ) (u : Url) (path : Path) (root : List ℕ) (output output' : W) (clock clock' : C) (f f' : F) (dial dial' : N) (status : Status) : Type 0 where
    pub r : Result End ExchangeFault
    pub sends : Sends keys seal u path root clock clock' f f' dial dial' r
    pub publication : IsPublication (is_seal_by seal) keys (start_of u path sends.changes sends.now).plan u (came dial) (came dial') r
    pub says : Says output output' r status

  -- nothing went over the dial, and nothing is told as done
  pub record SendsNothing (dial dial' : N) (status : Status) : Type 0 where
    pub untouched : dial' ≡ dial
    pub undone : status ≢ Done

  -- it was one publication that the words ask for, under the keys of this text; or nothing went over the dial
  pub data PublishesAsked (words : List (List ℕ)) (keys seal : List ℕ) (output output' : W) (clock clock' : C) (f f' : F) (dial dial' : N) (status : Status) : Type 0 where
    asked : (u : Url) (path : Path) (root : List ℕ) (table : List Key) → Asks words (Publish u path root) → keys_of keys ≡ Ok table
        → OnePublication table seal u path root output output' clock clock' f f' dial dial' status → PublishesAsked words keys seal output output' clock clock' f f' dial dial' status
    unasked : SendsNothing dial dial' status → PublishesAsked words keys seal output output' clock clock' f f' dial dial' status
