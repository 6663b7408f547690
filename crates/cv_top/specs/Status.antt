-- How the program ends: its exit status, and the line on standard error.
use Rattle.std.specs.Prelude.{ℕ, List, [], ◌++◌, codes}
use Rattle.cv_base.specs.ObjectId.{id_text}
use Rattle.cv_answers.specs.Refusal.{reason_text}
use Rattle.cv_answers.specs.declared.refusal.Refusal.{Refusal}
use Rattle.cv_answers.specs.declared.refusal.Refusal.TheVariants as refusal
use Rattle.cv_swap.specs.declared.init_fault.InitFault.{InitFault}
use Rattle.cv_swap.specs.declared.init_fault.InitFault.TheVariants as init_fault
use Rattle.cv_swap.specs.declared.open_fault.OpenFault.{OpenFault}
use Rattle.cv_swap.specs.declared.open_fault.OpenFault.TheVariants as open_fault
use Rattle.cv_session.specs.declared.session_end.SessionEnd.{SessionEnd}
use Rattle.cv_session.specs.declared.session_end.SessionEnd.TheVariants as session_end
use Rattle.cv_resolver.specs.declared.found.ClientFault.{ClientFault}
use Rattle.cv_resolver.specs.declared.found.ClientFault.TheVariants as client_fault
use Rattle.cv_client.specs.declared.ask_fault.AskFault.{AskFault}
use Rattle.cv_client.specs.declared.ask_fault.AskFault.TheVariants as ask_fault
use Rattle.cv_shell.specs.declared.shell_end.ShellEnd.{ShellEnd}
use Rattle.cv_shell.specs.declared.shell_end.ShellEnd.TheVariants as shell_end
use Rattle.cv_top.specs.declared.client_fault.LookFault.{LookFault}
use Rattle.cv_top.specs.declared.client_fault.LookFault.TheVariants as look
use Rattle.cv_top.specs.declared.client_fault.ServedFault.{ServedFault}
use Rattle.cv_top.specs.declared.client_fault.ServedFault.TheVariants as served
use Rattle.cv_top.specs.declared.publish_fault.ChangesFault.{ChangesFault}
use Rattle.cv_top.specs.declared.publish_fault.ChangesFault.TheVariants as changes
use Rattle.cv_top.specs.declared.publish_fault.RefusedFor.{RefusedFor}
use Rattle.cv_top.specs.declared.publish_fault.RefusedFor.TheVariants as refused
use Rattle.cv_top.specs.declared.status.RepositoryFault.{RepositoryFault}
use Rattle.cv_top.specs.declared.status.RepositoryFault.TheVariants as repository
use Rattle.cv_top.specs.declared.status.Status.{Status}
use Rattle.cv_top.specs.declared.status.Status.TheVariants.{Done, Usage, Repository, Refused, InputFailed, OutputFailed, StoreFailed, LinkFailed, JournalFull, NoAnswer, Served, BadReply, Changes, BadRequest, FolderFailed, BadKeys, OutOfMemory}

-- ---- exit statuses and lines

abbrev pub code_of : Status → ℕ
code_of Done = 0
code_of Usage = 2
code_of (Repository fault) = 3
code_of (Refused cause) = 4
code_of InputFailed = 5
code_of OutputFailed = 6
code_of StoreFailed = 7
code_of LinkFailed = 8
code_of JournalFull = 9
code_of (NoAnswer fault) = 10
code_of (Served fault) = 11
code_of BadReply = 12
code_of (Changes fault path) = 13
code_of BadRequest = 14
code_of FolderFailed = 15
code_of BadKeys = 16
code_of OutOfMemory = 70

abbrev pub text_of : RepositoryFault → List ℕ
text_of repository.Exists = codes "exists"
text_of repository.Collision = codes "collision"
text_of repository.Damaged = codes "damaged"
text_of repository.Missing = codes "missing"
text_of repository.BadManifest = codes "bad manifest"
text_of repository.OtherName = codes "other name"
text_of repository.BadHistory = codes "bad history"
text_of repository.BadEpoch = codes "bad epoch"
text_of repository.EpochsSpent = codes "epochs spent"

abbrev pub look_text_of : LookFault → List ℕ
look_text_of look.NotFound = codes "not found"
look_text_of look.NotDirectory = codes "not a directory"
look_text_of look.NotFile = codes "not a file"
look_text_of look.TooManyLinks = codes "too many links"

abbrev pub served_text_of : ServedFault → List ℕ
served_text_of served.BadManifest = codes "bad manifest"
served_text_of (served.BadObject id) = codes "bad object "
served_text_of (served.BadCatalogue id) = codes "bad catalogue "
served_text_of (served.NotServed id) = codes "not served "

abbrev pub changes_text_of : ChangesFault → List ℕ
changes_text_of changes.Special = codes "changes: special "
changes_text_of changes.BadName = codes "changes: bad name "
changes_text_of changes.TooLarge = codes "changes: too large "
changes_text_of changes.BadWhiteout = codes "changes: bad whiteout "
changes_text_of changes.PathCollision = codes "changes: path collision "
changes_text_of changes.CatalogueFull = codes "changes: catalogue full "

-- the reason of a refusal, as the gateway's answers have it
abbrev pub refusal_text_of : Refusal → List ℕ
refusal_text_of (refusal.Plain why) = reason_text why
refusal_text_of (refusal.MissingMember name) = codes "missing_member"
refusal_text_of (refusal.WrongType name) = codes "wrong_type"
refusal_text_of (refusal.BadValue name) = codes "bad_value"
refusal_text_of (refusal.Collision id) = codes "collision"
refusal_text_of (refusal.StaleBase revision) = codes "stale_base"
refusal_text_of (refusal.MissingObject id) = codes "missing_object"
refusal_text_of (refusal.BadCatalogue id) = codes "bad_catalogue"
refusal_text_of (refusal.PathCollision path second) = codes "path_collision"
refusal_text_of (refusal.CatalogueFull path) = codes "catalogue_full"
refusal_text_of (refusal.TagTaken revision) = codes "tag_taken"
refusal_text_of (refusal.Damaged id found) = codes "damaged"

abbrev pub refused_text_of : RefusedFor → List ℕ
refused_text_of refused.PathBusy = codes "path_busy"
refused_text_of (refused.Said why) = refusal_text_of why

-- the text of the object's id
abbrev pub object_text_of : ServedFault → List ℕ
object_text_of served.BadManifest = []
object_text_of (served.BadObject id) = id_text id
object_text_of (served.BadCatalogue id) = id_text id
object_text_of (served.NotServed id) = id_text id

-- what the line says, and of what
abbrev pub what_of : Status → List ℕ
what_of Done = []
what_of Usage = codes "usage"
what_of (Repository fault) = codes "repository: "
what_of (Refused cause) = codes "refused: "
what_of InputFailed = codes "input failed"
what_of OutputFailed = codes "output failed"
what_of StoreFailed = codes "store failed"
what_of LinkFailed = codes "link failed"
what_of JournalFull = codes "journal full"
what_of (NoAnswer fault) = look_text_of fault
what_of (Served fault) = served_text_of fault
what_of BadReply = codes "bad reply"
what_of (Changes fault path) = changes_text_of fault
what_of BadRequest = codes "bad request"
what_of FolderFailed = codes "folder failed"
what_of BadKeys = codes "bad keys"
what_of OutOfMemory = codes "out of memory"

abbrev pub detail_of : Status → List ℕ
detail_of (Repository fault) = text_of fault
detail_of (Refused cause) = refused_text_of cause
detail_of (Changes fault path) = path
detail_of (Served fault) = object_text_of fault
detail_of Done = []
detail_of Usage = []
detail_of InputFailed = []
detail_of OutputFailed = []
detail_of StoreFailed = []
detail_of LinkFailed = []
detail_of JournalFull = []
detail_of (NoAnswer fault) = []
detail_of BadReply = []
detail_of BadRequest = []
detail_of FolderFailed = []
detail_of BadKeys = []
detail_of OutOfMemory = []

-- a line of the program: its name, what is said, and of what
abbrev pub said : List ℕ → List ℕ → List ℕ
said what detail = codes "cvkit: " ++ (what ++ (detail ++ codes "\n"))

abbrev pub line_of : Status → List ℕ
line_of Done = []
line_of status = said (what_of status) (detail_of status)

-- where no first revision was made
abbrev pub init_status : InitFault → Status
init_status init_fault.Exists = Repository repository.Exists
init_status (init_fault.Collision id) = Repository repository.Collision
init_status init_fault.Failed = StoreFailed
init_status (init_fault.Damaged id found) = Repository repository.Damaged
init_status init_fault.NoMemory = OutOfMemory

-- where the repository wasn't opened
abbrev pub open_status : OpenFault → Status
open_status open_fault.NoRepository = Repository repository.Missing
open_status (open_fault.BadManifest fault) = Repository repository.BadManifest
open_status open_fault.OtherName = Repository repository.OtherName
open_status (open_fault.BadHistory fault) = Repository repository.BadHistory
open_status open_fault.BadEpoch = Repository repository.BadEpoch
open_status open_fault.EpochsSpent = Repository repository.EpochsSpent
open_status open_fault.Failed = StoreFailed
open_status open_fault.NoMemory = OutOfMemory

-- where the session over standard input and output ended so
abbrev pub end_status : SessionEnd → Status
end_status session_end.Clean = Done
end_status session_end.Closed = Done
end_status (session_end.Bad fault) = BadRequest
end_status session_end.ReadFault = InputFailed
end_status session_end.WriteFault = OutputFailed
end_status session_end.JournalFull = JournalFull
end_status session_end.NoMemory = OutOfMemory

-- where a client refused what it was given, or found nothing
abbrev pub refused_status : ClientFault → Status
refused_status client_fault.NotFound = NoAnswer look.NotFound
refused_status client_fault.NotDirectory = NoAnswer look.NotDirectory
refused_status client_fault.NotFile = NoAnswer look.NotFile
refused_status client_fault.TooManyLinks = NoAnswer look.TooManyLinks
refused_status (client_fault.BadObject id found) = Served (served.BadObject id)
refused_status (client_fault.BadCatalogue id) = Served (served.BadCatalogue id)
refused_status (client_fault.NotServed id) = Served (served.NotServed id)
refused_status client_fault.NoMemory = OutOfMemory

-- where a question to a server has no answer
abbrev pub ask_status : AskFault → Status
ask_status ask_fault.LinkFailed = LinkFailed
ask_status ask_fault.BadReply = BadReply
ask_status ask_fault.BadManifest = Served served.BadManifest
ask_status (ask_fault.Refused fault) = refused_status fault
ask_status ask_fault.NoMemory = OutOfMemory

-- where a shell ended so
abbrev pub shell_status : ShellEnd → Status
shell_status shell_end.Ended = Done
shell_status shell_end.LinkFailed = LinkFailed
shell_status shell_end.BadReply = BadReply
shell_status shell_end.TooLong = BadRequest
shell_status shell_end.InputFailed = InputFailed
shell_status shell_end.OutputFailed = OutputFailed
shell_status shell_end.NoMemory = OutOfMemory
