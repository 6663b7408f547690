-- What is printed of a line.
use Rattle.std.specs.Prelude.{ℕ, List, ◌++◌, codes, length}
use Rattle.cv_base.specs.ObjectId.{id_text}
use Rattle.cv_resolver.specs.declared.found.Found.{Found}
use Rattle.cv_resolver.specs.declared.found.Found.TheVariants.{Names, Stat, Bytes}
use Rattle.cv_resolver.specs.declared.found.ClientFault.{ClientFault}
use Rattle.cv_resolver.specs.declared.found.ClientFault.TheVariants.{NotFound, NotDirectory, NotFile, TooManyLinks, BadObject, BadCatalogue, NotServed, NoMemory}
use Rattle.cv_resolver.specs.declared.found.RenewFault.{RenewFault}
use Rattle.cv_resolver.specs.declared.found.RenewFault.TheVariants as renew
use Rattle.cv_client.specs.Texts.{ended, number_text, found_text}

-- a word and a number
abbrev pub count_line : List ℕ → ℕ → List ℕ
count_line word count = ended (word ++ number_text count)

-- how many names, and then each of them; a line on an entry; how many bytes, and then these and a newline
abbrev pub answer_text : Found → List ℕ
answer_text (Names names) = count_line (codes "names") (length names) ++ found_text (Names names)
answer_text (Stat line) = found_text (Stat line)
answer_text (Bytes bytes) = count_line (codes "bytes") (length bytes) ++ ended bytes

-- the revision that was taken
abbrev pub revision_line : ℕ → List ℕ
revision_line revision = count_line (codes "revision") revision

-- why nothing was found; want of memory is no refusal, and its text is never printed
abbrev pub fault_text : ClientFault → List ℕ
fault_text NotFound = codes "not found"
fault_text NotDirectory = codes "not a directory"
fault_text NotFile = codes "not a file"
fault_text TooManyLinks = codes "too many links"
fault_text (BadObject id found) = codes "bad object " ++ id_text id
fault_text (BadCatalogue id) = codes "bad catalogue " ++ id_text id
fault_text (NotServed id) = codes "not served " ++ id_text id
fault_text NoMemory = codes "out of memory"

-- why a manifest isn't taken, and so again
abbrev pub renewal_text : RenewFault → List ℕ
renewal_text (renew.Older pinned offered) = codes "older"
renewal_text renew.OtherRepository = codes "other repository"
renewal_text (renew.Forked pinned offered) = codes "forked"

-- a line that refuses for this cause
abbrev pub refusal : List ℕ → List ℕ
refusal cause = codes "refused: " ++ ended cause
