-- A client at one root.
use Rattle.std.specs.Prelude.{◌≡◌, not, ◌&&◌, nat_lt, nat_eq, bytes_eq, ℕ, List, Option, Some, None, Result, Ok, Err, if◌then◌else◌}
use Rattle.std.specs.Option.{option_map}
use Rattle.cv_base.specs.declared.id.ObjectId.{ObjectId}
use Rattle.cv_tree.specs.Tree.{Nodes, IsTree}
use Rattle.cv_cut.specs.Catalogues.{root_of, Fits}
use Rattle.cv_manifest.specs.declared.manifest.Manifest.{Manifest}
use Rattle.cv_resolver.specs.Kept.{Kept, AreOwn, kept_bytes}
use Rattle.cv_resolver.specs.Stage.{wanted_by, IsStage}
use Rattle.cv_resolver.specs.Progress.{Begins}
use Rattle.cv_resolver.specs.Giving.{Takes}
use Rattle.cv_resolver.specs.declared.question.Question.{Question}
use Rattle.cv_resolver.specs.declared.found.Found.{Found}
use Rattle.cv_resolver.specs.declared.found.ClientFault.{ClientFault}
use Rattle.cv_resolver.specs.declared.found.RenewFault.{RenewFault}
use Rattle.cv_resolver.specs.declared.found.RenewFault.TheVariants as renew
use Rattle.cv_resolver.specs.declared.stage.Stage.{Stage}
use Rattle.cv_resolver.specs.declared.stage.Stage.TheVariants.{Walks, Reads, Ends}
use Rattle.cv_resolver.specs.declared.resolver.Asked.{Asked}

-- what is seen of a client: the repository's name, the pinned revision and its root, the catalogues that it keeps, and the
-- question with how far it has come, if one is unfinished or its answer wasn't taken
pub record Client : Type 0 where
  pub name : List ℕ
  pub revision : ℕ
  pub root : List ℕ
  pub cache : Kept
  pub asked : Option Asked

-- ---- in a tree

abbrev pub IsAskedOn : (repository : List ℕ) → Nodes → Option Asked → Type 0
IsAskedOn repository t None = Unit {0}
IsAskedOn repository t (Some a) = IsStage repository t a.question a.stage

-- the resolver is pinned at the root of the tree, and its question is on its way to its answer there
pub record IsOn (t : Nodes) (r : Client) : Type 0 where
  pub tree : IsTree t
  pub fits : Fits t
  pub root : r.root ≡ root_of t
  pub own : AreOwn t (kept_bytes r.cache)
  pub asked : IsAskedOn r.name t r.asked

-- ---- what it is asked, wants and answers

abbrev pub question_of : Client → Option Question
question_of r = option_map (λ a. a.question) r.asked

abbrev pub wanted_in : Option Asked → Option ObjectId
wanted_in None = None
wanted_in (Some a) = wanted_by a.stage

abbrev pub answer_by : Stage → Option (Result Found ClientFault)
answer_by (Walks w) = None
answer_by (Reads hash) = None
answer_by (Ends answer) = Some answer

abbrev pub answer_in : Option Asked → Option (Result Found ClientFault)
answer_in None = None
answer_in (Some a) = answer_by a.stage

-- and what is left behind an answer: an unfinished question
abbrev pub left_by : Asked → Stage → Option Asked
left_by a (Walks w) = Some a
left_by a (Reads hash) = Some a
left_by a (Ends answer) = None

abbrev pub left_in : Option Asked → Option Asked
left_in None = None
left_in (Some a) = left_by a a.stage

-- ---- its calls

-- The question takes the place of the old one, and its walk goes on as far as the catalogues that are kept lead.
pub record Asks (old : Client) (q : Question) (new : Client) : Type 0 where
  pub stage : Stage
  pub is : new ≡ record old { cache = new.cache; asked = Some (record { question = q; stage = stage }) }
  pub begins : Begins old.name old.root q old.cache new.cache stage

-- the question comes on by what is given
pub record Gives (old : Client) (a : Asked) (given : Option (List ℕ)) (new : Client) : Type 0 where
  pub stage : Stage
  pub is : new ≡ record old { cache = new.cache; asked = Some (record a { stage = stage }) }
  pub takes : Takes old.name a.question old.cache a.stage given new.cache stage

-- ---- renewal

-- what a renewal answers: refused by another name, by a revision below the pinned one, by another root at the same one, in
-- this order; or done
abbrev pub renewal : Client → Manifest → Result (Unit {0}) RenewFault
renewal r m =
    if not (bytes_eq m.name r.name) then Err renew.OtherRepository
    else if nat_lt m.head.revision r.revision then Err (renew.Older r.revision m.head.revision)
    else if nat_eq m.head.revision r.revision && not (bytes_eq m.head.root r.root) then Err (renew.Forked r.root m.head.root)
    else Ok tt

-- the resolver at another head: its question is dropped, and its catalogues stay
abbrev pub pinned_at : Client → Manifest → Client
pinned_at r m = record r { revision = m.head.revision; root = m.head.root; asked = None }
