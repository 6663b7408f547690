-- What a client's command ends with where its server has the answer.
use Rattle.std.proofs.Common.{◌≡◌, ◌≢◌, Bool, true, false, ℕ, List, refl, sym, ap, ◌∙◌}
use Rattle.std.specs.Prelude.{Option, Some, None}
use Rattle.std.specs.declared.result.Result.{Result}
use Rattle.std.specs.declared.result.Result.TheVariants.{Ok, Err}
use Rattle.cv_base.specs.Path.{Path}
use Rattle.cv_tree.specs.Tree.{Nodes}
use Rattle.cv_tree.specs.declared.node.Node.{Node}
use Rattle.cv_tree.specs.declared.node.Node.TheVariants.{Dir, File, Link}
use Rattle.cv_resolver.specs.Look.{Finding, IsFound, names_at, names_in, stat_at, content_at, found_at, finding_of, look as found_in, trail}
use Rattle.cv_resolver.specs.Walk.{End, Arrives, NotFound, NotDirectory, TooManyLinks}
use Rattle.cv_resolver.specs.declared.question.Question.{Question}
use Rattle.cv_resolver.specs.declared.question.Question.TheVariants as question
use Rattle.cv_resolver.specs.declared.found.Found.{Found}
use Rattle.cv_resolver.specs.declared.found.ClientFault.{ClientFault}
use Rattle.cv_resolver.specs.declared.found.ClientFault.TheVariants as client_fault
use Rattle.cv_client.specs.Served.{IsWhole}
use Rattle.cv_client.specs.Texts.{found_text}
use Rattle.cv_client.specs.declared.ask_fault.AskFault.{AskFault}
use Rattle.cv_client.specs.declared.ask_fault.AskFault.TheVariants as ask_fault
use Rattle.cv_top.specs.Looks.{Prints, printed, unprinted, unwritten}
use Rattle.cv_top.specs.Status.{ask_status, refused_status}
use Rattle.cv_top.specs.Wholes.{Ends}
use Rattle.cv_top.specs.declared.status.Status.{Status}
use Rattle.cv_top.specs.declared.status.Status.TheVariants.{OutputFailed}

-- ---- in a tree a question is refused by what stands there alone

abbrev is_of_tree : Result Finding ClientFault → Bool
is_of_tree (Ok finding) = true
is_of_tree (Err client_fault.NotFound) = true
is_of_tree (Err client_fault.NotDirectory) = true
is_of_tree (Err client_fault.NotFile) = true
is_of_tree (Err client_fault.TooManyLinks) = true
is_of_tree (Err other) = false

names_of_tree : (names : List (List ℕ)) (o : Option Node) → is_of_tree (names_at names o) ≡ true
names_of_tree names None = refl
names_of_tree names (Some (Dir attr)) = refl
names_of_tree names (Some (File attr file)) = refl
names_of_tree names (Some (Link attr target)) = refl

stat_of_tree : (o : Option Node) → is_of_tree (stat_at o) ≡ true
stat_of_tree None = refl
stat_of_tree (Some node) = refl

content_of_tree : (o : Option Node) → is_of_tree (content_at o) ≡ true
content_of_tree None = refl
content_of_tree (Some (Dir attr)) = refl
content_of_tree (Some (File attr file)) = refl
content_of_tree (Some (Link attr target)) = refl

found_of_tree : (t : Nodes) (q : Question) (p : Path) → is_of_tree (found_at t q p) ≡ true
found_of_tree t (question.List asked) p = names_of_tree (names_in t p) _
found_of_tree t (question.Stat asked) p = stat_of_tree _
found_of_tree t (question.Read asked) p = content_of_tree _

finding_of_tree : (t : Nodes) (q : Question) (end : End) → is_of_tree (finding_of t q end) ≡ true
finding_of_tree t q (Arrives p) = found_of_tree t q p
finding_of_tree t q NotFound = refl
finding_of_tree t q NotDirectory = refl
finding_of_tree t q TooManyLinks = refl

look_of_tree : (repository : List ℕ) (t : Nodes) (q : Question) → is_of_tree (found_in repository t q) ≡ true
look_of_tree repository t q = finding_of_tree t q (trail repository t q).end

-- ---- how the command ends

module _ {W : Type 0} (taken : W → Option (List ℕ)) (repository : List ℕ) (t : Nodes) (q : Question) (output output' : W) where
  -- an answer was printed, or memory was wanted
  pub print_ends : (found : Found) (status : Status) → status ≢ OutputFailed → IsFound (found_in repository t q) found → Prints taken (found_text found) output output' status → Ends taken repository t q output output' status
  print_ends found status fine is (printed whole) = record { so = (found, is, whole); whole = refl }
  print_ends found status fine is (unprinted part) = absurd (fine refl)
  print_ends found status fine is (unwritten same) = record { so = tt; whole = refl }

  by_refusal : (fault : ClientFault) → is_of_tree (Err fault) ≡ true → found_in repository t q ≡ Err fault → Ends taken repository t q output output' (refused_status fault)
  by_refusal client_fault.NotFound own is = record { so = is; whole = refl }
  by_refusal client_fault.NotDirectory own is = record { so = is; whole = refl }
  by_refusal client_fault.NotFile own is = record { so = is; whole = refl }
  by_refusal client_fault.TooManyLinks own is = record { so = is; whole = refl }
  by_refusal (client_fault.BadObject id digest) own is = absurd cc
  by_refusal (client_fault.BadCatalogue id) own is = absurd cc
  by_refusal (client_fault.NotServed id) own is = absurd cc
  by_refusal client_fault.NoMemory own is = absurd cc

  -- or it was refused so
  pub refusal_ends : (fault : AskFault) → IsWhole (found_in repository t q) (Err fault) → Ends taken repository t q output output' (ask_status fault)
  refusal_ends ask_fault.LinkFailed is = absurd is
  refusal_ends ask_fault.BadReply is = absurd is
  refusal_ends ask_fault.BadManifest is = absurd is
  refusal_ends ask_fault.NoMemory is = record { so = tt; whole = refl }
  refusal_ends (ask_fault.Refused fault) is = by_refusal fault (sym (ap is_of_tree is) ∙ look_of_tree repository t q) is
