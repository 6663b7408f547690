-- What a question finds in a whole tree, and which objects are on its way.
use Rattle.std.specs.Prelude.{◌≡◌, ℕ, Bool, true, false, List, [], ◌∷◌, map, filter, Option, Some, None, Result, Ok, Err, Contains}
use Rattle.std.specs.FinMap.{get, keys}
use Rattle.sha1.specs.Sha1.{sha1}
use Rattle.cv_base.specs.Path.{Path, last_name_of, covers}
use Rattle.cv_base.specs.ObjectId.{object_id}
use Rattle.cv_base.specs.declared.id.ObjectId.{ObjectId}
use Rattle.cv_base.specs.declared.id.Kind.TheVariants as id_kind
use Rattle.cv_tree.specs.Tree.{Nodes, at}
use Rattle.cv_tree.specs.declared.node.Node.{Node}
use Rattle.cv_tree.specs.declared.node.Node.TheVariants.{Dir, File, Link}
use Rattle.cv_tree.specs.declared.node.FileRef.{FileRef}
use Rattle.cv_cut.specs.Cuts.{is_cut}
use Rattle.cv_cut.specs.Catalogues.{cat}
use Rattle.cv_resolver.specs.Entry.{stat_of}
use Rattle.cv_resolver.specs.Asking.{path_of_question, is_stat}
use Rattle.cv_resolver.specs.Walk.{Trail, End, Arrives, NotFound, NotDirectory, TooManyLinks, walk}
use Rattle.cv_resolver.specs.declared.question.Question.{Question}
use Rattle.cv_resolver.specs.declared.question.Question.TheVariants.{List as Lists, Stat as Stats, Read as Reads}
use Rattle.cv_resolver.specs.declared.start.TheConstants.{LINKS}
use Rattle.cv_resolver.specs.declared.stat_line.StatLine.{StatLine}
use Rattle.cv_resolver.specs.declared.found.Found.{Found}
use Rattle.cv_resolver.specs.declared.found.Found.TheVariants as found
use Rattle.cv_resolver.specs.declared.found.ClientFault.{ClientFault}
use Rattle.cv_resolver.specs.declared.found.ClientFault.TheVariants as fault

-- ---- what stands at a path

-- the names in a directory: those of the paths of one name in what stands there
abbrev pub is_single : Path → Bool
is_single [] = false
is_single (a ∷ []) = true
is_single (a ∷ b ∷ p) = false

abbrev pub names_in : Nodes → Path → List (List ℕ)
names_in t p = map last_name_of (filter is_single (keys (at t p)))

-- ---- what a question finds

-- names, what is told of an entry, or the content that a file has
pub data Finding : Type 0 where
  Names : List (List ℕ) → Finding
  Stat : StatLine → Finding
  Content : FileRef → Finding

abbrev pub names_at : List (List ℕ) → Option Node → Result Finding ClientFault
names_at names None = Err fault.NotFound
names_at names (Some (Dir attr)) = Ok (Names names)
names_at names (Some (File attr file)) = Err fault.NotDirectory
names_at names (Some (Link attr target)) = Err fault.NotDirectory

abbrev pub stat_at : Option Node → Result Finding ClientFault
stat_at None = Err fault.NotFound
stat_at (Some n) = Ok (Stat (stat_of n))

abbrev pub content_at : Option Node → Result Finding ClientFault
content_at None = Err fault.NotFound
content_at (Some (Dir attr)) = Err fault.NotFile
content_at (Some (File attr file)) = Ok (Content file)
content_at (Some (Link attr target)) = Err fault.NotFile

-- what the question finds where its walk ends
abbrev pub found_at : Nodes → Question → Path → Result Finding ClientFault
found_at t (Lists asked) p = names_at (names_in t p) (get t p)
found_at t (Stats asked) p = stat_at (get t p)
found_at t (Reads asked) p = content_at (get t p)

abbrev pub finding_of : Nodes → Question → End → Result Finding ClientFault
finding_of t q (Arrives p) = found_at t q p
finding_of t q NotFound = Err fault.NotFound
finding_of t q NotDirectory = Err fault.NotDirectory
finding_of t q TooManyLinks = Err fault.TooManyLinks

-- ---- the walk of a question

-- from the root, with at most 32 links
abbrev pub trail : (repository : List ℕ) → Nodes → Question → Trail
trail repository t q = walk repository t (is_stat q) LINKS (path_of_question q) []

-- the answer to a question in a whole tree
abbrev pub look : (repository : List ℕ) → Nodes → Question → Result Finding ClientFault
look repository t q = finding_of t q (trail repository t q).end

-- ---- the way of a question

-- an object on the way: the catalogue of a cut that covers a place which the walk visits, or the content of the file
pub data OnWay (repository : List ℕ) (t : Nodes) (q : Question) : ObjectId → Type 0 where
  catalogue : (p c : Path) → Contains (trail repository t q).visits p → is_cut t c ≡ true → covers c p ≡ true → OnWay repository t q (object_id (sha1 (cat t c)) id_kind.Catalogue)
  file : (f : FileRef) → look repository t q ≡ Ok (Content f) → OnWay repository t q (object_id f.hash id_kind.Plain)

-- ---- answers

-- the answer is that of the tree, for a read the bytes of that hash; or it tells of what the peer gave, or of memory
abbrev pub IsFound : Result Finding ClientFault → Found → Type 0
IsFound finding (found.Names names) = finding ≡ Ok (Names names)
IsFound finding (found.Stat line) = finding ≡ Ok (Stat line)
IsFound finding (found.Bytes bytes) = (f : FileRef) × (finding ≡ Ok (Content f)) × (sha1 bytes ≡ f.hash)

abbrev pub IsRefused : Result Finding ClientFault → ClientFault → Type 0
IsRefused finding (fault.BadObject id digest) = Unit {0}
IsRefused finding (fault.NotServed id) = Unit {0}
IsRefused finding fault.NoMemory = Unit {0}
IsRefused finding (fault.BadCatalogue id) = ⊥
IsRefused finding other = finding ≡ Err other

abbrev pub IsAnswer : Result Finding ClientFault → Result Found ClientFault → Type 0
IsAnswer finding (Ok found) = IsFound finding found
IsAnswer finding (Err fault) = IsRefused finding fault
