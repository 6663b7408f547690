-- Paths of a repository: a path is the list of its names, from the root on, and a name is the list of its bytes.
use Rattle.std.specs.Prelude.{ℕ, ◌≤◌, ◌≡◌, Bool, true, false, not, ◌==◌, ◌||◌, ◌&&◌, nat_le, List, [], ◌∷◌, ◌++◌, length, replicate, Option, Some, None, is_some, if◌then◌else◌}
use Rattle.std.specs.declared.cmp.Ordering.{Ordering}
use Rattle.std.specs.Ordering.{is_eq}
use Rattle.std.specs.Cmp.Lexicographic.{slice_cmp}
use Rattle.std.specs.List.{flat_map, list_all}
use Rattle.std.specs.Str.{is_utf8}
use Rattle.md5.specs.Md5.{md5}
use Rattle.cv_base.specs.BytesOrder.{bytes_cmp}
use Rattle.cv_base.specs.declared.path_name.TheConstants.{PATH_NAME_LIMIT}
use Rattle.cv_base.specs.declared.repo_path.TheConstants.{NAMES_LIMIT, PATH_LIMIT}

abbrev pub Path : Type 0
Path = List (List ℕ)

-- the text of a path: a slash before each name, so that the text of the root is empty
abbrev pub text_of : Path → List ℕ
text_of path = flat_map (λ name. 47 ∷ name) path

-- a name or a folder's path with a slash at its end
abbrev pub with_slash : List ℕ → List ℕ
with_slash bytes = bytes ++ 47 ∷ []

-- the key of a path: the MD5 of its text
abbrev pub key_of : Path → List ℕ
key_of path = md5 (text_of path)

-- all names but the last
abbrev pub parent : Path → Path
parent [] = []
parent (a ∷ []) = []
parent (a ∷ b ∷ p) = a ∷ parent (b ∷ p)

-- sixteen zero bytes, the key of the directory in which the root stands
abbrev pub no_key : List ℕ
no_key = replicate 16 0

-- the key of the directory in which a path stands
abbrev pub parent_key_of : Path → List ℕ
parent_key_of [] = no_key
parent_key_of (a ∷ p) = key_of (parent (a ∷ p))

-- the last name of a path, and none for the root
abbrev pub last_name_of : Path → List ℕ
last_name_of [] = []
last_name_of (a ∷ []) = a
last_name_of (a ∷ b ∷ p) = last_name_of (b ∷ p)

-- `.` and `..`, which name no entry of their own
abbrev pub is_dots : List ℕ → Bool
is_dots [] = false
is_dots (a ∷ []) = a == 46
is_dots (a ∷ b ∷ []) = (a == 46) && (b == 46)
is_dots (a ∷ b ∷ c ∷ more) = false

-- neither `/` nor NUL
abbrev pub is_path_byte : ℕ → Bool
is_path_byte b = not (b == 47) && not (b == 0)

-- a name in a path: 1 to 255 bytes of UTF-8 without `/` and NUL, and neither `.` nor `..`
abbrev pub is_path_name : List ℕ → Bool
is_path_name name =
    is_utf8 name && nat_le 1 (length name) && nat_le (length name) PATH_NAME_LIMIT
    && list_all is_path_byte name && not (is_dots name)

-- the limits of a path: at most 64 names, and at most 4,095 bytes of text
pub record IsPath (path : Path) : Type 0 where
  pub names : list_all is_path_name path ≡ true
  pub depth : length path ≤ NAMES_LIMIT
  pub size : length (text_of path) ≤ PATH_LIMIT

-- the order of paths: name by name, and names by their bytes
abbrev pub path_cmp : Path → Path → Ordering
path_cmp = slice_cmp bytes_cmp

abbrev pub same_name : List ℕ → List ℕ → Bool
same_name a b = is_eq (bytes_cmp a b)

abbrev pub same_path : Path → Path → Bool
same_path p q = is_eq (path_cmp p q)

-- what is left of q behind p, where q begins with p
abbrev pub behind : Path → Path → Option Path
behind [] q = Some q
behind (a ∷ p) [] = None
behind (a ∷ p) (b ∷ q) = if same_name a b then behind p q else None

-- p is q, or a path on the way from the root to q
abbrev pub covers : Path → Path → Bool
covers p q = is_some (behind p q)

-- one covers the other
abbrev pub overlap : Path → Path → Bool
overlap p q = covers p q || covers q p
