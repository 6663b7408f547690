-- The limits of a node's fields: those in which a catalogue can write it.
use Rattle.std.specs.Prelude.{ℕ, List, length, ◌≤◌, IsTrue}
use Rattle.cv_base.specs.declared.limits.TheConstants.{OBJECT_LIMIT}
use Rattle.cv_base.specs.Attr.{IsAttr}
use Rattle.cv_base.specs.Digest.{IsDigest}
use Rattle.cv_base.specs.Target.{is_target}
use Rattle.cv_tree.specs.declared.node.FileRef.{FileRef}
use Rattle.cv_tree.specs.declared.node.Node.{Node}
use Rattle.cv_tree.specs.declared.node.Node.TheVariants.{Dir, File, Link}

-- a SHA-1 digest, and at most 16 MiB
pub record IsFileRef (file : FileRef) : Type 0 where
  pub hash : IsDigest file.hash
  pub size : file.size ≤ OBJECT_LIMIT

-- 1 to 4,095 bytes of UTF-8 without NUL
pub record IsLinkTarget (target : List ℕ) : Type 0 where
  pub some : 1 ≤ length target
  pub text : IsTrue (is_target target)

-- each field of the node keeps its limits
abbrev pub IsNode : Node → Type 0
IsNode (Dir attr) = IsAttr attr
IsNode (File attr file) = IsAttr attr × IsFileRef file
IsNode (Link attr target) = IsAttr attr × IsLinkTarget target
