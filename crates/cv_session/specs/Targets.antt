-- What the targets of requests name.
use Rattle.std.specs.Prelude.{◌≡◌, ℕ, List, codes}
use Rattle.cv_base.specs.Digest.{IsDigest}
use Rattle.cv_base.specs.ObjectId.{file_name}
use Rattle.cv_base.specs.declared.id.ObjectId.{ObjectId}
use Rattle.cv_http.specs.Requests.{file_target}
use Rattle.cv_manifest.specs.Manifest.{manifest_name}
use Rattle.cv_session.specs.declared.target.Resource.{Resource}
use Rattle.cv_session.specs.declared.target.Resource.TheVariants.{Manifest, Object}

-- the target names this resource of the repository
pub data Names (repository target : List ℕ) : Resource → Type 0 where
  manifest : target ≡ file_target repository manifest_name → Names repository target Manifest
  object : (id : ObjectId) → IsDigest id.hash → target ≡ file_target repository (file_name id) → Names repository target (Object id)

-- the target names no resource of the repository
abbrev pub NamesNothing : List ℕ → List ℕ → Type 0
NamesNothing repository target = (resource : Resource) → Names repository target resource → ⊥

-- the target of the repositories
abbrev pub repositories_target : List ℕ
repositories_target = codes "/api/v1/repos"
