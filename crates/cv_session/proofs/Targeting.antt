-- Targets, taken apart.
use Rattle.std.proofs.Common.{◌≡◌, ◌≢◌, ◌++◌, ℕ, List, sym, ap, ◌∙◌, codes, Bor}
use Rattle.std.specs.Prelude.{Option, Some, None, MatchOption}
use Rattle.std.specs.Prelude.{Bool, false, bytes_eq}
use Rattle.std.proofs.lemmas.Slice.Eq.{bytes_eq-Decides}
use Rattle.std.proofs.lemmas.List.{append_cancel_left}
use Rattle.cv_base.specs.Digest.{IsDigest}
use Rattle.cv_base.specs.ObjectId.{file_name}
use Rattle.cv_base.specs.declared.id.ObjectId.{ObjectId}
use Rattle.cv_manifest.specs.Manifest.{manifest_name}
use Rattle.cv_http.specs.Requests.{file_target}
use Rattle.cv_session.specs.Targets.{Names, NamesNothing, manifest, object}
use Rattle.cv_session.specs.declared.target.Resource.TheVariants.{Manifest, Object}

-- what is known of the rest behind a front is known of the whole
pub behind_front : (front rest text : List ℕ) (g : List ℕ → List ℕ) (found : Option (Bor (List ℕ))) → text ≡ front ++ rest
    → MatchOption found ((x : List ℕ) → rest ≢ g x) (λ x. rest ≡ g x.now) → MatchOption found ((x : List ℕ) → text ≢ front ++ g x) (λ x. text ≡ front ++ g x.now)
behind_front front rest text g None is h = λ x e. h x (append_cancel_left front rest (g x) (sym is ∙ e))
behind_front front rest text g (Some x) is h = is ∙ ap (λ y. front ++ y) h

-- texts that a comparison told apart
pub not_same : (xs ys : List ℕ) (equal : Bool) → equal ≡ bytes_eq xs ys → equal ≡ false → xs ≢ ys
not_same xs ys equal is false-is same =
    let holds = (bytes_eq-Decides xs ys).1 same in
    cc

module _ (repository target file : List ℕ) (below : target ≡ file_target repository file) where
  pub same_file : (other : List ℕ) → target ≡ file_target repository other → file ≡ other
  same_file other e =
      append_cancel_left (codes "/") file other (append_cancel_left repository _ _ (append_cancel_left (codes "/cvmfs/") _ _ (sym below ∙ e)))

  pub names_manifest : file ≡ manifest_name → Names repository target Manifest
  names_manifest is = manifest (below ∙ ap (file_target repository) is)

  pub names_object : (id : ObjectId) → IsDigest id.hash → file ≡ file_name id → Names repository target (Object id)
  names_object id digest is = object id digest (below ∙ ap (file_target repository) is)

  pub names_nothing : file ≢ manifest_name → ((id : ObjectId) → IsDigest id.hash → file ≢ file_name id) → NamesNothing repository target
  names_nothing other none Manifest (manifest e) = other (same_file manifest_name e)
  names_nothing other none (Object id) (object _ digest e) = none id digest (same_file (file_name id) e)
