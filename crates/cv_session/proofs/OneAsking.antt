-- What a request asks for is one thing.
use Rattle.std.proofs.Common.{◌≡◌, ℕ, List, codes, refl, ap, sym, ◌∙◌, arith}
use Rattle.std.specs.Prelude.{slice_index_or}
use Rattle.std.proofs.lemmas.List.{append_cancel_left}
use Rattle.cv_base.specs.ObjectId.{file_name}
use Rattle.cv_base.proofs.Laws.{one_file_name}
use Rattle.cv_http.specs.declared.head.RequestHead.{RequestHead}
use Rattle.cv_http.specs.declared.method.Method.{Method}
use Rattle.cv_http.specs.declared.method.Method.TheVariants.{Get, Post, Delete, Other}
use Rattle.cv_keys.specs.declared.key.Key.{Key}
use Rattle.cv_manifest.specs.Manifest.{manifest_name}
use Rattle.cv_messages.specs.Targets.{leases_target, lease_target}
use Rattle.cv_session.specs.Targets.{repositories_target, Names, manifest, object}
use Rattle.cv_session.specs.Turns.{Wants, commit_turn, end_turn, unknown_method, resource, repositories, leases, nothing_there, lease, commit, no_post, end, no_delete}
use Rattle.cv_session.specs.declared.target.Resource.{Resource}
use Rattle.cv_session.specs.declared.target.Resource.TheVariants.{Object}
use Rattle.cv_session.specs.declared.turn.Turn.{Turn}
use Rattle.cv_session.specs.declared.turn.Turn.TheVariants.{Serve}
use Rattle.cv_session.proofs.Targeting.{same_file}

one_resource : (repository target : List ℕ) (r r' : Resource) → Names repository target r → Names repository target r' → r ≡ r'
one_resource repository target _ _ (manifest e) (manifest e') = refl
one_resource repository target _ _ (manifest e) (object id is e') =
    let first : 46 ≡ 100 = ap (λ l. slice_index_or l 0 0) (same_file repository target manifest_name e (file_name id) e') in absurd (omega (arith, first))
one_resource repository target _ _ (object id is e) (manifest e') =
    let first : 46 ≡ 100 = ap (λ l. slice_index_or l 0 0) (same_file repository target manifest_name e' (file_name id) e) in absurd (omega (arith, first))
one_resource repository target _ _ (object id is e) (object id' is' e') =
    ap Object (one_file_name id id' is is' (same_file repository target (file_name id) e (file_name id') e'))

-- the targets of resources begin apart from those of the interface
second_byte : (repository target : List ℕ) (r : Resource) → Names repository target r → slice_index_or target 1 0 ≡ 99
second_byte repository target _ (manifest e) = ap (λ l. slice_index_or l 1 0) e
second_byte repository target _ (object id is e) = ap (λ l. slice_index_or l 1 0) e

not_repositories : (repository target : List ℕ) (r : Resource) → Names repository target r → target ≡ repositories_target → ⊥
not_repositories repository target r names e =
    let first : 97 ≡ 99 = sym (ap (λ l. slice_index_or l 1 0) e) ∙ second_byte repository target r names in omega (arith, first)

not_leases : (repository target : List ℕ) (r : Resource) → Names repository target r → target ≡ leases_target → ⊥
not_leases repository target r names e =
    let first : 97 ≡ 99 = sym (ap (λ l. slice_index_or l 1 0) e) ∙ second_byte repository target r names in omega (arith, first)

not_both : (target : List ℕ) → target ≡ repositories_target → target ≡ leases_target → ⊥
not_both target e e' = let first : 114 ≡ 108 = ap (λ l. slice_index_or l 8 0) (sym e ∙ e') in omega (arith, first)

-- behind the target of the leases stands a slash, and then the text of a token
not_of_lease : (target text : List ℕ) → target ≡ leases_target → target ≡ lease_target text → ⊥
not_of_lease target text e e' = let first : 0 ≡ 47 = ap (λ l. slice_index_or l 14 0) (sym e ∙ e') in omega (arith, first)

one_text : (target text text' : List ℕ) → target ≡ lease_target text → target ≡ lease_target text' → text ≡ text'
one_text target text text' e e' = append_cancel_left (lease_target (codes "")) text text' (sym e ∙ e')

module _ (repository : List ℕ) (keys : List Key) (head : RequestHead) (body : List ℕ) where
  abbrev method_of : (turn : Turn) → Wants repository keys head body turn → Method
  method_of _ (unknown_method m) = Other
  method_of _ (resource r m names) = Get
  method_of _ (repositories m e) = Get
  method_of _ (leases m e) = Get
  method_of _ (nothing_there m none) = Get
  method_of _ (lease m e) = Post
  method_of _ (commit text m e) = Post
  method_of _ (no_post m other none) = Post
  method_of _ (end text m e) = Delete
  method_of _ (no_delete m none) = Delete

  method_is : (turn : Turn) (w : Wants repository keys head body turn) → head.method ≡ method_of turn w
  method_is _ (unknown_method m) = m
  method_is _ (resource r m names) = m
  method_is _ (repositories m e) = m
  method_is _ (leases m e) = m
  method_is _ (nothing_there m none) = m
  method_is _ (lease m e) = m
  method_is _ (commit text m e) = m
  method_is _ (no_post m other none) = m
  method_is _ (end text m e) = m
  method_is _ (no_delete m none) = m

  pub one_turn : (turn turn' : Turn) → Wants repository keys head body turn → Wants repository keys head body turn' → turn ≡ turn'
  one_turn _ _ (unknown_method m) (unknown_method m') = refl
  one_turn _ turn' (unknown_method m) w' = let other = method_is turn' w' in cc
  one_turn _ _ (resource r m names) (resource r' m' names') = ap Serve (one_resource repository head.target r r' names names')
  one_turn _ _ (resource r m names) (repositories m' e') = absurd (not_repositories repository head.target r names e')
  one_turn _ _ (resource r m names) (leases m' e') = absurd (not_leases repository head.target r names e')
  one_turn _ _ (resource r m names) (nothing_there m' none') = absurd (none'.2 r names)
  one_turn _ turn' (resource r m names) w' = let other = method_is turn' w' in cc
  one_turn _ _ (repositories m e) (resource r' m' names') = absurd (not_repositories repository head.target r' names' e)
  one_turn _ _ (repositories m e) (repositories m' e') = refl
  one_turn _ _ (repositories m e) (leases m' e') = absurd (not_both head.target e e')
  one_turn _ _ (repositories m e) (nothing_there m' none') = absurd (none'.0 e)
  one_turn _ turn' (repositories m e) w' = let other = method_is turn' w' in cc
  one_turn _ _ (leases m e) (resource r' m' names') = absurd (not_leases repository head.target r' names' e)
  one_turn _ _ (leases m e) (repositories m' e') = absurd (not_both head.target e' e)
  one_turn _ _ (leases m e) (leases m' e') = refl
  one_turn _ _ (leases m e) (nothing_there m' none') = absurd (none'.1 e)
  one_turn _ turn' (leases m e) w' = let other = method_is turn' w' in cc
  one_turn _ _ (nothing_there m none) (resource r' m' names') = absurd (none.2 r' names')
  one_turn _ _ (nothing_there m none) (repositories m' e') = absurd (none.0 e')
  one_turn _ _ (nothing_there m none) (leases m' e') = absurd (none.1 e')
  one_turn _ _ (nothing_there m none) (nothing_there m' none') = refl
  one_turn _ turn' (nothing_there m none) w' = let other = method_is turn' w' in cc
  one_turn _ _ (lease m e) (lease m' e') = refl
  one_turn _ _ (lease m e) (commit text' m' e') = absurd (not_of_lease head.target text' e e')
  one_turn _ _ (lease m e) (no_post m' other' none') = absurd (other' e)
  one_turn _ turn' (lease m e) w' = let other = method_is turn' w' in cc
  one_turn _ _ (commit text m e) (lease m' e') = absurd (not_of_lease head.target text e' e)
  one_turn _ _ (commit text m e) (commit text' m' e') = ap (λ t. commit_turn keys head.authorization t body) (one_text head.target text text' e e')
  one_turn _ _ (commit text m e) (no_post m' other' none') = absurd (none' text e)
  one_turn _ turn' (commit text m e) w' = let other = method_is turn' w' in cc
  one_turn _ _ (no_post m other none) (lease m' e') = absurd (other e')
  one_turn _ _ (no_post m other none) (commit text' m' e') = absurd (none text' e')
  one_turn _ _ (no_post m other none) (no_post m' other' none') = refl
  one_turn _ turn' (no_post m other none) w' = let other = method_is turn' w' in cc
  one_turn _ _ (end text m e) (end text' m' e') = ap (end_turn keys head.authorization) (one_text head.target text text' e e')
  one_turn _ _ (end text m e) (no_delete m' none') = absurd (none' text e)
  one_turn _ turn' (end text m e) w' = let other = method_is turn' w' in cc
  one_turn _ _ (no_delete m none) (end text' m' e') = absurd (none text' e')
  one_turn _ _ (no_delete m none) (no_delete m' none') = refl
  one_turn _ turn' (no_delete m none) w' = let other = method_is turn' w' in cc
