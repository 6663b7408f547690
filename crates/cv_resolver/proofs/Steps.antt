-- A walk goes on name by name.
use Rattle.std.proofs.Common.{◌≡◌, ℕ, zero, suc, Bool, true, false, ◌&&◌, List, [], ◌∷◌, ◌++◌, refl, sym, ap, ◌∙◌}
use Rattle.std.specs.declared.option.Option.{Option}
use Rattle.std.specs.declared.option.Option.TheVariants.{None, Some}
use Rattle.std.specs.FinMap.{get}
use Rattle.cv_base.specs.Path.{Path, parent}
use Rattle.cv_base.specs.PathText.{parts_of}
use Rattle.cv_base.specs.declared.attr.Attr.{Attr}
use Rattle.cv_tree.specs.Tree.{Nodes, is_directory}
use Rattle.cv_tree.specs.declared.node.Node.TheVariants.{Dir, File, Link}
use Rattle.cv_tree.specs.declared.node.FileRef.{FileRef}
use Rattle.cv_resolver.specs.Walk.{Name, NotFound, NotDirectory, TooManyLinks, Trail, ends, arrives, from, is_idle, is_up, is_last, lead_of, entry_trail, walk_by, trail_along, walk}
use Rattle.cv_resolver.specs.PassInner.{behind_link, at_link}

module _ (repository : List ℕ) (t : Nodes) (stays : Bool) where
  abbrev follow : ℕ → Path → List ℕ → List Name → Trail
  follow links = behind_link repository t stays links

  is_by : (links : ℕ) (names : List Name) (p : Path) → walk repository t stays links names p ≡ walk_by repository t stays (follow links) names p
  unfolding walk
  is_by zero names p = refl
  is_by (suc links) names p = refl

  -- without names a walk arrives
  pub done : (links : ℕ) (p : Path) → walk repository t stays links [] p ≡ arrives p
  unfolding walk_by
  done links p = is_by links [] p

  -- an idle name is passed over
  pub idle : (links : ℕ) (name : Name) (names : List Name) (p : Path) → is_idle name ≡ true → walk repository t stays links (name ∷ names) p ≡ walk repository t stays links names p
  unfolding walk_by
  idle links name names p h = is_by links (name ∷ names) p ∙ rw h refl ∙ sym (is_by links names p)

  -- below what is no directory there is nothing
  pub below_file : (links : ℕ) (name : Name) (names : List Name) (p : Path) → is_idle name ≡ false → is_directory (get t p) ≡ false → walk repository t stays links (name ∷ names) p ≡ ends p NotDirectory
  unfolding walk_by
  below_file links name names p h d = is_by links (name ∷ names) p ∙ rw (h, d) refl

  pub up : (links : ℕ) (name : Name) (names : List Name) (p : Path) → is_idle name ≡ false → is_directory (get t p) ≡ true → is_up name ≡ true
      → walk repository t stays links (name ∷ names) p ≡ from p (walk repository t stays links names (parent p))
  unfolding walk_by
  up links name names p h d u = is_by links (name ∷ names) p ∙ rw (h, d, u) (ap (from p) (sym (is_by links names (parent p))))

  -- another name leads to its entry
  into : (links : ℕ) (name : Name) (names : List Name) (p : Path) → is_idle name ≡ false → is_directory (get t p) ≡ true → is_up name ≡ false
      → walk repository t stays links (name ∷ names) p
      ≡ entry_trail (get t (p ++ name ∷ [])) p name (walk_by repository t stays (follow links) names (p ++ name ∷ [])) (λ target. follow links p target names) (is_last names && stays)
  unfolding walk_by
  into links name names p h d u = is_by links (name ∷ names) p ∙ rw (h, d, u) refl

  pub nothing : (links : ℕ) (name : Name) (names : List Name) (p : Path) → is_idle name ≡ false → is_directory (get t p) ≡ true → is_up name ≡ false → get t (p ++ name ∷ []) ≡ None
      → walk repository t stays links (name ∷ names) p ≡ ends p NotFound
  nothing links name names p h d u is = into links name names p h d u ∙ rw is refl

  pub directory : (links : ℕ) (name : Name) (names : List Name) (p : Path) (attr : Attr) → is_idle name ≡ false → is_directory (get t p) ≡ true → is_up name ≡ false → get t (p ++ name ∷ []) ≡ Some (Dir attr)
      → walk repository t stays links (name ∷ names) p ≡ from p (walk repository t stays links names (p ++ name ∷ []))
  directory links name names p attr h d u is = into links name names p h d u ∙ rw is (ap (from p) (sym (is_by links names (p ++ name ∷ []))))

  pub file : (links : ℕ) (name : Name) (names : List Name) (p : Path) (attr : Attr) (f : FileRef) → is_idle name ≡ false → is_directory (get t p) ≡ true → is_up name ≡ false → get t (p ++ name ∷ []) ≡ Some (File attr f)
      → walk repository t stays links (name ∷ names) p ≡ from p (walk repository t stays links names (p ++ name ∷ []))
  file links name names p attr f h d u is = into links name names p h d u ∙ rw is (ap (from p) (sym (is_by links names (p ++ name ∷ []))))

  -- the last link of an entry that is asked for isn't followed
  pub link_stays : (links : ℕ) (name : Name) (names : List Name) (p : Path) (attr : Attr) (target : List ℕ) → is_idle name ≡ false → is_directory (get t p) ≡ true → is_up name ≡ false → get t (p ++ name ∷ []) ≡ Some (Link attr target)
      → (is_last names && stays) ≡ true → walk repository t stays links (name ∷ names) p ≡ from p (arrives (p ++ name ∷ []))
  link_stays links name names p attr target h d u is s = into links name names p h d u ∙ rw (is, s) refl

  pub no_more_links : (name : Name) (names : List Name) (p : Path) (attr : Attr) (target : List ℕ) → is_idle name ≡ false → is_directory (get t p) ≡ true → is_up name ≡ false → get t (p ++ name ∷ []) ≡ Some (Link attr target)
      → (is_last names && stays) ≡ false → walk repository t stays 0 (name ∷ names) p ≡ from p (ends p TooManyLinks)
  no_more_links name names p attr target h d u is s = into 0 name names p h d u ∙ rw (is, s) refl

  pub link_nowhere : (links : ℕ) (name : Name) (names : List Name) (p : Path) (attr : Attr) (target : List ℕ) → is_idle name ≡ false → is_directory (get t p) ≡ true → is_up name ≡ false → get t (p ++ name ∷ []) ≡ Some (Link attr target)
      → (is_last names && stays) ≡ false → lead_of repository p (parts_of target) ≡ None → walk repository t stays (suc links) (name ∷ names) p ≡ from p (ends p NotFound)
  link_nowhere links name names p attr target h d u is s l = into (suc links) name names p h d u ∙ rw (is, s) (ap (λ (o : Option (Path × List Name)). from p (trail_along repository t stays (walk repository t stays links) p names o)) l)

  pub link : (links : ℕ) (name : Name) (names : List Name) (p : Path) (attr : Attr) (target : List ℕ) (start : Path) (more : List Name) → is_idle name ≡ false → is_directory (get t p) ≡ true → is_up name ≡ false → get t (p ++ name ∷ []) ≡ Some (Link attr target)
      → (is_last names && stays) ≡ false → lead_of repository p (parts_of target) ≡ Some (start, more) → walk repository t stays (suc links) (name ∷ names) p ≡ from p (walk repository t stays links (more ++ names) start)
  link links name names p attr target start more h d u is s l = into (suc links) name names p h d u ∙ rw (is, s) (ap (λ (o : Option (Path × List Name)). from p (trail_along repository t stays (walk repository t stays links) p names o)) l)

  -- in one
  pub meets : (links : ℕ) (name : Name) (names : List Name) (p : Path) (attr : Attr) (target : List ℕ) → is_idle name ≡ false → is_directory (get t p) ≡ true → is_up name ≡ false → get t (p ++ name ∷ []) ≡ Some (Link attr target)
      → walk repository t stays links (name ∷ names) p ≡ at_link repository t stays links p (p ++ name ∷ []) target names
  meets links name names p attr target h d u is = into links name names p h d u ∙ rw is refl
