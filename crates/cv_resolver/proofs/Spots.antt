-- The places at which a walk stands, and the cuts that cover them.
use Rattle.std.proofs.Common.{◌≡◌, ◌≢◌, ℕ, ◌+◌, Bool, true, false, List, [], ◌∷◌, ◌++◌, length, map, take, refl, sym, ap, subst, ◌∙◌, length-append, arith, inl, inr, IsSome, is_some, bytes_eq}
use Rattle.std.specs.Prelude.{Contains, IfOk, IsSomeAnd, MatchOption}
use Rattle.std.specs.declared.result.Result.{Result}
use Rattle.std.specs.declared.result.Result.TheVariants.{Ok, Err}
use Rattle.std.specs.declared.option.Option.{Option}
use Rattle.std.specs.declared.option.Option.TheVariants.{None, Some}
use Rattle.std.specs.FinMap.{get}
use Rattle.std.proofs.lemmas.Bool.{false_from_ne_true}
use Rattle.std.proofs.lemmas.List.{map-append, length-map}
use Rattle.std.proofs.lemmas.List.Elements.{Contains-push, Contains-push_cases, Contains-append_left}
use Rattle.sha1.specs.Sha1.{sha1}
use Rattle.cv_base.specs.Path.{Path, parent, same_path}
use Rattle.std.specs.Ordering.{is_eq}
use Rattle.std.specs.Cmp.{tied_itself}
use Rattle.cv_tree.specs.Tree.{Nodes, IsTree, is_directory}
use Rattle.cv_rows.specs.Row.{same_kind}
use Rattle.cv_rows.specs.Places.{StandsAt}
use Rattle.cv_rows.specs.Catalogue.{Contents, catalogue_bytes}
use Rattle.cv_tree.specs.declared.node.Node.TheVariants.{Dir, Link}
use Rattle.cv_base.specs.declared.attr.Attr.{Attr}
use Rattle.cv_base.proofs.Laws.{parent-append, path_total, same_path_is}
use Rattle.cv_rows.specs.declared.row.Row.{Row}
use Rattle.cv_rows.specs.declared.nested.Nested.{Nested}
use Rattle.cv_rows.specs.declared.row_kind.RowKind.TheVariants as kind
use Rattle.cv_cut.specs.Cuts.{is_cut}
use Rattle.cv_cut.specs.Catalogues.{cat, contents_of, root_of, Fits}
use Rattle.cv_cut.specs.Over.{cuts_over, IsNearest}
use Rattle.std.specs.Map.{lookup}
use Rattle.cv_cut.specs.Reached.{Decodes, FitsPlace}
use Rattle.cv_cut.specs.Told.{node_of}
use Rattle.cv_cut.proofs.Lemmas.{entry_tells, goes_to as member_of_map, last_some, more_over, nearest, nested_decodes, one_decoding, region_apart, root_decodes, row_tells, row_tells_cut, same_ends, same_over, some_last}
use Rattle.cv_resolver.specs.Kept.{Kept, IsKept, AreOwn, kept_bytes}
use Rattle.cv_resolver.specs.Spot.{IsLevel, StandsIn, IsSpot, levels_of, place_of}
use Rattle.cv_resolver.specs.declared.spot.Level.{Level}
use Rattle.cv_resolver.specs.declared.spot.Spot.{Spot}
use Rattle.cv_resolver.proofs.Keeping.{found_in}

abbrev level : Path → List ℕ → Option Row → Level
level p hash row = record { path = p; hash = hash; row = row }

some_there : (o : _) → is_directory o ≡ true → IsSome o
some_there None h = absurd cc
some_there (Some n) h = refl

one_in : {X : Type 0} (x y : X) → Contains (x ∷ []) y → y ≡ x
one_in x y has = elim (Contains-push_cases [] x y has) [ inl none ↦ absurd (let lt = none.1 in omega arith) | inr is ↦ sym is ]

last_in : {X : Type 0} (front : List X) (x : X) → Contains (front ++ x ∷ []) x
last_in front x = Contains-push front x

-- a walk may begin at the root
pub starts : (t : Nodes) → IsTree t → Fits t → StandsIn t [] true (level [] (root_of t) None ∷ [])
starts t tree fits = record {
  there = some_there (get t []) tree.root;
  is_dir = sym tree.root;
  paths = refl;
  each = λ l has. subst (IsLevel t) (sym (one_in _ l has)) (record { cut = refl; hash = refl; decodes = root_decodes t tree fits });
}

-- the last level is that of the nearest cut
pub nearest_level : (t : Nodes) (p : Path) (d : Bool) (front : List Level) (l : Level) → StandsIn t p d (front ++ l ∷ []) → IsNearest t l.path p × IsLevel t l
nearest_level t p d front l s = (
  nearest t p (map (λ x. x.path) front) l.path (sym s.paths ∙ map-append (λ (x : Level). x.path) front (l ∷ [])),
  s.each l (last_in front l),
)

longer : (c p q : Path) (a : List ℕ) → p ≡ c ++ q → p ++ a ∷ [] ≢ c
longer c p q a is e = omega (arith, ap length e, ap length is, length-append p (a ∷ []), length-append c q)

-- from a directory to an entry that is no cut
pub goes_to : (t : Nodes) (p : Path) (a : List ℕ) (d e : Bool) (levels front : List Level) (l : Level) (r : Row) → IsTree t → Fits t → StandsIn t p d levels → levels ≡ front ++ l ∷ []
    → StandsAt l.path (contents_of t l.path).rows r (p ++ a ∷ []) → same_kind r.kind kind.Transition ≡ false → e ≡ is_directory (Some (node_of r)) → StandsIn t (p ++ a ∷ []) e levels
goes_to t p a d e levels front l r tree fits s is st plain e-is =
    let n = nearest_level t p d front l (subst (λ (w : List Level). StandsIn t p d w) is s) in
    let there = row_tells t tree l.path n.1.cut (region_apart t l.path n.1.cut fits.apart) r (p ++ a ∷ []) st in
    let no_cut = row_tells_cut t tree l.path n.1.cut (region_apart t l.path n.1.cut fits.apart) r (p ++ a ∷ []) st (longer l.path p n.0.rest a n.0.is) ∙ plain in
    record {
      there = ap is_some there;
      is_dir = e-is ∙ ap is_directory (sym there);
      paths = s.paths ∙ sym (same_over t p a no_cut);
      each = s.each;
    }

-- from a directory into another cut
pub goes_into : (t : Nodes) (p : Path) (a : List ℕ) (d : Bool) (levels front : List Level) (l more : Level) (r : Row) (n : Nested) → IsTree t → Fits t → StandsIn t p d levels → levels ≡ front ++ l ∷ []
    → StandsAt l.path (contents_of t l.path).rows r (p ++ a ∷ []) → r.kind ≡ kind.Transition → Contains (contents_of t l.path).nested n → n.path ≡ p ++ a ∷ [] → more ≡ level (p ++ a ∷ []) n.hash (Some r)
    → StandsIn t (p ++ a ∷ []) true (levels ++ more ∷ [])
goes_into t p a d levels front l more r n tree fits s is st trans listed n-path more-is =
    let near = nearest_level t p d front l (subst (λ (w : List Level). StandsIn t p d w) is s) in
    let there = row_tells t tree l.path near.1.cut (region_apart t l.path near.1.cut fits.apart) r (p ++ a ∷ []) st in
    let entry = entry_tells t tree l.path near.1.cut n listed in
    let cut : is_cut t (p ++ a ∷ []) ≡ true = ap (is_cut t) (sym n-path) ∙ entry.cut in
    let own : IsLevel t (level (p ++ a ∷ []) n.hash (Some r)) = record {
      cut = cut;
      hash = entry.hash ∙ ap (λ (w : Path). sha1 (cat t w)) n-path;
      decodes = nested_decodes t tree fits l.path near.1.cut r (p ++ a ∷ []) st trans;
    } in
    record {
      there = ap is_some there;
      is_dir = sym (ap is_directory there ∙ ap is_directory (ap Some (transition_node r trans)));
      paths = map-append (λ (x : Level). x.path) levels (more ∷ []) ∙ (λ i. s.paths i ++ (ap (λ (x : Level). x.path) more-is i) ∷ []) ∙ sym (more_over t p a cut);
      each = λ x has. elim (Contains-push_cases levels more x has) [ inl old ↦ s.each x old | inr new ↦ subst (IsLevel t) (sym more-is ∙ new) own ];
    }
  where
    transition_node : (x : Row) → x.kind ≡ kind.Transition → node_of x ≡ Dir x.attr
    transition_node x h = rw h refl

-- to a link, which is no cut
link_no_cut : (t : Nodes) (q : Path) (attr : Attr) (target : List ℕ) → get t q ≡ Some (Link attr target) → q ≢ [] → is_cut t q ≡ false
link_no_cut t [] attr target h some = absurd (some refl)
link_no_cut t (b ∷ q) attr target h some = rw h refl

pub stands_at_link : (t : Nodes) (p : Path) (a : List ℕ) (d : Bool) (levels : List Level) (attr : Attr) (target : List ℕ) → StandsIn t p d levels → get t (p ++ a ∷ []) ≡ Some (Link attr target) → StandsIn t (p ++ a ∷ []) false levels
stands_at_link t p a d levels attr target s is = record {
  there = ap is_some is;
  is_dir = sym (ap is_directory is);
  paths = s.paths ∙ sym (same_over t p a (link_no_cut t (p ++ a ∷ []) attr target is (last_some p a)));
  each = s.each;
}

-- from a path to its parent: the cut at the path, if it is one, is left
pub goes_up : (t : Nodes) (p : Path) (a : List ℕ) (d : Bool) (levels : List Level) → IsTree t → StandsIn t (p ++ a ∷ []) d levels → is_cut t (p ++ a ∷ []) ≡ false → StandsIn t p true levels
goes_up t p a d levels tree s plain = record {
  there = some_there (get t p) (tree.part.parents p a s.there);
  is_dir = sym (tree.part.parents p a s.there);
  paths = s.paths ∙ same_over t p a plain;
  each = s.each;
}

pub leaves : (t : Nodes) (p : Path) (a : List ℕ) (d : Bool) (front : List Level) (l : Level) → IsTree t → StandsIn t (p ++ a ∷ []) d (front ++ l ∷ []) → is_cut t (p ++ a ∷ []) ≡ true → StandsIn t p true front
leaves t p a d front l tree s cut =
    let both : map (λ x. x.path) front ++ l.path ∷ [] ≡ cuts_over t p ++ (p ++ a ∷ []) ∷ [] = sym (map-append (λ (x : Level). x.path) front (l ∷ [])) ∙ s.paths ∙ more_over t p a cut in
    record {
      there = some_there (get t p) (tree.part.parents p a s.there);
      is_dir = sym (tree.part.parents p a s.there);
      paths = (same_ends _ _ _ _ both).0;
      each = λ x has. s.each x (Contains-append_left front (l ∷ []) x has);
    }

-- whether the path is a cut, the last level tells
pub at_last_level : (t : Nodes) (p : Path) (a : List ℕ) (d : Bool) (front : List Level) (l : Level) → StandsIn t (p ++ a ∷ []) d (front ++ l ∷ []) → same_path l.path (p ++ a ∷ []) ≡ is_cut t (p ++ a ∷ [])
at_last_level t p a d front l s =
    elim (is_cut t (p ++ a ∷ [])) as (λ b. is_cut t (p ++ a ∷ []) ≡ b → same_path l.path (p ++ a ∷ []) ≡ b) [
      | true ↦ λ cut.
          let both : map (λ x. x.path) front ++ l.path ∷ [] ≡ cuts_over t p ++ (p ++ a ∷ []) ∷ [] = sym (map-append (λ (x : Level). x.path) front (l ∷ [])) ∙ s.paths ∙ more_over t p a cut in
          ap (λ w. same_path w (p ++ a ∷ [])) (same_ends _ _ _ _ both).1 ∙ ap is_eq (tied_itself path_total (p ++ a ∷ []))
      | false ↦ λ plain. false_from_ne_true (same_path l.path (p ++ a ∷ [])) (λ same.
          let here : l.path ≡ p ++ a ∷ [] = same_path_is l.path (p ++ a ∷ []) same in
          let no_cut : true ≡ false = sym ((nearest_level t (p ++ a ∷ []) d front l s).1.cut) ∙ ap (is_cut t) here ∙ plain in
          cc)
    ] refl

first_over : (t : Nodes) (p : Path) → take 1 (cuts_over t p) ≡ [] ∷ []
first_over t [] = refl
first_over t (a ∷ p) = refl

-- the root stays where it is
top_stays : (t : Nodes) (d : Bool) (levels : List Level) → IsTree t → StandsIn t [] d levels → StandsIn t [] true levels
top_stays t d levels tree s = record { there = s.there; is_dir = sym tree.root; paths = s.paths; each = s.each }

module _ (t : Nodes) (d : Bool) (outer : List Level) (l : Level) (tree : IsTree t) where
  -- the nearest cut isn't at the path
  pub above_here : (p : Path) → StandsIn t p d (outer ++ l ∷ []) → same_path l.path p ≡ false → StandsIn t (parent p) true (outer ++ l ∷ [])
  above_here [] s other = top_stays t d (outer ++ l ∷ []) tree s
  above_here (b ∷ q) s other =
      let last = some_last (b ∷ q) (λ e. cc) in
      let here : StandsIn t (last.front ++ last.name ∷ []) d (outer ++ l ∷ []) = subst (λ (w : Path). StandsIn t w d (outer ++ l ∷ [])) last.is s in
      let plain : is_cut t (last.front ++ last.name ∷ []) ≡ false = sym (at_last_level t last.front last.name d outer l here) ∙ ap (same_path l.path) (sym last.is) ∙ other in
      subst (λ (w : Path). StandsIn t w true (outer ++ l ∷ [])) (sym (ap parent last.is ∙ parent-append last.front last.name)) (goes_up t last.front last.name d (outer ++ l ∷ []) tree here plain)

  -- or it is, and is left
  left : (p : Path) → p ≢ [] → StandsIn t p d (outer ++ l ∷ []) → same_path l.path p ≡ true → StandsIn t (parent p) true outer
  left p some s same =
      let last = some_last p some in
      let here : StandsIn t (last.front ++ last.name ∷ []) d (outer ++ l ∷ []) = subst (λ (w : Path). StandsIn t w d (outer ++ l ∷ [])) last.is s in
      let cut : is_cut t (last.front ++ last.name ∷ []) ≡ true = sym (at_last_level t last.front last.name d outer l here) ∙ ap (same_path l.path) (sym last.is) ∙ same in
      subst (λ (w : Path). StandsIn t w true outer) (sym (ap parent last.is ∙ parent-append last.front last.name)) (leaves t last.front last.name d outer l tree here cut)

  -- where there is another
  pub above_cut : (p : Path) (front : List Level) (more : Level) → outer ≡ front ++ more ∷ [] → StandsIn t p d (outer ++ l ∷ []) → same_path l.path p ≡ true → StandsIn t (parent p) true (front ++ more ∷ [])
  above_cut [] front more is s same =
      let two : length (map (λ (x : Level). x.path) (outer ++ l ∷ [])) ≡ 1 = ap length s.paths in
      let long : length outer ≡ length front + 1 = ap length is ∙ length-append front (more ∷ []) in
      absurd (omega (arith, length-map (outer ++ l ∷ []) (λ (x : Level). x.path), length-append outer (l ∷ [])))
  above_cut (b ∷ q) front more is s same = subst (λ (w : List Level). StandsIn t (parent (b ∷ q)) true w) is (left (b ∷ q) (λ e. cc) s same)

-- back to the root
first_of : (ls : List Level) → take 1 (map (λ l. l.path) ls) ≡ map (λ l. l.path) (take 1 ls)
first_of [] = refl
first_of (l ∷ ls) = refl

in_first : (ls : List Level) (x : Level) → Contains (take 1 ls) x → Contains ls x
in_first [] x has = has
in_first (l ∷ ls) x has = subst (λ (y : Level). Contains (l ∷ ls) y) (sym (one_in l x has)) (Contains-append_left (l ∷ []) ls l (last_in [] l))

pub returns_to_root : (t : Nodes) (p : Path) (d : Bool) (levels : List Level) → IsTree t → StandsIn t p d levels → StandsIn t [] true (take 1 levels)
returns_to_root t p d levels tree s = record {
  there = some_there (get t []) tree.root;
  is_dir = sym tree.root;
  paths = sym (first_of levels) ∙ ap (take 1) s.paths ∙ first_over t p;
  each = λ x has. s.each x (in_first levels x has);
}

pub at_top : (t : Nodes) (s : Spot) (p : Path) (outer : List Level) (l : Level) → IsTree t → IsSpot t s → p ≡ [] → outer ≡ [] → l ∷ [] ≡ take 1 (levels_of s) → StandsIn t p true (outer ++ l ∷ [])
at_top t s p outer l tree is top none one =
    let here : StandsIn t [] true (l ∷ []) = subst (λ (x : List Level). StandsIn t [] true x) (sym one) (returns_to_root t s.at s.is_directory (levels_of s) tree is) in
    subst (λ (q : Path). StandsIn t q true (outer ++ l ∷ [])) (sym top) (subst (λ (x : List Level). StandsIn t [] true (x ++ l ∷ [])) (sym none) here)

-- what is given for the last level decodes, and as the catalogue of the cut, unless other bytes have its hash
pub given_is : (t : Nodes) (l : Level) (bytes : List ℕ) (c : Contents) → IsLevel t l → sha1 bytes ≡ l.hash → (sha1 bytes ≡ sha1 (cat t l.path) → bytes ≡ cat t l.path) → Decodes (place_of l) bytes c → c ≡ contents_of t l.path
given_is t l bytes c known same apart decodes =
    one_decoding _ (cat t l.path) c (contents_of t l.path) (subst (λ (b : List ℕ). Decodes (place_of l) b c) (apart (same ∙ known.hash)) decodes) known.decodes

pub given_decodes : (t : Nodes) (l : Level) (bytes : List ℕ) → IsLevel t l → sha1 bytes ≡ l.hash → (sha1 bytes ≡ sha1 (cat t l.path) → bytes ≡ cat t l.path) → ((c : Contents) → Decodes (place_of l) bytes c → ⊥) → ⊥
given_decodes t l bytes known same apart none =
    none (contents_of t l.path) (subst (λ (b : List ℕ). Decodes (place_of l) b (contents_of t l.path)) (sym (apart (same ∙ known.hash))) known.decodes)

-- and so does what the code opens
pub own_catalogue : {E : Type 0} (t : Nodes) (l : Level) (bytes : List ℕ) (row : Option Row) (r : Result (Option Contents) E) → row ≡ l.row
    → IfOk r (λ found. MatchOption found ((c : Contents) → Decodes (record { path = l.path; row = row }) bytes c → ⊥) (Decodes (record { path = l.path; row = row }) bytes))
    → sha1 bytes ≡ l.hash → IsLevel t l → AreOwn t (bytes ∷ []) → IfOk r (λ found. IsSomeAnd found (λ c. c ≡ contents_of t l.path))
own_catalogue t l bytes row (Err e) rows h same known apart = tt
own_catalogue t l bytes row (Ok None) rows h same known apart = absurd (given_decodes t l bytes known same (λ e. apart.own bytes l.path (Contains-push [] bytes) known.cut e) (λ c d. h c (subst (λ (x : Option Row). Decodes (record { path = l.path; row = x }) bytes c) (sym rows) d)))
own_catalogue t l bytes row (Ok (Some c)) rows h same known apart = given_is t l bytes c known same (λ e. apart.own bytes l.path (Contains-push [] bytes) known.cut e) (subst (λ (x : Option Row). Decodes (record { path = l.path; row = x }) bytes c) rows h)

-- and a catalogue that is kept is that of the cut, unless other bytes share its digest
pub kept_is : (t : Nodes) (l : Level) (k : Kept) (c : Contents) → IsLevel t l → AreOwn t (kept_bytes k) → IsKept l.hash c → FitsPlace (place_of l) c → lookup (bytes_eq l.hash) k.entries ≡ Some c → c ≡ contents_of t l.path
kept_is t l k c known own kept place has =
    let among : Contains (kept_bytes k) (catalogue_bytes c) = member_of_map (λ (e : List ℕ × Contents). catalogue_bytes e.1) k.entries (l.hash, c) (found_in k.entries l.hash c (sym has)) in
    one_decoding (place_of l) (cat t l.path) c (contents_of t l.path)
    (record { at = place.at; is = kept.is; spelled = sym (own.own (catalogue_bytes c) l.path among known.cut (sym kept.digest ∙ known.hash)); row = place.row })
    known.decodes
