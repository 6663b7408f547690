-- Catalogues that are opened at their places.
use Rattle.std.proofs.Common.{◌≡◌, ◌≢◌, ◌↔◌, ℕ, ◌<◌, Bool, true, false, List, [], ◌∷◌, length, Ok, Err, Result, None, Some, IsTrue, refl, sym, ap, subst, ◌∙◌, arith, length-append, inl, inr}
use Rattle.std.specs.Prelude.{Contains, IfSome, IsSomeAnd, MatchOption}
use Rattle.std.specs.Borrow.{Bor}
use Rattle.std.specs.Option.{option_copied}
use Rattle.std.specs.Cmp.{tied_itself}
use Rattle.std.specs.Ordering.{is_eq}
use Rattle.std.specs.declared.option.Option.{Option}
use Rattle.std.proofs.lemmas.List.Elements.{All-contains}
use Rattle.sha1.specs.Sha1.{sha1}
use Rattle.cv_base.specs.Path.{Path, same_path}
use Rattle.cv_base.specs.ObjectId.{object_id}
use Rattle.cv_base.specs.declared.id.ObjectId.{ObjectId}
use Rattle.cv_base.specs.declared.id.Kind.TheVariants as id_kind
use Rattle.cv_base.proofs.Laws.{some_same, not_both, path_total, same_path_is}
use Rattle.cv_ports.specs.Shelf.{Shelf, HasOtherDigest}
use Rattle.cv_rows.specs.Catalogue.{Contents, IsCatalogue, IsTransitionAt}
use Rattle.cv_rows.specs.Places.{IsRoot, StandsAt, root, below}
use Rattle.cv_rows.specs.declared.row.Row.{Row}
use Rattle.cv_rows.specs.declared.nested.Nested.{Nested}
use Rattle.cv_rows.specs.declared.row_kind.RowKind.TheVariants.{Transition}
use Rattle.cv_rows.proofs.Lemmas.{stands_contained, same_by_key, fits_there, stands_long}
use Rattle.cv_cut.specs.Open.{FitsRow}
use Rattle.cv_cut.specs.Reached.{ReachedFrom, Reaches, Place, Decodes, FitsPlace, HasCatalogue, Misstates, BadFrom}
use Rattle.cv_cut.specs.Good.{HasSize}
use Rattle.cv_cut.specs.Opening.{MayFailFrom, IsUnread, Sizes, Opens, OpensNested, IsTransitionOf, IsUndecodable, IsBadNested, of_size, undecodable, below_id}
use Rattle.cv_cut.specs.OpeningInner.{Decoded, Fetched}
use Rattle.cv_cut.specs.declared.load_fault.LoadFault.{LoadFault}
use Rattle.cv_cut.specs.declared.load_fault.LoadFault.TheVariants as fault
use Rattle.cv_cut.proofs.RowFacts.{root_not}

-- ---- rows of a catalogue

-- a nested entry has its Transition row
pub transition_of : (c : Contents) (n : Nested) → IsCatalogue c → Contains c.nested n → (r : Row) × IsTransitionOf c n r
transition_of c n is has =
    let t = All-contains (λ (m : Nested). IsTransitionAt c.at c.rows m.path) c.nested n is.region.named has in
    (t.row, record { kind = t.kind; stands = t.stands })

-- it is the row that stands at the entry's path
pub transition_at : (c : Contents) (n : Nested) (r : Row) → IsCatalogue c → Contains c.nested n → StandsAt c.at c.rows r n.path → IsTransitionOf c n r
transition_at c n r is has stands =
    let t = transition_of c n is has in
    let one = fits_there c.at c.rows t.0 n.path is.ordered is.region.placed t.1.stands in
    let other = fits_there c.at c.rows r n.path is.ordered is.region.placed stands in
    subst (IsTransitionOf c n) (same_by_key c.rows t.0 r is.ordered (stands_contained t.1.stands) (stands_contained stands) (one.key ∙ sym other.key)) t.1

pub transition_long : {at : Path} {rows : List Row} {r : Row} {q : Path} → StandsAt at rows r q → r.kind ≡ Transition → length at < length q
transition_long {at} (root has is) kind = absurd (root_not at (sym is.kind ∙ kind))
transition_long {at} {rows} {r} (below {q = q} has other s child) kind = let l = stands_long s in omega (arith, l, length-append q (r.name ∷ []))

pub nested_long : (c : Contents) (n : Nested) → IsCatalogue c → Contains c.nested n → length c.at < length n.path
nested_long c n is has = let t = transition_of c n is has in transition_long t.1.stands t.1.kind

-- ---- decoding

pub fits_root : (c : Contents) (top transition : Row) (b : Bool) → IsCatalogue c → Contains c.rows top × IsRoot c.at top
    → IsTrue b ↔ (top ≡ record transition { kind = top.kind }) → IsTrue b ↔ FitsRow c transition
fits_root c top transition b is own same = (
  λ yes. (top, own.0, own.1, same.0 yes),
  λ fits. same.1 (let one = same_by_key c.rows fits.0 top is.ordered fits.1 own.0 (fits.2.key ∙ sym own.1.key) in subst (λ (r : Row). r ≡ record transition { kind = r.kind }) one fits.3),
)

-- ---- opening

pub same_id : (id : ObjectId) → id.kind ≡ id_kind.Catalogue → id ≡ object_id id.hash id_kind.Catalogue
same_id id kind = λ i. record { hash = id.hash; kind = kind i }

pub opens_unread : (shelf : Shelf) (id : ObjectId) (place : Place) (f : LoadFault) → Fetched shelf id (Err f) → Opens shelf id place (Err f)
opens_unread shelf id place (fault.Missing x) h = h
opens_unread shelf id place (fault.Bad x) h = absurd h
opens_unread shelf id place fault.Failed h = tt
opens_unread shelf id place (fault.Damaged x found) h = h
opens_unread shelf id place fault.NoMemory h = tt

pub opens : (shelf : Shelf) (id : ObjectId) (place : Place) (bytes : List ℕ) (answer : Result Contents LoadFault) → id.kind ≡ id_kind.Catalogue → (shelf id ≡ Some bytes) × (sha1 bytes ≡ id.hash)
    → Decoded place bytes id answer → Opens shelf id place answer
opens shelf id place bytes (Ok c) kind there h = record { bytes = bytes; there = ap shelf (sym (same_id id kind)) ∙ there.0; decodes = h; digest = there.1 }
opens shelf id place bytes (Err (fault.Missing x)) kind there h = absurd h
opens shelf id place bytes (Err (fault.Bad x)) kind there h = (h.0, record { bytes = bytes; there = there.0; none = h.1 })
opens shelf id place bytes (Err fault.Failed) kind there h = absurd h
opens shelf id place bytes (Err (fault.Damaged x found)) kind there h = absurd h
opens shelf id place bytes (Err fault.NoMemory) kind there h = tt

-- an object that isn't there, or hasn't the size that a catalogue states
abbrev pub Unsized : Shelf → ObjectId → ℕ → ObjectId → LoadFault → Type 0
Unsized shelf id size owner f = Sizes shelf id size owner {X = Unit {0}} (Err f)

-- why an object that a nested entry names hasn't its size
pub nested_unsized : (shelf : Shelf) (id : ObjectId) (c : Contents) (n : Nested) (f : LoadFault) → Unsized shelf (below_id n) n.size id f → OpensNested shelf id c n (Err f)
nested_unsized shelf id c n (fault.Missing x) h = h
nested_unsized shelf id c n (fault.Bad x) h = subst (IsBadNested shelf id c n) (sym h.0) (of_size h.1)
nested_unsized shelf id c n fault.Failed h = tt
nested_unsized shelf id c n (fault.Damaged x found) h = absurd h
nested_unsized shelf id c n fault.NoMemory h = tt

-- the catalogue that a nested entry names, or why not
opens_nested : (shelf : Shelf) (id : ObjectId) (c : Contents) (n : Nested) (r : Row) (answer : Result Contents LoadFault) → IsTransitionOf c n r
    → HasSize shelf (below_id n) n.size → Opens shelf (below_id n) (record { path = n.path; row = Some r }) answer → OpensNested shelf id c n answer
opens_nested shelf id c n r (Ok opened) t size h = record { row = r; kind_ = t.kind; stands = t.stands; size = size; opened = h }
opens_nested shelf id c n r (Err (fault.Missing x)) t size h = h
opens_nested shelf id c n r (Err (fault.Bad x)) t size h = subst (IsBadNested shelf id c n) (sym h.0) (undecodable r t h.1)
opens_nested shelf id c n r (Err fault.Failed) t size h = tt
opens_nested shelf id c n r (Err (fault.Damaged x found)) t size h = h
opens_nested shelf id c n r (Err fault.NoMemory) t size h = tt

-- it is opened with the row that is found at the entry's path
pub opens_found : (shelf : Shelf) (id : ObjectId) (c : Contents) (n : Nested) (found : Option (Bor Row)) (answer : Result Contents LoadFault) → IsCatalogue c → Contains c.nested n
    → MatchOption found ((r : Row) → StandsAt c.at c.rows r n.path → ⊥) (λ row. StandsAt c.at c.rows row.now n.path)
    → HasSize shelf (below_id n) n.size → Opens shelf (below_id n) (record { path = n.path; row = option_copied found }) answer → OpensNested shelf id c n answer
opens_found shelf id c n None answer is has none size h = absurd (let t = transition_of c n is has in none t.0 t.1.stands)
opens_found shelf id c n (Some row) answer is has stands size h = opens_nested shelf id c n row.now answer (transition_at c n row.now is has stands) size h

-- ---- what is there and decodes is opened, unless the shelf fails or memory is wanted

-- bytes of another size
pub misstated : (o : Option (List ℕ)) (size : ℕ) → IsSomeAnd o (λ bytes. length bytes ≢ size) → (bytes : List ℕ) × (o ≡ Some bytes) × (length bytes ≢ size)
misstated None size h = absurd h
misstated (Some bytes) size h = (bytes, refl, h)

undamaged : (shelf : Shelf) (id : ObjectId) (found bytes : List ℕ) → shelf id ≡ Some bytes → sha1 bytes ≡ id.hash → HasOtherDigest shelf id found → ⊥
undamaged shelf id found bytes there hash h = h.other (h.digest ∙ ap sha1 (some_same (shelf id) h.bytes bytes h.there there) ∙ hash)

decodable : (shelf : Shelf) (id : ObjectId) (place : Place) (bytes : List ℕ) (c : Contents) → shelf id ≡ Some bytes → Decodes place bytes c → IsUndecodable shelf id place → ⊥
decodable shelf id place bytes c there decodes u = u.none c (subst (λ (b : List ℕ). Decodes place b c) (sym (some_same (shelf id) u.bytes bytes u.there there)) decodes)

pub opens_there : (shelf : Shelf) (id : ObjectId) (place : Place) (bytes : List ℕ) (c : Contents) (f : LoadFault) → shelf id ≡ Some bytes → sha1 bytes ≡ id.hash → Decodes place bytes c
    → Opens shelf id place (Err f) → IsUnread f
opens_there shelf id place bytes c (fault.Missing x) there hash decodes h = not_both (shelf id) bytes there h.1
opens_there shelf id place bytes c (fault.Bad x) there hash decodes h = decodable shelf id place bytes c there decodes h.1
opens_there shelf id place bytes c fault.Failed there hash decodes h = tt
opens_there shelf id place bytes c (fault.Damaged x found) there hash decodes h = undamaged shelf id found bytes there hash h.1
opens_there shelf id place bytes c fault.NoMemory there hash decodes h = tt

sized_there : (o : Option (List ℕ)) (bytes : List ℕ) (size : ℕ) → o ≡ Some bytes → length bytes ≡ size → IsSomeAnd o (λ b. length b ≢ size) → ⊥
sized_there o bytes size there long h = (let k : IsSomeAnd (Some bytes) (λ b. length b ≢ size) = subst (λ (x : Option (List ℕ)). IsSomeAnd x (λ b. length b ≢ size)) there h in k long)

-- the bytes of a nested entry, which have its length and decode at its place under its Transition row
pub record IsThere (shelf : Shelf) (c : Contents) (n : Nested) : Type 0 where
  pub bytes : List ℕ
  pub there : shelf (below_id n) ≡ Some bytes
  pub hash : sha1 bytes ≡ n.hash
  pub size : length bytes ≡ n.size
  pub decodes : (r : Row) → IsTransitionOf c n r → (d : Contents) × Decodes (record { path = n.path; row = Some r }) bytes d

good_nested : (shelf : Shelf) (id : ObjectId) (c : Contents) (n : Nested) (x : ObjectId) → IsThere shelf c n → IsBadNested shelf id c n x → ⊥
good_nested shelf id c n x is (of_size h) = sized_there (shelf (below_id n)) is.bytes n.size is.there is.size h
good_nested shelf id c n x is (undecodable r t u) = let d = is.decodes r t in decodable shelf (below_id n) (record { path = n.path; row = Some r }) is.bytes d.0 is.there d.1 u

pub nested_there : (shelf : Shelf) (id : ObjectId) (c : Contents) (n : Nested) (f : LoadFault) → IsThere shelf c n → OpensNested shelf id c n (Err f) → IsUnread f
nested_there shelf id c n (fault.Missing x) is h = not_both (shelf (below_id n)) is.bytes is.there h.1
nested_there shelf id c n (fault.Bad x) is h = good_nested shelf id c n x is h
nested_there shelf id c n fault.Failed is h = tt
nested_there shelf id c n (fault.Damaged x found) is h = undamaged shelf (below_id n) found is.bytes is.there is.hash h.1
nested_there shelf id c n fault.NoMemory is h = tt

-- ---- causes

module _ (shelf : Shelf) (from : List ℕ) (start : Place) where
  lacking : (id x : ObjectId) → ReachedFrom shelf from start id → x ≡ id → shelf id ≡ None → ReachedFrom shelf from start x × (shelf x ≡ None)
  lacking id x reached same none = (subst (ReachedFrom shelf from start) (sym same) reached, ap shelf same ∙ none)

  undecodable_bad : (id x : ObjectId) (place : Place) → id.kind ≡ id_kind.Catalogue → Reaches shelf from start id.hash place → x ≡ id → IsUndecodable shelf id place → BadFrom shelf from start x
  undecodable_bad id x place kind reached same u = record {
    hash = id.hash;
    is = same ∙ same_id id kind;
    place = place;
    reached = reached;
    bytes = u.bytes;
    there = ap shelf same ∙ u.there;
    wrong = inl u.none;
  }

  -- a catalogue that is reached and misstates a size is bad
  pub misstating_bad : (id x : ObjectId) (place : Place) (c : Contents) → id.kind ≡ id_kind.Catalogue → Reaches shelf from start id.hash place → HasCatalogue shelf id.hash place c
      → x ≡ id → Misstates shelf c → BadFrom shelf from start x
  misstating_bad id x place c kind reached has same wrong = record {
    hash = id.hash;
    is = same ∙ same_id id kind;
    place = place;
    reached = reached;
    bytes = has.bytes;
    there = ap shelf (same ∙ same_id id kind) ∙ has.there;
    wrong = inr (c, has.decodes, wrong);
  }

  damaged : (id x : ObjectId) (found : List ℕ) → id.kind ≡ id_kind.Catalogue → ReachedFrom shelf from start id → x ≡ id → HasOtherDigest shelf id found → MayFailFrom shelf from start (fault.Damaged x found)
  damaged id x found kind reached same h = subst (λ (y : ObjectId). MayFailFrom shelf from start (fault.Damaged y found)) (sym same) (record { kind = kind; reached = reached; damage = h })

  reached_id : (id : ObjectId) (place : Place) → id.kind ≡ id_kind.Catalogue → Reaches shelf from start id.hash place → ReachedFrom shelf from start id
  reached_id id place kind reached = subst (ReachedFrom shelf from start) (sym (same_id id kind)) (ReachedFrom.catalogue_ reached)

  -- why a catalogue that is reached wasn't opened
  pub unopened : (id : ObjectId) (place : Place) (f : LoadFault) → id.kind ≡ id_kind.Catalogue → Reaches shelf from start id.hash place → Opens shelf id place (Err f) → MayFailFrom shelf from start f
  unopened id place (fault.Missing x) kind reached h = lacking id x (reached_id id place kind reached) h.0 h.1
  unopened id place (fault.Bad x) kind reached h = undecodable_bad id x place kind reached h.0 h.1
  unopened id place fault.Failed kind reached h = tt
  unopened id place (fault.Damaged x found) kind reached h = damaged id x found kind (reached_id id place kind reached) h.0 h.1
  unopened id place fault.NoMemory kind reached h = tt

  -- why a nested one of it wasn't
  module _ (id : ObjectId) (place : Place) (c : Contents) (n : Nested) (kind : id.kind ≡ id_kind.Catalogue) (reached : Reaches shelf from start id.hash place) (has : HasCatalogue shelf id.hash place c) (there : Contains c.nested n) where
    nested_reached : (r : Row) → IsTransitionOf c n r → Reaches shelf from start n.hash (record { path = n.path; row = Some r })
    nested_reached r t = Reaches.nested reached has there t.kind t.stands

    nested_reached_id : ReachedFrom shelf from start (below_id n)
    nested_reached_id = let t = transition_of c n has.decodes.is there in ReachedFrom.catalogue_ (nested_reached t.0 t.1)

    nested_bad : (x : ObjectId) → IsBadNested shelf id c n x → BadFrom shelf from start x
    nested_bad x (of_size h) = let m = misstated (shelf (below_id n)) n.size h in misstating_bad id id place c kind reached has refl (Misstates.nested there m.1 m.2)
    nested_bad x (undecodable r t u) = undecodable_bad (below_id n) (below_id n) (record { path = n.path; row = Some r }) refl (nested_reached r t) refl u

    pub nested_unopened : (f : LoadFault) → OpensNested shelf id c n (Err f) → MayFailFrom shelf from start f
    nested_unopened (fault.Missing x) h = lacking (below_id n) x nested_reached_id h.0 h.1
    nested_unopened (fault.Bad x) h = nested_bad x h
    nested_unopened fault.Failed h = tt
    nested_unopened (fault.Damaged x found) h = damaged (below_id n) x found refl nested_reached_id h.0 h.1
    nested_unopened fault.NoMemory h = tt

-- ---- a catalogue at its place

-- of another path
pub elsewhere : (c : Contents) (at given : Path) (row : Option Row) → at ≡ c.at → same_path at given ≡ false → FitsPlace (record { path = given; row = row }) c → ⊥
elsewhere c at given row here other fits =
    let e : true ≡ false = sym (ap is_eq (tied_itself path_total at)) ∙ ap (same_path at) (here ∙ fits.at) ∙ other in
    cc

-- of its own
pub of_path : (c : Contents) (at given : Path) → at ≡ c.at → same_path at given ≡ true → c.at ≡ given
of_path c at given here same = sym here ∙ same_path_is at given same

pub by_row : (c : Contents) (at : Path) (t : Row) (row : Option Row) (b : Bool) → c.at ≡ at → row ≡ Some t → IsTrue b ↔ FitsRow c t → IsTrue b ↔ FitsPlace (record { path = at; row = row }) c
by_row c at t row b place is test = (
  λ yes. record { at = place; row = subst (λ (r : Option Row). IfSome r (FitsRow c)) (sym is) (test.0 yes) },
  λ fits. test.1 (subst (λ (r : Option Row). IfSome r (FitsRow c)) is fits.row),
)

pub by_none : (c : Contents) (at : Path) (row : Option Row) → c.at ≡ at → row ≡ None → IsTrue true ↔ FitsPlace (record { path = at; row = row }) c
by_none c at row place is = (λ yes. record { at = place; row = subst (λ (r : Option Row). IfSome r (FitsRow c)) (sym is) tt }, λ fits. refl)
