-- The catalogues that a client keeps.
use Rattle.std.proofs.Common.{◌≡◌, ℕ, ◌↔◌, Bool, IsTrue, List, [], ◌∷◌, sym, ap, subst, ◌∙◌, inl, inr, OnOk, OnErr, bytes_eq}
use Rattle.std.specs.Prelude.{Contains}
use Rattle.std.specs.declared.option.Option.{Option}
use Rattle.std.specs.declared.option.Option.TheVariants.{Some}
use Rattle.std.specs.declared.result.Result.{Result}
use Rattle.std.specs.declared.result.Result.TheVariants.{Ok, Err}
use Rattle.std.specs.Map.{lookup}
use Rattle.std.proofs.lemmas.List.Elements.{Contains-push}
use Rattle.std.proofs.lemmas.Slice.Eq.{bytes_eq-Decides}
use Rattle.lru.specs.LruCache.{promoted, put_entries}
use Rattle.lru.proofs.CallerLemmas.{Contains-lookup, Contains-promoted, Contains-put_entries}
use Rattle.cv_tree.specs.Tree.{Nodes}
use Rattle.cv_rows.specs.Catalogue.{Contents, catalogue_bytes}
use Rattle.cv_rows.specs.declared.row.Row.{Row}
use Rattle.cv_cut.specs.Reached.{FitsPlace}
use Rattle.cv_cut.proofs.Lemmas.{comes_from, goes_to}
use Rattle.cv_resolver.specs.Spot.{place_of}
use Rattle.cv_resolver.specs.Kept.{Kept, Holds, IsKept, AreKept, used, with_catalogue, AreOwn, kept_bytes}
use Rattle.cv_resolver.specs.declared.spot.Level.{Level}

-- what is found under a digest is there under it
pub found_in : (es : List (List ℕ × Contents)) (hash : List ℕ) (c : Contents) → Some c ≡ lookup (bytes_eq hash) es → Contains es (hash, c)
found_in es hash c found =
    let f = Contains-lookup (bytes_eq hash) es c (sym found) in
    let key : hash ≡ f.0 = (bytes_eq-Decides hash f.0).0 f.2 in
    subst (λ (h : List ℕ). Contains es (h, c)) (sym key) f.1

pub there_found : (k view : Kept) (l : Level) (c : Contents) → view ≡ k → Some c ≡ lookup (bytes_eq l.hash) view.entries → lookup (bytes_eq l.hash) k.entries ≡ Some c
there_found k view l c same found = subst (λ (x : Kept). lookup (bytes_eq l.hash) x.entries ≡ Some c) same (sym found)

pub place_found : (k view : Kept) (l : Level) (c : Contents) → view ≡ k → Some c ≡ lookup (bytes_eq l.hash) view.entries → Holds k l → FitsPlace (place_of l) c
place_found k view l c same found h =
    let both : Some c ≡ Some h.found = sym (there_found k view l c same found) ∙ h.there in
    let one : c ≡ h.found = cc in
    subst (FitsPlace (place_of l)) (sym one) h.place

pub holds_here : (k view : Kept) (l : Level) (c : Contents) (row : Option Row) (b : Bool) → view ≡ k → Some c ≡ lookup (bytes_eq l.hash) view.entries → row ≡ l.row
    → IsTrue b ↔ FitsPlace (record { path = l.path; row = row }) c → IsTrue b ↔ Holds k l
holds_here k view l c row b same found rows test = (
  λ yes. record {
    found = c;
    there = there_found k view l c same found;
    place = subst (λ (x : Option Row). FitsPlace (record { path = l.path; row = x }) c) rows (test.0 yes);
  },
  λ h.
      test.1 (subst (λ (x : Option Row). FitsPlace (record { path = l.path; row = x }) c) (sym rows) (place_found k view l c same found h)),
)

-- ---- each is kept under its digest

pub kept_promoted : (es : List (List ℕ × Contents)) (hash : List ℕ) → AreKept es → AreKept (promoted (bytes_eq hash) es)
kept_promoted es hash kept = record { each = λ h c has. kept.each h c (Contains-promoted (bytes_eq hash) es (h, c) has) }

pub kept_one : (k : Kept) (hash : List ℕ) (c : Contents) → AreKept k.entries → IsKept hash c → AreKept (put_entries bytes_eq k hash c)
kept_one k hash c kept new = record {
  each = λ h d has. elim (Contains-put_entries bytes_eq k hash c (h, d) has) [
    | inl old ↦ kept.each h d old
    | inr put ↦
        let key : hash ≡ h = elim put.1 [ inl same ↦ sym same | inr was ↦ (bytes_eq-Decides hash h).0 was.2 ] in
        subst (λ (x : List ℕ). IsKept x d) key (subst (IsKept hash) (sym put.0) new)
  ];
}

pub kept_put : {X E : Type 0} (k after : Kept) (r : Result X E) (hash : List ℕ) (c : Contents) → AreKept k.entries → IsKept hash c → OnOk r (after ≡ with_catalogue k hash c) → OnErr r (after ≡ k) → AreKept after.entries
kept_put k after (Ok x) hash c kept new put failed = subst (λ (x : Kept). AreKept x.entries) (sym put) (kept_one k hash c kept new)
kept_put k after (Err e) hash c kept new put failed = subst (λ (x : Kept). AreKept x.entries) (sym failed) kept

-- ---- in a tree

abbrev bytes_in : List ℕ × Contents → List ℕ
bytes_in e = catalogue_bytes e.1

-- a catalogue that was used shares no digest where it didn't before
pub own_used : (t : Nodes) (k : Kept) (hash : List ℕ) → AreOwn t (kept_bytes k) → AreOwn t (kept_bytes (used k hash))
own_used t k hash own = record {
  own = λ bytes c has cut same.
      let e = comes_from bytes_in (promoted (bytes_eq hash) k.entries) bytes has in
      let there : Contains (kept_bytes k) bytes = subst (Contains (kept_bytes k)) e.2 (goes_to bytes_in k.entries e.0 (Contains-promoted (bytes_eq hash) k.entries e.0 e.1)) in
      own.own bytes c there cut same;
}

-- nor with one that is put among them
pub own_put : (t : Nodes) (k : Kept) (hash bytes : List ℕ) (d : Contents) → bytes ≡ catalogue_bytes d → AreOwn t (kept_bytes k) → AreOwn t (bytes ∷ []) → AreOwn t (kept_bytes (with_catalogue k hash d))
own_put t k hash bytes d spelled own new = record {
  own = λ s c has cut same.
      let e = comes_from bytes_in (put_entries bytes_eq k hash d) s has in
      elim (Contains-put_entries bytes_eq k hash d e.0 e.1) [
        | inl old ↦ own.own s c (subst (Contains (kept_bytes k)) e.2 (goes_to bytes_in k.entries e.0 old)) cut same
        | inr put ↦
            let is : bytes ≡ s = spelled ∙ ap catalogue_bytes (sym put.0) ∙ e.2 in
            new.own s c (subst (Contains (bytes ∷ [])) is (Contains-push [] bytes)) cut same
      ];
}
