-- The catalogues of a tree that all rows of reached catalogues make are those catalogues.
use Rattle.std.proofs.Common.{◌≡◌, ◌≢◌, ℕ, zero, suc, ◌+◌, ◌<◌, ◌≤◌, true, List, [], ◌∷◌, ◌++◌, length, Some, IsSome, is_some, refl, sym, ap, subst, ◌∙◌, arith, append-nil}
use Rattle.std.specs.Prelude.{Contains}
use Rattle.std.specs.declared.option.Option.{Option}
use Rattle.std.specs.FinMap.{get}
use Rattle.std.specs.List.Sorted.{IsStrictlySortedBy}
use Rattle.std.proofs.lemmas.List.{append_cancel_left}
use Rattle.sha1.specs.Sha1.{sha1}
use Rattle.cv_base.specs.Marker.{marker}
use Rattle.cv_base.specs.Path.{Path}
use Rattle.cv_ports.specs.Shelf.{Shelf}
use Rattle.cv_tree.specs.Tree.{Nodes, at, is_directory, is_file}
use Rattle.cv_rows.specs.Catalogue.{Contents, catalogue_bytes}
use Rattle.cv_rows.specs.Places.{root}
use Rattle.cv_rows.specs.declared.nested.Nested.{Nested}
use Rattle.cv_rows.specs.declared.row_kind.RowKind.TheVariants.{Transition}
use Rattle.cv_cut.specs.Reached.{Place, ReachesCatalogue, nested}
use Rattle.cv_cut.specs.Cuts.{is_marked}
use Rattle.cv_base.specs.ObjectId.{object_id}
use Rattle.cv_base.specs.declared.id.Kind.TheVariants as id_kind
use Rattle.cv_cut.specs.Told.{node_of}
use Rattle.cv_tree.specs.Tree.{IsPart}
use Rattle.cv_load.proofs.Assembly.{IsWhole, full_of, node_there, open_marked}
use Rattle.cv_load.proofs.Standing.{IsOpen, Standing, rules_of, same_contents}
use Rattle.std.specs.Prelude.{IsSomeAnd}
use Rattle.cv_cut.specs.Catalogues.{kind_of}
use Rattle.cv_cut.proofs.Lemmas.{order_rises, same_list, cat_is, stands_at_cut, nested_list, texts_apart, nested_of-by_text, marked_transition, entries_are, transition_long, transition_of, marked-at}
use Rattle.cv_load.proofs.WholeRegions.{transition_marked, row_near}
use Rattle.cv_base.specs.Path.{text_of}
use Rattle.cv_base.proofs.Laws.{first_true}
use Rattle.cv_rows.specs.Catalogue.{nested_cmp, file_of}
use Rattle.cv_rows.proofs.Lemmas.{nested_total}
use Rattle.cv_tree.proofs.Laws.{IsPart-at}
use Rattle.cv_cut.specs.Cuts.{is_cut}
use Rattle.cv_cut.specs.Catalogues.{cat, nested_of, entry_of}
use Rattle.cv_load.proofs.WholeRegions.{names_open}
use Rattle.cv_load.proofs.OwnRows.{kind_is, near_of, same_rows}
use Rattle.cv_cut.specs.Good.{HasSize}
use Rattle.cv_cut.specs.Region.{IsOther, AreEntriesOf}

-- a marked directory is a cut, and so is the root
pub marked_cut : (t : Nodes) (p : Path) → (p ≢ [] → is_marked t p ≡ true) → is_cut t p ≡ true
marked_cut t [] h = refl
marked_cut t (a ∷ p) h = h (λ e. cc)

-- ---- one catalogue, where those below are as they should be

module _ {shelf : Shelf} {top : List ℕ} {t : Nodes} (whole : IsWhole shelf top t) where
  pub is_cut_open : {hash : List ℕ} {place : Place} {c : Contents} → IsOpen shelf top hash place c → is_cut t c.at ≡ true
  is_cut_open {c = c} o = marked_cut t c.at (open_marked whole o)

  pub some_open : {hash : List ℕ} {place : Place} {c : Contents} → IsOpen shelf top hash place c → IsSome (get t c.at)
  some_open {hash} {place} {c} o =
      let r = (rules_of o).region.root in
      ap is_some (node_there whole c.at (record { hash = hash; place = place; contents = c; open_ = o; row = r.0; stands = root r.1 r.2 }))

  pub part_open : {hash : List ℕ} {place : Place} {c : Contents} → IsOpen shelf top hash place c → IsPart (at t c.at)
  part_open {c = c} o = IsPart-at t c.at whole.tree.part (some_open o)

  -- the catalogue that a row names is as it should be
  abbrev pub IsSpelled : Path → Contents → Type 0
  IsSpelled p c = cat t p ≡ catalogue_bytes c

  -- those that the entries of c name are
  abbrev pub AreBelow : Contents → Type 0
  AreBelow c = (hash : List ℕ) (place : Place) (d : Contents) → IsOpen shelf top hash place d → length c.at < length d.at → IsSpelled d.at d

  entry_is : {hash : List ℕ} {place : Place} {c : Contents} (o : IsOpen shelf top hash place c) → AreBelow c → (n : Nested) → Contains c.nested n → (d : Path) × IsOther (at t c.at) d × (n ≡ entry_of (c.at ++ d) (cat t (c.at ++ d)))
  entry_is {hash} {place} {c} o deep n has =
      let rules = rules_of o in
      let tr = transition_of c n rules has in
      let s : Standing shelf top n.path = record { hash = hash; place = place; contents = c; open_ = o; row = tr.0; stands = tr.1.stands } in
      let near = near_of whole o tr.0 n.path tr.1.stands in
      let long = transition_long tr.1.stands tr.1.kind in
      let reached : ReachesCatalogue shelf top n.hash (record { path = n.path; row = Some tr.0 }) = nested o.reached o.has has tr.1.kind tr.1.stands in
      let f = full_of whole reached in
      let own : IsOpen shelf top n.hash (record { path = n.path; row = Some tr.0 }) f.contents = record { reached = reached; has = f.has } in
      let at_n : f.contents.at ≡ n.path = f.has.decodes.at in
      let bytes : cat t n.path ≡ catalogue_bytes f.contents =
      subst (λ (p : Path). cat t p ≡ catalogue_bytes f.contents) at_n (deep n.hash (record { path = n.path; row = Some tr.0 }) f.contents own (let size = ap (λ (p : Path). length p) at_n in omega (arith, long, size))) in
      let mine = full_of whole o.reached in
      let same = same_contents shelf hash hash place place c mine.contents refl refl o.has mine.has in
      let sized : HasSize shelf (object_id n.hash id_kind.Catalogue) n.size = mine.sizes n (subst (λ (x : Contents). Contains x.nested n) same has) in
      let length_is : length f.has.bytes ≡ n.size = subst (λ (b : Option (List ℕ)). IsSomeAnd b (λ bytes. length bytes ≡ n.size)) f.has.there sized in
      let size : n.size ≡ length (cat t n.path) = sym length_is ∙ ap (λ (b : List ℕ). length b) (f.has.decodes.spelled ∙ sym bytes) in
      let sha : n.hash ≡ sha1 (cat t n.path) = sym f.has.digest ∙ ap sha1 (f.has.decodes.spelled ∙ sym bytes) in
      let entry : n ≡ entry_of n.path (cat t n.path) = λ i. record { path = n.path; hash = sha i; size = size i } in (
        near.0,
        record {
          node_ = node_of tr.0;
          there = near.2;
          below = λ none. (let size = ap (λ (p : Path). length p) (near.1 ∙ ap (λ (x : Path). c.at ++ x) none ∙ append-nil c.at) in omega (arith, long, size));
          marked = sym (marked-at t c.at near.0) ∙ ap (is_marked t) (sym near.1) ∙ transition_marked whole n.path s tr.1.kind;
        },
        entry ∙ ap (λ (p : Path). entry_of p (cat t p)) near.1,
      )

  own_entries : {hash : List ℕ} {place : Place} {c : Contents} (o : IsOpen shelf top hash place c) → AreBelow c → AreEntriesOf c.at (at t c.at) (λ d. cat t (c.at ++ d)) c.nested
  own_entries {hash} {place} {c} o deep = record {
    each = entry_is o deep;
    all = λ d other.
        let h = row_near whole o (part_open o) d other.node_ other.there in
        let directory : is_directory (Some other.node_) ≡ true = ap is_directory (sym other.there.there) ∙ first_true (is_directory (get (at t c.at) d)) (is_file (get (at t c.at) (d ++ marker ∷ []))) other.marked in
        let kind : h.row.kind ≡ Transition =
        sym (kind_is whole o d h.row h.stands) ∙ ap (kind_of c.at (at t c.at) d) (sym h.is) ∙ marked_transition c.at (at t c.at) d other.node_ other.below directory other.marked in
        let names = names_open whole (c.at ++ d) (record { hash = hash; place = place; contents = c; open_ = o; row = h.row; stands = h.stands }) kind in
        let e = entry_is o deep names.entry names.has in
        let same : e.0 ≡ d = append_cancel_left c.at e.0 d (sym (ap (λ (n : Nested). n.path) e.2) ∙ names.path) in
        subst (Contains c.nested) (e.2 ∙ ap (λ (p : Path). entry_of (c.at ++ p) (cat t (c.at ++ p))) same) names.has;
  }

  same_entries : {hash : List ℕ} {place : Place} {c : Contents} (o : IsOpen shelf top hash place c) → AreBelow c → nested_of c.at (at t c.at) (λ d. cat t (c.at ++ d)) ≡ c.nested
  same_entries {c = c} o deep =
      let u = at t c.at in
      let file : Path → List ℕ = λ d. cat t (c.at ++ d) in
      let here = stands_at_cut t c.at whole.tree (is_cut_open o) in
      let made = entries_are c.at u file here in
      let own = own_entries o deep in
      let sorted = subst (IsStrictlySortedBy nested_cmp) (sym (nested_of-by_text c.at u file)) (order_rises (λ (n : Nested). text_of n.path) (nested_list c.at u file) (texts_apart c.at u file here)) in
      same_list nested_total (nested_of c.at u file) c.nested sorted (rules_of o).nested_ordered
      (λ n has. let e = made.each n has in subst (Contains c.nested) (sym e.2) (own.all e.0 e.1))
      (λ n has. let e = own.each n has in subst (Contains (nested_of c.at u file)) (sym e.2) (made.all e.0 e.1))

  spelled_from : {hash : List ℕ} {place : Place} {c : Contents} (o : IsOpen shelf top hash place c) → AreBelow c → IsSpelled c.at c
  spelled_from {c = c} o deep =
      let rows = same_rows whole o (part_open o) in
      let entries = same_entries o deep in
      cat_is t c.at whole.tree (some_open o) ∙ (λ i. file_of (rows i) (entries i))

  spelled_by : (n : ℕ) {hash : List ℕ} {place : Place} {c : Contents} (o : IsOpen shelf top hash place c) → 65 ≤ length c.at + n → IsSpelled c.at c
  spelled_by zero {c = c} o enough = absurd (let limit = (whole.tree.part.paths c.at (some_open o)).depth in omega (arith, enough, limit))
  spelled_by (suc n) {c = c} o enough = spelled_from o (λ hash place d own long. spelled_by n own (omega (arith, enough, long)))

  -- each catalogue that is reached is the canonical one of its place
  pub spelled : {hash : List ℕ} {place : Place} {c : Contents} (o : IsOpen shelf top hash place c) → IsSpelled c.at c
  spelled o = spelled_by 65 o (omega arith)
