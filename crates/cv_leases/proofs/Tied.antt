-- The queue and the names as entries come and go.
use Rattle.std.proofs.Common.{◌≡◌, ◌≢◌, true, false, List, [], ◌∷◌, ◌++◌, Option, None, Some, IsSome, Contains, refl, sym, ap, subst, ◌∙◌, inl, inr}
use Rattle.std.proofs.lemmas.Option.{same_Some}
use Rattle.std.proofs.lemmas.List.Elements.{Contains-append_left, Contains-append_right, Contains-append_cases}
use Rattle.std.specs.List.{filter, last_or}
use Rattle.cv_base.specs.Path.{Path, overlap}
use Rattle.cv_links.specs.declared.id.Id.{Id}
use Rattle.cv_links.specs.declared.arena.Arena.{Arena}
use Rattle.cv_links.specs.Arena.{value_at, Puts, SameContents, SameValues}
use Rattle.cv_links.specs.Chains.{AreApart, list_of, IsTakenOut, SameLists}
use Rattle.cv_links.proofs.Laws.{here, later, cons_cases, none_within, split, id_cases, live_in}
use Rattle.cv_leases.specs.declared.queue.Entry.{Entry}
use Rattle.cv_leases.specs.declared.queue.Queue.{Queue}
use Rattle.cv_leases.specs.declared.names.Names.{Names}
use Rattle.cv_leases.specs.declared.names.Place.{Place}
use Rattle.cv_leases.specs.Leases.{busy}
use Rattle.cv_leases.specs.Queue.{before_rest, leases_by, leases_in, ids_of, IsQueue}
use Rattle.cv_leases.specs.Names.{is_leased, below_of, place_of, IsLeasedAt}
use Rattle.cv_leases.specs.NamesInner.{meets, SameLeased, Begins, Ends}
use Rattle.cv_leases.specs.Linked.{Holds, AreTied}
use Rattle.cv_leases.specs.LinkedInner.{TakesOut, PutsIn, SameEntries}
use Rattle.cv_leases.proofs.Reaching.{clear}
use Rattle.cv_leases.proofs.Queues.{absent, gone}

-- ---- the queue

pub takes_out : (old new : Queue) (mid : Arena Entry) (id : Id) → IsQueue old → Contains (ids_of old) id → IsTakenOut (ids_of old) (list_of mid new.order) id
    → SameContents old.entries mid → Puts mid new.entries id None → list_of new.entries new.order ≡ list_of mid new.order → TakesOut old new id
takes_out old new mid id whole within out same puts list =
    let parts = split (ids_of old) id within in
    let ids : ids_of new ≡ parts.0 ++ parts.1 = list ∙ out parts.0 parts.1 parts.2 in
    let apart : AreApart (parts.0 ++ id ∷ parts.1) = subst AreApart parts.2 whole.chain.apart in
    record {
      left = λ other entry h.
          let inside : Contains (parts.0 ++ parts.1) other = subst (λ l. Contains l other) ids h.within in
          let away : other ≢ id = absent parts.0 parts.1 id other apart inside in
          let was : Contains (parts.0 ++ id ∷ parts.1) other = elim (Contains-append_cases parts.0 parts.1 other inside) [
            | inl p ↦ Contains-append_left parts.0 (id ∷ parts.1) other p
            | inr p ↦ Contains-append_right parts.0 (id ∷ parts.1) other (later id parts.1 other p)
          ] in
          (away, record { within = subst (λ l. Contains l other) (sym parts.2) was; entry = sym (puts.others other away ∙ same.values other) ∙ h.entry });
      kept = λ other entry away h.
          let was : Contains (parts.0 ++ id ∷ parts.1) other = subst (λ l. Contains l other) parts.2 h.within in
          let inside : Contains (parts.0 ++ parts.1) other = elim (Contains-append_cases parts.0 (id ∷ parts.1) other was) [
            | inl p ↦ Contains-append_left parts.0 parts.1 other p
            | inr p ↦ elim (cons_cases id parts.1 other p) [
              | inl is ↦ absurd (away (sym is))
              | inr q ↦ Contains-append_right parts.0 parts.1 other q
            ]
          ] in
          record { within = subst (λ l. Contains l other) (sym ids) inside; entry = puts.others other away ∙ same.values other ∙ h.entry };
    }

pub puts_in : (old new : Queue) (mid : Arena Entry) (id : Id) (entry : Entry) → IsQueue old → value_at old.entries id ≡ None
    → Puts old.entries mid id (Some entry) → list_of new.entries new.order ≡ list_of mid old.order ++ id ∷ [] → list_of mid old.order ≡ ids_of old
    → SameContents mid new.entries → PutsIn old new entry
puts_in old new mid id entry whole fresh puts list kept same =
    let ids : ids_of new ≡ ids_of old ++ id ∷ [] = list ∙ ap (λ l. l ++ id ∷ []) kept in
    record {
      id = id;
      here = record {
        within = subst (λ l. Contains l id) (sym ids) (Contains-append_right (ids_of old) (id ∷ []) id (here id []));
        entry = same.values id ∙ puts.here;
      };
      others = λ other e h. elim (id_cases other id) [
        | inl is ↦ inl (is, same_Some e entry (sym h.entry ∙ ap (value_at new.entries) is ∙ same.values id ∙ puts.here))
        | inr away ↦ inr (
          away,
          record {
            within = elim (Contains-append_cases (ids_of old) (id ∷ []) other (subst (λ l. Contains l other) ids h.within)) [
              | inl p ↦ p
              | inr p ↦ elim (cons_cases id [] other p) [ inl is ↦ absurd (away (sym is)) | inr never ↦ absurd (none_within other never) ]
            ];
            entry = sym (same.values other ∙ puts.others other away) ∙ h.entry;
          },
        )
      ];
      kept = λ other e h.
          let away : other ≢ id = gone old.entries id other fresh (live_in old.entries old.order (ids_of old) other whole.chain h.within) in
          record { within = subst (λ l. Contains l other) (sym ids) (Contains-append_left (ids_of old) (id ∷ []) other h.within); entry = same.values other ∙ puts.others other away ∙ h.entry };
    }

pub none_stored : (q : Queue) (after : Arena Entry) → IsQueue q → SameLists q.entries after → SameValues q.entries after → SameEntries q (record q { entries = after })
none_stored q after whole lists values =
    let list = (lists q.order whole.chain).list in
    record {
      was = λ id e h. record { within = subst (λ l. Contains l id) list h.within; entry = sym (values id) ∙ h.entry };
      is = λ id e h. record { within = subst (λ l. Contains l id) (sym list) h.within; entry = values id ∙ h.entry };
    }

-- ---- the names

-- where a path meets no lease, the table has none that overlaps it
pub none_busy : (q : Queue) (names : Names) (path : Path) → AreTied q names → meets (value_at names.places) (below_of names.places) path names.root ≡ false → busy (leases_in q) path ≡ None
none_busy q names path tied free = none (ids_of q) (λ id entry m v. record { within = m; entry = v })
  where
    apart : (entry : Entry) (id : Id) → Holds q id entry → overlap entry.lease.path path ≡ false
    apart entry id h =
        let at = tied.places id entry h in
        clear (value_at names.places) (below_of names.places) path entry.lease.path names.root entry.place free at.place at.leased

    none : (ids : List Id) → ((id : Id) (entry : Entry) → Contains ids id → value_at q.entries id ≡ Some entry → Holds q id entry)
        → last_or None (filter (λ lease. overlap lease.path path) (leases_by (value_at q.entries) ids)) ≡ None
    none [] hold = refl
    none (id ∷ ids) hold = each (value_at q.entries id) refl (none ids (λ i e m v. hold i e (later id ids i m) v))
      where
        each : (o : Option Entry) → value_at q.entries id ≡ o → last_or None (filter (λ lease. overlap lease.path path) (leases_by (value_at q.entries) ids)) ≡ None
            → last_or None (filter (λ lease. overlap lease.path path) (before_rest o (leases_by (value_at q.entries) ids))) ≡ None
        each None v rest = rest
        each (Some entry) v rest = rw (apart entry id (hold id entry (here id ids) v)) rest

-- both as an entry leaves
pub tied_out : (old new : Queue) (before after : Names) (id : Id) (entry : Entry) → AreTied old before → Holds old id entry → TakesOut old new id → Ends before after entry.place → AreTied new after
tied_out old new before after id entry tied held out ends = record {
  places = λ other e h.
      let was = out.left other e h in
      ends.kept e.lease.path e.place (tied.apart other id e entry was.0 was.1 held) (tied.places other e was.1);
  apart = λ i j e f differ h k. tied.apart i j e f differ (out.left i e h).1 (out.left j f k).1;
  only = λ place leased.
      let was = ends.none place leased in
      let has = tied.only place was.1 in
      record {
        id = has.id;
        entry = has.entry;
        place = has.place;
        holds = elim (id_cases has.id id) [
          | inl same ↦ absurd (was.0 (sym has.place ∙ ap (λ (e : Entry). e.place) (same_Some has.entry entry (sym has.holds.entry ∙ ap (value_at old.entries) same ∙ held.entry))))
          | inr away ↦ out.kept has.id has.entry away has.holds
        ];
      };
}

-- both as an entry comes, whose place no lease ended at
pub tied_in : (old new : Queue) (before mid after : Names) (entry : Entry) → AreTied old before → SameLeased before mid → PutsIn old new entry → place_of mid entry.lease.path ≡ Some entry.place
    → is_leased (value_at mid.places entry.place) ≡ false → Begins mid after entry.place → AreTied new after
tied_in old new before mid after entry tied same puts place free begins = record {
  places = λ id e h. elim (puts.others id e h) [
    | inl is ↦ subst (λ (x : Entry). IsLeasedAt after x.lease.path x.place) (sym is.1) (begins.here entry.lease.path place)
    | inr was ↦ begins.kept e.lease.path e.place (same.kept e.lease.path e.place (tied.places id e was.1))
  ];
  apart = λ i j e f differ h k. elim (puts.others i e h) [
    | inl is ↦ elim (puts.others j f k) [
      | inl too ↦ absurd (differ (is.0 ∙ sym too.0))
      | inr was ↦ λ at. free_is j f was.1 (sym at ∙ ap (λ (x : Entry). x.place) is.1)
    ]
    | inr was ↦ elim (puts.others j f k) [
      | inl too ↦ λ at. free_is i e was.1 (at ∙ ap (λ (x : Entry). x.place) too.1)
      | inr other ↦ tied.apart i j e f differ was.1 other.1
    ]
  ];
  only = λ at leased. elim (id_cases at entry.place) [
    | inl is ↦ record { id = puts.id; entry = entry; holds = puts.here; place = sym is }
    | inr away ↦
        let has = tied.only at (same.none at (begins.none at away leased)) in
        record { id = has.id; entry = has.entry; holds = puts.kept has.id has.entry has.holds; place = has.place }
  ];
}
  where
    free_is : (i : Id) (e : Entry) → Holds old i e → e.place ≡ entry.place → ⊥
    free_is i e h at =
        let leased = (same.kept e.lease.path e.place (tied.places i e h)).leased in
        let is : is_leased (value_at mid.places entry.place) ≡ true = ap (λ x. is_leased (value_at mid.places x)) (sym at) ∙ leased in absurd cc

-- both as neither changes but for names without a lease
pub tied_same : (old new : Queue) (before after : Names) → AreTied old before → SameEntries old new → SameLeased before after → AreTied new after
tied_same old new before after tied entries same = record {
  places = λ id e h. same.kept e.lease.path e.place (tied.places id e (entries.was id e h));
  apart = λ i j e f differ h k. tied.apart i j e f differ (entries.was i e h) (entries.was j f k);
  only = λ place leased. let has = tied.only place (same.none place leased) in record { id = has.id; entry = has.entry; holds = entries.is has.id has.entry has.holds; place = has.place };
}

pub same_entries : (q : Queue) → SameEntries q q
same_entries q = record { was = λ id e h. h; is = λ id e h. h }

pub leased_live : (o : Option Place) → is_leased o ≡ true → IsSome o
leased_live None e = absurd cc
leased_live (Some place) e = refl

pub tied_new : (q : Queue) (names : Names) → ((id : Id) → value_at q.entries id ≡ None) → ((id : Id) → value_at names.places id ≡ None) → AreTied q names
tied_new q names no_entry no_place = record {
  places = λ id e h. absurd (no id e h);
  apart = λ i j e f differ h k. absurd (no i e h);
  only = λ place leased. let none : is_leased (value_at names.places place) ≡ false = ap is_leased (no_place place) in absurd cc;
}
  where
    no : (id : Id) (e : Entry) → Holds q id e → ⊥
    no id e h = let none = no_entry id in let some = h.entry in cc
