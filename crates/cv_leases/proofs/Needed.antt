-- Places that a lease needs, as places and leases come and go.
use Rattle.std.proofs.Common.{◌≡◌, ◌≢◌, ◌⊎◌, ◌<◌, ◌≤◌, ◌+◌, ◌-◌, ℕ, true, false, List, [], ◌∷◌, ◌++◌, length, Option, None, Some, IfSome, is_some, Contains, refl, sym, ap, subst, ◌∙◌, inl, inr, arith}
use Rattle.std.proofs.lemmas.Option.{none-some, same_Some}
use Rattle.std.proofs.lemmas.List.{length-append}
use Rattle.cv_links.specs.declared.id.Id.{Id}
use Rattle.cv_links.specs.declared.arena.Arena.{Arena}
use Rattle.cv_links.specs.Arena.{value_at, IsLive, SameValues}
use Rattle.cv_links.proofs.Laws.{id_cases}
use Rattle.cv_leases.specs.declared.names.Place.{Place}
use Rattle.cv_leases.specs.declared.names.Names.{Names}
use Rattle.cv_leases.specs.Names.{is_leased, above_of, below_of, Climbs, IsOver, IsWithin, IsNames, IsNeeded, IsPruned}
use Rattle.cv_leases.specs.NamesInner.{IsPrunedBut, IsPrunedTo}
use Rattle.cv_leases.proofs.Trees.{IsAttached, above_live}
use Rattle.cv_leases.proofs.Pruned.{IsDetached}
use Rattle.cv_leases.proofs.Rooted.{Labels, Roots, aboves_labelled, lives_labelled}
use Rattle.cv_leases.proofs.Climbing.{climbs_kept, climbs_less, climbs_on, no_loop, within_kept, below_within, nearer}

-- a place that names one above it is live
names_live : (o : Option Place) (up : Id) → above_of o ≡ Some up → is_some o ≡ true
names_live None up e = absurd (none-some up e)
names_live (Some place) up e = refl

-- nothing is above the root
pub root_top : (names : Names) (root : Id) → IsNames names → names.root ≡ Some root → above_of (value_at names.places root) ≡ None
root_top names root whole e = (subst (λ o. IfSome o (λ i. IsLive names.places i × (above_of (value_at names.places i) ≡ None))) e whole.root).1

-- ---- a place that is needed, or the root

module _ (names : Names) (id : Id) (whole : IsNames names) (but : IsPrunedBut names id) where
  -- a lease ends there
  pub needed_here : is_leased (value_at names.places id) ≡ true → IsPruned names
  needed_here leased x live =
      elim (but x live) [
        | inl root ↦ inl root
        | inr more ↦ elim more [ inl need ↦ inr need | inr over ↦ inr (record { end = id; over = over; leased = leased }) ]
      ]

  -- a place is below it
  pub needed_below : IsLive names.places id → (kid : Id) → Contains (below_of names.places id) kid → IsPruned names
  needed_below lives kid within x live =
      elim (but x live) [
        | inl root ↦ inl root
        | inr more ↦ elim more [ inl need ↦ inr need | inr over ↦ inr (by_kid over (but kid (names_live (value_at names.places kid) id above))) ]
      ]
    where
      above : above_of (value_at names.places kid) ≡ Some id
      above = whole.tree.below id kid within

      loops : IsOver names.places kid id → ⊥
      loops over =
          let deep = whole.rooted id lives in
          let some : 0 < length (over.way ++ id ∷ []) = (let long = length-append over.way (id ∷ []) in omega (arith, long)) in
          no_loop 64 names.places deep.root (root_top names deep.root whole deep.is) deep.way (over.way ++ id ∷ []) id deep.short some deep.climbs
          (climbs_on names.places over.way (id ∷ []) id kid id over.climbs (above, refl))

      by_kid : IsOver names.places x id → (names.root ≡ Some kid) ⊎ IsNeeded names.places kid ⊎ IsOver names.places kid id → IsNeeded names.places x
      by_kid over (inl root) = absurd (none-some id (sym (root_top names kid whole root) ∙ above))
      by_kid over (inr (inl need)) = record {
        end = need.end;
        over = record { way = need.over.way ++ id ∷ over.way; climbs = climbs_on names.places need.over.way (id ∷ over.way) x kid need.end need.over.climbs (above, over.climbs) };
        leased = need.leased;
      }
      by_kid over (inr (inr loop)) = absurd (loops loop)

  pub needed_some : IsLive names.places id → (kid : Option Id) → is_some kid ≡ true → IfSome kid (λ i. Contains (below_of names.places id) i) → IsPruned names
  needed_some lives None some within = absurd cc
  needed_some lives (Some kid) some within = needed_below lives kid within

  -- it is the root
  pub needed_root : names.root ≡ Some id → IsPruned names
  needed_root root x live =
      elim (but x live) [
        | inl is ↦ inl is
        | inr more ↦ elim more [ inl need ↦ inr need | inr over ↦ inl (each over.way over.climbs) ]
      ]
    where
      each : (way : List Id) → Climbs names.places way x id → names.root ≡ Some x
      each [] k = root ∙ ap (λ i. Some i) k
      each (up ∷ way) k = absurd (none-some up (sym (root_top names id whole root) ∙ k.0))

-- ---- on the way up

-- where no name is left to go up by, the place is the root
pub pruned_last : (names : Names) (at : Option Id) (left : ℕ) → left ≤ 0 → IsNames names → IsPrunedTo names at → IfSome at (λ id. IsWithin names left id) → IsPruned names
pruned_last names None left none whole all near = all
pruned_last names (Some id) left none whole but near = needed_root names id whole but (each near.way near.climbs near.short)
  where
    each : (way : List Id) → Climbs names.places way near.root id → length way ≤ left → names.root ≡ Some id
    each [] k short = near.is ∙ ap (λ i. Some i) (sym k)
    each (up ∷ way) k short = absurd (omega (arith, short, none))

-- one name less
pub near_next : (old new : Names) (id : Id) (left : ℕ) (above : Option Id) → 0 < left → IfSome above (λ up. (depth : ℕ) → IsWithin old (depth + 1) id → IsWithin new depth up) → IsWithin old left id → IfSome above (λ up. IsWithin new (left - 1) up)
near_next old new id left None some goes near = tt
near_next old new id left (Some up) some goes near =
    let same : left ≡ (left - 1) + 1 = omega (arith, some) in
    goes (left - 1) (subst (λ n. IsWithin old n id) same near)

-- ---- one step after another

-- the names are as before, but for leases that come
pub record Stays (old new : Names) : Type 0 where
  pub root : new.root ≡ old.root
  pub lives : (i : Id) → IsLive new.places i → IsLive old.places i
  pub aboves : (i : Id) → above_of (value_at new.places i) ≡ above_of (value_at old.places i)
  pub leases : (i : Id) → is_leased (value_at old.places i) ≡ true → is_leased (value_at new.places i) ≡ true

module _ (old new : Names) (h : Stays old new) where
  keeps : (i up : Id) → above_of (value_at old.places i) ≡ Some up → above_of (value_at new.places i) ≡ Some up
  keeps i up e = h.aboves i ∙ e

  over_stays : (top from : Id) → IsOver old.places top from → IsOver new.places top from
  over_stays top from o = record { way = o.way; climbs = climbs_kept old.places new.places keeps o.way top from o.climbs }

  need_stays : (id : Id) → IsNeeded old.places id → IsNeeded new.places id
  need_stays id n = record { end = n.end; over = over_stays id n.end n.over; leased = h.leases n.end n.leased }

  pub but_stays : (at : Id) → IsPrunedBut old at → IsPrunedBut new at
  but_stays at but id live =
      elim (but id (h.lives id live)) [
        | inl root ↦ inl (h.root ∙ root)
        | inr more ↦ elim more [ inl need ↦ inr (inl (need_stays id need)) | inr over ↦ inr (inr (over_stays id at over)) ]
      ]

-- only room has changed
pub same_stays : (old : Names) (after : Arena Place) → SameValues old.places after → Stays old (record old { places = after })
same_stays old after values = record {
  root = refl;
  lives = λ i live. ap is_some (sym (values i)) ∙ live;
  aboves = λ i. ap above_of (values i);
  leases = λ i leased. ap is_leased (values i) ∙ leased;
}

-- a lease begins at a place
pub pruned_begins : (old new : Names) (id : Id) (place : Place) → IsNames old → IsNames new → new.root ≡ old.root → Labels old.places new.places id place true → IsPrunedBut old id → IsPruned new
pruned_begins old new id place whole then root h but = needed_here new id then (but_stays old new stays id but) (ap is_leased h.puts.here)
  where
    stays : Stays old new
    stays = record {
      root = root;
      lives = λ i live. sym (lives_labelled old.places new.places id place true whole.tree h i) ∙ live;
      aboves = aboves_labelled old.places new.places id place true whole.tree h;
      leases = λ i leased. elim (id_cases i id) [
        | inl same ↦ ap (λ j. is_leased (value_at new.places j)) same ∙ ap is_leased h.puts.here
        | inr away ↦ ap is_leased (h.puts.others i away) ∙ leased
      ];
    }

-- a lease ends at a place
pub pruned_ends : (old new : Names) (id : Id) (place : Place) → IsNames old → new.root ≡ old.root → Labels old.places new.places id place false → IsPruned old → IsPrunedBut new id
pruned_ends old new id place whole root h all x live =
    elim (all x (sym (lives_labelled old.places new.places id place false whole.tree h x) ∙ live)) [
      | inl is ↦ inl (root ∙ is)
      | inr need ↦ inr (elim (id_cases need.end id) [
        | inl same ↦ inr (subst (λ i. IsOver new.places x i) same (over need))
        | inr away ↦ inl (record { end = need.end; over = over need; leased = ap is_leased (h.puts.others need.end away) ∙ need.leased })
      ])
    ]
  where
    over : (need : IsNeeded old.places x) → IsOver new.places x need.end
    over need = record {
      way = need.over.way;
      climbs = climbs_kept old.places new.places (λ i up e. aboves_labelled old.places new.places id place false whole.tree h i ∙ e) need.over.way x need.end need.over.climbs;
    }

-- ---- a place that came

module _ (old new : Names) (up id : Id) (place : Place) (whole : IsNames old) (root : new.root ≡ old.root) (h : IsAttached old.places new.places up id place) (above : place.above ≡ Some up) where
  keeps_attached : (i u : Id) → above_of (value_at old.places i) ≡ Some u → above_of (value_at new.places i) ≡ Some u
  keeps_attached i u e = h.aboves i (λ same. above_live (value_at old.places i) u e (ap (value_at old.places) same ∙ h.fresh)) ∙ e

  above_new : above_of (value_at new.places id) ≡ Some up
  above_new = ap above_of h.here ∙ above

  pub within_attached : (depth : ℕ) → IsWithin old depth up → IsWithin new (depth + 1) id
  within_attached depth w = below_within new depth up id above_new (within_kept old new depth up root keeps_attached w)

  pub rooted_attached : IsWithin old 63 up → (i : Id) → IsLive new.places i → IsWithin new 64 i
  rooted_attached w i live =
      elim (id_cases i id) [
        | inl same ↦ subst (λ j. IsWithin new 64 j) (sym same) (within_attached 63 w)
        | inr away ↦ within_kept old new 64 i root keeps_attached (whole.rooted i (sym (h.lives i away) ∙ live))
      ]

  pub pruned_attached : IsPrunedBut old up → IsPrunedBut new id
  pruned_attached but i live =
      elim (id_cases i id) [
        | inl same ↦ inr (inr (record { way = []; climbs = sym same }))
        | inr away ↦ elim (but i (sym (h.lives i away) ∙ live)) [
          | inl is ↦ inl (root ∙ is)
          | inr more ↦ inr (elim more [
            | inl need ↦ inl (record {
              end = need.end;
              over = record { way = need.over.way; climbs = climbs_kept old.places new.places keeps_attached need.over.way i need.end need.over.climbs };
              leased = h.leases need.end (λ same. let none : is_leased (value_at old.places need.end) ≡ false = ap is_leased (ap (value_at old.places) same ∙ h.fresh) in let yes = need.leased in absurd cc) ∙ need.leased;
            })
            | inr over ↦ inr (record { way = up ∷ over.way; climbs = (above_new, climbs_kept old.places new.places keeps_attached over.way i up over.climbs) })
          ])
        ]
      ]

-- a place below another that was there
pub pruned_below : (names : Names) (up id : Id) → above_of (value_at names.places id) ≡ Some up → IsPrunedBut names up → IsPrunedBut names id
pruned_below names up id above but i live =
    elim (but i live) [
      | inl is ↦ inl is
      | inr more ↦ inr (elim more [ inl need ↦ inl need | inr over ↦ inr (record { way = up ∷ over.way; climbs = (above, over.climbs) }) ])
    ]

-- ---- a root that came

pub pruned_root : (old new : Names) (id : Id) (place : Place) → IsNames old → old.root ≡ None → new.root ≡ Some id → Roots old.places new.places id place → IsPruned new
pruned_root old new id place whole none root h i live =
    elim (id_cases i id) [
      | inl same ↦ inl (root ∙ ap (λ j. Some j) (sym same))
      | inr away ↦ (let was = whole.rooted i (ap is_some (sym (h.puts.others i away)) ∙ live) in absurd (none-some was.root (sym none ∙ was.is)))
    ]

-- ---- a place that left

module _ (old new : Names) (up id : Id) (whole : IsNames old) (root : new.root ≡ old.root) (h : IsDetached old.places new.places up id) where
  away_of : (i : Id) → IsLive new.places i → i ≢ id
  away_of i live same = (let gone : is_some (value_at new.places i) ≡ false = ap is_some (ap (value_at new.places) same ∙ h.gone) in absurd cc)

  climbs_left : (way : List Id) (top from : Id) → from ≢ id → Climbs old.places way top from → Climbs new.places way top from
  climbs_left = climbs_less old.places new.places id whole.tree h.leaf h.aboves

  above_id : above_of (value_at old.places id) ≡ Some up
  above_id = whole.tree.below up id h.within

  within_left : (depth : ℕ) (i : Id) → i ≢ id → IsWithin old depth i → IsWithin new depth i
  within_left depth i away w = record { root = w.root; is = root ∙ w.is; way = w.way; climbs = climbs_left w.way w.root i away w.climbs; short = w.short }

  pub rooted_detached : (i : Id) → IsLive new.places i → IsWithin new 64 i
  rooted_detached i live = (let away = away_of i live in within_left 64 i away (whole.rooted i (sym (h.lives i away) ∙ live)))

  pub nearer_detached : (depth : ℕ) → IsWithin old (depth + 1) id → IsWithin new depth up
  nearer_detached depth w = within_left depth up h.differ (nearer old depth up id above_id (λ r e. root_top old r whole e) w)

  pub pruned_detached : is_leased (value_at old.places id) ≡ false → IsPrunedBut old id → IsPrunedBut new up
  pruned_detached unleased but i live =
      let away = away_of i live in
      elim (but i (sym (h.lives i away) ∙ live)) [
        | inl is ↦ inl (root ∙ is)
        | inr more ↦ inr (elim more [
          | inl need ↦ inl (by_lease need)
          | inr over ↦ inr (by_way away over.way over.climbs)
        ])
      ]
    where
      by_lease : IsNeeded old.places i → IsNeeded new.places i
      by_lease need =
          let away : need.end ≢ id = λ same. (let no : is_leased (value_at old.places need.end) ≡ false = ap (λ j. is_leased (value_at old.places j)) same ∙ unleased in let yes = need.leased in absurd cc) in
          record { end = need.end; over = record { way = need.over.way; climbs = climbs_left need.over.way i need.end away need.over.climbs }; leased = h.leases need.end away ∙ need.leased }

      by_way : i ≢ id → (way : List Id) → Climbs old.places way i id → IsOver new.places i up
      by_way away [] k = absurd (away (sym k))
      by_way away (x ∷ way) k =
          let same : x ≡ up = same_Some x up (sym k.0 ∙ above_id) in
          record { way = way; climbs = climbs_left way i up h.differ (subst (λ j. Climbs old.places way i j) same k.1) }
