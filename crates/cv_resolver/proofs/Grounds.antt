-- On what an answer or a refusal rests, whatever the catalogues say.
use Rattle.std.proofs.Common.{◌≡◌, ℕ, zero, suc, Bool, true, false, List, [], ◌∷◌, ◌++◌, refl, sym, ap, subst, ◌∙◌, bytes_eq}
use Rattle.std.specs.declared.option.Option.{Option}
use Rattle.std.specs.declared.option.Option.TheVariants.{None, Some}
use Rattle.std.specs.declared.result.Result.{Result}
use Rattle.std.specs.declared.result.Result.TheVariants.{Ok, Err}
use Rattle.std.specs.Map.{lookup, lookup_entry, remove_entry}
use Rattle.std.specs.Option.{option_map_or}
use Rattle.std.proofs.lemmas.Slice.Eq.{bytes_eq-Decides}
use Rattle.std.proofs.lemmas.Cmp.{nat_list_eq_equiv}
use Rattle.lru.specs.LruCache.{promoted}
use Rattle.sha1.specs.Sha1.{sha1}
use Rattle.cv_base.specs.Path.{Path}
use Rattle.cv_base.specs.PathText.{parts_of}
use Rattle.cv_rows.specs.Catalogue.{Contents}
use Rattle.cv_rows.specs.declared.row.Row.{Row}
use Rattle.cv_rows.specs.declared.row_kind.RowKind.{RowKind}
use Rattle.cv_rows.specs.declared.row_kind.RowKind.TheVariants as kind
use Rattle.cv_cut.proofs.Lemmas.{same_ends}
use Rattle.cv_resolver.specs.Walk.{Name, lead_of}
use Rattle.cv_resolver.specs.Asking.{is_stat}
use Rattle.cv_resolver.specs.Spot.{levels_of}
use Rattle.cv_resolver.specs.Look.{Finding, Names, Stat, Content}
use Rattle.cv_resolver.specs.Rows.{stage_of, Enters, GoesOn, Follows, Passes, idle, below_file, up, nothing, enters, follows, StepsBy, arrives, passes, no_memory}
use Rattle.cv_resolver.specs.Kept.{Kept, Holds, IsKept, AreKept, used, with_catalogue}
use Rattle.cv_resolver.specs.Stage.{IsOfPeer, IsBlameless}
use Rattle.cv_resolver.specs.Progress.{IsOver, Leads, waits, halts, goes_further, Begins, starts, no_memory as unbegun}
use Rattle.cv_resolver.specs.Giving.{EndsBy, TakesCatalogue, opened, bad, no_memory as unread, Takes, nothing as unserved, other, content, catalogue}
use Rattle.cv_resolver.specs.Grounds.{IsOfLevel, Walked, begins, goes, WaitsUnder, IsUnder, IsLastStep}
use Rattle.cv_resolver.specs.declared.spot.Level.{Level}
use Rattle.cv_resolver.specs.declared.spot.Spot.{Spot}
use Rattle.cv_resolver.specs.declared.walk.Walk.{Walk}
use Rattle.cv_resolver.specs.declared.question.Question.{Question}
use Rattle.cv_resolver.specs.declared.found.Found.{Found}
use Rattle.cv_resolver.specs.declared.found.Found.TheVariants.{Bytes}
use Rattle.cv_resolver.specs.declared.found.ClientFault.{ClientFault}
use Rattle.cv_resolver.specs.declared.found.ClientFault.TheVariants as fault
use Rattle.cv_resolver.specs.declared.stage.Stage.{Stage}
use Rattle.cv_resolver.specs.declared.stage.Stage.TheVariants.{Walks, Reads, Ends}
use Rattle.cv_resolver.proofs.Keeping.{found_in, kept_promoted, kept_one}
use Rattle.cv_resolver.proofs.Progressing.{begun_blameless}

-- ---- what was used comes first

entry_found : {K V : Type 0} (test : K → Bool) (es : List (K × V)) (v : V) → lookup test es ≡ Some v → (k : K) × (lookup_entry test es ≡ Some (k, v)) × (test k ≡ true)
entry_found test [] v h = cc
entry_found {K} {V} test (f ∷ es) v h = (elim (test f.0) as (λ y. test f.0 ≡ y → (k : K) × (lookup_entry test (f ∷ es) ≡ Some (k, v)) × (test k ≡ true)) [
  | true ↦ λ t. let h' = rw t at h in let same : f.1 ≡ v = cc in (f.0, rw t (ap (λ (x : V). Some (f.0, x)) same), t)
  | false ↦ λ t. let on = entry_found test es v (rw t at h) in (on.0, rw t on.1, on.2)
]) refl

comes_first : (es : List (List ℕ × Contents)) (hash : List ℕ) (c : Contents) → lookup (bytes_eq hash) es ≡ Some c → promoted (bytes_eq hash) es ≡ (hash, c) ∷ remove_entry (bytes_eq hash) es
comes_first es hash c h =
    let e = entry_found (bytes_eq hash) es c h in
    let key : hash ≡ e.0 = (bytes_eq-Decides hash e.0).0 e.2 in
    ap (λ (o : Option (List ℕ × Contents)). option_map_or (λ e. e ∷ remove_entry (bytes_eq hash) es) o es) e.1
    ∙ ap (λ (x : List ℕ). (x, c) ∷ remove_entry (bytes_eq hash) es) (sym key)

of_level : (k : Kept) (l : Level) → AreKept k.entries → (held : Holds k l) → IsOfLevel l held.found
of_level k l kept held = record { kept = kept.each l.hash held.found (found_in k.entries l.hash held.found (sym held.there)); place = held.place }

still_found : (es rest : List (List ℕ × Contents)) (hash : List ℕ) (c : Contents) → es ≡ (hash, c) ∷ rest → lookup (bytes_eq hash) es ≡ Some c
still_found es rest hash c is = ap (lookup (bytes_eq hash)) is ∙ rw (nat_list_eq_equiv.refl hash) refl

-- ---- where a walk stands

-- where no directory stands, the catalogue is kept
abbrev IsHeldAtFile : Kept → Spot → Type 0
IsHeldAtFile k s = s.is_directory ≡ false → Holds k s.level

in_directory : (k : Kept) (s : Spot) → s.is_directory ≡ true → IsHeldAtFile k s
in_directory k s is = λ none. absurd (let wrong : true ≡ false = sym is ∙ none in cc)

module _ (k : Kept) (w : Walk) (held : Holds k w.spot.level) where
  abbrev later : Kept
  later = used k w.spot.level.hash

  -- it was used, and stays
  below_same : (s : Spot) → levels_of s ≡ levels_of w.spot → IsHeldAtFile later s
  below_same s same = λ none. subst (Holds later) (sym (same_ends s.outer.items w.spot.outer.items s.level w.spot.level same).1) (record {
    found = held.found;
    there = still_found _ _ w.spot.level.hash held.found (comes_first k.entries w.spot.level.hash held.found held.there);
    place = held.place;
  })

  entered : (c : Contents) (r : Row) (p : Path) (s : Spot) (kd : RowKind) → Enters c w.spot kd r p s → IsHeldAtFile later s
  entered c r p s kind.Directory there = in_directory later s there.is_dir
  entered c r p s kind.NestedRoot there = in_directory later s there.is_dir
  entered c r p s kind.Transition there = in_directory later s there.directory
  entered c r p s kind.File there = below_same s there.cuts
  entered c r p s kind.Link there = below_same s there.cuts

  goes_on : {There : Spot → Type 0} {names : List Name} {links : ℕ} (next : Walk) → GoesOn There names links (Walks next) → ((s : Spot) → There s → IsHeldAtFile later s) → IsHeldAtFile later next.spot
  goes_on next on stands =
      let both : Walks on.next ≡ Walks next = sym on.is in
      let one : on.next ≡ next = cc in
      subst (λ (x : Walk). IsHeldAtFile later x.spot) one (stands on.next.spot on.spot)

  followed : (spot : Spot) (names : List Name) (links : ℕ) (parts : List Name) (lead : Option (Path × List Name)) (next : Walk) → Follows spot names links parts lead (Walks next) → IsHeldAtFile later next.spot
  followed spot names zero parts lead next is = cc
  followed spot names (suc links) parts None next is = cc
  followed spot names (suc links) parts (Some start) next on = goes_on next on (λ s there. in_directory later s there.is_dir)

  passed : (repository : List ℕ) (stays : Bool) (c : Contents) (name : Name) (names : List Name) (next : Walk) → Passes repository stays c w name names (Walks next) → IsHeldAtFile later next.spot
  passed repository stays c name names next (idle empty on) = goes_on next on (λ s there. below_same s (ap levels_of there))
  passed repository stays c name names next (below_file some file is) = cc
  passed repository stays c name names next (up some directory is on) = goes_on next on (λ s there. in_directory later s there.is_dir)
  passed repository stays c name names next (nothing entry none is) = cc
  passed repository stays c name names next (enters entry r stands ends on) = goes_on next on (λ s there. entered c r (w.spot.at ++ name ∷ []) s r.kind there)
  passed repository stays c name names next (follows entry r stands link test on) = followed w.spot names w.links (parts_of r.target) (lead_of repository w.spot.at (parts_of r.target)) next on

  no_walk : (finding : Result Finding ClientFault) (next : Walk) → stage_of finding ≡ Walks next → ⊥
  no_walk (Ok (Names names)) next is = cc
  no_walk (Ok (Stat line)) next is = cc
  no_walk (Ok (Content file)) next is = cc
  no_walk (Err f) next is = cc

  stepped : (repository : List ℕ) (q : Question) (c : Contents) (next : Walk) → StepsBy repository q c w (Walks next) → IsHeldAtFile later next.spot
  stepped repository q c next (arrives none there) = absurd (no_walk there.finding next (sym there.stage))
  stepped repository q c next (passes name names is on) = passed repository (is_stat q) c name names next on
  stepped repository q c next (no_memory is) = cc

waits_in_directory : (k : Kept) (s : Spot) → IsHeldAtFile k s → (Holds k s.level → ⊥) → s.is_directory ≡ true
waits_in_directory k s held none =
    elim s.is_directory as (λ b. s.is_directory ≡ b → b ≡ true) [
      | true ↦ λ is. refl
      | false ↦ λ is. absurd (none (held is))
    ] refl

-- ---- what a walk comes to

record Rests (repository root : List ℕ) (q : Question) (k : Kept) (s : Stage) : Type 0 where
  kept : AreKept k.entries
  under : IsUnder repository root q s
  told : IsOver s → IsBlameless s → (EndsBy s fault.NoMemory → ⊥) → IsLastStep repository root q k s

over_under : (repository root : List ℕ) (q : Question) (s : Stage) → IsOver s → IsUnder repository root q s
over_under repository root q (Walks next) over = absurd over
over_under repository root q (Reads hash) over = tt
over_under repository root q (Ends answer) over = tt

led : {repository : List ℕ} (root : List ℕ) {q : Question} {k : Kept} {w : Walk} {after : Kept} {s : Stage} → AreKept k.entries → IsHeldAtFile k w.spot → Walked repository root q w → Leads repository q k w after s → Rests repository root q after s
led {repository} root {q} {k} {w} {after} {s} kept held walked (waits none same is) = record {
  kept = subst (λ (x : Kept). AreKept x.entries) (sym same) kept;
  under = subst (IsUnder repository root q) (sym is) (record { directory = waits_in_directory k w.spot held none; walked = walked });
  told = λ over ok some. absurd (subst IsOver is over);
}
led {repository} root {q} {k} {w} {after} {s} kept held walked (halts by over same) = subst (λ (x : Kept). Rests repository root q x s) (sym same) (record {
  kept = kept_promoted k.entries w.spot.level.hash kept;
  under = over_under repository root q s over;
  told = λ over ok some. record {
    walk = w;
    walked = walked;
    catalogue = by.holds.found;
    is = of_level k w.spot.level kept by.holds;
    rest = remove_entry (bytes_eq w.spot.level.hash) k.entries;
    last_used = comes_first k.entries w.spot.level.hash by.holds.found by.holds.there;
    step = by.told;
  };
})
led {repository} root {q} {k} {w} kept held walked (goes_further next by rest) =
    led root (kept_promoted k.entries w.spot.level.hash kept) (stepped k w by.holds repository q by.holds.found next by.told) (goes walked (of_level k w.spot.level kept by.holds) by.told) rest

-- it ends by want of memory, or by a fault of the peer
fails : (repository root : List ℕ) (q : Question) (k after : Kept) (s : Stage) → AreKept k.entries → after ≡ k → (answer : Result Found ClientFault) → s ≡ Ends answer → (IsBlameless s → (EndsBy s fault.NoMemory → ⊥) → ⊥) → Rests repository root q after s
fails repository root q k after s kept same answer is none = record {
  kept = subst (λ (x : Kept). AreKept x.entries) (sym same) kept;
  under = subst (IsUnder repository root q) (sym is) tt;
  told = λ over ok some. absurd (none ok some);
}

of_peer : (s : Stage) (f : ClientFault) → EndsBy s f → IsOfPeer f → IsBlameless s → ⊥
of_peer s f is peer ok = (let none : IsBlameless (Ends (Err f)) = subst IsBlameless is ok in none peer)

-- ---- a question that is asked

begun : (repository root : List ℕ) (q : Question) (k after : Kept) (s : Stage) → AreKept k.entries → Begins repository root q k after s → Rests repository root q after s
begun repository root q k after s kept (starts w is on) = led root kept (in_directory k w.spot is.directory) (begins is) on
begun repository root q k after s kept (unbegun same is) = fails repository root q k after s kept same _ is (λ ok some. some is)

module _ (repository root : List ℕ) (q : Question) (k after : Kept) (s : Stage) (kept : AreKept k.entries) (by : Begins repository root q k after s) where
  pub begun_kept : AreKept after.entries
  begun_kept = (begun repository root q k after s kept by).kept

  pub begun_under : IsUnder repository root q s
  begun_under = (begun repository root q k after s kept by).under

  pub begun_told : IsOver s → (EndsBy s fault.NoMemory → ⊥) → IsLastStep repository root q after s
  begun_told over some = (begun repository root q k after s kept by).told over (begun_blameless repository root q k after s by) some

-- ---- what is given for it

taken : (repository root : List ℕ) (q : Question) (k : Kept) (w : Walk) (bytes : List ℕ) (after : Kept) (s : Stage) → AreKept k.entries → WaitsUnder repository root q w → sha1 bytes ≡ w.spot.level.hash → TakesCatalogue repository q k w bytes after s
    → Rests repository root q after s
taken repository root q k w bytes after s kept under digest (opened c decodes on) =
    let own : IsKept w.spot.level.hash c = record { is = decodes.is; digest = sym digest ∙ ap sha1 decodes.spelled } in
    led root (kept_one k w.spot.level.hash c kept own) (in_directory (with_catalogue k w.spot.level.hash c) w.spot under.directory) under.walked on
taken repository root q k w bytes after s kept under digest (bad none same is) = fails repository root q k after s kept same _ is (λ ok some. of_peer s _ is tt ok)
taken repository root q k w bytes after s kept under digest (unread same is) = fails repository root q k after s kept same _ is (λ ok some. some is)

pub given_kept : (repository root : List ℕ) (q : Question) (k after : Kept) (was s : Stage) (given : Option (List ℕ)) → AreKept k.entries → IsUnder repository root q was → Takes repository q k was given after s → AreKept after.entries
given_kept repository root q k after was s given kept under (unserved id wanted none same is) = subst (λ (x : Kept). AreKept x.entries) (sym same) kept
given_kept repository root q k after was s given kept under (other id bytes wanted is differs same ends) = subst (λ (x : Kept). AreKept x.entries) (sym same) kept
given_kept repository root q k after was s given kept under (content hash bytes reads is digest same ends) = subst (λ (x : Kept). AreKept x.entries) (sym same) kept
given_kept repository root q k after was s given kept under (catalogue w bytes walks is digest takes) = (taken repository root q k w bytes after s kept (subst (IsUnder repository root q) walks under) digest takes).kept

pub given_under : (repository root : List ℕ) (q : Question) (k after : Kept) (was s : Stage) (given : Option (List ℕ)) → AreKept k.entries → IsUnder repository root q was → Takes repository q k was given after s → IsUnder repository root q s
given_under repository root q k after was s given kept under (unserved id wanted none same is) = subst (IsUnder repository root q) (sym is) tt
given_under repository root q k after was s given kept under (other id bytes wanted is differs same ends) = subst (IsUnder repository root q) (sym ends) tt
given_under repository root q k after was s given kept under (content hash bytes reads is digest same ends) = subst (IsUnder repository root q) (sym ends) tt
given_under repository root q k after was s given kept under (catalogue w bytes walks is digest takes) = (taken repository root q k w bytes after s kept (subst (IsUnder repository root q) walks under) digest takes).under

pub given_told : (repository root : List ℕ) (q : Question) (k after : Kept) (w : Walk) (s : Stage) (given : Option (List ℕ)) → AreKept k.entries → WaitsUnder repository root q w → Takes repository q k (Walks w) given after s → IsOver s → IsBlameless s
    → (EndsBy s fault.NoMemory → ⊥) → IsLastStep repository root q after s
given_told repository root q k after w s given kept under (unserved id wanted none same is) over ok some = absurd (of_peer s _ is tt ok)
given_told repository root q k after w s given kept under (other id bytes wanted is differs same ends) over ok some = absurd (of_peer s _ ends tt ok)
given_told repository root q k after w s given kept under (content hash bytes reads is digest same ends) over ok some = absurd (let e : Walks w ≡ Reads hash = reads in cc)
given_told repository root q k after w s given kept under (catalogue next bytes walks is digest takes) over ok some =
    (taken repository root q k next bytes after s kept (subst (IsUnder repository root q) walks under) digest takes).told over ok some

pub given_content : (repository : List ℕ) (q : Question) (k after : Kept) (hash : List ℕ) (s : Stage) (given : Option (List ℕ)) → Takes repository q k (Reads hash) given after s → IsBlameless s
    → (bytes : List ℕ) × (s ≡ Ends (Ok (Bytes bytes))) × (sha1 bytes ≡ hash)
given_content repository q k after hash s given (unserved id wanted none same is) ok = absurd (of_peer s _ is tt ok)
given_content repository q k after hash s given (other id bytes wanted is differs same ends) ok = absurd (of_peer s _ ends tt ok)
given_content repository q k after hash s given (content wanted bytes reads is digest same ends) ok = (bytes, ends, digest ∙ (let e : Reads hash ≡ Reads wanted = reads in let one : wanted ≡ hash = cc in one))
given_content repository q k after hash s given (catalogue next bytes walks is digest takes) ok = absurd (let e : Reads hash ≡ Walks next = walks in cc)
