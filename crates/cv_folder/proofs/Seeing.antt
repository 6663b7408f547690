-- What a listing sees as it goes on.
use Rattle.std.proofs.Common.{◌≡◌, ◌==◌, ◌∙◌, ◌+◌, ◌-◌, ◌<◌, ◌++◌, ℕ, Bool, true, false, not, List, [], ◌∷◌, Option, Some, None, Ok, Err, String, Global, cond, get_or, take, drop, length, ap, inl, inr, refl, subst, sym, append_assoc, arith, length-append, string_bytes, vec_len}
use Rattle.std.specs.Prelude.{◌&&◌, IfSome, IsSome, IsTrue}
use Rattle.std.specs.List.{All, list_all}
use Rattle.std.proofs.Math.Seq.{drop-append_seam, take-append_seam}
use Rattle.std.proofs.lemmas.List.{append-nil}
use Rattle.std.proofs.lemmas.List.Elements.{All-nil, All-push, All-take, All-weaker}
use Rattle.cv_system.specs.declared.seen.Kind.{Kind}
use Rattle.cv_system.specs.declared.seen.Kind.TheVariants.{File, Folder}
use Rattle.cv_system.specs.declared.seen.Seen.{Seen}
use Rattle.cv_system.specs.Calls.{Log, Looked, and_call}
use Rattle.cv_system.specs.Looks.{Looks, folders_behind, folders_past}
use Rattle.cv_base.specs.Path.{with_slash}
use Rattle.cv_system.specs.Names.{stands_at}
use Rattle.cv_system.specs.Steps.{Makes, Still, Then}
use Rattle.cv_system.proofs.Laws.{no_step, one_call, steps_then, told_before}
use Rattle.cv_folder.specs.declared.listing.Listing.{Listing}
use Rattle.cv_folder.specs.Listed.{FindsName, IsListing, ListsFiles, Saw}
use Rattle.cv_folder.specs.ListedInner.{AddsFolder, AddsName, AddsSeen, FindsBelow, ListsOn, SeesWay, Stands, StandsHere}

-- ---- the folders of a path

folders_append : (front one other : List ℕ) → folders_behind front (one ++ other) ≡ folders_behind front one ++ folders_behind (front ++ one) other
unfolding folders_behind
folders_append front [] other = ap (λ (f : List ℕ). folders_behind f other) (sym (append-nil front))
folders_append front (b ∷ one) other =
    ap (λ (l : List (List ℕ)). cond (b == 47) (front ∷ []) [] ++ l) (folders_append (front ++ b ∷ []) one other)
    ∙ sym (append_assoc (cond (b == 47) (front ∷ []) []) (folders_behind (front ++ b ∷ []) one) (folders_behind ((front ++ b ∷ []) ++ one) other))
    ∙ ap (λ (f : List ℕ). (cond (b == 47) (front ∷ []) [] ++ folders_behind (front ++ b ∷ []) one) ++ folders_behind f other) (append_assoc front (b ∷ []) one)

none_at : (front longer last : List ℕ) (slash : Bool) → IsTrue (not slash && list_all (λ c. not (c == 47)) last) → (IsTrue (list_all (λ c. not (c == 47)) last) → folders_behind longer last ≡ [])
    → cond slash (front ∷ []) [] ++ folders_behind longer last ≡ []
none_at front longer last true never none = absurd (cc)
none_at front longer last false plain none = none plain

-- none is behind what has no slash
no_folders : (front last : List ℕ) → IsTrue (list_all (λ b. not (b == 47)) last) → folders_behind front last ≡ []
unfolding folders_behind
no_folders front [] plain = refl
no_folders front (b ∷ last) plain = none_at front (front ++ b ∷ []) last (b == 47) plain (λ rest. no_folders (front ++ b ∷ []) last rest)

-- an entry of a folder is behind the same folders
entry_way : (front folder last : List ℕ) → IsTrue (list_all (λ b. not (b == 47)) last) → folders_behind front (folder ++ last) ≡ folders_behind front folder
entry_way front folder last plain =
    folders_append front folder last ∙ ap (λ (l : List (List ℕ)). folders_behind front folder ++ l) (no_folders (front ++ folder) last plain) ∙ append-nil (folders_behind front folder)

-- what stands in it is behind it too
below_way : (front name : List ℕ) → folders_behind front (name ++ 47 ∷ []) ≡ folders_behind front name ++ (front ++ name) ∷ []
unfolding folders_behind
below_way front name = folders_append front name (47 ∷ [])

-- those of a name's path, past that of the root
way_is : (root place : List ℕ) → folders_past (length root + 1) (root ++ 47 ∷ place) ≡ folders_behind (with_slash root) place
way_is root place =
    let size : length root + 1 ≡ length (with_slash root) = omega (arith, length-append root (47 ∷ [])) in
    let whole : root ++ 47 ∷ place ≡ with_slash root ++ place = sym (append_assoc root (47 ∷ []) place) in
    ap (λ (n : ℕ). folders_past n (root ++ 47 ∷ place)) size
    ∙ ap (λ (p : List ℕ). folders_past (length (with_slash root)) p) whole
    ∙ ap (λ (front : List ℕ). folders_behind front (drop (length (with_slash root)) (with_slash root ++ place))) (take-append_seam (with_slash root) place)
    ∙ ap (λ (rest : List ℕ). folders_behind (with_slash root) rest) (drop-append_seam (with_slash root) place)

-- ---- what was seen is seen still

module _ (front : List ℕ) where
  saw_still : (kind : Kind) (path : List ℕ) (start before after : Log) → Makes (IsListing front) before after → Saw front kind path start before → Saw front kind path start after
  unfolding Saw
  saw_still kind path start before after more (at, seen, is, first, then) = (at, seen, is, first, steps_then then more)

  way_still : (way : List ℕ) (start before after : Log) → Makes (IsListing front) before after → SeesWay front way start before → SeesWay front way start after
  way_still way start before after more saw =
      All-weaker (λ folder. Saw front Folder folder start before) (λ folder. Saw front Folder folder start after) (λ folder. saw_still Folder folder start before after more) (folders_behind front way) saw

  name_still : (name : List ℕ) (start before after : Log) → Makes (IsListing front) before after → FindsBelow front name start before → FindsBelow front name start after
  name_still name start before after more (named, file, way) = (named, saw_still File (front ++ stands_at name) start before after more file, way_still (stands_at name) start before after more way)

  stands_still : (listing : Listing) (start before after : Log) → Makes (IsListing front) before after → Stands front listing start before → Stands front listing start after
  stands_still listing start before after more (calls, names, ways) = (
    steps_then calls more,
    All-weaker (λ name. FindsBelow front name start before) (λ name. FindsBelow front name start after) (λ name. name_still name start before after more) listing.found.items names,
    All-weaker (λ way. SeesWay front (string_bytes way) start before) (λ way. SeesWay front (string_bytes way) start after) (λ way. way_still (string_bytes way) start before after more) listing.todo.items ways,
  )

  makes_told : (before after : Log) → Makes (IsListing front) before after → IsSome after → IsSome before
  makes_told before after Still some = some
  makes_told before after (Then {between} steps (call, such, is)) some = makes_told before between steps (told_before call between after is some)

  -- a listing begins
  pub begins_so : (listing : Listing) (log : Log) → listing.found.items ≡ [] → All (λ way. string_bytes way ≡ []) listing.todo.items → Stands front listing log log
  unfolding folders_behind
  begins_so listing log none roots = (
    Still,
    subst (λ (all : List (List ℕ)). All (λ name. FindsBelow front name log log) all) (sym none) (All-nil (λ name. FindsBelow front name log log)),
    All-weaker (λ way. string_bytes way ≡ []) (λ way. SeesWay front (string_bytes way) log log)
        (λ way is. subst (λ (w : List ℕ). SeesWay front w log log) (sym is) (All-nil (λ folder. Saw front Folder folder log log))) listing.todo.items roots,
  )

  -- it takes up a folder, and goes on there
  pub turns_so : (listing popped next : Listing) (folder : String Global) (way : List ℕ) (start at after : Log) → popped.found.items ≡ listing.found.items
      → popped.todo.items ≡ take (vec_len listing.todo - 1) listing.todo.items → 0 < vec_len listing.todo → ◌≡◌ {A = Option (String Global)} (Some folder) (Some (get_or listing.todo.items (vec_len listing.todo - 1) folder))
      → way ≡ string_bytes folder → ListsOn front way popped next at after → Stands front listing start at → Stands front next start after
  unfolding ListsOn
  turns_so listing popped next folder way start at after found rest some last is lists (calls, names, ways) =
      let same : folder ≡ get_or listing.todo.items (vec_len listing.todo - 1) folder = cc in
      lists.1 start (
        calls,
        subst (λ (all : List (List ℕ)). All (λ name. FindsBelow front name start at) all) (sym found) names,
        subst (λ (all : List (String Global)). All (λ w. SeesWay front (string_bytes w) start at) all) (sym rest) (All-take (λ w. SeesWay front (string_bytes w) start at) (vec_len listing.todo - 1) listing.todo.items ways),
      )
      (subst (λ (w : List ℕ). SeesWay front w start at) (sym is)
      (subst (λ (f : String Global). SeesWay front (string_bytes f) start at) (sym same) (ways (vec_len listing.todo - 1) folder (omega (arith, listing.todo.ok.0)))))

  module _ (folder : List ℕ) where
    -- it goes on and finds nothing
    pub lists_no_more : (listing listing' : Listing) (before after : Log) → listing'.found.items ≡ listing.found.items → listing'.todo.items ≡ listing.todo.items → Makes (IsListing front) before after
        → ListsOn front folder listing listing' before after
    unfolding ListsOn
    lists_no_more listing listing' before after found todo more = (
      more,
      λ start stands way.
          let still = stands_still listing start before after more stands in (
            still.0,
            subst (λ (all : List (List ℕ)). All (λ name. FindsBelow front name start after) all) (sym found) still.1,
            subst (λ (all : List (String Global)). All (λ w. SeesWay front (string_bytes w) start after) all) (sym todo) still.2,
          ),
    )

    -- a part of a listing, and then another
    pub lists_then : (listing between listing' : Listing) (before at after : Log) → ListsOn front folder listing between before at → ListsOn front folder between listing' at after
        → ListsOn front folder listing listing' before after
    unfolding ListsOn
    lists_then listing between listing' before at after first more =
        (steps_then first.0 more.0, λ start stands way. more.1 start (first.1 start stands way) (way_still folder start before at first.0 way))

    -- what is told behind it was told before
    pub lists_told : (listing listing' : Listing) (before after : Log) → ListsOn front folder listing listing' before after → IsSome after → IsSome before
    unfolding ListsOn
    lists_told listing listing' before after lists some = makes_told before after lists.0 some

    module _ (listing listing' : Listing) (last place : List ℕ) (name below : Option (String Global)) (path : List ℕ) (before after : Log)
        (plain : IsTrue (list_all (λ b. not (b == 47)) last)) (is : place ≡ folder ++ last) (named : IfSome name (λ own. StandsHere (string_bytes own) place))
        (in_it : IfSome below (λ own. string_bytes own ≡ place ++ 47 ∷ [])) (at : path ≡ front ++ place) where
      names_then : (start : Log) (found found' : List (List ℕ)) (own : Option (String Global)) → IfSome own (λ text. StandsHere (string_bytes text) place) → AddsName own found found'
          → All (λ n. FindsBelow front n start after) found → Saw front File (front ++ place) start after → SeesWay front place start after → All (λ n. FindsBelow front n start after) found'
      names_then start found found' (Some own) here (inl same) all saw way = subst (λ (names : List (List ℕ)). All (λ n. FindsBelow front n start after) names) (sym same) all
      names_then start found found' (Some own) here (inr more) all saw way =
          subst (λ (names : List (List ℕ)). All (λ n. FindsBelow front n start after) names) (sym more)
          (All-push (λ n. FindsBelow front n start after) found (string_bytes own) all (
            here.0,
            subst (λ (p : List ℕ). Saw front File (front ++ p) start after) (sym here.1) saw,
            subst (λ (p : List ℕ). SeesWay front p start after) (sym here.1) way,
          ))
      names_then start found found' None here same all saw way = subst (λ (names : List (List ℕ)). All (λ n. FindsBelow front n start after) names) (sym same) all

      ways_then : (start : Log) (todo todo' : List (String Global)) (own : Option (String Global)) → IfSome own (λ text. string_bytes text ≡ place ++ 47 ∷ []) → AddsFolder own todo todo'
          → All (λ w. SeesWay front (string_bytes w) start after) todo → Saw front Folder (front ++ place) start after → SeesWay front place start after
          → All (λ w. SeesWay front (string_bytes w) start after) todo'
      ways_then start todo todo' (Some own) front_of (inl same) all saw way = subst (λ (ways : List (String Global)). All (λ w. SeesWay front (string_bytes w) start after) ways) (sym same) all
      ways_then start todo todo' (Some own) front_of (inr more) all saw way =
          subst (λ (ways : List (String Global)). All (λ w. SeesWay front (string_bytes w) start after) ways) (sym more)
          (All-push (λ w. SeesWay front (string_bytes w) start after) todo own all
          (subst (λ (folders : List (List ℕ)). All (λ f. Saw front Folder f start after) folders) (sym (ap (folders_behind front) front_of ∙ below_way front place))
          (All-push (λ f. Saw front Folder f start after) (folders_behind front place) (front ++ place) way saw)))
      ways_then start todo todo' None front_of same all saw way = subst (λ (ways : List (String Global)). All (λ w. SeesWay front (string_bytes w) start after) ways) (sym same) all

      -- it sees something at a place
      lists_one : (seen : Seen) → after ≡ and_call (Looked path (Ok seen)) before → AddsSeen (Some seen) name below listing.found.items listing'.found.items listing.todo.items listing'.todo.items
          → ListsOn front folder listing listing' before after
      unfolding ListsOn Saw
      lists_one seen look (adds_name, adds_folder) =
          let more : Makes (IsListing front) before after = one_call (Looked path (Ok seen)) (place, at) look in (
            more,
            λ start stands way.
                let still = stands_still listing start before after more stands in
                let on_way : SeesWay front place start after =
                subst (λ (folders : List (List ℕ)). All (λ f. Saw front Folder f start after) folders) (sym (ap (folders_behind front) is ∙ entry_way front folder last plain)) (way_still folder start before after more way) in
                let saw : (kind : Kind) → seen.kind ≡ kind → Saw front kind (front ++ place) start after =
                λ (kind : Kind) such. (before, seen, such, stands.0, no_step (look ∙ ap (λ (p : List ℕ). and_call (Looked p (Ok seen)) before) at)) in (
                  still.0,
                  elim adds_name [
                    | inl same ↦ subst (λ (all : List (List ℕ)). All (λ n. FindsBelow front n start after) all) (sym same) still.1
                    | inr file ↦ names_then start listing.found.items listing'.found.items name named file.1 still.1 (saw File file.0) on_way
                  ],
                  elim adds_folder [
                    | inl same ↦ subst (λ (all : List (String Global)). All (λ w. SeesWay front (string_bytes w) start after) all) (sym same) still.2
                    | inr one ↦ ways_then start listing.todo.items listing'.todo.items below in_it one.1 still.2 (saw Folder one.0) on_way
                  ],
                ),
          )

      pub lists_seen : (found : Option Seen) → Looks path (Ok found) before after → AddsSeen found name below listing.found.items listing'.found.items listing.todo.items listing'.todo.items
          → ListsOn front folder listing listing' before after
      lists_seen (Some seen) look adds = lists_one seen look adds
      lists_seen None (cause, nothing, look) (found, todo) = lists_no_more listing listing' before after found todo (one_call (Looked path (Err cause)) (place, at) look)

-- ---- what was found

finds_so : (root name : List ℕ) (before after : Log) → FindsBelow (with_slash root) name before after → FindsName root name before after
finds_so root name before after (named, file, way) = (
  named,
  subst (λ (p : List ℕ). Saw (with_slash root) File p before after) (append_assoc root (47 ∷ []) (stands_at name)) file,
  subst (λ (folders : List (List ℕ)). All (λ f. Saw (with_slash root) Folder f before after) folders) (sym (way_is root (stands_at name))) way,
)

pub stands_found : (root : List ℕ) (listing : Listing) (before after : Log) → Stands (with_slash root) listing before after → ListsFiles root listing.found.items before after
stands_found root listing before after (calls, names, ways) =
    (calls, All-weaker (λ name. FindsBelow (with_slash root) name before after) (λ name. FindsName root name before after) (λ name. finds_so root name before after) listing.found.items names)
