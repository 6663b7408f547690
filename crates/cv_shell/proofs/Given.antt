-- What was given for a question: what a client keeps of it, and why the question ended.
use Rattle.std.proofs.Common.{◌≡◌, ◌⊎◌, ◌∷◌, ℕ, List, [], refl, sym, ap, subst, ◌∙◌, inl, inr, bytes_eq}
use Rattle.std.specs.Prelude.{Option, Some, None, Ok, Err, Contains}
use Rattle.std.proofs.lemmas.List.Elements.{Contains-append_left, Contains-append_right, Contains-push}
use Rattle.lru.specs.LruCache.{promoted, put_entries}
use Rattle.lru.proofs.CallerLemmas.{Contains-promoted, Contains-put_entries}
use Rattle.sha1.specs.Sha1.{sha1}
use Rattle.cv_base.specs.ObjectId.{object_id, file_name}
use Rattle.cv_base.specs.declared.id.ObjectId.{ObjectId}
use Rattle.cv_base.specs.declared.id.Kind.TheVariants.{Catalogue}
use Rattle.cv_rows.specs.Catalogue.{Contents, catalogue_bytes}
use Rattle.cv_cut.proofs.Lemmas.{comes_from, goes_to}
use Rattle.cv_resolver.specs.Giving.{Takes, TakesCatalogue, nothing, other, content, catalogue, opened, bad as undecoded, no_memory as no_room}
use Rattle.cv_resolver.specs.Kept.{Kept, kept_bytes, used, with_catalogue}
use Rattle.cv_resolver.specs.Progress.{Leads, Begins, waits, halts, goes_further, starts, no_memory as unbegun}
use Rattle.cv_resolver.specs.Resolver.{Client, Asks, answer_in, wanted_in}
use Rattle.cv_resolver.specs.Stage.{IsBlameless, IsOfPeer, wanted_by}
use Rattle.cv_resolver.specs.declared.question.Question.{Question}
use Rattle.cv_resolver.specs.declared.stage.Stage.{Stage}
use Rattle.cv_resolver.specs.declared.stage.Stage.TheVariants.{Walks, Ends}
use Rattle.cv_resolver.specs.declared.walk.Walk.{Walk}
use Rattle.cv_resolver.specs.declared.found.Found.TheVariants.{Bytes}
use Rattle.cv_resolver.specs.declared.found.ClientFault.{ClientFault}
use Rattle.cv_resolver.specs.declared.found.ClientFault.TheVariants as fault
use Rattle.cv_resolver.proofs.Lemmas.{blameless, begun_blameless}
use Rattle.cv_client.specs.Answer.{Given, Comes, stays, goes, bytes_in}
use Rattle.cv_client.specs.Exchange.{Links}
use Rattle.cv_client.specs.Fetch.{Fetches}
use Rattle.cv_client.specs.declared.url.Url.{Url}
use Rattle.cv_client.proofs.Lemmas.{ended_at}
use Rattle.cv_shell.specs.Tells.{IsWhy, IsBlamed}

-- ---- what is kept was given

abbrev bytes_of : List ℕ × Contents → List ℕ
bytes_of e = catalogue_bytes e.1

used_among : (k : Kept) (hash s : List ℕ) → Contains (kept_bytes (used k hash)) s → Contains (kept_bytes k) s
used_among k hash s has =
    let e = comes_from bytes_of (promoted (bytes_eq hash) k.entries) s has in
    subst (Contains (kept_bytes k)) e.2 (goes_to bytes_of k.entries e.0 (Contains-promoted (bytes_eq hash) k.entries e.0 e.1))

put_among : (k : Kept) (hash s : List ℕ) (c : Contents) → Contains (kept_bytes (with_catalogue k hash c)) s → Contains (kept_bytes k) s ⊎ (catalogue_bytes c ≡ s)
put_among k hash s c has =
    let e = comes_from bytes_of (put_entries bytes_eq k hash c) s has in
    elim (Contains-put_entries bytes_eq k hash c e.0 e.1) [
      | inl old ↦ inl (subst (Contains (kept_bytes k)) e.2 (goes_to bytes_of k.entries e.0 old))
      | inr put ↦ inr (ap catalogue_bytes (sym put.0) ∙ e.2)
    ]

-- what is kept afterwards was kept before
abbrev Among : Kept → Kept → Type 0
Among after k = (s : List ℕ) → Contains (kept_bytes after) s → Contains (kept_bytes k) s

same_among : (k after : Kept) → after ≡ k → Among after k
same_among k after same = λ s has. subst (λ (x : Kept). Contains (kept_bytes x) s) same has

leads_among : {repository : List ℕ} {q : Question} {k after : Kept} {w : Walk} {stage : Stage} → Leads repository q k w after stage → Among after k
leads_among {k = k} {after = after} (waits lacks same is) = same_among k after same
leads_among {k = k} {w = w} (halts steps over same) = λ s has. used_among k w.spot.level.hash s (subst (λ (x : Kept). Contains (kept_bytes x) s) same has)
leads_among {k = k} {w = w} (goes_further next steps leads) = λ s has. used_among k w.spot.level.hash s (leads_among leads s has)

pub begins_among : {repository root : List ℕ} {q : Question} {k after : Kept} {stage : Stage} → Begins repository root q k after stage → Among after k
begins_among (starts w is leads) = leads_among leads
begins_among {k = k} {after = after} (unbegun same is) = same_among k after same

-- or was given
opened_among : {repository : List ℕ} {q : Question} {k after : Kept} {w : Walk} {bytes : List ℕ} {stage : Stage} → TakesCatalogue repository q k w bytes after stage → (s : List ℕ) → Contains (kept_bytes after) s
    → Contains (kept_bytes k) s ⊎ (bytes ≡ s)
opened_among {k = k} {w = w} (opened c decodes leads) s has =
    elim (put_among k w.spot.level.hash s c (leads_among leads s has)) [ inl old ↦ inl old | inr new ↦ inr (decodes.spelled ∙ new) ]
opened_among {k = k} {after = after} (undecoded never same is) s has = inl (same_among k after same s has)
opened_among {k = k} {after = after} (no_room same is) s has = inl (same_among k after same s has)

takes_among : {repository : List ℕ} {q : Question} {k after : Kept} {was stage : Stage} {given : Option (List ℕ)} → Takes repository q k was given after stage → (s : List ℕ) → Contains (kept_bytes after) s
    → Contains (kept_bytes k) s ⊎ (given ≡ Some s)
takes_among {k = k} {after = after} (nothing id wants is same ends) s has = inl (same_among k after same s has)
takes_among {k = k} {after = after} (other id bytes wants is differs same ends) s has = inl (same_among k after same s has)
takes_among {k = k} {after = after} (content hash bytes was is digest same ends) s has = inl (same_among k after same s has)
takes_among (catalogue w bytes was is digest takes) s has =
    elim (opened_among takes s has) [ inl old ↦ inl old | inr new ↦ inr (is ∙ ap (λ x. Some x) new) ]

given_among : (given : Option (List ℕ)) (more : Given) (s : List ℕ) → given ≡ Some s → Contains (bytes_in (given ∷ more)) s
given_among None more s is = absurd cc
given_among (Some bytes) more s is = (let e : bytes ≡ s = cc in subst (Contains (bytes ∷ bytes_in more)) e (Contains-append_left (bytes ∷ []) (bytes_in more) bytes (Contains-push [] bytes)))

more_among : (given : Option (List ℕ)) (more : Given) (s : List ℕ) → Contains (bytes_in more) s → Contains (bytes_in (given ∷ more)) s
more_among None more s has = has
more_among (Some bytes) more s has = Contains-append_right (bytes ∷ []) (bytes_in more) s has

-- ---- a client stays pinned while it is given what it wants

pub record SamePin (r r' : Client) : Type 0 where
  pub name : r'.name ≡ r.name
  pub revision : r'.revision ≡ r.revision
  pub root : r'.root ≡ r.root

pub asks_pin : {r start : Client} {q : Question} → Asks r q start → SamePin r start
asks_pin asked = record { name = ap (λ (c : Client). c.name) asked.is; revision = ap (λ (c : Client). c.revision) asked.is; root = ap (λ (c : Client). c.root) asked.is }

module _ {u : Url} where
  pub comes_pin : {l l' : Links} {r r' : Client} {given : Given} → Comes u l r given l' r' → SamePin r r'
  comes_pin stays = record { name = refl; revision = refl; root = refl }
  comes_pin (goes a id given has wants fetched gives comes) =
      let then_ = comes_pin comes in
      record {
        name = then_.name ∙ ap (λ (c : Client). c.name) gives.is;
        revision = then_.revision ∙ ap (λ (c : Client). c.revision) gives.is;
        root = then_.root ∙ ap (λ (c : Client). c.root) gives.is;
      }

  pub comes_among : {l l' : Links} {r r' : Client} {given : Given} → Comes u l r given l' r' → (s : List ℕ) → Contains (kept_bytes r'.cache) s → Contains (kept_bytes r.cache) s ⊎ Contains (bytes_in given) s
  comes_among stays s has = inl has
  comes_among (goes {more = more} a id given has_ wants fetched gives comes) s has =
      elim (comes_among comes s has) [
        | inl old ↦ elim (takes_among gives.takes s old) [ inl older ↦ inl older | inr new ↦ inr (given_among given more s new) ]
        | inr new ↦ inr (more_among given more s new)
      ]

-- ---- why a question ended by what was given

not_blameless : (stage : Stage) (f : ClientFault) → IsBlameless stage → stage ≡ Ends (Err f) → IsOfPeer f → ⊥
not_blameless stage f quiet is of = subst IsBlameless is quiet of

why_opened : {repository : List ℕ} {q : Question} {k after : Kept} {w : Walk} {was stage : Stage} {bytes : List ℕ} {given : Option (List ℕ)} (id : ObjectId) (f : ClientFault) → TakesCatalogue repository q k w bytes after stage
    → was ≡ Walks w → given ≡ Some bytes → sha1 bytes ≡ w.spot.level.hash → wanted_by was ≡ Some id → stage ≡ Ends (Err f) → IsOfPeer f → IsWhy id was given f
why_opened id f (opened c decodes leads) walks is digest wants ends of = absurd (not_blameless _ f (blameless leads) ends of)
why_opened {w = w} {was = was} {bytes = bytes} {given = given} id f (undecoded never same at) walks is digest wants ends of =
    let one : Some (object_id w.spot.level.hash Catalogue) ≡ Some id = sym (ap wanted_by walks) ∙ wants in
    let named : object_id w.spot.level.hash Catalogue ≡ id = cc in
    let both : Ends (Err (fault.BadCatalogue (object_id w.spot.level.hash Catalogue))) ≡ Ends (Err f) = sym at ∙ ends in
    let same_fault : fault.BadCatalogue (object_id w.spot.level.hash Catalogue) ≡ f = cc in
    subst (IsWhy id was given) same_fault (named, record { walk = w; walks = walks; bytes = bytes; is = is; digest = digest; none = never })
why_opened id f (no_room same at) walks is digest wants ends of =
    let both : Ends (Err fault.NoMemory) ≡ Ends (Err f) = sym at ∙ ends in
    let same_fault : fault.NoMemory ≡ f = cc in
    absurd (subst IsOfPeer (sym same_fault) of)

why : {repository : List ℕ} {q : Question} {k after : Kept} {was stage : Stage} {given : Option (List ℕ)} (id : ObjectId) (f : ClientFault) → Takes repository q k was given after stage → wanted_by was ≡ Some id
    → stage ≡ Ends (Err f) → IsOfPeer f → IsWhy id was given f
why {was = was} {given = given} id f (nothing x wanted is same at) wants ends of =
    let named : x ≡ id = cc in
    let same_fault : fault.NotServed x ≡ f = cc in
    subst (IsWhy id was given) same_fault (named, is)
why {was = was} {given = given} id f (other x bytes wanted is differs same at) wants ends of =
    let named : x ≡ id = cc in
    let same_fault : fault.BadObject x (sha1 bytes) ≡ f = cc in
    subst (IsWhy id was given) same_fault
    (named, record { bytes = bytes; is = is; digest = refl; differs = subst (λ (i : ObjectId). sha1 bytes ≡ i.hash → ⊥) named differs })
why id f (content hash bytes reads is digest same at) wants ends of = (let both : Ends (Ok (Bytes bytes)) ≡ Ends (Err f) = sym at ∙ ends in absurd cc)
why id f (catalogue w bytes walks is digest takes) wants ends of = why_opened id f takes walks is digest wants ends of

module _ {u : Url} where
  -- nothing was fetched, or the last exchange is why a question ended so
  comes_blamed : {l l' : Links} {r r' : Client} {given : Given} (f : ClientFault) → IsOfPeer f → answer_in r'.asked ≡ Some (Err f) → Comes u l r given l' r' → ((r' ≡ r) × (l' ≡ l)) ⊎ IsBlamed u l l' r f
  comes_blamed f of says stays = inl (refl, refl)
  comes_blamed {l} {l'} {r} {r'} f of says (goes {mid = mid} a id given has wants fetched gives comes) =
      elim (comes_blamed f of says comes) [
        | inl same ↦
            let ends : gives.stage ≡ Ends (Err f) = ended_at gives.stage (Err f) (sym (ap (λ (c : Client). answer_in c.asked) (same.0 ∙ gives.is)) ∙ says) in
            inr (record {
              earlier = [];
              mid = l;
              client = r;
              comes = stays;
              asked = a;
              is = has;
              id = id;
              wants = wants;
              given = given;
              fetched = subst (λ (x : Links). Fetches u (file_name id) l x (Ok given)) (sym same.1) fetched;
              why = why id f gives.takes (sym (ap wanted_in has) ∙ wants) ends of;
            })
        | inr b ↦ inr (record {
          earlier = given ∷ b.earlier;
          mid = b.mid;
          client = b.client;
          comes = goes a id given has wants fetched gives b.comes;
          asked = b.asked;
          is = b.is;
          id = b.id;
          wants = b.wants;
          given = b.given;
          fetched = b.fetched;
          why = b.why;
        })
      ]

  -- a question that was just asked is answered by no such fault
  pub blamed_by : {l l' : Links} {r start end : Client} {q : Question} {given : Given} (f : ClientFault) → IsOfPeer f → answer_in end.asked ≡ Some (Err f) → Asks r q start → Comes u l start given l' end → IsBlamed u l l' start f
  blamed_by {start = start} f of says asked comes =
      elim (comes_blamed f of says comes) [
        | inl same ↦
            let ends : asked.stage ≡ Ends (Err f) = ended_at asked.stage (Err f) (sym (ap (λ (c : Client). answer_in c.asked) (same.0 ∙ asked.is)) ∙ says) in
            absurd (not_blameless asked.stage f (begun_blameless _ _ _ _ _ _ asked.begins) ends of)
        | inr b ↦ b
      ]
