-- What is printed of each line is so in the tree at whose root the client is pinned.
use Rattle.std.proofs.Common.{◌≡◌, ◌++◌, ℕ, Bool, true, false, List, [], refl, sym, ap, subst, ◌∙◌, inl, inr, bytes_eq, codes, arith, if◌then◌else◌, not}
use Rattle.std.proofs.lemmas.Slice.Eq.{bytes_eq-Decides}
use Rattle.std.specs.Prelude.{Option, Some, None, Result, Ok, Err, Contains}
use Rattle.std.proofs.lemmas.List.Elements.{Contains-append_left, Contains-append_right}
use Rattle.cv_tree.specs.Tree.{Nodes}
use Rattle.cv_manifest.specs.declared.manifest.Manifest.{Manifest}
use Rattle.cv_manifest.specs.declared.manifest_fault.ManifestFault.TheVariants as manifest_fault
use Rattle.cv_resolver.specs.Kept.{Kept, AreOwn, kept_bytes}
use Rattle.cv_resolver.specs.Look.{Finding, IsFound, look}
use Rattle.cv_resolver.specs.Resolver.{Client, IsOn, IsAskedOn, Asks, answer_in, renewal, pinned_at}
use Rattle.cv_resolver.specs.Stage.{IsOfPeer}
use Rattle.cv_resolver.specs.declared.question.Question.{Question}
use Rattle.cv_resolver.specs.declared.found.Found.{Found}
use Rattle.cv_resolver.specs.declared.found.ClientFault.{ClientFault}
use Rattle.cv_resolver.specs.declared.found.ClientFault.TheVariants as fault
use Rattle.cv_resolver.specs.declared.found.RenewFault.{RenewFault}
use Rattle.cv_resolver.specs.declared.found.RenewFault.TheVariants as renew
use Rattle.cv_client.specs.Answer.{Given, Comes, bytes_in, IsLook, Answers, answered, cut, told_by}
use Rattle.cv_client.specs.Exchange.{Links}
use Rattle.cv_client.specs.Pin.{FetchesManifest, good, bad, absent, lost, client_at}
use Rattle.cv_client.specs.Served.{Files, ServedBy, HasWay, IsManifestOr, IsWholeOr, FetchesServed, AnswersServed}
use Rattle.cv_client.specs.declared.exchanging.ExchangeFault.TheVariants as exchange_fault
use Rattle.cv_client.specs.declared.ask_fault.AskFault.{AskFault}
use Rattle.cv_client.specs.declared.ask_fault.AskFault.TheVariants as ask_fault
use Rattle.cv_client.specs.declared.url.Url.{Url}
use Rattle.cv_shell.specs.Line.{Says}
use Rattle.cv_shell.specs.Shells.{Turn, Runs, begins, goes as goes_on}
use Rattle.cv_shell.specs.Tells.{IsServed, IsPinned, IsSo, found, refused, IsSoWhereServed, IsTakenWhereServed, IsUnserved, no_answer, no_manifest, TellsLine, told, blamed, renewed, kept, unread, bad_line, TellsEach, none, one_more, ToldSo}
use Rattle.cv_shell.specs.Texts.{answer_text, revision_line, fault_text, renewal_text, refusal}
use Rattle.cv_shell.specs.Turns.{Said, said, said_of_fault, said_of_renewal, after_renewal, Prints, Renews, offered, unfetched, Turns, asks, renews, bad_line as other_form, unread as unread_line}
use Rattle.cv_shell.specs.declared.line.Line.TheVariants.{Ask, Renew}
use Rattle.cv_shell.specs.declared.turn.Stop.TheVariants as stop
use Rattle.cv_shell.proofs.Given.{asks_pin, begins_among, comes_pin, comes_among, blamed_by}

-- ---- a line

-- where a text is printed it is what is said
printed_is : (says : Said) (text : List ℕ) → Prints says (Ok text) → says ≡ Ok text
printed_is says text is = sym is

text_is : (says : Said) (a b : List ℕ) → says ≡ Ok a → says ≡ Ok b → b ≡ a
text_is says a b first next = cc

-- a manifest that isn't fetched refuses no question
pub not_refused : {is_seal : List ℕ → List ℕ → Bool} {u : Url} {l l' : Links} (r : Result Manifest AskFault) → FetchesManifest is_seal u l l' r → (f : ClientFault) → r ≡ Err (ask_fault.Refused f) → ⊥
not_refused r (good text m fetches says) f is = cc
not_refused r (bad text manifest_fault.NoEnd fetches shows) f is = cc
not_refused r (bad text (manifest_fault.BadLine place) fetches shows) f is = cc
not_refused r (bad text (manifest_fault.Missing letter) fetches shows) f is = cc
not_refused r (bad text (manifest_fault.Repeated letter) fetches shows) f is = cc
not_refused r (bad text (manifest_fault.HashDiffers stated computed) fetches shows) f is = cc
not_refused r (bad text manifest_fault.BadSeal fetches shows) f is = cc
not_refused r (bad text manifest_fault.NoMemory fetches shows) f is = cc
not_refused r (absent fetches) f is = cc
not_refused r (lost exchange_fault.LinkFailed fetches) f is = cc
not_refused r (lost exchange_fault.BadReply fetches) f is = cc
not_refused r (lost exchange_fault.NoMemory fetches) f is = cc

-- ---- where a server has what a line wants

-- what a line says of an answer that is that of the tree
so_by : (repository : List ℕ) (t : Nodes) (q : Question) (answer : Result Found AskFault) (text : List ℕ) → IsWholeOr (look repository t q) answer → said answer ≡ Ok text → IsSo repository t q text
so_by repository t q (Ok f) text is printed = found f is (text_is (said (Ok f)) (answer_text f) text refl printed)
so_by repository t q (Err ask_fault.LinkFailed) text is printed = absurd cc
so_by repository t q (Err ask_fault.BadReply) text is printed = absurd is
so_by repository t q (Err ask_fault.BadManifest) text is printed = absurd is
so_by repository t q (Err (ask_fault.Refused f)) text is printed = refused f is (text_is (said (Err (ask_fault.Refused f))) (refusal (fault_text f)) text refl printed)
so_by repository t q (Err ask_fault.NoMemory) text is printed = absurd cc

-- a bad reply says nothing of the tree, and of no manifest
no_bad_answer : (finding : Result Finding ClientFault) (answer : Result Found AskFault) → IsWholeOr finding answer → said answer ≡ Err stop.BadReply → ⊥
no_bad_answer finding (Ok f) is stops = cc
no_bad_answer finding (Err ask_fault.LinkFailed) is stops = cc
no_bad_answer finding (Err ask_fault.BadReply) is stops = is
no_bad_answer finding (Err ask_fault.BadManifest) is stops = is
no_bad_answer finding (Err (ask_fault.Refused f)) is stops = cc
no_bad_answer finding (Err ask_fault.NoMemory) is stops = cc

no_bad_manifest : (m : Manifest) (f : AskFault) → IsManifestOr m (Err f) → said_of_fault f ≡ Err stop.BadReply → ⊥
no_bad_manifest m ask_fault.LinkFailed is stops = cc
no_bad_manifest m ask_fault.BadReply is stops = is
no_bad_manifest m ask_fault.BadManifest is stops = is
no_bad_manifest m (ask_fault.Refused f) is stops = is
no_bad_manifest m ask_fault.NoMemory is stops = cc

no_end_by_offer : (m : Manifest) (outcome : Result (Unit {0}) RenewFault) → said_of_renewal m outcome ≡ Err stop.BadReply → ⊥
no_end_by_offer m (Ok done) stops = cc
no_end_by_offer m (Err f) stops = cc

stop_is : (says : Said) → Prints says (Err stop.BadReply) → says ≡ Err stop.BadReply
stop_is says (inl wants) = absurd cc
stop_is says (inr is) = sym is

module _ (m : Manifest) (known : List (List ℕ)) (r : Client) (pin : IsPinned r m) (among : (s : List ℕ) → Contains (kept_bytes r.cache) s → Contains known s) where
  -- the client is on its way in each tree with the root of the manifest
  on_known : (t : Nodes) → IsServed t m known → IsOn t r
  on_known t is = record {
    tree = is.tree;
    fits = is.fits;
    root = pin.root ∙ is.root;
    own = record { own = λ bytes c has at same. is.own.own bytes c (among bytes has) at same };
    asked = subst (IsAskedOn r.name t) (sym pin.idle) tt;
  }

  module _ (u : Url) (l l' : Links) where
    whole_of : (files : Files) → ServedBy u files l l' → (t : Nodes) (q : Question) (answer : Result Found AskFault) → AnswersServed u q l l' r answer → IsServed t m known → HasWay files m.name t q
        → IsWholeOr (look m.name t q) answer
    whole_of files s t q answer served is way =
        subst (λ (n : List ℕ). IsWholeOr (look n t q) answer) pin.name (served files s t (on_known t is) (subst (λ (n : List ℕ). HasWay files n t q) (sym pin.name) way))

    so_served : (q : Question) (answer : Result Found AskFault) (text : List ℕ) → AnswersServed u q l l' r answer → said answer ≡ Ok text → IsSoWhereServed u l l' m known q text
    so_served q answer text served printed = λ files s t is way. so_by m.name t q answer text (whole_of files s t q answer served is way) printed

    module _ (is_seal : List ℕ → List ℕ → Bool) where
      -- a line that ended the shell by a bad reply wasn't served
      unserved_renewal : (line : List ℕ) (r' : Client) → Says line Renew → Renews is_seal u l l' r r' (Err stop.BadReply) → IsUnserved is_seal u line l l' m known
      unserved_renewal line r' says (offered next fetched served same prints) =
          absurd (no_end_by_offer next (renewal r next) (stop_is (said_of_renewal next (renewal r next)) prints))
      unserved_renewal line r' says (unfetched f fetched served same prints) =
          no_manifest says (λ files s text next has under. no_bad_manifest next f (served files s text next has under) (stop_is (said_of_fault f) prints))

      unserved : (line : List ℕ) (r' : Client) → Turns is_seal u line l l' r r' (Err stop.BadReply) → IsUnserved is_seal u line l l' m known
      unserved line r' (asks q answer says answers served prints) =
          no_answer q says (λ files s t is way. no_bad_answer (look m.name t q) answer (whole_of files s t q answer served is way) (stop_is (said answer) prints))
      unserved line r' (renews says renewed_) = unserved_renewal line r' says renewed_
      unserved line r' (other_form never links same prints) = (let e = stop_is (Ok (refusal (codes "bad line"))) prints in absurd cc)
      unserved line r' (unread_line links same is) = absurd cc

module _ (is_seal : List ℕ → List ℕ → Bool) (u : Url) (turn : Turn) (l l' : Links) (m : Manifest) (known : List (List ℕ)) (r : Client) (pin : IsPinned r m)
    (among : (s : List ℕ) → Contains (kept_bytes r.cache) s → Contains known s) where
  -- what stands behind the line: the client stays pinned, and what it keeps was given
  record Stood (r' : Client) : Type 0 where
    then_ : Manifest
    given : List (List ℕ)
    tells : TellsLine is_seal u turn l l' m known r r' then_ given
    pinned : IsPinned r' then_
    knows : (s : List ℕ) → Contains (kept_bytes r'.cache) s → Contains (known ++ given) s

  -- nothing was given, and the client is the same but for its head
  still : (r' : Client) (then_ : Manifest) → TellsLine is_seal u turn l l' m known r r' then_ [] → IsPinned r' then_ → r'.cache ≡ r.cache → Stood r'
  still r' then_ tells pinned same = record {
    then_ = then_;
    given = [];
    tells = tells;
    pinned = pinned;
    knows = λ s has. Contains-append_left known [] s (among s (subst (λ (k : Kept). Contains (kept_bytes k) s) same has));
  }

  module _ (q : Question) (start end : Client) (given : Given) (asked : Asks r q start) (comes : Comes u l start given l' end) where
    on_tree : (t : Nodes) → IsServed t m (known ++ bytes_in given) → IsOn t r
    on_tree t is = on_known m known r pin among t (record {
      tree = is.tree;
      fits = is.fits;
      root = is.root;
      own = record { own = λ bytes c has at same. is.own.own bytes c (Contains-append_left known (bytes_in given) bytes has) at same };
    })

    own_given : (t : Nodes) → IsServed t m (known ++ bytes_in given) → AreOwn t (bytes_in given)
    own_given t is = record { own = λ bytes c has at same. is.own.own bytes c (Contains-append_right known (bytes_in given) bytes has) at same }

    answered_so : (r' : Client) → r' ≡ record end { asked = None } → TellsLine is_seal u turn l l' m known r r' m (bytes_in given) → Stood r'
    answered_so r' same tells = record {
      then_ = m;
      given = bytes_in given;
      tells = tells;
      pinned = record {
        name = ap (λ (c : Client). c.name) same ∙ (comes_pin comes).name ∙ (asks_pin asked).name ∙ pin.name;
        revision = ap (λ (c : Client). c.revision) same ∙ (comes_pin comes).revision ∙ (asks_pin asked).revision ∙ pin.revision;
        root = ap (λ (c : Client). c.root) same ∙ (comes_pin comes).root ∙ (asks_pin asked).root ∙ pin.root;
        idle = ap (λ (c : Client). c.asked) same;
      };
      knows = λ s has.
          elim (comes_among comes s (subst (λ (c : Client). Contains (kept_bytes c.cache) s) same has)) [
            | inl old ↦ Contains-append_left known (bytes_in given) s (among s (begins_among asked.begins s old))
            | inr new ↦ Contains-append_right known (bytes_in given) s new
          ];
    }

    module _ (r' : Client) (same : r' ≡ record end { asked = None }) (says : Says turn.line (Ask q)) (served : IsSoWhereServed u l l' m known q turn.text) where
      tells_found : (f : Found) → IsLook r given q (Ok f) → turn.text ≡ answer_text f → Stood r'
      tells_found f looks printed =
          answered_so r' same (told q start end given says asked comes same (λ t is.
          found f (subst (λ (n : List ℕ). IsFound (look n t q) f) pin.name (looks t (on_tree t is) (own_given t is))) printed) served)

      tells_none : (f : ClientFault) → ((t : Nodes) → IsServed t m (known ++ bytes_in given) → look r.name t q ≡ Err f) → turn.text ≡ refusal (fault_text f) → Stood r'
      tells_none f lacks printed =
          answered_so r' same (told q start end given says asked comes same (λ t is.
          refused f (subst (λ (n : List ℕ). look n t q ≡ Err f) pin.name (lacks t is)) printed) served)

      tells_blamed : (f : ClientFault) → IsOfPeer f → answer_in end.asked ≡ Some (Err f) → turn.text ≡ refusal (fault_text f) → Stood r'
      tells_blamed f of answer printed =
          answered_so r' same (blamed q start end given f says asked comes same (blamed_by f of answer asked comes) printed served)

      tells_answer : (answer : Result Found ClientFault) → answer_in end.asked ≡ Some answer → IsLook r given q answer → said (told_by answer) ≡ Ok turn.text → Stood r'
      tells_answer (Ok f) answer looks printed = tells_found f looks (text_is (said (Ok f)) (answer_text f) turn.text refl printed)
      tells_answer (Err fault.NotFound) answer looks printed =
          tells_none fault.NotFound (λ t is. looks t (on_tree t is) (own_given t is)) (text_is (said (told_by (Err fault.NotFound))) (refusal (fault_text fault.NotFound)) turn.text refl printed)
      tells_answer (Err fault.NotDirectory) answer looks printed =
          tells_none fault.NotDirectory (λ t is. looks t (on_tree t is) (own_given t is)) (text_is (said (told_by (Err fault.NotDirectory))) (refusal (fault_text fault.NotDirectory)) turn.text refl printed)
      tells_answer (Err fault.NotFile) answer looks printed =
          tells_none fault.NotFile (λ t is. looks t (on_tree t is) (own_given t is)) (text_is (said (told_by (Err fault.NotFile))) (refusal (fault_text fault.NotFile)) turn.text refl printed)
      tells_answer (Err fault.TooManyLinks) answer looks printed =
          tells_none fault.TooManyLinks (λ t is. looks t (on_tree t is) (own_given t is)) (text_is (said (told_by (Err fault.TooManyLinks))) (refusal (fault_text fault.TooManyLinks)) turn.text refl printed)
      tells_answer (Err (fault.BadObject id digest)) answer looks printed =
          tells_blamed (fault.BadObject id digest) tt answer (text_is (said (told_by (Err (fault.BadObject id digest)))) (refusal (fault_text (fault.BadObject id digest))) turn.text refl printed)
      tells_answer (Err (fault.BadCatalogue id)) answer looks printed =
          tells_blamed (fault.BadCatalogue id) tt answer (text_is (said (told_by (Err (fault.BadCatalogue id)))) (refusal (fault_text (fault.BadCatalogue id))) turn.text refl printed)
      tells_answer (Err (fault.NotServed id)) answer looks printed =
          tells_blamed (fault.NotServed id) tt answer (text_is (said (told_by (Err (fault.NotServed id)))) (refusal (fault_text (fault.NotServed id))) turn.text refl printed)
      tells_answer (Err fault.NoMemory) answer looks printed = absurd cc

  tells_question : (q : Question) (answer : Result Found AskFault) (r' : Client) → Says turn.line (Ask q) → Answers u q l l' r r' answer → IsSoWhereServed u l l' m known q turn.text
      → said answer ≡ Ok turn.text → Stood r'
  tells_question q answer r' says (answered start end given found_ asked comes answer_is same stays_ looks) served printed =
      tells_answer q start end given asked comes r' same says served found_ answer_is looks printed
  tells_question q answer r' says (cut start given mid id exchange_fault.LinkFailed asked comes wants ends stays_) served printed = absurd cc
  tells_question q answer r' says (cut start given mid id exchange_fault.BadReply asked comes wants ends stays_) served printed = absurd cc
  tells_question q answer r' says (cut start given mid id exchange_fault.NoMemory asked comes wants ends stays_) served printed = absurd cc

  -- ---- a renewal

  -- it is for the same repository
  same_name : (name : List ℕ) (b : Bool) (rest : Result (Unit {0}) RenewFault) → bytes_eq name r.name ≡ b → (if not b then Err renew.OtherRepository else rest) ≡ Ok tt → r.name ≡ name
  same_name name true rest test is = sym ((bytes_eq-Decides name r.name).0 test)
  same_name name false rest test is = absurd cc

  taken_served : (next : Manifest) (outcome : Result (Unit {0}) RenewFault) (r' : Client) → renewal r next ≡ outcome → FetchesServed is_seal u l l' (Ok next) → r' ≡ after_renewal r next outcome
      → said_of_renewal next outcome ≡ Ok turn.text → IsTakenWhereServed is_seal u l l' r r' turn.text
  taken_served next (Ok done) r' is served same printed = λ files s text offer has under fine.
      let e : next ≡ offer = served files s text offer has under in (
        same ∙ ap (pinned_at r) e,
        text_is (said_of_renewal next (Ok done)) (revision_line next.head.revision) turn.text refl printed ∙ ap (λ (x : Manifest). revision_line x.head.revision) e,
      )
  taken_served next (Err f) r' is served same printed = λ files s text offer has under fine.
      let e : next ≡ offer = served files s text offer has under in
      let both : Ok tt ≡ Err f = sym fine ∙ ap (renewal r) (sym e) ∙ is in
      absurd cc

  tells_offered : (next : Manifest) (outcome : Result (Unit {0}) RenewFault) (r' : Client) → renewal r next ≡ outcome → Says turn.line Renew → FetchesManifest is_seal u l l' (Ok next)
      → FetchesServed is_seal u l l' (Ok next) → r' ≡ after_renewal r next outcome → said_of_renewal next outcome ≡ Ok turn.text → Stood r'
  tells_offered next (Ok done) r' is says fetched served same printed =
      still r' next
      (renewed next says fetched is same (text_is (said_of_renewal next (Ok done)) (revision_line next.head.revision) turn.text refl printed) (taken_served next (Ok done) r' is served same printed))
      (record {
        name = ap (λ (c : Client). c.name) same ∙ same_name next.name (bytes_eq next.name r.name) _ refl is;
        revision = ap (λ (c : Client). c.revision) same;
        root = ap (λ (c : Client). c.root) same;
        idle = ap (λ (c : Client). c.asked) same;
      })
      (ap (λ (c : Client). c.cache) same)
  tells_offered next (Err f) r' is says fetched served same printed =
      still r' m (kept next f says fetched is same (text_is (said_of_renewal next (Err f)) (refusal (renewal_text f)) turn.text refl printed) (taken_served next (Err f) r' is served same printed))
      (subst (λ (c : Client). IsPinned c m) (sym same) pin) (ap (λ (c : Client). c.cache) same)

  tells_unfetched : (f : AskFault) (r' : Client) → Says turn.line Renew → FetchesManifest is_seal u l l' (Err f) → FetchesServed is_seal u l l' (Err f) → r' ≡ r → said_of_fault f ≡ Ok turn.text → Stood r'
  tells_unfetched ask_fault.LinkFailed r' says fetched served same printed = absurd cc
  tells_unfetched ask_fault.BadReply r' says fetched served same printed = absurd cc
  tells_unfetched ask_fault.NoMemory r' says fetched served same printed = absurd cc
  tells_unfetched (ask_fault.Refused f) r' says fetched served same printed = absurd (not_refused (Err (ask_fault.Refused f)) fetched f refl)
  tells_unfetched ask_fault.BadManifest r' says fetched served same printed =
      still r' m
      (unread says fetched same (text_is (said_of_fault ask_fault.BadManifest) (refusal (codes "bad manifest")) turn.text refl printed) (λ files s text offer has under fine. absurd (served files s text offer has under)))
      (subst (λ (c : Client). IsPinned c m) (sym same) pin) (ap (λ (c : Client). c.cache) same)

  tells_renewal : (r' : Client) → Says turn.line Renew → Renews is_seal u l l' r r' (Ok turn.text) → Stood r'
  tells_renewal r' says (offered next fetched served same prints) =
      tells_offered next (renewal r next) r' refl says fetched served same (printed_is (said_of_renewal next (renewal r next)) turn.text prints)
  tells_renewal r' says (unfetched f fetched served same prints) = tells_unfetched f r' says fetched served same (printed_is (said_of_fault f) turn.text prints)

  tells_line : (r' : Client) → Turns is_seal u turn.line l l' r r' (Ok turn.text) → Stood r'
  tells_line r' (asks q answer says answers served prints) =
      let printed = printed_is (said answer) turn.text prints in
      tells_question q answer r' says answers (so_served m known r pin among u l l' q answer turn.text served printed) printed
  tells_line r' (renews says renewed_) = tells_renewal r' says renewed_
  tells_line r' (other_form never links same prints) =
      let says : Said = Ok (refusal (codes "bad line")) in
      still r' m (bad_line never links same (text_is says (refusal (codes "bad line")) turn.text refl (printed_is says turn.text prints))) (subst (λ (c : Client). IsPinned c m) (sym same) pin) (ap (λ (c : Client). c.cache) same)
  tells_line r' (unread_line links same is) = absurd cc

-- ---- lines

module _ (is_seal : List ℕ → List ℕ → Bool) (u : Url) (first : Manifest) (l : Links) where
  -- what was told so far, by a client that knows nothing else
  record KnownSo (turns : List Turn) (before : Links) (c : Client) : Type 0 where
    so : ToldSo is_seal u first l turns before c
    knows : (s : List ℕ) → Contains (kept_bytes c.cache) s → Contains so.known s

  -- and how a line behind them may end the shell
  so_far : {turns : List Turn} (before : Links) (c : Client) (m : Manifest) (known : List (List ℕ)) → TellsEach is_seal u first l (client_at first) turns before m known c → IsPinned c m
      → ((s : List ℕ) → Contains (kept_bytes c.cache) s → Contains known s) → KnownSo turns before c
  so_far before c m known tells pinned knows = record {
    so = record { manifest = m; known = known; tells = tells; pinned = pinned; stops = λ line after c' turns. unserved m known c pinned knows u before after is_seal line c' turns };
    knows = knows;
  }

  known_so : {left : Option (List ℕ)} {b rest : List ℕ} {turns : List Turn} {before : Links} {c : Client} → Runs is_seal u left b l (client_at first) turns rest before c → KnownSo turns before c
  known_so begins =
      so_far l (client_at first) first [] none (record { name = refl; revision = refl; root = refl; idle = refl }) (λ s has. (let low = has.1 in absurd (omega (arith, low))))
  known_so (goes_on {before = before} {after = after} {c' = c'} turn runs next turns) =
      let was = known_so runs in
      let so = was.so in
      let one = tells_line is_seal u turn before after so.manifest so.known _ so.pinned was.knows c' turns in
      so_far after c' one.then_ (so.known ++ one.given) (one_more turn so.tells so.pinned one.tells) one.pinned one.knows

  pub lines_tell : {left : Option (List ℕ)} {b rest : List ℕ} {turns : List Turn} {before : Links} {c : Client} → Runs is_seal u left b l (client_at first) turns rest before c → ToldSo is_seal u first l turns before c
  lines_tell runs = (known_so runs).so
