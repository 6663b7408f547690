-- What a client's command tells of the tree that is served.
use Rattle.std.proofs.Common.{◌≡◌, Bool, true, false, ℕ, List, refl, arith}
use Rattle.std.specs.declared.option.Option.{Option}
use Rattle.std.specs.Prelude.{Some}
use Rattle.std.specs.declared.result.Result.{Result}
use Rattle.std.specs.declared.result.Result.TheVariants.{Ok, Err}
use Rattle.cv_ports.specs.Folder.{Folders}
use Rattle.cv_ports.specs.Streams.{Look}
use Rattle.cv_vault.specs.Disk.{Disk, Files}
use Rattle.cv_tree.specs.Tree.{Nodes}
use Rattle.cv_manifest.specs.declared.manifest.Manifest.{Manifest}
use Rattle.cv_resolver.specs.Look.{Finding, IsFound, IsRefused, IsAnswer, look as found_in}
use Rattle.cv_resolver.specs.Resolver.{Client, IsOn, Asks as IsAsked, answer_in}
use Rattle.cv_resolver.specs.declared.question.Question.{Question}
use Rattle.cv_resolver.specs.declared.found.Found.{Found}
use Rattle.cv_resolver.specs.declared.found.ClientFault.{ClientFault}
use Rattle.cv_resolver.specs.declared.found.ClientFault.TheVariants as client_fault
use Rattle.cv_client.specs.Answer.{Given, Comes, Answers, answered as answers, bytes_in, cut, told_by}
use Rattle.cv_client.specs.Exchange.{Links}
use Rattle.cv_client.specs.Pin.{FetchesManifest, Pins, pinned as pins, client_at}
use Rattle.cv_client.specs.declared.ask_fault.AskFault.{AskFault}
use Rattle.cv_client.specs.declared.ask_fault.AskFault.TheVariants as ask_fault
use Rattle.cv_client.specs.declared.exchanging.ExchangeFault.TheVariants as exchange_fault
use Rattle.cv_client.specs.declared.url.Url.{Url}
use Rattle.cv_shell.specs.Tells.{IsServed}
use Rattle.cv_client.specs.Texts.{found_text}
use Rattle.cv_client.specs.Told.{Told, pinned, unpinned}
use Rattle.cv_top.specs.Looks.{Prints, printed, unprinted, unwritten, Looks, answered, unanswered}
use Rattle.cv_top.specs.Runs.{Outside, Runs, usage, bad_keys, unsigned, no_seal, unbegun, init, stdio, look, shell, publish}
use Rattle.cv_top.specs.Seal.{is_seal_by}
use Rattle.cv_top.specs.Status.{ask_status}
use Rattle.cv_top.specs.Tells.{IsQuestion, Tells, tells_of_tree, cause_of}
use Rattle.cv_words.specs.Words.{Asks}
use Rattle.cv_top.specs.declared.client_fault.LookFault.{LookFault}
use Rattle.cv_top.specs.declared.client_fault.LookFault.TheVariants as look_fault
use Rattle.cv_top.specs.declared.status.Status.{Status}
use Rattle.cv_top.specs.declared.status.Status.TheVariants.{NoAnswer}
use Rattle.cv_words.specs.declared.words.Command.TheVariants.{Look as Looking}
use Rattle.cv_words.proofs.Laws.{no_init, no_stdio, no_shell, no_publish}
use Rattle.cv_top.proofs.Pinning.{is_refused, never_refused}

-- the answers that tell of the tree
abbrev tells : Result Found AskFault → Bool
tells (Ok found) = true
tells (Err fault) = is_refused fault

-- and what they tell of what the question finds
abbrev Says : Result Finding ClientFault → Result Found AskFault → Type 0
Says finding (Ok found) = IsFound finding found
Says finding (Err (ask_fault.Refused fault)) = IsRefused finding fault
Says finding (Err other) = Unit {0}

says_told : (finding : Result Finding ClientFault) (answer : Result Found ClientFault) → IsAnswer finding answer → Says finding (told_by answer)
says_told finding (Ok found) is = is
says_told finding (Err client_fault.NotFound) is = is
says_told finding (Err client_fault.NotDirectory) is = is
says_told finding (Err client_fault.NotFile) is = is
says_told finding (Err client_fault.TooManyLinks) is = is
says_told finding (Err (client_fault.BadObject id digest)) is = is
says_told finding (Err (client_fault.BadCatalogue id)) is = is
says_told finding (Err (client_fault.NotServed id)) is = is
says_told finding (Err client_fault.NoMemory) is = tt

module _ (seal : List ℕ) (u : Url) (q : Question) (before after : Links) where
  -- what stands behind an answer
  record Ground (r : Result Found AskFault) : Type 0 where
    manifest : Manifest
    mid : Links
    fetched : FetchesManifest (is_seal_by seal) u before mid (Ok manifest)
    start : Client
    end : Client
    given : Given
    begins : IsAsked (client_at manifest) q start
    comes : Comes u mid start given after end
    answer : Result Found ClientFault
    told : answer_in end.asked ≡ Some answer
    says : (t : Nodes) → IsServed t manifest (bytes_in given) → Says (found_in manifest.name t q) r

  on_tree : (t : Nodes) (m : Manifest) (given : Given) → IsServed t m (bytes_in given) → IsOn t (client_at m)
  on_tree t m given is = record {
    tree = is.tree;
    fits = is.fits;
    root = is.root;
    own = record { own = λ bytes c there. (let low = there.1 in absurd (omega (arith, low))) };
    asked = tt;
  }

  ground_of : (mid : Links) (m : Manifest) (client' : Client) (r : Result Found AskFault) → FetchesManifest (is_seal_by seal) u before mid (Ok m) → Answers u q mid after (client_at m) client' r
      → tells r ≡ true → Ground r
  ground_of mid m client' r fetched (answers start end given answer asks comes told same stays looks) spoken = record {
    manifest = m;
    mid = mid;
    fetched = fetched;
    start = start;
    end = end;
    given = given;
    begins = asks;
    comes = comes;
    answer = answer;
    told = told;
    says = λ t is. says_told (found_in m.name t q) answer (looks t (on_tree t m given is) is.own);
  }
  ground_of mid m client' r fetched (cut start given at id exchange_fault.LinkFailed asks comes wants ends stays) spoken = absurd cc
  ground_of mid m client' r fetched (cut start given at id exchange_fault.BadReply asks comes wants ends stays) spoken = absurd cc
  ground_of mid m client' r fetched (cut start given at id exchange_fault.NoMemory asks comes wants ends stays) spoken = absurd cc

  ground_pinned : (mid : Links) (client client' : Client) (r : Result Found AskFault) → Pins (is_seal_by seal) u before mid (Ok client) → Answers u q mid after client client' r
      → tells r ≡ true → Ground r
  ground_pinned mid client client' r (pins m fetched) said spoken = ground_of mid m client' r fetched said spoken

  ground : (r : Result Found AskFault) → Told (is_seal_by seal) u q before after r → tells r ≡ true → Ground r
  ground r (pinned mid client client' answer p said) spoken = ground_pinned mid client client' r p said spoken
  ground r (unpinned fault p) spoken = (let none : is_refused fault ≡ false = never_refused fault p in absurd cc)

  -- ---- what is printed, and how the program ends

  module _ {W : Type 0} (taken : W → Option (List ℕ)) (words : List (List ℕ)) (asks : Asks words (Looking u q)) (output output' : W) where
    tells_found : (found : Found) (status : Status) → Ground (Ok found) → Prints taken (found_text found) output output' status → tells_of_tree status ≡ true → Tells taken words seal before after output output' status
    tells_found found status g (printed whole) speaks = record {
      url = u;
      question = q;
      asks = asks;
      manifest = g.manifest;
      mid = g.mid;
      fetched = g.fetched;
      start = g.start;
      end = g.end;
      given = g.given;
      begins = g.begins;
      comes = g.comes;
      answer = g.answer;
      told = g.told;
      so = λ t is. (found, g.says t is, whole);
    }
    tells_found found status g (unprinted part) speaks = absurd cc
    tells_found found status g (unwritten same) speaks = absurd cc

    tells_refused : (fault : LookFault) → Ground (Err (ask_fault.Refused (cause_of fault))) → ((finding : Result Finding ClientFault) → IsRefused finding (cause_of fault) → finding ≡ Err (cause_of fault))
        → Tells taken words seal before after output output' (NoAnswer fault)
    tells_refused fault g so = record {
      url = u;
      question = q;
      asks = asks;
      manifest = g.manifest;
      mid = g.mid;
      fetched = g.fetched;
      start = g.start;
      end = g.end;
      given = g.given;
      begins = g.begins;
      comes = g.comes;
      answer = g.answer;
      told = g.told;
      so = λ t is. so (found_in g.manifest.name t q) (g.says t is);
    }

    tells_fault : (fault : AskFault) → Told (is_seal_by seal) u q before after (Err fault) → tells_of_tree (ask_status fault) ≡ true → Tells taken words seal before after output output' (ask_status fault)
    tells_fault ask_fault.LinkFailed told speaks = absurd cc
    tells_fault ask_fault.BadReply told speaks = absurd cc
    tells_fault ask_fault.BadManifest told speaks = absurd cc
    tells_fault ask_fault.NoMemory told speaks = absurd cc
    tells_fault (ask_fault.Refused client_fault.NotFound) told speaks = tells_refused look_fault.NotFound (ground _ told refl) (λ finding is. is)
    tells_fault (ask_fault.Refused client_fault.NotDirectory) told speaks = tells_refused look_fault.NotDirectory (ground _ told refl) (λ finding is. is)
    tells_fault (ask_fault.Refused client_fault.NotFile) told speaks = tells_refused look_fault.NotFile (ground _ told refl) (λ finding is. is)
    tells_fault (ask_fault.Refused client_fault.TooManyLinks) told speaks = tells_refused look_fault.TooManyLinks (ground _ told refl) (λ finding is. is)
    tells_fault (ask_fault.Refused (client_fault.BadObject id digest)) told speaks = absurd cc
    tells_fault (ask_fault.Refused (client_fault.BadCatalogue id)) told speaks = absurd cc
    tells_fault (ask_fault.Refused (client_fault.NotServed id)) told speaks = absurd cc
    tells_fault (ask_fault.Refused client_fault.NoMemory) told speaks = absurd cc

module _ {V : Type 0} (disk : V → Option Disk) (count : V → ℕ) (left : V → ℕ → Files → Type 0)
    {R W C F N : Type 0} (faults : V → ℕ) (rest given : R → Option (List ℕ)) (looks : R → Look → Type 0) (taken passed : W → Option (List ℕ)) (moments : C → Option (ℕ → ℕ)) (holds : F → Option Folders) (named : F → Option (List ℕ)) (came : N → Links)
    (words : List (List ℕ)) (keys seal : List ℕ) (a b : Outside V R W C F N) where
  looks_tell : (u : Url) (q : Question) (status : Status) → Asks words (Looking u q) → Looks taken came seal u q a.output b.output a.dial b.dial status → tells_of_tree status ≡ true
      → Tells taken words seal (came a.dial) (came b.dial) a.output b.output status
  looks_tell u q status asks (answered found how told prints) speaks = tells_found seal u q (came a.dial) (came b.dial) taken words asks a.output b.output found status (ground seal u q (came a.dial) (came b.dial) (Ok found) told refl) prints speaks
  looks_tell u q status asks (unanswered fault told same) speaks = tells_fault seal u q (came a.dial) (came b.dial) taken words asks a.output b.output fault told speaks

  pub tells_truly : (status : Status) → Runs disk count left faults rest given looks taken passed moments holds named came words keys seal a b status → IsQuestion words → tells_of_tree status ≡ true
      → Tells taken words seal (came a.dial) (came b.dial) a.output b.output status
  tells_truly status (usage never same) asked speaks = absurd cc
  tells_truly status (bad_keys name asks has same) asked speaks = absurd cc
  tells_truly status (unsigned v path root asks has same) asked speaks = absurd cc
  tells_truly status (no_seal command asks has empty same) asked speaks = absurd cc
  tells_truly status (unbegun same) asked speaks = absurd cc
  tells_truly status (init name how asks some inits same still near) asked speaks = absurd (no_init asked.url asked.question name asked.asks asks)
  tells_truly status (stdio name table how asks are some serves still near) asked speaks = absurd (no_stdio asked.url asked.question name asked.asks asks)
  tells_truly status (look u q how asks some looked same) asked speaks = looks_tell u q status asks looked speaks
  tells_truly status (shell u how asks some said same) asked speaks = absurd (no_shell asked.url u asked.question asked.asks asks)
  tells_truly status (publish v path root table how asks are some publishes same near) asked speaks = absurd (no_publish asked.url v asked.question path root asked.asks asks)
