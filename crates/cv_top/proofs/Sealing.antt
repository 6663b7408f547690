-- A run whose command judged the seal.
use Rattle.std.proofs.Common.{◌≡◌, ℕ, List, refl}
use Rattle.std.specs.declared.option.Option.{Option}
use Rattle.std.specs.declared.result.Result.TheVariants.{Ok}
use Rattle.cv_keys.specs.KeysText.{keys_of}
use Rattle.cv_keys.specs.declared.key.Key.{Key}
use Rattle.cv_base.specs.Path.{Path}
use Rattle.cv_ports.specs.Folder.{Folders}
use Rattle.cv_ports.specs.Streams.{Look}
use Rattle.cv_vault.specs.Disk.{Disk, Files}
use Rattle.cv_resolver.specs.declared.question.Question.{Question}
use Rattle.cv_client.specs.Exchange.{Links}
use Rattle.cv_client.specs.declared.url.Url.{Url}
use Rattle.cv_top.specs.Lines.{AnswersLines}
use Rattle.cv_top.specs.Looks.{Looks}
use Rattle.cv_top.specs.Publishes.{Publishes}
use Rattle.cv_top.specs.Runs.{Runs, Inits, Serves, outside, unsigned, no_seal, unbegun as begun_not, init, stdio, look, shell, publish}
use Rattle.cv_top.specs.SealedInner.{Sealed, Keyed, empty, unbegun, begun, faulty, unread, keyed}
use Rattle.cv_words.specs.Words.{Asks}
use Rattle.cv_top.specs.declared.status.Status.{Status}
use Rattle.cv_words.specs.declared.words.Command.TheVariants.{Init, Stdio, Look as Looking, Shell as Shelling, Publish as Publishing}

module _ {V : Type 0} (disk : V → Option Disk) (count : V → ℕ) (left : V → ℕ → Files → Type 0)
    {R W C F N : Type 0} (faults : V → ℕ) (rest given : R → Option (List ℕ)) (looks : R → Look → Type 0) (taken passed : W → Option (List ℕ)) (moments : C → Option (ℕ → ℕ)) (holds : F → Option Folders) (named : F → Option (List ℕ)) (came : N → Links)
    (words : List (List ℕ)) (keys seal : List ℕ) (v : V) (i : R) (o o' : W) (c : C) (f : F) (n : N) where
  module _ (v' : V) (c' : C) (name : List ℕ) where
    pub runs_init : (status : Status) → Asks words (Init name) → Sealed seal ((v' ≡ v) × (o' ≡ o) × (c' ≡ c)) (Inits disk count left taken moments name seal v v' o o' c c') status
        → Runs disk count left faults rest given looks taken passed moments holds named came words keys seal (outside v i o c f n) (outside v' i o' c' f n) status
    runs_init status asks (empty none same) = no_seal (Init name) asks tt none (λ k. outside (same.0 k) i (same.1 k) (same.2 k) f n)
    runs_init status asks (unbegun same) = begun_not (λ k. outside (same.0 k) i (same.1 k) (same.2 k) f n)
    runs_init status asks (begun s some inits) = init name s asks some inits refl refl refl

    pub runs_stdio : (i' : R) (status : Status) → Asks words (Stdio name) → (table : List Key) → keys_of keys ≡ Ok table
        → Sealed seal ((v' ≡ v) × (i' ≡ i) × (o' ≡ o) × (c' ≡ c)) (Serves disk count left faults rest given looks taken passed moments name table seal v v' i i' o o' c c') status
        → Runs disk count left faults rest given looks taken passed moments holds named came words keys seal (outside v i o c f n) (outside v' i' o' c' f n) status
    runs_stdio i' status asks table are (empty none same) = no_seal (Stdio name) asks (table, are) none (λ k. outside (same.0 k) (same.1 k) (same.2 k) (same.3 k) f n)
    runs_stdio i' status asks table are (unbegun same) = begun_not (λ k. outside (same.0 k) (same.1 k) (same.2 k) (same.3 k) f n)
    runs_stdio i' status asks table are (begun s some serves) = stdio name table s asks are some serves refl refl

  pub runs_look : (n' : N) (status : Status) (u : Url) (q : Question) → Asks words (Looking u q) → Sealed seal ((o' ≡ o) × (n' ≡ n)) (Looks taken came seal u q o o' n n') status
      → Runs disk count left faults rest given looks taken passed moments holds named came words keys seal (outside v i o c f n) (outside v i o' c f n') status
  runs_look n' status u q asks (empty none same) = no_seal (Looking u q) asks tt none (λ k. outside v i (same.0 k) c f (same.1 k))
  runs_look n' status u q asks (unbegun same) = begun_not (λ k. outside v i (same.0 k) c f (same.1 k))
  runs_look n' status u q asks (begun s some looked) = look u q s asks some looked refl

  pub runs_shell : (i' : R) (n' : N) (status : Status) (u : Url) → Asks words (Shelling u)
      → Sealed seal ((i' ≡ i) × (o' ≡ o) × (n' ≡ n)) (AnswersLines rest given looks taken passed seal u (came n) (came n') i i' o o') status
      → Runs disk count left faults rest given looks taken passed moments holds named came words keys seal (outside v i o c f n) (outside v i' o' c f n') status
  runs_shell i' n' status u asks (empty none same) = no_seal (Shelling u) asks tt none (λ k. outside v (same.0 k) (same.1 k) c f (same.2 k))
  runs_shell i' n' status u asks (unbegun same) = begun_not (λ k. outside v (same.0 k) (same.1 k) c f (same.2 k))
  runs_shell i' n' status u asks (begun s some answers) = shell u s asks some answers refl

  module _ (c' : C) (f' : F) (n' : N) (u : Url) (path : Path) (root : List ℕ) (asks : Asks words (Publishing u path root)) where
    abbrev Untouched : Type 0
    Untouched = (o' ≡ o) × (c' ≡ c) × (f' ≡ f) × (n' ≡ n)

    abbrev RunsSo : Status → Type 0
    RunsSo = Runs disk count left faults rest given looks taken passed moments holds named came words keys seal (outside v i o c f n) (outside v i o' c' f' n')

    same_outside : Untouched → outside v i o' c' f' n' ≡ outside v i o c f n
    same_outside same = λ k. outside v i (same.0 k) (same.1 k) (same.2 k) (same.3 k)

    publish_sealed : (table : List Key) (status : Status) → keys_of keys ≡ Ok table → Sealed seal Untouched (Publishes taken moments holds named came table seal u path root o o' c c' f f' n n') status → RunsSo status
    publish_sealed table status are (empty none same) = no_seal (Publishing u path root) asks (table, are) none (same_outside same)
    publish_sealed table status are (unbegun same) = begun_not (same_outside same)
    publish_sealed table status are (begun s some publishes) = publish u path root table s asks are some publishes refl refl

    pub runs_publish : (status : Status) → Keyed keys seal Untouched (λ table. Publishes taken moments holds named came table seal u path root o o' c c' f f' n n') status → RunsSo status
    runs_publish status (faulty has same) = unsigned u path root asks has (same_outside same)
    runs_publish status (unread same) = begun_not (same_outside same)
    runs_publish status (keyed table s are sealed) = publish_sealed table s are sealed
