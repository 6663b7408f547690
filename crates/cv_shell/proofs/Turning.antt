-- A manifest that was fetched is taken or refused.
use Rattle.std.proofs.Common.{◌≡◌, ℕ, Bool, List, ap, subst, ◌∙◌}
use Rattle.std.specs.Prelude.{Result, Ok}
use Rattle.cv_manifest.specs.declared.manifest.Manifest.{Manifest}
use Rattle.cv_resolver.specs.Resolver.{Client, renewal}
use Rattle.cv_resolver.specs.declared.found.RenewFault.{RenewFault}
use Rattle.cv_client.specs.Exchange.{Links}
use Rattle.cv_client.specs.Pin.{FetchesManifest}
use Rattle.cv_client.specs.Served.{FetchesServed}
use Rattle.cv_client.specs.declared.url.Url.{Url}
use Rattle.cv_shell.specs.Turns.{Said, said_of_renewal, after_renewal, Prints, Renews, offered}

pub taken : (is_seal : List ℕ → List ℕ → Bool) (u : Url) (before after : Links) (r r' : Client) (told : Said) (m : Manifest) (outcome : Result (Unit {0}) RenewFault)
    → FetchesManifest is_seal u before after (Ok m) → FetchesServed is_seal u before after (Ok m) → outcome ≡ renewal r m → r' ≡ after_renewal r m outcome → Prints (said_of_renewal m outcome) told → Renews is_seal u before after r r' told
taken is_seal u before after r r' told m outcome fetched served is then_ says =
    offered m fetched served (then_ ∙ ap (after_renewal r m) is) (subst (λ (o : Result (Unit {0}) RenewFault). Prints (said_of_renewal m o) told) is says)
