-- A client is what is seen of it.
use Rattle.std.proofs.Common.{◌≡◌, ◌∙◌, ℕ, List, ap}
use Rattle.std.specs.Prelude.{Option}
use Rattle.cv_resolver.specs.Kept.{Kept}
use Rattle.cv_resolver.specs.Resolver.{Client}
use Rattle.cv_resolver.specs.declared.resolver.Asked.{Asked}

abbrev client : List ℕ → ℕ → List ℕ → Kept → Option Asked → Client
client name revision root cache asked = record { name = name; revision = revision; root = root; cache = cache; asked = asked }

pub same_client : (r r' : Client) → r.name ≡ r'.name → r.revision ≡ r'.revision → r.root ≡ r'.root → r.cache ≡ r'.cache → r.asked ≡ r'.asked → r ≡ r'
same_client r r' name revision root cache asked =
    ap (λ (x : List ℕ). client x r.revision r.root r.cache r.asked) name
    ∙ ap (λ (x : ℕ). client r'.name x r.root r.cache r.asked) revision
    ∙ ap (λ (x : List ℕ). client r'.name r'.revision x r.cache r.asked) root
    ∙ ap (λ (x : Kept). client r'.name r'.revision r'.root x r.asked) cache
    ∙ ap (λ (x : Option Asked). client r'.name r'.revision r'.root r'.cache x) asked
