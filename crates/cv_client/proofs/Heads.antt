-- A question at the head that is served.
use Rattle.std.proofs.Common.{◌≡◌, ◌≢◌, refl, sym, subst, inl, inr, arith}
use Rattle.std.specs.declared.result.Result.{Result}
use Rattle.std.specs.declared.result.Result.TheVariants.{Ok, Err}
use Rattle.cv_base.specs.Unless.{IsUnless}
use Rattle.cv_tree.specs.Tree.{Nodes, IsTree}
use Rattle.cv_cut.specs.Catalogues.{root_of, Fits}
use Rattle.cv_manifest.specs.declared.manifest.Manifest.{Manifest}
use Rattle.cv_resolver.specs.Look.{Finding}
use Rattle.cv_resolver.specs.Resolver.{IsOn}
use Rattle.cv_resolver.specs.declared.found.Found.{Found}
use Rattle.cv_resolver.specs.declared.found.ClientFault.{ClientFault}
use Rattle.cv_client.specs.Pin.{client_at}
use Rattle.cv_client.specs.Served.{IsManifestOr, IsWholeOr, IsWhole}
use Rattle.cv_client.specs.declared.ask_fault.AskFault.{AskFault}
use Rattle.cv_client.specs.declared.ask_fault.AskFault.TheVariants.{LinkFailed, BadReply, BadManifest, Refused, NoMemory}

-- a client that knows nothing yet is pinned at the root of a tree
pub on_head : {t : Nodes} (m : Manifest) → IsTree t → Fits t → m.head.root ≡ root_of t → IsOn t (client_at m)
on_head m tree fits root = record {
  tree = tree;
  fits = fits;
  root = root;
  own = record { own = λ bytes c there. (let low = there.1 in absurd (omega (arith, low))) };
  asked = tt;
}

-- where none was pinned, memory was wanted
pub unpinned_whole : (m : Manifest) (fault : AskFault) (finding : Result Finding ClientFault) → IsUnless NoMemory (Err fault) (Ok (client_at m)) → IsWhole finding (Err fault)
unpinned_whole m fault finding is = elim is [
  | inl lacking ↦ subst (λ (f : AskFault). IsWhole finding (Err f)) (sym lacking) tt
  | inr other ↦ absurd cc
]

-- where the link didn't fail
pub unfailed_pin : (m : Manifest) (fault : AskFault) → fault ≢ LinkFailed → IsManifestOr m (Err fault) → IsUnless NoMemory (Err fault) (Ok (client_at m))
unfailed_pin m LinkFailed steady is = absurd (steady refl)
unfailed_pin m BadReply steady is = absurd is
unfailed_pin m BadManifest steady is = absurd is
unfailed_pin m (Refused why) steady is = absurd is
unfailed_pin m NoMemory steady is = inl refl

pub unfailed : (finding : Result Finding ClientFault) (answer : Result Found AskFault) → (answer ≡ Err LinkFailed → ⊥) → IsWholeOr finding answer → IsWhole finding answer
unfailed finding (Ok found) steady is = is
unfailed finding (Err LinkFailed) steady is = absurd (steady refl)
unfailed finding (Err BadReply) steady is = is
unfailed finding (Err BadManifest) steady is = is
unfailed finding (Err (Refused why)) steady is = is
unfailed finding (Err NoMemory) steady is = tt
