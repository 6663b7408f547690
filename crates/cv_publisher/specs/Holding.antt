-- What holds of a publisher between its calls.
use Rattle.std.specs.Prelude.{◌≡◌, ◌≢◌, ℕ, List, [], ◌++◌, false, Option, IsSome}
use Rattle.cv_base.specs.declared.object.Object.{Object}
use Rattle.cv_base.specs.Marker.{marker, ends_in}
use Rattle.cv_manifest.specs.declared.manifest.Manifest.{Manifest}
use Rattle.cv_tree.specs.Changes.{FitsUnder}
use Rattle.cv_checkout.specs.Progress.{Progress}
use Rattle.cv_checkout.specs.Wanting.{next_of}
use Rattle.cv_publisher.specs.Packing.{AreSendable}
use Rattle.cv_publisher.specs.declared.plan.Plan.{Plan}
use Rattle.cv_publisher.specs.declared.stage.Stage.{Stage}
use Rattle.cv_publisher.specs.declared.stage.Stage.TheVariants.{Leasing, Reading, Fetching, Sending, Committing, Cancelling, Ended}

-- what is seen of a publisher: what it was made with, the manifest that it read, and how far it has come
pub record PublisherView : Type 0 where
  pub plan : Plan
  pub manifest : Option Manifest
  pub stage : Stage

-- the changes can be published at the path
pub record IsPlan (plan : Plan) : Type 0 where
  pub unmarked : ends_in marker plan.path ≡ false
  pub limits : FitsUnder plan.path plan.changes.nodes

-- the checkout is of the path, and a catalogue is wanted
pub record IsFetching (plan : Plan) (checkout : Progress) : Type 0 where
  pub path_is : checkout.path ≡ plan.path
  pub wants : IsSome (next_of checkout.wanted)

-- some are left that can be sent
pub record IsSending (plan : Plan) (catalogues : List Object) (left : List ℕ) : Type 0 where
  pub some : left ≢ []
  pub sendable : AreSendable (plan.changes.objects ++ catalogues) left

-- what holds of each stage
abbrev pub IsHeld : Plan → Stage → Type 0
IsHeld plan Leasing = Unit {0}
IsHeld plan (Reading token) = Unit {0}
IsHeld plan (Fetching token base checkout) = IsFetching plan checkout
IsHeld plan (Sending offer catalogues left) = IsSending plan catalogues left
IsHeld plan (Committing offer) = Unit {0}
IsHeld plan (Cancelling token fault) = Unit {0}
IsHeld plan (Ended end) = Unit {0}
