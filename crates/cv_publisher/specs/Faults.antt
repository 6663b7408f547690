-- Why nothing is published.
use Rattle.cv_manifest.specs.declared.manifest_fault.ManifestFault.{ManifestFault}
use Rattle.cv_manifest.specs.declared.manifest_fault.ManifestFault.TheVariants as manifest
use Rattle.cv_checkout.specs.declared.fault.CheckoutFault.{CheckoutFault}
use Rattle.cv_checkout.specs.declared.fault.CheckoutFault.TheVariants as checkout
use Rattle.cv_publisher.specs.declared.fault.PublishFault.{PublishFault}
use Rattle.cv_publisher.specs.declared.fault.PublishFault.TheVariants.{BadManifest, BadObject, NotServed, BadCatalogue, NoMemory}

-- where the manifest has a fault
abbrev pub of_manifest : ManifestFault → PublishFault
of_manifest manifest.NoMemory = NoMemory
of_manifest fault = BadManifest fault

-- where a catalogue isn't taken
abbrev pub of_checkout : CheckoutFault → PublishFault
of_checkout (checkout.NotServed id) = NotServed id
of_checkout (checkout.BadObject id found) = BadObject id found
of_checkout (checkout.BadCatalogue id) = BadCatalogue id
of_checkout checkout.NoMemory = NoMemory
