-- Why a question has no answer.
use Rattle.cv_manifest.specs.declared.manifest_fault.ManifestFault.{ManifestFault}
use Rattle.cv_manifest.specs.declared.manifest_fault.ManifestFault.TheVariants as manifest_fault
use Rattle.cv_resolver.specs.declared.found.ClientFault.{ClientFault}
use Rattle.cv_resolver.specs.declared.found.ClientFault.TheVariants as client_fault
use Rattle.cv_client.specs.declared.exchanging.ExchangeFault.{ExchangeFault}
use Rattle.cv_client.specs.declared.exchanging.ExchangeFault.TheVariants as exchange_fault
use Rattle.cv_client.specs.declared.ask_fault.AskFault.{AskFault}
use Rattle.cv_client.specs.declared.ask_fault.AskFault.TheVariants.{LinkFailed, BadReply, BadManifest, Refused, NoMemory}

-- where an exchange was lost
abbrev pub lost_by : ExchangeFault → AskFault
lost_by exchange_fault.LinkFailed = LinkFailed
lost_by exchange_fault.BadReply = BadReply
lost_by exchange_fault.NoMemory = NoMemory

-- where the manifest has a fault
abbrev pub bad_by : ManifestFault → AskFault
bad_by manifest_fault.NoMemory = NoMemory
bad_by fault = BadManifest

-- where the client refuses
abbrev pub refused_by : ClientFault → AskFault
refused_by client_fault.NoMemory = NoMemory
refused_by fault = Refused fault
