-- Why a question has no answer. What only this crate's own functions say.
use Rattle.cv_http.specs.declared.reply.SendFault.{SendFault}
use Rattle.cv_http.specs.declared.reply.SendFault.TheVariants as send_fault
use Rattle.cv_http.specs.declared.fault.HttpFault.{HttpFault}
use Rattle.cv_http.specs.declared.fault.HttpFault.TheVariants as http_fault
use Rattle.cv_client.specs.declared.exchanging.ExchangeFault.{ExchangeFault}
use Rattle.cv_client.specs.declared.exchanging.ExchangeFault.TheVariants as exchange_fault
use Rattle.cv_client.specs.declared.ask_fault.AskFault.TheVariants.{LinkFailed, BadReply, NoMemory}

-- where a request wasn't written
abbrev pub of_send : SendFault → ExchangeFault
of_send send_fault.WriteFault = exchange_fault.LinkFailed
of_send send_fault.NoMemory = exchange_fault.NoMemory

-- where no reply was read
abbrev pub of_read : HttpFault → ExchangeFault
of_read http_fault.ReadFault = exchange_fault.LinkFailed
of_read http_fault.NoMemory = exchange_fault.NoMemory
of_read fault = exchange_fault.BadReply
