-- A reply where more bytes stand behind it.
use Rattle.std.proofs.Common.{◌≡◌, ◌++◌, ℕ, List, [], length, length-append, append_assoc, append-nil, ap, ◌∙◌, arith}
use Rattle.std.specs.Prelude.{⊤, Option, Some, None}
use Rattle.cv_http.specs.ReplyTexts.{IsBody, IsTooLarge, IsReply, IsRefusedReply, bad_head, many, too_large}
use Rattle.cv_http.specs.declared.http_reply.HttpReply.{HttpReply}
use Rattle.cv_http.specs.declared.fault.HttpFault.{HttpFault}
use Rattle.cv_http.proofs.Replying.{passes_on, reaches_on, final_on}
use Rattle.cv_http.proofs.Streams.{refused_on}

body_on : (size : Option ℕ) (b more body later : List ℕ) → IsBody (more ≡ []) size b body later → IsBody ⊤ size (b ++ more) body (later ++ more)
body_on None b more body later is =
    (ap (λ (l : List ℕ). b ++ l) is.3 ∙ append-nil b ∙ is.0, ap (λ (l : List ℕ). later ++ l) is.3 ∙ append-nil later ∙ is.1, is.2, tt)
body_on (Some size) b more body later is = (ap (λ (l : List ℕ). l ++ more) is.0 ∙ append_assoc body later more, is.1, is.2)

large_on : (size : Option ℕ) (b more : List ℕ) → IsTooLarge size b → IsTooLarge size (b ++ more)
large_on None b more large = rw length-append (omega (arith, large))
large_on (Some size) b more large = large

pub reply_behind : (b more later : List ℕ) (reply : HttpReply) → IsReply (more ≡ []) b reply later → IsReply ⊤ (b ++ more) reply (later ++ more)
reply_behind b more later reply is = record {
  head = is.head;
  behind = is.behind ++ more;
  final = final_on more is.final;
  code = is.code;
  body = body_on is.head.length is.behind more reply.body later is.body;
}

pub refused_behind : (b more : List ℕ) (fault : HttpFault) → IsRefusedReply b fault → IsRefusedReply (b ++ more) fault
refused_behind b more _ (bad_head at fault reaches refused) = bad_head (at ++ more) fault (reaches_on more reaches.limit reaches.passes) (refused_on more refused)
refused_behind b more _ (many at passes) = many (at ++ more) (passes_on more passes)
refused_behind b more _ (too_large head later final large) = too_large head (later ++ more) (final_on more final) (large_on head.length later more large)
