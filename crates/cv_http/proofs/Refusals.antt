-- By which faults bytes are refused.
use Rattle.std.proofs.Common.{◌≡◌, List, ℕ, Bool, true, false, subst}
use Rattle.std.specs.Prelude.{Option, Some, None, IfSome, if◌then◌else◌, nat_lt, length}
use Rattle.cv_http.specs.FieldFaults.{is_length_wrong, is_coded}
use Rattle.cv_http.specs.Forms.{Form, RefusedAs, never, large, judged}
use Rattle.cv_http.specs.ReplyHeads.{fields_of, reply_form}
use Rattle.cv_http.specs.FaultsInner.{IsRefusal}
use Rattle.cv_http.specs.declared.fault.HttpFault.{HttpFault}
use Rattle.cv_http.specs.declared.fault.HttpFault.TheVariants.{BadHead, HeadTooLarge, NoLength, Coding}
use Rattle.cv_http.specs.declared.field_faults.TheConstants.{FIELD_LIMIT}

-- where a head has no other faults, bytes are refused by no others
pub refusal : {P H : Type 0} (form : Form P H) → ((head : P) → IfSome (form.fault head) IsRefusal) → (b : List ℕ) (fault : HttpFault) → RefusedAs form b fault → IsRefusal fault
refusal form only b _ (never h) = tt
refusal form only b _ (large long h) = tt
refusal form only b _ (judged parsed later fault has is) = let found : IfSome (Some fault) IsRefusal = subst (λ (o : Option HttpFault). IfSome o IsRefusal) is (only parsed) in found

no_length_of_fields : (length many coded : Bool) → (if length then Some BadHead else if many then Some HeadTooLarge else if coded then Some Coding else None) ≡ Some NoLength → ⊥
no_length_of_fields true many coded is = cc
no_length_of_fields false true coded is = cc
no_length_of_fields false false true is = cc
no_length_of_fields false false false is = cc

-- a reply's head is never refused for want of a length
pub reply_needs_none : (b : List ℕ) (fault : HttpFault) → RefusedAs reply_form b fault → fault ≡ NoLength → ⊥
reply_needs_none b _ (never h) = λ same. cc
reply_needs_none b _ (large long h) = λ same. cc
reply_needs_none b _ (judged parsed later fault has is) = λ same.
    no_length_of_fields (is_length_wrong (fields_of parsed)) (nat_lt FIELD_LIMIT (length (fields_of parsed))) (is_coded (fields_of parsed))
    (subst (λ (f : HttpFault). reply_form.fault parsed ≡ Some f) same is)
