-- What holds of each head of a form: it ends with an empty line, and has no other faults than those of heads.
use Rattle.std.proofs.Common.{◌≡◌, ◌++◌, ◌∷◌, List, [], ℕ, refl, ap, sym, ◌∙◌, append_assoc}
use Rattle.std.specs.List.{flat_map}
use Rattle.httparse.specs.Grammar.{LineEnd, crlf, lf, print_end, Field, print_field, RequestHead as ParsedHead, ResponseHead as ParsedReply, print_blank, print_version, print_reason, print_request, print_response}
use Rattle.std.specs.Prelude.{Bool, true, false, Option, Some, None, IfSome, if◌then◌else◌, nat_lt, length}
use Rattle.std.specs.Option.{option_or}
use Rattle.cv_http.specs.FieldFaults.{is_length_wrong, is_coded, fields_fault}
use Rattle.cv_http.specs.FaultsInner.{IsRefusal}
use Rattle.cv_http.specs.FormsInner.{EndsEmpty}
use Rattle.cv_http.specs.Heads.{parts_of, is_host_wrong, is_length_lacking, fault_of_head}
use Rattle.cv_http.specs.ReplyHeads.{fields_of, fault_of_reply}
use Rattle.cv_http.specs.declared.fault.HttpFault.{HttpFault}
use Rattle.cv_http.specs.declared.fault.HttpFault.TheVariants.{BadHead, HeadTooLarge, NoLength, Coding}
use Rattle.cv_http.specs.declared.field_faults.TheConstants.{FIELD_LIMIT}

-- ---- how a head ends

-- a text ends so
abbrev EndsIn : List ℕ → List ℕ → Type 0
EndsIn tail xs = (front : List ℕ) × (xs ≡ front ++ tail)

behind : {tail : List ℕ} (ys xs : List ℕ) → EndsIn tail xs → EndsIn tail (ys ++ xs)
behind {tail} ys xs is = (ys ++ is.0, ap (λ l. ys ++ l) is.1 ∙ sym (append_assoc ys is.0 tail))

end_ends : (e : LineEnd) → EndsIn (10 ∷ []) (print_end e)
end_ends crlf = (13 ∷ [], refl)
end_ends lf = ([], refl)

field_ends : (f : Field) → EndsIn (10 ∷ []) (print_field f)
field_ends f = behind (f.name ++ 58 ∷ f.raw) (print_end f.end) (end_ends f.end)

-- a line, fields, and then a last text
fields_end : (line : List ℕ) (fs : List Field) (last : List ℕ) → EndsIn (10 ∷ []) line → EndsIn (10 ∷ last) (line ++ (flat_map print_field fs ++ last))
fields_end line [] last is = (is.0, ap (λ l. l ++ last) is.1 ∙ append_assoc is.0 (10 ∷ []) last)
fields_end line (f ∷ fs) last is =
    let later = fields_end (print_field f) fs last (field_ends f) in
    behind line _ (later.0, append_assoc (print_field f) (flat_map print_field fs) last ∙ later.1)

-- a request's head
pub request_ends : (h : ParsedHead) → EndsEmpty (print_request h)
unfolding print_request
request_ends h =
    let front : List ℕ = print_blank h.blank ++ h.method ++ 32 ∷ h.target ++ 32 ∷ print_version h.minor in
    let tail = fields_end (front ++ print_end h.line_end) h.fields (print_end h.last) (behind front (print_end h.line_end) (end_ends h.line_end)) in
    (tail.0, h.last, tail.1)

-- a reply's head
pub reply_ends : (h : ParsedReply) → EndsEmpty (print_response h)
unfolding print_response
reply_ends h =
    let front : List ℕ = print_blank h.blank ++ print_version h.minor ++ 32 ∷ h.digits ++ print_reason h.reason in
    let tail = fields_end (front ++ print_end h.line_end) h.fields (print_end h.last) (behind front (print_end h.line_end) (end_ends h.line_end)) in
    (tail.0, h.last, tail.1)

-- ---- by which faults a head is refused

first_of_fields : (length many coded : Bool) → IfSome (if length then Some BadHead else if many then Some HeadTooLarge else if coded then Some Coding else None) IsRefusal
first_of_fields true many coded = tt
first_of_fields false true coded = tt
first_of_fields false false true = tt
first_of_fields false false false = tt

of_fields : (fields : List (List ℕ × List ℕ)) → IfSome (fields_fault fields) IsRefusal
of_fields fields = first_of_fields (is_length_wrong fields) (nat_lt FIELD_LIMIT (length fields)) (is_coded fields)

first_of_head : (host lacking : Bool) (found : Option HttpFault) → IfSome found IsRefusal
    → IfSome (if host then Some BadHead else option_or found (if lacking then Some NoLength else None)) IsRefusal
first_of_head true lacking found is = tt
first_of_head false lacking (Some fault) is = is
first_of_head false true None is = tt
first_of_head false false None is = tt

-- a request's head
pub request_refusal : (h : ParsedHead) → IfSome (fault_of_head h) IsRefusal
request_refusal h = first_of_head (is_host_wrong (parts_of h)) (is_length_lacking (parts_of h)) (fields_fault (parts_of h).fields) (of_fields (parts_of h).fields)

-- a reply's head
pub reply_refusal : (h : ParsedReply) → IfSome (fault_of_reply h) IsRefusal
reply_refusal h = of_fields (fields_of h)
