-- By which fault the fields of a head are refused.
use Rattle.std.specs.Prelude.{◌&&◌, nat_lt, ℕ, List, length, Bool, Option, Some, None, is_none, codes, if◌then◌else◌}
use Rattle.cv_http.specs.Fields.{values_of, length_of}
use Rattle.cv_http.specs.declared.fault.HttpFault.{HttpFault}
use Rattle.cv_http.specs.declared.fault.HttpFault.TheVariants.{BadHead, HeadTooLarge, Coding}
use Rattle.cv_http.specs.declared.field_faults.TheConstants.{FIELD_LIMIT}

-- the values of Content-Length
abbrev pub lengths_of : List (List ℕ × List ℕ) → List (List ℕ)
lengths_of fields = values_of (codes "content-length") fields

-- a Content-Length that is no number, or two of them
abbrev pub is_length_wrong : List (List ℕ × List ℕ) → Bool
is_length_wrong fields = nat_lt 0 (length (lengths_of fields)) && is_none (length_of (lengths_of fields))

-- a head that is coded in another way than by its length
abbrev pub is_coded : List (List ℕ × List ℕ) → Bool
is_coded fields = nat_lt 0 (length (values_of (codes "transfer-encoding") fields))

-- the first fault of the fields, if they have one
abbrev pub fields_fault : List (List ℕ × List ℕ) → Option HttpFault
fields_fault fields =
    if is_length_wrong fields then Some BadHead
    else if nat_lt FIELD_LIMIT (length fields) then Some HeadTooLarge
    else if is_coded fields then Some Coding
    else None
