use Rattle.std.proofs.Common.{◌≡◌, map, take}
use Rattle.httparse.specs.Spans.{header_bytes}
use Rattle.cv_http.specs.Fields.{values_of}
use Rattle.cv_http.proofs.fields.values_in.Given as goal

abbrev pub invariant-loop-header : goal.invariant-loop-header
invariant-loop-header l =
    map (λ value. value.now) l.found.items ≡ values_of l.name (map (header_bytes l.bytes) (take l.header-index l.headers))
