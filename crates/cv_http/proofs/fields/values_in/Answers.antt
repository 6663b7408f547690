use Rattle.std.proofs.Common.{rules, sym, ap, ◌∙◌}
use Rattle.std.specs.Prelude.{option_map}
use Rattle.std.proofs.lemmas.List.{map-append}
use Rattle.cv_http.proofs.OneMore.{value_found, value_missed}
use Rattle.cv_http.proofs.fields.values_in.Goals.{in-Some+in_ok-push, in_default}
use Rattle.cv_http.proofs.fields.values_in.Goals as goal

pub loop-header-preserved : goal.loop-header-preserved
loop-header-preserved c =
    elim c.match-value_if.branch [
      | in-Some+in_ok-push w ↦
          let is = sym c.value_if.ensures ∙ ap (option_map (λ v. v.now)) w.in-Some.is in
          let more = value_found c.args.name.now c.args.bytes.now c.args.headers.now c.loop-header.header-index _ w.in-Some.value.now c.loop-header-test.true is in
          search (rules, more, map-append)
      | in_default w ↦
          let is = sym c.value_if.ensures ∙ ap (option_map (λ v. v.now)) w.in_default.is in
          let more = value_missed c.args.name.now c.args.bytes.now c.args.headers.now c.loop-header.header-index _ c.loop-header-test.true is in
          search (rules, more)
    ]
