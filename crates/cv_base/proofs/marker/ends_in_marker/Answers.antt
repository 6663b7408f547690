use Rattle.std.proofs.Common.{rules, ◌≡◌, ◌-◌, length, Some}
use Rattle.std.specs.List.{slice_get}
use Rattle.std.proofs.lemmas.Map.Text.{is_eq-slice_cmp}
use Rattle.cv_base.proofs.LastNames.{ends_in_last}
use Rattle.cv_base.proofs.marker.ends_in_marker.Goals as goal

pub returns-in-Some : goal.returns-in-Some
returns-in-Some c =
    let names = c.args.path.now in
    let last : slice_get names (length names - 1) ≡ Some c.in-Some.last.now = search rules in
    rw (ends_in_last _ _ names last) (rw (is_eq-slice_cmp _ _) (search rules))
