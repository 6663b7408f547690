use Rattle.std.proofs.Common.{◌∙◌, Some, sym, ap}
use Rattle.cv_tree.proofs.PathLimits.{stripped-Some, stripped-None, IsPath-behind}
use Rattle.cv_tree.proofs.joined.behind.Goals as goal

pub extended-requires : goal.extended-requires
extended-requires c =
    let cases = c.in-Some.ensures.cases in
    let is = stripped-Some c.args.path.now c.args.longer.now _ _ c.in-Some.rest.now c.names-2.ensures.names c.names.ensures.names cases.0 cases.1 in
    rw c.root.ensures (IsPath-behind c.args.path.now c.args.longer.now c.in-Some.rest.now c.names.ensures.limits is)

pub returns-in_ok-extended-in-Some : goal.returns-in_ok-extended-in-Some
returns-in_ok-extended-in-Some c =
    let cases = c.in-Some.ensures.cases in
    let is = stripped-Some c.args.path.now c.args.longer.now _ _ c.in-Some.rest.now c.names-2.ensures.names c.names.ensures.names cases.0 cases.1 in
    ap Some (rw c.root.ensures at c.in_ok-extended-in-Some.ensures) ∙ sym is

pub returns-in-None : goal.returns-in-None
returns-in-None c = sym (stripped-None c.args.path.now c.args.longer.now _ _ c.names-2.ensures.names c.names.ensures.names c.in-None.ensures.cases)
