use Rattle.std.specs.declared.option.Option.TheVariants.{Some}
use Rattle.cv_vault.specs.Replace.{PutOnWay, MovedIn, Replaced}
use Rattle.cv_vault.specs.Walks.{Nothing, ComesTo}
use Rattle.cv_vault.proofs.Walking.{leaves_out_more}
use Rattle.cv_vault.proofs.wider.more_names_may_be_left_out.Goals as goal

pub returns : goal.returns
returns g c =
    let t = g.V.Vault in record {
      put = λ d way bytes answer. leaves_out_more t.disk t.count t.left Nothing (PutOnWay d way bytes answer) d;
      moved = λ d name bytes answer. leaves_out_more t.disk t.count t.left (ComesTo name (Some bytes)) (MovedIn d name bytes answer) d;
      replaced = λ d name bytes answer. leaves_out_more t.disk t.count t.left (ComesTo name (Some bytes)) (Replaced d name bytes answer) d;
    }
