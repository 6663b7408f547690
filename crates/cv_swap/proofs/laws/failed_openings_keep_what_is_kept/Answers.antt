use Rattle.cv_vault.proofs.Laws.{gains_none}
use Rattle.cv_swap.proofs.Failed.{failed_stands, unraised_stands}
use Rattle.cv_swap.proofs.laws.failed_openings_keep_what_is_kept.Goals as goal

pub returns : goal.returns
returns c = record {
  failed = failed_stands;
  memory = unraised_stands;
  spent = λ name is_seal d d' k s same. unraised_stands name is_seal d d' k s (gains_none same);
}
