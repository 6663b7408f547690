use Rattle.cv_cut.proofs.Told.{root_decodes_at, nested_decodes_at, one_decoding}
use Rattle.cv_cut.proofs.laws.catalogues_decode_alone.Goals as goal

pub returns-clause-root : goal.returns-clause-root
returns-clause-root c = root_decodes_at

pub returns-clause-nested : goal.returns-clause-nested
returns-clause-nested c = nested_decodes_at

pub returns-clause-one : goal.returns-clause-one
returns-clause-one c = one_decoding
