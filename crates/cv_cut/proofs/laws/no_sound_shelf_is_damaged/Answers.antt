use Rattle.std.proofs.Common.{sym, ◌∙◌}
use Rattle.cv_cut.proofs.laws.no_sound_shelf_is_damaged.Goals as goal

pub returns : goal.returns
returns _ = λ shelf from start id found sound d. d.damage.other (d.damage.digest ∙ sym (sound.hash id d.damage.bytes d.damage.there))
