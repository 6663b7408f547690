use Rattle.std.proofs.Common.{refl}
use Rattle.cv_base.proofs.Laws.{OnOk-map}
use Rattle.cv_objects.proofs.Noted.{put_plain, put_catalogue, put_record}
use Rattle.cv_objects.proofs.places.note_place.Goals as goal

pub returns-in-Plain : goal.returns-in-Plain
returns-in-Plain c = OnOk-map c.note_hash.result (λ u. put_plain c.args.places.now (record { plain = c.note_hash.new.places; catalogues = c.args.places.now.catalogues; records = c.args.places.now.records }) c.args.id c.args.place c.in-Plain.is u refl refl) c.note_hash.ensures

pub returns-in-Catalogue : goal.returns-in-Catalogue
returns-in-Catalogue c = OnOk-map c.note_hash-in-Catalogue.result (λ u. put_catalogue c.args.places.now (record { plain = c.args.places.now.plain; catalogues = c.note_hash-in-Catalogue.new.places; records = c.args.places.now.records }) c.args.id c.args.place c.in-Catalogue.is u refl refl) c.note_hash-in-Catalogue.ensures

pub returns-in-History : goal.returns-in-History
returns-in-History c = OnOk-map c.note_hash-in-History.result (λ u. put_record c.args.places.now (record { plain = c.args.places.now.plain; catalogues = c.args.places.now.catalogues; records = c.note_hash-in-History.new.places }) c.args.id c.args.place c.in-History.is u refl refl) c.note_hash-in-History.ensures
