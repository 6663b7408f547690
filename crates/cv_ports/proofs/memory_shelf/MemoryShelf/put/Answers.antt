use Rattle.std.proofs.Common.{refl}
use Rattle.cv_base.specs.declared.id.Kind.TheVariants.{Plain, Catalogue, History}
use Rattle.cv_ports.proofs.ShelfPuts.{put_object}
use Rattle.cv_ports.proofs.memory_shelf.MemoryShelf.put.Goals as goal

pub returns-in-Plain-clause-objects : goal.returns-in-Plain-clause-objects
returns-in-Plain-clause-objects c =
    put_object _ _ c.args.object Plain c.self.inside.plain c.put_in.new.map _ c.in-Plain.is c.self.view_is refl c.put_in.ensures

pub returns-in-Catalogue-clause-objects : goal.returns-in-Catalogue-clause-objects
returns-in-Catalogue-clause-objects c =
    put_object _ _ c.args.object Catalogue c.self.inside.catalogues c.put_in-in-Catalogue.new.map _ c.in-Catalogue.is c.self.view_is refl c.put_in-in-Catalogue.ensures

pub returns-in-History-clause-objects : goal.returns-in-History-clause-objects
returns-in-History-clause-objects c =
    put_object _ _ c.args.object History c.self.inside.history c.put_in-in-History.new.map _ c.in-History.is c.self.view_is refl c.put_in-in-History.ensures
