use Rattle.std.proofs.Common.{refl}
use Rattle.cv_top.proofs.limits.limits_are.Goals as goal

pub returns : goal.returns
returns c =
    record {
      texts = record { repository = refl; key = refl; secret = refl; tag = refl; host = refl; room = refl };
      tree = record { name = refl; path = refl; names = refl; target = refl; mode = refl; directory = refl; rows = refl; object = refl; read = refl };
      client = record { sum = refl; links = refl; catalogues = refl; line = refl };
      gate =
          record {
            revision = refl;
            time = refl;
            lasts = refl;
            keys = refl;
            leases = refl;
            granted = refl;
            journal = refl;
            count = refl;
            total = refl;
            header = refl;
          };
      wire =
          record {
            head = refl;
            fields = refl;
            interim = refl;
            body = refl;
            piece = refl;
            message = refl;
            requests = refl;
            found = refl;
            absent = refl;
          };
    }
