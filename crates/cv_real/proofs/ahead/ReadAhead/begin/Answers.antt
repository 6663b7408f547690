use Rattle.std.proofs.Common.{◌≢◌, string_bytes}
use Rattle.std.specs.Prelude.{All}
use Rattle.cv_real.proofs.ReadFiles.{nothing_begun, nothing_of_others}
use Rattle.cv_real.specs.declared.ahead.Directory.{Directory}
use Rattle.cv_real.proofs.ahead.ReadAhead.begin.Goals as goal

pub returns-in_default-clause-anew : goal.returns-in_default-clause-anew
returns-in_default-clause-anew g c = nothing_of_others _ _ (rw (← c.as_str-2.ensures.value) c.make_room.ensures.others)

pub returns-then-is_ok-clause-anew : goal.returns-then-is_ok-clause-anew
returns-then-is_ok-clause-anew g c =
    let kept = c.make_room.new.self.directories.items in
    let others : All (λ (d : Directory). string_bytes d.folder ≢ string_bytes c.args.folder) kept = rw (← c.as_str-2.ensures.value) c.make_room.ensures.others in
    rw c.start_all.ensures.held (nothing_begun _ kept c.push.new.self.items c.in-Ok.directory _ others c.in-Ok.ensures.ready c.push.ensures.items)

pub returns-else-is_ok-clause-anew : goal.returns-else-is_ok-clause-anew
returns-else-is_ok-clause-anew g c =
    let kept = c.make_room.new.self.directories.items in
    let others : All (λ (d : Directory). string_bytes d.folder ≢ string_bytes c.args.folder) kept = rw (← c.as_str-2.ensures.value) c.make_room.ensures.others in
    nothing_begun _ kept c.push.new.self.items c.in-Ok.directory _ others c.in-Ok.ensures.ready c.push.ensures.items
