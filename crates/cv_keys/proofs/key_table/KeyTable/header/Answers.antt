use Rattle.std.proofs.Common.{◌≡◌, Some}
use Rattle.std.specs.Prelude.{slice_get}
use Rattle.cv_keys.specs.Key.{IsTable}
use Rattle.cv_keys.proofs.Headers.{header-told, header-accepted, slice_get-index}
use Rattle.cv_keys.proofs.key_table.KeyTable.header.Goals as goal

pub returns-clause-header : goal.returns-clause-header
returns-clause-header c =
    let key = c.index.result.now in
    let indexed = rw c.self.view_is at c.index.ensures in
    let found : slice_get c.args.self.now c.args.key.0 ≡ Some key = slice_get-index c.args.self.now c.args.key.0 key c.requires indexed in
    header-told c.args.self.now c.args.key.0 key c.args.message.now c.header_of.result found c.header_of.ensures

pub returns-clause-accepted : goal.returns-clause-accepted
returns-clause-accepted c =
    let key = c.index.result.now in
    let indexed = rw c.self.view_is at c.index.ensures in
    let found : slice_get c.args.self.now c.args.key.0 ≡ Some key = slice_get-index c.args.self.now c.args.key.0 key c.requires indexed in
    let table : IsTable c.args.self.now = rw c.self.view_is at c.self.invariant in
    header-accepted c.args.self.now c.args.key.0 key c.args.message.now c.header_of.result table found c.header_of.ensures
