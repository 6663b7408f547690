-- The limits that several crates' definitions name by the code's own constants, as numbers.
use Rattle.std.specs.Prelude.{◌≡◌, ◌+◌, ◌^◌}
use Rattle.cv_base.specs.declared.limits.TheConstants.{DIRECTORY_MODE, KEY_ID_LIMIT, LAST_REVISION, LAST_TIME, MODE_LIMIT, OBJECT_LIMIT, TAG_LIMIT}
use Rattle.cv_base.specs.declared.name.TheConstants.{NAME_LIMIT}
use Rattle.cv_base.specs.declared.path_name.TheConstants.{PATH_NAME_LIMIT}
use Rattle.cv_base.specs.declared.repo_path.TheConstants.{NAMES_LIMIT, PATH_LIMIT}
use Rattle.cv_base.specs.declared.target.TheConstants.{TARGET_LIMIT}
use Rattle.cv_ports.specs.declared.folder.TheConstants.{FOLDER_READ_LIMIT}
use Rattle.cv_ports.specs.declared.host_name.TheConstants.{HOST_LIMIT}
use Rattle.cv_system.specs.declared.path_buffer.TheConstants.{PATH_ROOM}
use Rattle.cv_http.specs.declared.buffer.TheConstants.{PIECE}
use Rattle.cv_http.specs.declared.code.TheConstants.{NOT_FOUND, OK}
use Rattle.cv_http.specs.declared.field_faults.TheConstants.{FIELD_LIMIT}
use Rattle.cv_http.specs.declared.judge.TheConstants.{HEAD_LIMIT}
use Rattle.cv_http.specs.declared.wire.TheConstants.{BODY_LIMIT, INTERIM_LIMIT}
use Rattle.cv_keys.specs.declared.read_keys.TheConstants.{KEY_LIMIT, SECRET_LIMIT}
use Rattle.cv_pack.specs.declared.header_reader.TheConstants.{COUNT_LIMIT, HEADER_LIMIT, TOTAL_LIMIT}
use Rattle.cv_manifest.specs.declared.manifest.TheConstants.{TIME_TO_LIVE}
use Rattle.cv_rows.specs.declared.limits.TheConstants.{ROW_LIMIT}
use Rattle.cv_overlay.specs.declared.bounds.TheConstants.{SUM_LIMIT}
use Rattle.cv_resolver.specs.declared.start.TheConstants.{LINKS}
use Rattle.cv_client.specs.declared.pinning.TheConstants.{CATALOGUES}
use Rattle.cv_shell.specs.declared.lines.TheConstants.{LINE_LIMIT}
use Rattle.cv_leases.specs.declared.limits.TheConstants.{LEASE_LIMIT}
use Rattle.cv_gate.specs.declared.entry.TheConstants.{JOURNAL_LIMIT}
use Rattle.cv_gate.specs.declared.lease_line.TheConstants.{LEASE_TIME}
use Rattle.cv_session.specs.declared.exchange.TheConstants.{REQUEST_LIMIT}
use Rattle.cv_session.specs.declared.payload.TheConstants.{MESSAGE_LIMIT}

-- bytes of names and texts, and one more than the bytes of a path that the system takes
pub record AreTextLimits : Type 0 where
  pub repository : NAME_LIMIT ≡ 255
  pub key : KEY_ID_LIMIT ≡ 255
  pub secret : SECRET_LIMIT ≡ 255
  pub tag : TAG_LIMIT ≡ 255
  pub host : HOST_LIMIT ≡ 253
  pub room : PATH_ROOM ≡ 4096

-- of a tree: bytes of names, paths and links, names of a path, permission bits and those of a directory that is made without being asked
-- for, rows of a catalogue, and bytes of an object, of which one more is read
pub record AreTreeLimits : Type 0 where
  pub name : PATH_NAME_LIMIT ≡ 255
  pub path : PATH_LIMIT ≡ 4095
  pub names : NAMES_LIMIT ≡ 64
  pub target : TARGET_LIMIT ≡ 4095
  pub mode : MODE_LIMIT ≡ 4096
  pub directory : DIRECTORY_MODE ≡ 493
  pub rows : ROW_LIMIT ≡ 50000
  pub object : OBJECT_LIMIT ≡ 16777216
  pub read : FOLDER_READ_LIMIT ≡ 16777217

-- of a client: bytes of all contents of a folder of changes, links that a walk follows, catalogues that are kept, and bytes of a line of
-- the shell
pub record AreClientLimits : Type 0 where
  pub sum : SUM_LIMIT ≡ 1073741824
  pub links : LINKS ≡ 32
  pub catalogues : CATALOGUES ≡ 64
  pub line : LINE_LIMIT ≡ 8192

-- of a gateway: revisions, seconds since 1970, seconds that a manifest says it lasts, keys, live leases, seconds for which a lease
-- is granted, entries of the journal, and objects and bytes of a pack, and bytes of its header
pub record AreGateLimits : Type 0 where
  pub revision : LAST_REVISION ≡ 262144
  pub time : LAST_TIME + 1 ≡ 2 ^ 62
  pub lasts : TIME_TO_LIVE ≡ 240
  pub keys : KEY_LIMIT ≡ 256
  pub leases : LEASE_LIMIT ≡ 4096
  pub granted : LEASE_TIME ≡ 7200
  pub journal : JOURNAL_LIMIT ≡ 262144
  pub count : COUNT_LIMIT ≡ 10000
  pub total : TOTAL_LIMIT ≡ 33554432
  pub header : HEADER_LIMIT ≡ 1048576

-- of a connection: bytes of a head, and its fields; interim heads of a reply, and bytes of its body; bytes of a piece that is read, and
-- of a payload's message or the body of another request; requests; and the codes of a reply that has what was asked for, and that
-- there is none
pub record AreWireLimits : Type 0 where
  pub head : HEAD_LIMIT ≡ 16384
  pub fields : FIELD_LIMIT ≡ 64
  pub interim : INTERIM_LIMIT ≡ 16
  pub body : BODY_LIMIT ≡ 33554432
  pub piece : PIECE ≡ 65536
  pub message : MESSAGE_LIMIT ≡ 65536
  pub requests : REQUEST_LIMIT ≡ 1000
  pub found : OK ≡ 200
  pub absent : NOT_FOUND ≡ 404

pub record AreLimits : Type 0 where
  pub texts : AreTextLimits
  pub tree : AreTreeLimits
  pub client : AreClientLimits
  pub gate : AreGateLimits
  pub wire : AreWireLimits
