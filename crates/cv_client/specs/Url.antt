-- The URL under which a repository is served: http://<authority>/cvmfs/<repository>.
use Rattle.std.specs.Prelude.{◌≡◌, ◌≤◌, ◌++◌, ◌&&◌, ◌||◌, ◌==◌, nat_le, ℕ, Bool, List, length, codes, decimal, Option, Some, None, IsTrue}
use Rattle.std.specs.List.{list_all}
use Rattle.cv_base.specs.Name.{is_name}
use Rattle.cv_client.specs.declared.url.Url.{Url}
use Rattle.cv_ports.specs.declared.host_name.TheConstants.{HOST_LIMIT}

-- an ASCII letter or digit, '.' or '-'
abbrev pub is_host_byte : ℕ → Bool
is_host_byte c = (nat_le 97 c && nat_le c 122) || (nat_le 65 c && nat_le c 90) || (nat_le 48 c && nat_le c 57) || c == 46 || c == 45

-- such bytes, from 1 to as many as a host's name may have
abbrev pub is_host : List ℕ → Bool
is_host text = nat_le 1 (length text) && nat_le (length text) HOST_LIMIT && list_all is_host_byte text

-- the host, and the port behind a colon where one stands
abbrev pub authority_text : List ℕ → Option ℕ → List ℕ
authority_text host None = host
authority_text host (Some port) = host ++ codes ":" ++ decimal port

-- the port, which is that of HTTP where none stands
abbrev pub port_of : Option ℕ → ℕ
port_of None = 80
port_of (Some port) = port

-- a text is the authority of this host and port
pub record IsAuthority (text host : List ℕ) (port : ℕ) : Type 0 where
  pub stated : Option ℕ
  pub is : text ≡ authority_text host stated
  pub stands : port ≡ port_of stated
  pub low : 1 ≤ port
  pub high : port ≤ 65535
  pub grammar : IsTrue (is_host host)

-- the text of a URL
abbrev pub url_text : List ℕ → List ℕ → List ℕ
url_text authority repository = codes "http://" ++ authority ++ codes "/cvmfs/" ++ repository

-- a text is this URL
pub record IsUrl (text : List ℕ) (u : Url) : Type 0 where
  pub is : text ≡ url_text u.authority u.repository
  pub authority : IsAuthority u.authority u.host u.port
  pub name : IsTrue (is_name u.repository)
