-- From where a debugger may be attached to: which host a peer may name, and from which origin a page may come.
use Rattle.std.specs.Prelude.{ℕ, ◌==◌, ◌&&◌, ◌||◌, Bool, true, false, List, [], ◌∷◌, Option, None, Some, take, drop, position, nat_eq, bytes_eq, codes, if◌then◌else◌}
use Rattle.std.specs.List.{list_all, starts_with}
use Rattle.text_core.specs.Digits.{is_digit}

-- ---- a host and its port

-- where the port begins: at the first colon
abbrev pub port_at : List ℕ → Option ℕ
port_at authority = position (λ byte. byte == 58) authority

abbrev pub front_of : Option ℕ → List ℕ → List ℕ
front_of None bytes = bytes
front_of (Some place) bytes = take place bytes

abbrev pub back_of : Option ℕ → List ℕ → List ℕ
back_of None bytes = []
back_of (Some place) bytes = drop place bytes

abbrev pub host_in : List ℕ → List ℕ
host_in authority = front_of (port_at authority) authority

abbrev pub port_in : List ℕ → List ℕ
port_in authority = back_of (port_at authority) authority

-- nothing, or a colon and digits
abbrev pub is_port : List ℕ → Bool
is_port [] = true
is_port (byte ∷ digits) = (byte == 58) && list_all is_digit digits

-- ---- hosts

abbrev pub is_localhost : List ℕ → Bool
is_localhost host = bytes_eq host (codes "localhost")

-- digits and dots: an address of four numbers, and no name that is asked for by the system of names
abbrev pub is_address : List ℕ → Bool
is_address host = list_all (λ byte. is_digit byte || byte == 46) host

-- an address in brackets
abbrev pub is_bracketed : List ℕ → Bool
is_bracketed [] = false
is_bracketed (byte ∷ bytes) = byte == 91

-- who comes by an address, or by the name of this machine for itself, comes by no name that somebody else has led here
abbrev pub is_right_host : List ℕ → Bool
is_right_host authority = is_bracketed authority || (is_localhost (host_in authority) || is_address (host_in authority)) && is_port (port_in authority)

-- ---- origins

-- what stands behind the scheme of a page
abbrev pub behind_scheme : List ℕ → Option (List ℕ)
behind_scheme origin =
    if starts_with nat_eq origin (codes "http://") then Some (drop 7 origin)
    else if starts_with nat_eq origin (codes "https://") then Some (drop 8 origin) else None

-- an address of this machine alone, or its name for itself
abbrev pub is_own : List ℕ → Bool
is_own host = is_localhost host || starts_with nat_eq host (codes "127.") && is_address host

abbrev pub is_own_authority : List ℕ → Bool
is_own_authority authority =
    starts_with nat_eq authority (codes "[::1]") && is_port (drop 5 authority) || is_own (host_in authority) && is_port (port_in authority)

abbrev pub is_own_behind : Option (List ℕ) → Bool
is_own_behind None = false
is_own_behind (Some authority) = is_own_authority authority

-- a page that this machine serves
abbrev pub is_right_origin : List ℕ → Bool
is_right_origin origin = is_own_behind (behind_scheme origin)
