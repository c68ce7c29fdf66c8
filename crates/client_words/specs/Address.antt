-- The address of a server: `http://HOST:PORT`, HOST a name and PORT a number in decimal. Our own. Read server_of first.
use Rattle.std.specs.Prelude.{ℕ, Bool, false, ◌&&◌, ◌==◌, nat_le, if◌then◌else◌, List, [], ◌∷◌, take, drop, length, Option, Some, None, codes}
use Rattle.std.specs.List.{list_all, before_first, after_first, position_or_len}
use Rattle.std.specs.Option.{option_and_then}
use Rattle.std.specs.Str.{bytes_eq}
use Rattle.http_client.specs.RequestText.{is_host_byte}
use Rattle.http_front.specs.RequestHead.{number_in}
use Rattle.client_words.specs.declared.address.Server.{Server}

-- what follows a front that the text begins with
abbrev pub after : List ℕ → List ℕ → Option (List ℕ)
after front text = if bytes_eq (take (length front) text) front then Some (drop (length front) text) else None

-- the name of a host: 1 to 255 bytes, each of which one can have
abbrev pub is_host : List ℕ → Bool
is_host host = nat_le 1 (length host) && (nat_le (length host) 255 && list_all is_host_byte host)

abbrev pub begins_with_zero : List ℕ → Bool
begins_with_zero [] = false
begins_with_zero (digit ∷ digits) = digit == 48

abbrev pub from_one : ℕ → Option ℕ → Option ℕ
from_one most None = None
from_one most (Some number) = if nat_le 1 number && nat_le number most then Some number else None

-- the number from 1 to `most` that a text is, without leading zeros
abbrev pub number_up_to : ℕ → List ℕ → Option ℕ
number_up_to most text = if begins_with_zero text then None else from_one most (number_in text)

-- the name of a host that a text is
abbrev pub host_of : List ℕ → Option (List ℕ)
host_of text = if is_host text then Some text else None

abbrev pub server_by : Option ℕ → Option (List ℕ) → Option Server
server_by None host = None
server_by (Some port) None = None
server_by (Some port) (Some host) = Some (record { host = host; port = port })

abbrev pub address_of : List ℕ → List ℕ → Option Server
address_of host port = server_by (number_up_to 65535 port) (host_of host)

-- the host stands in front of the first colon, and the port behind it
abbrev pub address_in : List ℕ → Option Server
address_in text =
    if position_or_len (λ c. c == 58) text == length text then None
    else address_of (before_first (λ c. c == 58) text) (after_first (λ c. c == 58) text)

-- the server that a text names
abbrev pub server_of : List ℕ → Option Server
server_of text = option_and_then address_in (after (codes "http://") text)
