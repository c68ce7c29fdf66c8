-- The values that options can have, each of its form, where the option is there with one. Our own.
use Rattle.std.specs.Prelude.{ℕ, if◌then◌else◌, List, [], ◌∷◌, Option, Some, None}
use Rattle.std.specs.Option.{option_and_then}
use Rattle.json_words.specs.IdText.{library_id_of}
use Rattle.server_words.specs.CommandLine.{is_name, secret_of}
use Rattle.client_words.specs.Address.{number_up_to, server_of}
use Rattle.client_words.specs.declared.address.Server.{Server}
use Rattle.client_words.specs.declared.job.Job.{Job}
use Rattle.client_words.specs.declared.words.TheConstants.{MAX_TURNS}

-- a path that is not empty
abbrev pub path_in : Option (List ℕ) → Option (List ℕ)
path_in None = None
path_in (Some []) = None
path_in (Some (c ∷ cs)) = Some (c ∷ cs)

abbrev pub name_of : List ℕ → Option (List ℕ)
name_of text = if is_name text then Some text else None

-- the name of a user
abbrev pub user_in : Option (List ℕ) → Option (List ℕ)
user_in value = option_and_then name_of value

-- a library, by its 36 characters
abbrev pub lib_in : Option (List ℕ) → Option (List ℕ)
lib_in value = option_and_then library_id_of value

-- a secret, by its 40 digits
abbrev pub secret_in : Option (List ℕ) → Option (List ℕ)
secret_in value = option_and_then secret_of value

-- a server, as `http://HOST:PORT`
abbrev pub server_in : Option (List ℕ) → Option Server
server_in value = option_and_then server_of value

-- a number of turns, from 1 to MAX_TURNS
abbrev pub turns_in : Option (List ℕ) → Option ℕ
turns_in value = option_and_then (number_up_to MAX_TURNS) value

-- a job, where each of its values is there
abbrev pub job_by : Option Server → Option (List ℕ) → Option (List ℕ) → Option (List ℕ) → Option (List ℕ) → Option Job
job_by None lib secret dir user = None
job_by (Some server) None secret dir user = None
job_by (Some server) (Some lib) None dir user = None
job_by (Some server) (Some lib) (Some secret) None user = None
job_by (Some server) (Some lib) (Some secret) (Some dir) None = None
job_by (Some server) (Some lib) (Some secret) (Some dir) (Some user) = Some (record {
  lib = lib;
  dir = dir;
  host = server.host;
  port = server.port;
  user = user;
  secret = secret;
})
