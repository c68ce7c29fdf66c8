-- A job that the words ask for has the form of its options. The key lemmas are matched_proper and told_proper.
use Rattle.std.proofs.Common.{◌≡◌, ◌≤◌, ◌&&◌, ◌==◌, ℕ, Bool, true, false, cond, nat_le, List, [], ◌∷◌, codes, length, Option, Some, None, Result, Ok, Err, refl, sym, subst, is_some}
use Rattle.std.proofs.lemmas.Bool.{and_parts, leb-true}
use Rattle.std.specs.List.{after_first, before_first, position_or_len}
use Rattle.std.specs.Option.{option_and_then}
use Rattle.std.specs.Prelude.{IfOk}
use Rattle.std.specs.Str.{bytes_eq}
use Rattle.clap.specs.Words.{Kinds, Row, Text, fault_of, first_of, subcommand_of}
use Rattle.http_front.specs.RequestHead.{number_in}
use Rattle.client_words.specs.Address.{address_in, address_of, after, begins_with_zero, from_one, host_of, is_host, number_up_to, server_of}
use Rattle.client_words.specs.Grammar.{cli_app}
use Rattle.client_words.specs.JobWriting.{IsJob}
use Rattle.client_words.specs.OptionValues.{lib_in, path_in, secret_in, server_in, turns_in, user_in}
use Rattle.client_words.specs.ProperWords.{HasProperJob}
use Rattle.client_words.specs.WordReading.{command_words, desync_by, download_by, entered_words, job_in, matched_words, named_words, start_by, sync_by, unsupported_in, words_by, words_in, words_unless}
use Rattle.client_words.specs.declared.address.Server.{Server}
use Rattle.client_words.specs.declared.job.Job.{Job}
use Rattle.client_words.specs.declared.words.Unsupported.{Unsupported}
use Rattle.client_words.specs.declared.words.Words.{Words}
use Rattle.client_words.specs.declared.words.Words.TheVariants.{Init, List as ListJobs, Status, Usage}
use Rattle.client_words.proofs.JobLemmas.{IsServer, job_by-some, passed, path_in-some, server_by-some, user_in-some}

-- ---- a server

from_one-some : (most : ℕ) (o : Option ℕ) (n : ℕ) → from_one most o ≡ Some n → (1 ≤ n) × (n ≤ most)
from_one-some most None n is = let bad : ⊥ = cc in absurd bad
from_one-some most (Some m) n is = by (nat_le 1 m && nat_le m most) refl is
  where
    by : (b : Bool) → (nat_le 1 m && nat_le m most) ≡ b → cond b (Some m) None ≡ Some n → (1 ≤ n) × (n ≤ most)
    by true within same =
        let parts = and_parts (nat_le 1 m) (nat_le m most) within in
        let e : m ≡ n = cc in
        (subst (λ (k : ℕ). 1 ≤ k) e (leb-true 1 m parts.0), subst (λ (k : ℕ). k ≤ most) e (leb-true m most parts.1))
    by false within same = let bad : ⊥ = cc in absurd bad

number_up_to-some : (most : ℕ) (text : List ℕ) (n : ℕ) → number_up_to most text ≡ Some n → (1 ≤ n) × (n ≤ most)
number_up_to-some most text n is = by (begins_with_zero text) is
  where
    by : (b : Bool) → cond b None (from_one most (number_in text)) ≡ Some n → (1 ≤ n) × (n ≤ most)
    by true same = let bad : ⊥ = cc in absurd bad
    by false same = from_one-some most (number_in text) n same

address_of-some : (host port : List ℕ) (server : Server) → address_of host port ≡ Some server → IsServer server
address_of-some host port server is =
    server_by-some (number_up_to 65535 port) (host_of host) server (number_up_to-some 65535 port) (λ h same. passed is_host host h (is_host host) refl same) is

address_in-some : (text : List ℕ) (server : Server) → address_in text ≡ Some server → IsServer server
address_in-some text server is = by (position_or_len (λ c. c == 58) text == length text) is
  where
    by : (b : Bool) → cond b None (address_of (before_first (λ c. c == 58) text) (after_first (λ c. c == 58) text)) ≡ Some server → IsServer server
    by true same = let bad : ⊥ = cc in absurd bad
    by false same = address_of-some (before_first (λ c. c == 58) text) (after_first (λ c. c == 58) text) server same

behind_front : (rest : Option (List ℕ)) (server : Server) → option_and_then address_in rest ≡ Some server → IsServer server
behind_front None server is = let bad : ⊥ = cc in absurd bad
behind_front (Some text) server is = address_in-some text server is

server_in-some : (value : Option (List ℕ)) (server : Server) → server_in value ≡ Some server → IsServer server
server_in-some None server is = let bad : ⊥ = cc in absurd bad
server_in-some (Some text) server is = behind_front (after (codes "http://") text) server is

-- ---- what the words ask for

job_in-some : (letter : List ℕ) (rows : List Row) (job : Job) → job_in letter rows ≡ Some job → IsJob job
job_in-some letter rows job is =
    job_by-some (server_in (first_of (codes "s") rows)) (lib_in (first_of (codes "l") rows)) (secret_in (first_of (codes "k") rows)) (path_in (first_of letter rows))
    (user_in (first_of (codes "u") rows)) job (server_in-some (first_of (codes "s") rows)) (path_in-some (first_of letter rows))
    (user_in-some (first_of (codes "u") rows)) is

download_proper : (conf : List ℕ) (o : Option Job) → ((job : Job) → o ≡ Some job → IsJob job) → HasProperJob (download_by conf o)
download_proper conf None good = tt
download_proper conf (Some job) good = good job refl

sync_proper : (conf : List ℕ) (o : Option Job) → ((job : Job) → o ≡ Some job → IsJob job) → HasProperJob (sync_by conf o)
sync_proper conf None good = tt
sync_proper conf (Some job) good = good job refl

desync_proper : (conf : List ℕ) (o : Option (List ℕ)) → HasProperJob (desync_by conf o)
desync_proper conf None = tt
desync_proper conf (Some dir) = tt

start_proper : (conf : List ℕ) (o : Option ℕ) → HasProperJob (start_by conf o)
start_proper conf None = tt
start_proper conf (Some turns) = tt

either_proper : (b : Bool) (one other : Words) → HasProperJob one → HasProperJob other → HasProperJob (cond b one other)
either_proper true one other is also = is
either_proper false one other is also = also

named_proper : (name : List ℕ) (rows : List Row) (conf : List ℕ) → HasProperJob (named_words name rows conf)
named_proper name rows conf =
    either_proper (bytes_eq name (codes "init")) (Init conf) _ tt
    (either_proper (bytes_eq name (codes "list")) (ListJobs conf) _ tt
    (either_proper (bytes_eq name (codes "status")) (Status conf) _ tt
    (either_proper (bytes_eq name (codes "download")) (download_by conf (job_in (codes "w") rows)) _ (download_proper conf (job_in (codes "w") rows) (job_in-some (codes "w") rows))
    (either_proper (bytes_eq name (codes "sync")) (sync_by conf (job_in (codes "d") rows)) _ (sync_proper conf (job_in (codes "d") rows) (job_in-some (codes "d") rows))
    (either_proper (bytes_eq name (codes "desync")) (desync_by conf (path_in (first_of (codes "d") rows))) _ (desync_proper conf (path_in (first_of (codes "d") rows)))
    (either_proper (bytes_eq name (codes "start")) (start_by conf (turns_in (first_of (codes "n") rows))) Usage (start_proper conf (turns_in (first_of (codes "n") rows))) tt))))))

in_proper : (name : List ℕ) (rows : List Row) (conf : Option (List ℕ)) → HasProperJob (words_in name rows conf)
in_proper name rows None = tt
in_proper name rows (Some conf) = named_proper name rows conf

unless_proper : (option : Option Unsupported) (words : Words) → HasProperJob words → HasProperJob (words_unless option words)
unless_proper None words is = is
unless_proper (Some option) words is = tt

entered_proper : (entered : Option (Text × List Row)) → HasProperJob (entered_words entered)
entered_proper None = tt
entered_proper (Some entered) =
    unless_proper (unsupported_in entered.1) (words_in entered.0 entered.1 (path_in (first_of (codes "c") entered.1)))
    (in_proper entered.0 entered.1 (path_in (first_of (codes "c") entered.1)))

by_proper : (kinds : Kinds) (entered : Option (Text × List Row)) → HasProperJob (words_by kinds entered)
by_proper [] entered = entered_proper entered
by_proper (kind ∷ kinds) entered = tt

pub matched_proper : (words : List (List ℕ)) → HasProperJob (matched_words words)
matched_proper words = by_proper (fault_of cli_app words) (subcommand_of cli_app words)

-- what is told to be these words is proper as they are
pub told_proper : {E : Type 0} (told : Result Words E) (words : Words) → HasProperJob words → IfOk told (λ asked. asked ≡ words) → IfOk told HasProperJob
told_proper (Ok asked) words proper is = subst HasProperJob (sym is) proper
told_proper (Err error) words proper is = tt
