-- The place of a command is that of its second word. The key lemma is location_of_words, at the end.
use Rattle.std.proofs.Common.{◌≡◌, ℕ, ◌-◌, ◌^◌, Bool, true, false, ◌&&◌, List, [], ◌∷◌, Option, Some, None, refl, cond, codes}
use Rattle.std.specs.Option.{IfSome}
use Rattle.std.specs.Str.{bytes_eq}
use Rattle.json_words.specs.IdText.{library_id_of}
use Rattle.library_state.specs.Rights.{right_of}
use Rattle.library_state.specs.declared.right.Right.{Right}
use Rattle.server_words.specs.CommandLine.{command_of, create_by, create_command, inetd_by, inetd_command, is_memory, is_name, libraries_of, make_by, most_connections, most_files, most_workers, other_command, serve_by, serve_command, names_memory, location_in, location_word, secret_of, token_by, token_command}
use Rattle.server_words.specs.Number.{number_within}
use Rattle.server_words.specs.declared.command.Command.{Command}
use Rattle.server_words.specs.declared.command.Command.TheVariants.{Create, Token, Serve, Help, Version, Usage}
use Rattle.server_words.specs.declared.command.Location.{Location}
use Rattle.server_words.specs.declared.command.Location.TheVariants.{Memory, Folder}

-- the place of the command is in memory exactly where this is true
IsIn : Bool → Command → Type 0
IsIn memory command = (location : Location) → location_in command ≡ Some location → memory ≡ is_memory location

location_at : (path : List ℕ) (b : Bool) → b ≡ is_memory (cond b Memory (Folder path))
location_at path true = refl
location_at path false = refl

folder_location : (folder : List ℕ) → IfSome (location_word folder) (λ location. bytes_eq folder (codes ":memory:") ≡ is_memory location)
folder_location [] = tt
folder_location (c ∷ cs) = location_at (c ∷ cs) (bytes_eq (c ∷ cs) (codes ":memory:"))

none_some : (location : Location) → ◌≡◌ {A = Option Location} None (Some location) → ⊥
none_some location e = cc

usage_in : (memory : Bool) → IsIn memory Usage
unfolding IsIn
usage_in memory = λ location e. absurd (none_some location e)

same_place : (memory : Bool) (p q : Location) → memory ≡ is_memory p → ◌≡◌ {A = Option Location} (Some p) (Some q) → memory ≡ is_memory q
same_place memory p q is e = cc

created_in : (memory b : Bool) (p : Location) (lib name user secret : List ℕ) → memory ≡ is_memory p → IsIn memory (cond b (Create p lib name user secret) Usage)
unfolding IsIn
created_in memory true p lib name user secret is = λ q e. same_place memory p q is e
created_in memory false p lib name user secret is = λ q e. absurd (none_some q e)

added_in : (memory b : Bool) (p : Location) (lib user secret : List ℕ) (right : Right) → memory ≡ is_memory p → IsIn memory (cond b (Token p lib user secret right) Usage)
unfolding IsIn
added_in memory true p lib user secret right is = λ q e. same_place memory p q is e
added_in memory false p lib user secret right is = λ q e. absurd (none_some q e)

create_in : (memory : Bool) (name user : List ℕ) (p : Option Location) (l s : Option (List ℕ)) → IfSome p (λ location. memory ≡ is_memory location)
    → IsIn memory (create_by name user p l s)
create_in memory name user (Some p) (Some lib) (Some secret) is = created_in memory (is_name name && is_name user) p lib name user secret is
create_in memory name user None l s is = usage_in memory
create_in memory name user (Some p) None s is = usage_in memory
create_in memory name user (Some p) (Some lib) None is = usage_in memory

token_in : (memory : Bool) (user : List ℕ) (p : Option Location) (l s : Option (List ℕ)) (r : Option Right) → IfSome p (λ location. memory ≡ is_memory location)
    → IsIn memory (token_by user p l s r)
token_in memory user (Some p) (Some lib) (Some secret) (Some right) is = added_in memory (is_name user) p lib user secret right is
token_in memory user None l s r is = usage_in memory
token_in memory user (Some p) None s r is = usage_in memory
token_in memory user (Some p) (Some lib) None r is = usage_in memory
token_in memory user (Some p) (Some lib) (Some secret) None is = usage_in memory

inetd_in : (memory : Bool) (p : Option Location) (l : Option (List (List ℕ))) → IfSome p (λ location. memory ≡ is_memory location) → IsIn memory (inetd_by p l)
unfolding IsIn
inetd_in memory (Some p) (Some libs) is = λ q e. same_place memory p q is e
inetd_in memory None l is = λ q e. absurd (none_some q e)
inetd_in memory (Some p) None is = λ q e. absurd (none_some q e)

serve_in : (memory : Bool) (p : Option Location) (port workers connections : Option ℕ) (l : Option (List (List ℕ))) → IfSome p (λ location. memory ≡ is_memory location)
    → IsIn memory (serve_by p port workers connections l)
unfolding IsIn
serve_in memory (Some p) (Some port) (Some workers) (Some connections) (Some libs) is = λ q e. same_place memory p q is e
serve_in memory None port workers connections l is = λ q e. absurd (none_some q e)
serve_in memory (Some p) None workers connections l is = λ q e. absurd (none_some q e)
serve_in memory (Some p) (Some port) None connections l is = λ q e. absurd (none_some q e)
serve_in memory (Some p) (Some port) (Some workers) None l is = λ q e. absurd (none_some q e)
serve_in memory (Some p) (Some port) (Some workers) (Some connections) None is = λ q e. absurd (none_some q e)

served_in : (memory : Bool) (folder : List ℕ) (more : List (List ℕ)) → IfSome (location_word folder) (λ location. memory ≡ is_memory location) → IsIn memory (serve_command folder more)
served_in memory folder (port ∷ workers ∷ connections ∷ libs) is =
    serve_in memory (location_word folder) (number_within 1 65535 port) (number_within 1 most_workers workers) (number_within 1 most_connections connections) (libraries_of libs) is
served_in memory folder [] is = usage_in memory
served_in memory folder (a ∷ []) is = usage_in memory
served_in memory folder (a ∷ b ∷ []) is = usage_in memory

make_in : (memory : Bool) (p : Option Location) (l : Option (List ℕ)) (count number : Option ℕ) → IfSome p (λ location. memory ≡ is_memory location) → IsIn memory (make_by p l count number)
unfolding IsIn
make_in memory (Some p) (Some lib) (Some count) (Some number) is = λ q e. same_place memory p q is e
make_in memory None l count number is = λ q e. absurd (none_some q e)
make_in memory (Some p) None count number is = λ q e. absurd (none_some q e)
make_in memory (Some p) (Some lib) None number is = λ q e. absurd (none_some q e)
make_in memory (Some p) (Some lib) (Some count) None is = λ q e. absurd (none_some q e)

made_in : (memory b : Bool) (folder lib count number : List ℕ) → IfSome (location_word folder) (λ location. memory ≡ is_memory location)
    → IsIn memory (cond b (make_by (location_word folder) (library_id_of lib) (number_within 1 most_files count) (number_within 0 (2 ^ 64 - 1) number)) Usage)
made_in memory true folder lib count number is = make_in memory (location_word folder) (library_id_of lib) (number_within 1 most_files count) (number_within 0 (2 ^ 64 - 1) number) is
made_in memory false folder lib count number is = usage_in memory

long_in : (memory b d : Bool) (folder lib third fourth fifth : List ℕ) → IfSome (location_word folder) (λ location. memory ≡ is_memory location)
    → IsIn memory (cond b (create_command folder lib third fourth fifth) (cond d (token_command folder lib third fourth fifth) Usage))
long_in memory true d folder lib third fourth fifth is = create_in memory third fourth (location_word folder) (library_id_of lib) (secret_of fifth) is
long_in memory false true folder lib third fourth fifth is =
    token_in memory third (location_word folder) (library_id_of lib) (secret_of fourth) (right_of fifth) is
long_in memory false false folder lib third fourth fifth is = usage_in memory

lone_in : (b d : Bool) → IsIn false (cond b Help (cond d Version Usage))
unfolding IsIn
lone_in true d = λ q e. absurd (none_some q e)
lone_in false true = λ q e. absurd (none_some q e)
lone_in false false = λ q e. absurd (none_some q e)

other_in : (memory : Bool) (word folder : List ℕ) (more : List (List ℕ)) → IfSome (location_word folder) (λ location. memory ≡ is_memory location) → IsIn memory (other_command word folder more)
other_in memory word folder (lib ∷ a ∷ b ∷ c ∷ []) is = long_in memory (bytes_eq word (codes "create")) (bytes_eq word (codes "token")) folder lib a b c is
other_in memory word folder [] is = usage_in memory
other_in memory word folder (lib ∷ []) is = usage_in memory
other_in memory word folder (lib ∷ a ∷ []) is = usage_in memory
other_in memory word folder (lib ∷ a ∷ b ∷ []) is = made_in memory (bytes_eq word (codes "make")) folder lib a b is
other_in memory word folder (lib ∷ a ∷ b ∷ c ∷ d ∷ more) is = usage_in memory

placed_in : (memory b d : Bool) (word folder : List ℕ) (more : List (List ℕ)) → IfSome (location_word folder) (λ location. memory ≡ is_memory location)
    → IsIn memory (cond b (inetd_command folder more) (cond d (serve_command folder more) (other_command word folder more)))
placed_in memory true d word folder more is = inetd_in memory (location_word folder) (libraries_of more) is
placed_in memory false true word folder more is = served_in memory folder more is
placed_in memory false false word folder more is = other_in memory word folder more is

pub location_of_words : (words : List (List ℕ)) (location : Location) → location_in (command_of words) ≡ Some location → names_memory words ≡ is_memory location
unfolding IsIn
location_of_words [] = λ q e. absurd (none_some q e)
location_of_words (word ∷ []) = lone_in (bytes_eq word (codes "--help")) (bytes_eq word (codes "--version"))
location_of_words (word ∷ folder ∷ more) = placed_in (bytes_eq folder (codes ":memory:")) (bytes_eq word (codes "inetd")) (bytes_eq word (codes "serve")) word folder more (folder_location folder)
