use Rattle.std.proofs.Common.{◌≡◌, ◌<◌, ◌++◌, All, take}
use Rattle.std.specs.String.{string_bytes}
use Rattle.folder_storage.proofs.paths.push_each.Given as goal

-- what was passed is appended
abbrev pub invariant-loop-byte : goal.invariant-loop-byte
invariant-loop-byte l = All (λ byte. byte < 128) l.bytes → string_bytes l.path ≡ string_bytes l.fn.path ++ take l.byte-index l.bytes
