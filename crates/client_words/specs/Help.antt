-- What `--help` and `--version` print. Our own.
use Rattle.std.specs.Prelude.{ℕ, List, ◌++◌, codes}
use Rattle.server_words.specs.Lines.{printed}

abbrev pub version_text : List ℕ
version_text = printed (codes "seaf-cli 0.1")

abbrev pub help_text : List ℕ
help_text =
    printed (codes "usage: seaf-cli init -c CONF")
    ++ printed (codes "       seaf-cli list -c CONF")
    ++ printed (codes "       seaf-cli status -c CONF")
    ++ printed (codes "       seaf-cli download -c CONF -l LIB -s http://HOST:PORT -w FOLDER -u USER -k TOKEN")
    ++ printed (codes "       seaf-cli sync -c CONF -l LIB -s http://HOST:PORT -d FOLDER -u USER -k TOKEN")
    ++ printed (codes "       seaf-cli desync -c CONF -d FOLDER")
    ++ printed (codes "       seaf-cli start -c CONF -n TURNS")
    ++ printed (codes "CONF keeps the list of synced folders. FOLDER is the synced folder itself.")
    ++ printed (codes "LIB is a UUID. TOKEN has 40 lower-case hexadecimal digits.")
    ++ printed (codes "start syncs each folder of the list TURNS times, from 1 to 1000000.")
