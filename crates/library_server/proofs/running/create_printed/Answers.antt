-- The line tells what was made.
use Rattle.server_words.specs.Spelling.{location_text}
use Rattle.library_server.proofs.RunLemmas.{created_so}
use Rattle.library_server.proofs.WholeLemmas.{created_whole}
use Rattle.library_server.proofs.running.create_printed.Goals as goal

pub returns : goal.returns
returns g c = record {
  value = (
    record {
      created = c.create-created.result;
      moment = c.now.result;
      shown = c.now.ensures.value;
      told = rw c.folder_word.ensures.value at c.create-created.ensures.shown;
      is = created_so (g.G.Ground.may_give c.args.libraries.now (location_text c.args.location.now) c.args.new.now.lib) c.args.new.now c.now.result _ _ c.create-created.result c.create-created.ensures.value (rw c.folder_word.ensures.value at c.create-created.ensures.cause) c.create-created.ensures.faults;
      back = rw c.folder_word.ensures.value at c.create-created.ensures.back;
      prints = rw c.created_line.ensures.value at c.print_line.ensures.prints;
    },
    λ steady standing there whole.
        created_whole c.args.new.now.lib c.create-created.result ((rw c.folder_word.ensures.value at c.create-created.ensures.steady) steady standing there whole),
  );
  others = rw c.folder_word.ensures.value at c.create-created.ensures.others;
}
