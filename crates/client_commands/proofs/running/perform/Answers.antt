-- Each command has the client's own folder, and prints what it came to; or it only prints.
use Rattle.std.proofs.Common.{ap, inl, refl}
use Rattle.client_words.specs.declared.line.Line.TheVariants as line
use Rattle.client_commands.specs.Printing.{line_printed}
use Rattle.client_commands.specs.Runs.{begins, desyncs, downloads, lists, printed_for, prints, starts, syncs, tells}
use Rattle.client_commands.proofs.RunLemmas.{help_put, version_put}
use Rattle.client_commands.proofs.running.perform.Goals as goal

pub sync_at-synced-requires : goal.sync_at-synced-requires
sync_at-synced-requires g c = record { name = rw c.in-Download.is at c.requires.ready }

pub sync_at-synced-requires-in-Sync : goal.sync_at-synced-requires-in-Sync
sync_at-synced-requires-in-Sync g c = record { name = rw c.in-Sync.is at c.requires.ready }

pub returns-in-Init : goal.returns-in-Init
returns-in-Init g c = record {
  runs = begins c.in-Init.conf c.in-Init.is (record {
    result = c.init_at-done.result;
    with_own = c.init_at-done.ensures.value;
    keeps = c.init_at-done.ensures.faults;
    prints = rw c.begun_line.ensures.value at c.print_line.ensures.prints;
  });
}

pub returns-in-List : goal.returns-in-List
returns-in-List g c = record {
  runs = lists c.in-List.conf c.in-List.is (record {
    result = c.list_at-listed.result;
    with_own = c.list_at-listed.ensures.value;
    keeps = c.list_at-listed.ensures.faults;
    prints = c.print_listed.ensures.prints;
  });
}

pub returns-in-Status : goal.returns-in-Status
returns-in-Status g c = record {
  runs = tells c.in-Status.conf c.in-Status.is (record {
    result = c.status_at-told.result;
    with_own = c.status_at-told.ensures.value;
    keeps = c.status_at-told.ensures.faults;
    prints = c.print_listed-in-Status.ensures.prints;
  });
}

pub returns-in-Download : goal.returns-in-Download
returns-in-Download g c = record {
  runs = downloads c.in-Download.conf c.in-Download.job c.in-Download.is (record {
    result = c.sync_at-synced.result;
    with_own = c.sync_at-synced.ensures.value;
    keeps = c.sync_at-synced.ensures.faults;
    prints = rw c.job_line.ensures.value at c.print_line-in-Download.ensures.prints;
  });
}

pub returns-in-Sync : goal.returns-in-Sync
returns-in-Sync g c = record {
  runs = syncs c.in-Sync.conf c.in-Sync.job c.in-Sync.is (record {
    result = c.sync_at-synced-in-Sync.result;
    with_own = c.sync_at-synced-in-Sync.ensures.value;
    keeps = c.sync_at-synced-in-Sync.ensures.faults;
    prints = rw c.job_line-in-Sync.ensures.value at c.print_line-in-Sync.ensures.prints;
  });
}

pub returns-in-Desync : goal.returns-in-Desync
returns-in-Desync g c = record {
  runs = desyncs c.in-Desync.conf c.in-Desync.dir c.in-Desync.is (record {
    result = c.desync_at-done.result;
    with_own = c.desync_at-done.ensures.value;
    keeps = c.desync_at-done.ensures.faults;
    prints = rw c.desynced_line.ensures.value at c.print_line-in-Desync.ensures.prints;
  });
}

pub returns-in-Start : goal.returns-in-Start
returns-in-Start g c = record { runs = starts c.in-Start.conf c.in-Start.turns c.in-Start.is c.start_at.ensures.value }

pub returns-in-NotSupported : goal.returns-in-NotSupported
returns-in-NotSupported g c = record {
  runs = prints (line_printed (line.NotSupported c.in-NotSupported.option)) (ap printed_for c.in-NotSupported.is) refl c.print_line-in-NotSupported.ensures.prints;
}

pub returns-in-Help : goal.returns-in-Help
returns-in-Help g c = record {
  runs = prints _ (ap printed_for c.in-Help.is) refl (inl (help_put _ _ _ _ c.help_text.ensures.value c.put.ensures.prints));
}

pub returns-in-Version : goal.returns-in-Version
returns-in-Version g c = record {
  runs = prints _ (ap printed_for c.in-Version.is) refl (inl (version_put _ _ _ _ c.version_text.ensures.value c.put-in-Version.ensures.prints));
}

pub returns-in-Usage : goal.returns-in-Usage
returns-in-Usage g c = record {
  runs = prints (line_printed line.Usage) (ap printed_for c.in-Usage.is) refl c.print_line-in-Usage.ensures.prints;
}
