-- A command makes a library, adds a token, serves, or prints its text.
use Rattle.std.proofs.Common.{ℕ, List, refl, ap, subst, sym}
use Rattle.server_words.specs.CommandLine.{AreLibraries, NamesFit}
use Rattle.server_words.specs.Spelling.{location_text}
use Rattle.server_words.specs.declared.command.Command.{Command}
use Rattle.server_words.specs.declared.command.Command.TheVariants.{Make, Serve}
use Rattle.library_server.specs.Runs.{adds, creates, help_printed, line_printed, makes, printed_of, prints, serves, serves_port, version_printed}
use Rattle.server_words.specs.declared.line.Line.TheVariants as line
use Rattle.library_server.specs.declared.port.Port.{Port}
use Rattle.library_server.proofs.RunLemmas.{kept_alone, named_alone, printed_as}
use Rattle.library_server.proofs.running.perform.Goals as goal

pub returns-in-Create : goal.returns-in-Create
returns-in-Create g c = record {
  runs = creates c.in-Create.location c.in-Create.lib c.in-Create.name c.in-Create.user c.in-Create.secret c.in-Create.is c.create_printed.ensures.value.0 refl refl;
  steady = λ steady all.
      let whole = all (location_text c.in-Create.location) c.in-Create.lib in (
        creates c.in-Create.location c.in-Create.lib c.in-Create.name c.in-Create.user c.in-Create.secret c.in-Create.is c.create_printed.ensures.value.0 refl refl,
        c.create_printed.ensures.value.1 steady whole.0 whole.1 whole.2,
      );
  others = named_alone (g.G.Ground.may_give c.args.libraries.now) (g.G.Ground.may_give c.create_printed.new.libraries) c.args.command _ c.in-Create.is c.create_printed.ensures.others;
}

pub returns-in-Token : goal.returns-in-Token
returns-in-Token g c = record {
  runs = adds c.in-Token.location c.in-Token.lib (record { user = c.in-Token.user; secret = c.in-Token.secret; right = c.in-Token.right }) c.in-Token.is c.add_printed.ensures.value.0 refl refl;
  steady = λ steady all.
      let whole = all (location_text c.in-Token.location) c.in-Token.lib in (
        adds c.in-Token.location c.in-Token.lib (record { user = c.in-Token.user; secret = c.in-Token.secret; right = c.in-Token.right }) c.in-Token.is c.add_printed.ensures.value.0 refl refl,
        c.add_printed.ensures.value.1 steady whole.0 whole.1 whole.2,
      );
  others = named_alone (g.G.Ground.may_give c.args.libraries.now) (g.G.Ground.may_give c.add_printed.new.libraries) c.args.command _ c.in-Token.is c.add_printed.ensures.others;
}

pub serve_named-requires : goal.serve_named-requires
serve_named-requires g c = record {
  named = subst (λ (libs : List (List ℕ)). AreLibraries libs) (sym c.slice.ensures.value) (subst (λ (k : Command). NamesFit k) c.in-Inetd.is c.requires.fits);
}

pub returns-in-Inetd : goal.returns-in-Inetd
returns-in-Inetd g c =
    let served = rw c.slice.ensures.value at c.serve_named.ensures.serves in
    record {
      runs = serves c.in-Inetd.location c.in-Inetd.libs c.in-Inetd.is served.0 refl refl;
      steady = λ steady all. (serves c.in-Inetd.location c.in-Inetd.libs c.in-Inetd.is served.0 refl refl, served.1 steady all);
      others = named_alone (g.G.Ground.may_give c.args.libraries.now) (g.G.Ground.may_give c.serve_named.new.libraries) c.args.command _ c.in-Inetd.is (rw c.slice.ensures.value at c.serve_named.ensures.others);
    }

pub serve_port-line-requires-clause-apart : goal.serve_port-line-requires-clause-apart
serve_port-line-requires-clause-apart g c κs within =
    let fits : NamesFit (Serve c.in-Serve.location c.in-Serve.port c.in-Serve.workers c.in-Serve.connections c.in-Serve.libs) = subst (λ (k : Command). NamesFit k) c.in-Serve.is c.requires.fits in
    let named : AreLibraries c.slice-libs.result.now = subst (λ (libs : List (List ℕ)). AreLibraries libs) (sym c.slice-libs.ensures.value) fits.0 in
    named.apart

pub serve_port-line-requires-clause-some : goal.serve_port-line-requires-clause-some
serve_port-line-requires-clause-some g c κs within =
    let fits : NamesFit (Serve c.in-Serve.location c.in-Serve.port c.in-Serve.workers c.in-Serve.connections c.in-Serve.libs) = subst (λ (k : Command). NamesFit k) c.in-Serve.is c.requires.fits in
    let named : AreLibraries c.slice-libs.result.now = subst (λ (libs : List (List ℕ)). AreLibraries libs) (sym c.slice-libs.ensures.value) fits.0 in
    named.some

pub serve_port-line-requires-clause-workers : goal.serve_port-line-requires-clause-workers
serve_port-line-requires-clause-workers g c κs within =
    let fits : NamesFit (Serve c.in-Serve.location c.in-Serve.port c.in-Serve.workers c.in-Serve.connections c.in-Serve.libs) = subst (λ (k : Command). NamesFit k) c.in-Serve.is c.requires.fits in
    fits.2

pub returns-in-Serve : goal.returns-in-Serve
returns-in-Serve g c =
    let served = rw c.slice-libs.ensures.value at c.serve_port-line.ensures.serves in
    let port : Port = record { number = c.in-Serve.port; workers = c.in-Serve.workers; connections = c.in-Serve.connections } in
    record {
      runs = serves_port c.in-Serve.location port c.in-Serve.libs c.in-Serve.is c.serve_port-line.result served c.print_line.ensures.prints refl;
      steady = λ steady all. (serves_port c.in-Serve.location port c.in-Serve.libs c.in-Serve.is c.serve_port-line.result served c.print_line.ensures.prints refl, c.serve_port-line.ensures.steady steady all);
      others = named_alone (g.G.Ground.may_give c.args.libraries.now) (g.G.Ground.may_give c.serve_port-line.new.libraries) c.args.command _ c.in-Serve.is (rw c.slice-libs.ensures.value at c.serve_port-line.ensures.others);
    }

pub make_files-line-requires : goal.make_files-line-requires
make_files-line-requires g c =
    let fits : NamesFit (Make c.in-Make.location c.in-Make.lib c.in-Make.count c.in-Make.number) = subst (λ (k : Command). NamesFit k) c.in-Make.is c.requires.fits in
    record { few = fits.1 }

pub returns-in-Make : goal.returns-in-Make
returns-in-Make g c = record {
  runs = makes c.in-Make.location c.in-Make.lib c.in-Make.count c.in-Make.number c.in-Make.is c.make_files-line.result c.make_files-line.ensures.makes c.print_line-in-Make.ensures.prints refl refl;
  steady = λ steady all.
      let whole = all (location_text c.in-Make.location) c.in-Make.lib in (
        makes c.in-Make.location c.in-Make.lib c.in-Make.count c.in-Make.number c.in-Make.is c.make_files-line.result c.make_files-line.ensures.makes c.print_line-in-Make.ensures.prints refl refl,
        c.make_files-line.ensures.steady steady whole.0 whole.1 whole.2,
      );
  others = named_alone (g.G.Ground.may_give c.args.libraries.now) (g.G.Ground.may_give c.make_files-line.new.libraries) c.args.command _ c.in-Make.is c.make_files-line.ensures.others;
}

pub returns-in-Help : goal.returns-in-Help
returns-in-Help g c =
    let put = printed_as help_printed _ _ _ _ c.help_text.ensures.value c.print.ensures.prints in
    record {
      runs = prints help_printed (ap printed_of c.in-Help.is) put refl refl refl;
      steady = λ steady all. (prints help_printed (ap printed_of c.in-Help.is) put refl refl refl, tt);
      others = kept_alone (g.G.Ground.may_give c.args.libraries.now) c.args.command;
    }

pub returns-in-Version : goal.returns-in-Version
returns-in-Version g c =
    let put = printed_as version_printed _ _ _ _ c.version_text.ensures.value c.print-in-Version.ensures.prints in
    record {
      runs = prints version_printed (ap printed_of c.in-Version.is) put refl refl refl;
      steady = λ steady all. (prints version_printed (ap printed_of c.in-Version.is) put refl refl refl, tt);
      others = kept_alone (g.G.Ground.may_give c.args.libraries.now) c.args.command;
    }

pub returns-in-Usage : goal.returns-in-Usage
returns-in-Usage g c = record {
  runs = prints (line_printed line.Usage) (ap printed_of c.in-Usage.is) c.print_line-in-Usage.ensures.prints refl refl refl;
  steady = λ steady all. (prints (line_printed line.Usage) (ap printed_of c.in-Usage.is) c.print_line-in-Usage.ensures.prints refl refl refl, tt);
  others = kept_alone (g.G.Ground.may_give c.args.libraries.now) c.args.command;
}
