-- The connection is that of serve_link.
use Rattle.library_server.proofs.inetd.serve_opened.Goals as goal

pub returns : goal.returns
returns g c = record {
  serves = record {
    how = c.serve_link.result;
    session = c.serve_link.ensures.session;
    ran = c.serve_link.ensures.ran;
    count = c.serve_link.ensures.faults;
    last = c.serve_link.ensures.last;
    status_is = c.status_of.ensures.value;
  };
}
