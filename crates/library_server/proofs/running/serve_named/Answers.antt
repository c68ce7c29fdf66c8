-- One library is served alone, and several through a hall.
use Rattle.std.proofs.Common.{length, refl}
use Rattle.server_words.specs.Spelling.{location_text}
use Rattle.library_server.specs.HallConnections.{one, several}
use Rattle.library_server.proofs.RunLemmas.{alone_is, one_named, two_or_more}
use Rattle.library_server.proofs.running.serve_named.Goals as goal

pub returns-then-count-eq1-clause-serves : goal.returns-then-count-eq1-clause-serves
returns-then-count-eq1-clause-serves g c =
    let alone = alone_is c.args.libs.now c.index-libs-place.result c.if-count-eq1.true c.index-libs-place.is in (
      one c.index-libs-place.result alone c.inetd.ensures.serves.0,
      λ steady all.
          let whole = all (location_text c.args.location.now) c.index-libs-place.result in
          c.inetd.ensures.serves.1 steady whole.0 whole.1 whole.2,
    )

pub returns-then-count-eq1-clause-others : goal.returns-then-count-eq1-clause-others
returns-then-count-eq1-clause-others g c =
    one_named (g.G.Ground.may_give c.args.libraries.now) (g.G.Ground.may_give c.inetd.new.libraries) (location_text c.args.location.now) c.index-libs-place.result c.args.libs.now
    (alone_is c.args.libs.now c.index-libs-place.result c.if-count-eq1.true c.index-libs-place.is) c.inetd.ensures.others

pub returns-clause-serves : goal.returns-clause-serves
returns-clause-serves g c = (
  several (two_or_more (length c.args.libs.now) _ refl c.requires.named.some c.if-count-eq1.false) c.inetd_hall.ensures.serves.0,
  c.inetd_hall.ensures.serves.1,
)
