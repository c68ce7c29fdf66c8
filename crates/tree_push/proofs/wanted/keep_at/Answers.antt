-- An object is kept under its name.
use Rattle.std.proofs.Common.{◌∙◌, sym}
use Rattle.tree_push.proofs.WantedLemmas.{keeps_new, kept_new, named_new, only_new}
use Rattle.tree_push.proofs.wanted.keep_at.Goals as goal

pub returns-in-Ok : goal.returns-in-Ok
returns-in-Ok c = record {
  ok = kept_new c.args.made.now c.put.new.self c.args.key c.args.text c.requires.named c.in-Ok.ensures.ok;
  stays = keeps_new c.args.made.now c.put.new.self c.args.key c.args.text c.requires.named c.in-Ok.ensures.ok (sym c.has.ensures.value ∙ c.if-has.false);
  only = only_new c.args.made.now c.put.new.self c.args.key c.args.text c.requires.named c.in-Ok.ensures.ok;
  named = named_new c.args.made.now c.put.new.self c.args.key c.args.text c.requires.named c.in-Ok.ensures.ok;
}
