use Rattle.std.proofs.Common.{sym}
use Rattle.tree_merge.proofs.AddedLemmas.{adds_end, adds_more, adds_other, adds_start, from_more}
use Rattle.tree_merge.proofs.MadeLemmas.{kept_then}
use Rattle.tree_merge.proofs.UnstoredLemmas.{named_rest, removed_len}
use Rattle.tree_merge.proofs.work.add_made.Goals as goal

pub loop-key-init : goal.loop-key-init
loop-key-init c = record { names = c.requires.named; named = λ named. named; adds = adds_start c.args.made.now c.args.more }

pub add_one-requires : goal.add_one-requires
add_one-requires c = record { named = c.loop-key.invariant.names c.in-Some.key c.in-Some-remove.bytes (sym c.in-Some-remove.ensures.value) }

pub loop-key-smaller : goal.loop-key-smaller
loop-key-smaller c = removed_len c.loop-key.more c.remove.new.self c.in-Some.key c.in-Some-remove.bytes c.remove.ensures.stays (sym c.in-Some-remove.ensures.value)

pub loop-key-preserved : goal.loop-key-preserved
loop-key-preserved c =
    let inv = c.loop-key.invariant in
    record {
      names = named_rest c.loop-key.more c.remove.new.self c.in-Some.key c.remove.ensures.stays inv.names;
      named = λ named. c.in-Ok.ensures.named (inv.named named);
      adds = adds_more c.args.made.now c.args.more c.loop-key.more c.loop-key.made inv.adds c.in-Some.key c.in-Some-remove.bytes (sym c.in-Some-remove.ensures.value)
          c.remove.new.self c.add_one.new.made c.remove.ensures.stays c.in-Ok.ensures.ok c.in-Ok.ensures.stays c.in-Ok.ensures.told;
    }

pub returns-in-Err : goal.returns-in-Err
returns-in-Err c =
    let inv = c.loop-key.invariant in
    let there = sym c.in-Some-remove.ensures.value in
    record {
      ok = tt;
      told = from_more c.args.made.now c.args.more c.loop-key.more c.loop-key.made inv.adds c.in-Some.key c.in-Some-remove.bytes there c.add_one.new.made c.in-Err.ensures.told;
      named = λ named. c.in-Err.ensures.named (inv.named named);
      stays = kept_then c.args.made.now c.loop-key.made c.add_one.new.made inv.adds.kept c.in-Err.ensures.stays;
      taken = λ id is. adds_other c.args.made.now c.args.more c.loop-key.more c.loop-key.made inv.adds c.in-Some.key c.in-Some-remove.bytes there id (c.in-Err.ensures.taken id is);
    }

pub returns : goal.returns
returns c =
    let inv = c.loop-key.invariant in
    record {
      ok = adds_end c.args.made.now c.args.more c.loop-key.more c.loop-key.made (λ key. c.in_default.ensures.value key tt) inv.adds;
      told = inv.adds.from;
      named = inv.named;
      stays = inv.adds.kept;
      taken = λ id is. cc is;
    }
