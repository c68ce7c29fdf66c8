-- One ear more.
use Rattle.std.proofs.Common.{ℕ, ap, refl, ◌∙◌}
use Rattle.http_front.specs.Dial.{count_sum}
use Rattle.link_ears.specs.declared.tcp_ear.TcpEar.{TcpEar}
use Rattle.link_ears.proofs.EarLemmas.{back_more, counted_more}
use Rattle.link_ears.proofs.tcp_net.TcpNet.note_back.Goals as goal

pub loop-ear-preserved : goal.loop-ear-preserved
loop-ear-preserved g c =
    let ear_of : TcpEar × ℕ → TcpEar = λ entry. entry.0 in
    let faults_of : TcpEar → ℕ = λ ear. ear.faults in
    record {
      back = back_more c.args.ears.now c.loop-ear.ear-index c.ear-item.result c.loop-ear-test.true c.ear-item.is ear_of c.args.self.now.back.items c.loop-ear.self.back.items c.and-self.result.items
          (c.ear-item.result, 0) refl c.loop-ear.invariant.back c.and-self.ensures;
      faults = counted_more c.args.ears.now c.loop-ear.ear-index c.ear-item.result c.loop-ear-test.true c.ear-item.is faults_of c.args.self.now.faults c.loop-ear.self.faults c.saturating_add-self.result
          c.loop-ear.invariant.faults (c.saturating_add-self.ensures ∙ ap (count_sum c.loop-ear.self.faults) c.faults.ensures.value);
      asked = c.loop-ear.invariant.asked;
    }
