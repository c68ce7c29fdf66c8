use Rattle.sync_rules.proofs.AgreedLemmas.{agreed_held, agreed_left}
use Rattle.sync_rules.proofs.laws.a_folder_that_agrees_holds_the_tree.Goals as goal

pub returns : goal.returns
returns c = λ objects cuts contents index base had over agrees. (agreed_left objects cuts contents index base had over agrees, agreed_held objects cuts contents index base had over agrees)
