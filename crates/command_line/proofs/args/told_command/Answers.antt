use Rattle.std.proofs.lemmas.Result.{IfOk-weaker}
use Rattle.command_line.proofs.Commands.{argued, described, ended, ended_local, described_local}
use Rattle.command_line.proofs.args.told_command.Goals as goal

pub returns : goal.returns
returns c r rule_is =
    let named = ended _ _ c.after_help.ensures (described _ _ c.about.ensures c.new.ensures.app) in
    let local = ended_local _ _ c.after_help.ensures (described_local _ _ c.about.ensures c.new.ensures.local) in
    IfOk-weaker c.arg.result _ _ (λ m adds. argued adds c.requires local named rule_is) c.arg.ensures
