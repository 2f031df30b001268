use Rattle.law_admission.proofs.OtherEpochs.{other_epoch_unmoved}
use Rattle.desk.proofs.laws.other_epochs_change_nothing.Goals as goal

pub returns : goal.returns
returns c = other_epoch_unmoved
